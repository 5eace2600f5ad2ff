use Rattle.std.proofs.Common.{rules, ◌≡◌, ◌++◌, ℕ, List, string_bytes}
use Rattle.std.proofs.lemmas.Map.Iter.{rest_all, rest_more}
use Rattle.wit_values.specs.Names.{deref_named}
use Rattle.wit_graph_data.specs.IdText.{id_text}
use Rattle.wit_queries.specs.Selection.{world_line}
use Rattle.wit_queries.proofs.Selected.{text-all, text-more}
use Rattle.wit_queries.proofs.selection.worlds_of.Goals as goal

pub loop-name-preserved : goal.loop-name-preserved
loop-name-preserved c =
    let line : string_bytes c.write.new.self ≡ string_bytes c.loop-name.lines ++ world_line (id_text c.args.graph.now.packages c.args.id c.in-Some.name.now) = search rules in
    text-more (λ (e : List ℕ × ℕ). world_line (id_text c.args.graph.now.packages c.args.id e.0)) _ _ _ _ _ _ (rest_more deref_named _ _ _ _ c.in-Some.is c.next.ensures.steps) c.loop-name.invariant line

pub returns-clause-ok : goal.returns-clause-ok
returns-clause-ok c =
    text-all (λ (e : List ℕ × ℕ). world_line (id_text c.args.graph.now.packages c.args.id e.0)) _ _ _ (rest_all deref_named _ _ _ c.in-None.is c.next.ensures.steps) c.loop-name.invariant
