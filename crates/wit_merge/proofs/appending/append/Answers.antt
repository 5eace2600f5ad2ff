use Rattle.std.proofs.Common.{◌∙◌, ap, subst, sym, take}
use Rattle.wit_remap.specs.Grown.{Grown}
use Rattle.wit_remap.specs.facts.GrownFacts.{Begins-as, Grown-same}
use Rattle.wit_merge.proofs.appending.append.Goals as goal

pub returns-then-is_err-clause-grown : goal.returns-then-is_err-clause-grown
returns-then-is_err-clause-grown c =
    let back = c.cut.ensures.back c.args.graph.now c.of-mark.ensures c.append_parts-appended.ensures.grown in
    subst (Grown c.args.graph.now) (sym back) (Grown-same c.args.graph.now)

pub returns-then-is_err-clause-rows : goal.returns-then-is_err-clause-rows
returns-then-is_err-clause-rows c =
    Begins-as c.args.elaborator.now c.cut-then-is_err.new.self
    (c.cut-then-is_err.ensures ∙ ap (λ count. take count c.append_parts-appended.new.elaborator) c.interfaces-rows.ensures ∙ c.append_parts-appended.ensures.rows)
