use Rattle.std.proofs.Common.{arith}
use Rattle.wit_data.specs.declared.types.TypeDef.{TypeDef}
use Rattle.wit_merge_spec.specs.Matches.{counterpart_type}
use Rattle.wit_merge_match.specs.steps.Differing.{merging_of}
use Rattle.wit_merge_match.specs.steps.Stabilities.{AreApart, TypesApartAt}
use Rattle.wit_merge_match.proofs.Steps.{none_anywhere, none_next}
use Rattle.wit_merge_match.proofs.matched_graphs.MatchedGraphs.types_apart.Goals as goal

pub loop-index-preserved : goal.loop-index-preserved
loop-index-preserved c = none_next (TypesApartAt (merging_of c.args.self.now)) c.loop-index.index c.loop-index.invariant c.in_default.ensures.none

pub returns-clause-none : goal.returns-clause-none
returns-clause-none c =
    let m = merging_of c.args.self.now in
    none_anywhere (counterpart_type m) m.other.types m.graph.types (λ (from into : TypeDef). AreApart from.stability into.stability) c.loop-index.index (omega arith) c.loop-index.invariant
