use Rattle.std.proofs.Common.{arith}
use Rattle.wit_data.specs.declared.interface.Interface.{Interface}
use Rattle.wit_merge_spec.specs.Matches.{counterpart_interface}
use Rattle.wit_merge_match.specs.steps.Differing.{merging_of}
use Rattle.wit_merge_match.specs.steps.Stabilities.{AreApart, InterfacesApartAt}
use Rattle.wit_merge_match.proofs.Steps.{none_anywhere, none_next}
use Rattle.wit_merge_match.proofs.matched_graphs.MatchedGraphs.interfaces_apart.Goals as goal

pub loop-index-preserved : goal.loop-index-preserved
loop-index-preserved c = none_next (InterfacesApartAt (merging_of c.args.self.now)) c.loop-index.index c.loop-index.invariant c.in_default.ensures.none

pub returns-clause-none : goal.returns-clause-none
returns-clause-none c =
    let m = merging_of c.args.self.now in
    none_anywhere (counterpart_interface m) m.other.interfaces m.graph.interfaces (λ (from into : Interface). AreApart from.stability into.stability) c.loop-index.index (omega arith) c.loop-index.invariant
