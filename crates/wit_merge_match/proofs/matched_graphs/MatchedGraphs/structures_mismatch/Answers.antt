use Rattle.std.proofs.Common.{List, string_bytes, subst, sym, Contains}
use Rattle.std.proofs.lemmas.Option.{IfSome_then}
use Rattle.std.proofs.lemmas.Result.{IfOk-weaker}
use Rattle.wit_digraph.specs.facts.MemberFacts.{Contains-nil}
use Rattle.wit_merge_spec.specs.Matches.{TypePair}
use Rattle.wit_merge_match.specs.steps.Differing.{merging_of}
use Rattle.wit_merge_match.proofs.PairSteps.{first_is, none_same, pairs_by_package}
use Rattle.wit_merge_match.proofs.Steps.{if_none}
use Rattle.wit_merge_match.proofs.matched_graphs.MatchedGraphs.structures_mismatch.Goals as goal

pub returns-then-not-has_pairs-clause-none : goal.returns-then-not-has_pairs-clause-none
returns-then-not-has_pairs-clause-none c = λ p ending has differs. Contains-nil (subst (λ (pairs : List TypePair). Contains pairs p) (c.has_pairs.ensures c.if-not-has_pairs.true) has)

pub package_order-requires : goal.package_order-requires
package_order-requires c = c.requires.other.no_cycles.packages

pub new-requires-clause-from : goal.new-requires-clause-from
new-requires-clause-from c = c.requires.other.no_cycles.types

pub new-requires-clause-into : goal.new-requires-clause-into
new-requires-clause-into c = c.requires.graph.no_cycles.types

pub packages_differ-requires-clause-of : goal.packages_differ-requires-clause-of
packages_differ-requires-clause-of c = record {
  from = c.in_ok-comparison.ensures.from;
  into = c.in_ok-comparison.ensures.into;
  matches = c.in_ok-comparison.ensures.matches;
  sound = c.in_ok-comparison.ensures.sound;
}

pub returns-clause-some : goal.returns-clause-some
returns-clause-some c =
    let m = merging_of c.args.self.now in
    IfOk-weaker c.packages_differ.result _ _ (λ found some. IfSome_then found some (λ message first. first_is m _ _ (sym (pairs_by_package m c.in_ok-order.order c.in_ok-order.ensures)) (string_bytes message) first)) c.packages_differ.ensures.some

pub returns-clause-none : goal.returns-clause-none
returns-clause-none c =
    let m = merging_of c.args.self.now in
    IfOk-weaker c.packages_differ.result _ _ (λ found. if_none (none_same m _ _ (sym (pairs_by_package m c.in_ok-order.order c.in_ok-order.ensures))) found) c.packages_differ.ensures.none
