use Rattle.std.proofs.Common.{◌∙◌, inr, [], sym}
use Rattle.std.proofs.lemmas.Bool.{false≢true}
use Rattle.wit_digraph.specs.facts.MemberFacts.{Contains-here}
use Rattle.wit_merge.proofs.Returned.{none_returned, result_named}
use Rattle.wit_merge.proofs.results.check_returns.Goals as goal

pub holds_borrow-requires-clause-there : goal.holds_borrow-requires-clause-there
holds_borrow-requires-clause-there c =
    c.requires.returned c.args.function.now c.in-Some.id (Contains-here c.args.function.now []) (result_named c.args.function.now c.result_type.result c.in-Some.id c.result_type.ensures c.in-Some.is)

pub returns-then-branch-clause-cause : goal.returns-then-branch-clause-cause
returns-then-branch-clause-cause c = inr (record {
  f = c.args.function.now;
  t = c.in-Some.id;
  there = Contains-here c.args.function.now [];
  result_is = result_named c.args.function.now c.result_type.result c.in-Some.id c.result_type.ensures c.in-Some.is;
  holds = c.in_ok-holds_borrow.ensures.holds.0 c.if-branch.true;
  is = c.in_ok-borrow_in_result.ensures;
})

pub returns-clause-none : goal.returns-clause-none
returns-clause-none c =
    none_returned c.args.types.now c.args.function.now c.result_type.result c.in-Some.id c.result_type.ensures c.in-Some.is (λ holds. false≢true (sym c.if-branch.false ∙ c.in_ok-holds_borrow.ensures.holds.1 holds))
