use Rattle.std.proofs.Common.{◌≡◌, ◌∙◌, ℕ, List, length, ap, arith, false, refl, subst, sym, true}
use Rattle.std.proofs.lemmas.Bool.{false≢true}
use Rattle.std.proofs.lemmas.Map.Iter.{iter_end, iter_turn}
use Rattle.wit_values.specs.Names.{deref_named}
use Rattle.wit_data.specs.Foreign.{ForeignItem}
use Rattle.wit_link_spec.specs.steps.AdditionRefs.{addition_of}
use Rattle.wit_link_spec.specs.Addition.{Addition}
use Rattle.wit_link_lookup.specs.steps.ForeignItems.{AreThere, found_among}
use Rattle.wit_link_lookup.proofs.Causes.{is_named, packages-next}
use Rattle.wit_link_lookup.proofs.FoundLists.{none_from_test, some_from_test}
use Rattle.wit_link_lookup.proofs.ItemSteps.{entry-inside, item_step, yielded-more}
use Rattle.wit_link_lookup.proofs.NamedItems.{named_until, until-all}
use Rattle.wit_link_lookup.proofs.foreign.find_named.Goals as goal

pub find_item-requires : goal.find_item-requires
find_item-requires c =
    let start = c.into_iter-requested-iterator.ensures.into_iter_gives ∙ c.iter-requested-items.ensures.rest in
    let turn = iter_turn deref_named _ c.loop-requested.yielded _ _ _ _ start c.loop-requested.yielded_by _ c.in-Some.is c.next.ensures.steps in
    entry-inside (addition_of c.args.addition.now) c.requires.shaped c.args.index c.in_ok-home.home.name.now c.in_ok-home.home.items.now c.in_ok-home.home.id c.in_ok-home.ensures.home (length c.loop-requested.yielded) _ _ turn.1
    c.loop-requested.found c.loop-requested.invariant.found

pub check_inactive-requires-clause-named : goal.check_inactive-requires-clause-named
check_inactive-requires-clause-named c =
    let start = c.into_iter-requested-iterator.ensures.into_iter_gives ∙ c.iter-requested-items.ensures.rest in
    let turn = iter_turn deref_named _ c.loop-requested.yielded _ _ _ _ start c.loop-requested.yielded_by _ c.in-Some.is c.next.ensures.steps in
    is_named (addition_of c.args.addition.now) c.args.index c.in_ok-home.home.name.now c.in_ok-home.home.items.now c.in_ok-home.home.id (length c.loop-requested.yielded) _ _ c.in_ok-home.ensures.home turn.1

pub check_inactive-requires-clause-absent : goal.check_inactive-requires-clause-absent
check_inactive-requires-clause-absent c = none_from_test _ true (sym c.find_item.ensures.there ∙ c.if-not-find_item.true) refl

pub loop-requested-preserved-in-Continue-branch-2 : goal.loop-requested-preserved-in-Continue-branch-2
loop-requested-preserved-in-Continue-branch-2 c =
    let a : Addition = addition_of c.args.addition.now in
    let items : List ForeignItem = c.in_ok-home.home.items.now in
    let until = named_until a.unresolved.foreign_deps c.args.index c.in_ok-home.home.name.now items in
    let start = c.into_iter-requested-iterator.ensures.into_iter_gives ∙ c.iter-requested-items.ensures.rest in
    let turn = iter_turn deref_named _ c.loop-requested.yielded _ _ _ _ start c.loop-requested.yielded_by _ c.in-Some.is c.next.ensures.steps in
    let step =
    item_step a c.requires.shaped c.args.index c.in_ok-home.home.name.now items c.in_ok-home.home.id c.in_ok-home.ensures.home (length c.loop-requested.yielded) _ _ turn.1
    c.loop-requested.found c.loop-requested.invariant.found c.loop-requested.invariant.there (λ active none. false≢true (sym c.in_ok-check_inactive.ensures.inactive ∙ active)) c.find_item.new.found c.find_item.ensures.found in
    record {
      found = yielded-more (λ (n : ℕ). c.find_item.new.found ≡ found_among a (until n)) c.loop-requested.yielded _ step.0;
      there = yielded-more (λ (n : ℕ). AreThere a (until n)) c.loop-requested.yielded _ step.1;
    }

pub loop-requested-preserved : goal.loop-requested-preserved
loop-requested-preserved c =
    let a : Addition = addition_of c.args.addition.now in
    let items : List ForeignItem = c.in_ok-home.home.items.now in
    let until = named_until a.unresolved.foreign_deps c.args.index c.in_ok-home.home.name.now items in
    let start = c.into_iter-requested-iterator.ensures.into_iter_gives ∙ c.iter-requested-items.ensures.rest in
    let turn = iter_turn deref_named _ c.loop-requested.yielded _ _ _ _ start c.loop-requested.yielded_by _ c.in-Some.is c.next.ensures.steps in
    let step =
    item_step a c.requires.shaped c.args.index c.in_ok-home.home.name.now items c.in_ok-home.home.id c.in_ok-home.ensures.home (length c.loop-requested.yielded) _ _ turn.1
    c.loop-requested.found c.loop-requested.invariant.found c.loop-requested.invariant.there (λ active none. some_from_test _ false (sym c.find_item.ensures.there ∙ c.if-not-find_item.false) refl none) c.find_item.new.found c.find_item.ensures.found in
    record {
      found = yielded-more (λ (n : ℕ). c.find_item.new.found ≡ found_among a (until n)) c.loop-requested.yielded _ step.0;
      there = yielded-more (λ (n : ℕ). AreThere a (until n)) c.loop-requested.yielded _ step.1;
    }

pub returns-clause-found : goal.returns-clause-found
returns-clause-found c =
    let start = c.into_iter-requested-iterator.ensures.into_iter_gives ∙ c.iter-requested-items.ensures.rest in
    let end = iter_end deref_named _ c.loop-requested.yielded _ _ _ _ start c.loop-requested.yielded_by c.in-None.is c.next.ensures.steps in
    c.loop-requested.invariant.found
    ∙ ap (found_among (addition_of c.args.addition.now))
    (until-all c.args.addition.now.unresolved.now.foreign_deps c.args.index c.in_ok-home.home.name.now c.in_ok-home.home.items.now c.in_ok-home.ensures.home.is (length c.loop-requested.yielded) (omega (arith, end.1)))

pub returns-clause-there : goal.returns-clause-there
returns-clause-there c =
    let start = c.into_iter-requested-iterator.ensures.into_iter_gives ∙ c.iter-requested-items.ensures.rest in
    let end = iter_end deref_named _ c.loop-requested.yielded _ _ _ _ start c.loop-requested.yielded_by c.in-None.is c.next.ensures.steps in
    subst (AreThere (addition_of c.args.addition.now))
    (until-all c.args.addition.now.unresolved.now.foreign_deps c.args.index c.in_ok-home.home.name.now c.in_ok-home.home.items.now c.in_ok-home.ensures.home.is (length c.loop-requested.yielded) (omega (arith, end.1)))
    c.loop-requested.invariant.there

pub returns-clause-packages : goal.returns-clause-packages
returns-clause-packages c =
    packages-next (addition_of c.args.addition.now) c.args.index c.in_ok-home.home.name.now c.in_ok-home.home.items.now c.in_ok-home.home.id c.requires.packages c.in_ok-home.ensures.home
