use Rattle.std.proofs.Common.{◌≡◌, ◌∙◌, ℕ, None, Some, ap, inr, sym, true}
use Rattle.std.proofs.lemmas.Bool.{false≢true, lt-ltb}
use Rattle.wit_data.specs.declared.unresolved.AstItem.TheVariants as item
use Rattle.wit_link_spec.specs.steps.AdditionRefs.{addition_of}
use Rattle.wit_link_spec.specs.facts.FlagFacts.{interface-flag, interface-inside}
use Rattle.wit_link_spec.specs.Gates.{interface_is_active}
use Rattle.wit_link_spec.specs.Lookup.{foreign_interface_id, named_items}
use Rattle.wit_graph_data.specs.Named.{interface_type}
use Rattle.wit_link_lookup.proofs.Causes.{type_missing}
use Rattle.wit_link_lookup.proofs.FoundLists.{found-inside, found_interface-at, none_from_test, some_from_test}
use Rattle.wit_link_lookup.proofs.TypeSteps.{foreign_type_id-is, owner-inside, type-there}
use Rattle.wit_link_lookup.proofs.types.foreign_type.Goals as goal
use Rattle.wit_link_lookup.proofs.types.foreign_type.Goals.{else-is_none-via-else-is_none, else-is_none-via-then-is_none+else-at}

pub at-requires : goal.at-requires
at-requires c =
    let a = addition_of c.args.addition.now in
    rw c.index.ensures
    (found-inside a (named_items c.args.addition.now.unresolved.now.foreign_deps) c.args.found.now c.requires.found (item.Interface c.in-Interface.owner)
    (owner-inside a c.args.t c.at-def.result.now c.at-def.ensures c.in-Interface.owner c.in-Interface.is c.requires.shaped c.requires.foreign))

pub returns-in_default-at : goal.returns-in_default-at
returns-in_default-at c =
    let a = addition_of c.args.addition.now in
    let home : foreign_interface_id c.args.addition.now.graph.now c.args.addition.now.unresolved.now c.in-Interface.owner ≡ None =
    ap (foreign_interface_id c.args.addition.now.graph.now c.args.addition.now.unresolved.now) (sym c.index.ensures)
    ∙ (sym (found_interface-at a (named_items c.args.addition.now.unresolved.now.foreign_deps) c.args.found.now c.requires.found c.index.result c.at.result.now c.at.ensures) ∙ c.in_default-at.is) in
    record {
      id = sym (foreign_type_id-is a c.args.t c.at-def.result.now c.at-def.ensures c.in-Interface.owner c.in-Interface.is c.in-Some.name c.in-Some.is None home);
      there = type-there a c.args.t c.at-def.result.now c.at-def.ensures c.in-Interface.owner c.in-Interface.is c.in-Some.name c.in-Some.is (λ i' active found absent. never i' (sym home ∙ found));
      cause = tt;
    }
  where
    never : (i : ℕ) → None ≡ Some i → ⊥
    never i same = cc

pub at-requires-then-is_none : goal.at-requires-then-is_none
at-requires-then-is_none c =
    let a = addition_of c.args.addition.now in
    rw c.index-then-is_none.ensures
    (interface-inside a c.args.activity.now c.requires.activity c.in-Interface.owner
    (owner-inside a c.args.t c.at-def.result.now c.at-def.ensures c.in-Interface.owner c.in-Interface.is c.requires.shaped c.requires.foreign))

pub returns-then-at-clause-cause : goal.returns-then-at-clause-cause
returns-then-at-clause-cause c =
    let a = addition_of c.args.addition.now in
    let home : foreign_interface_id c.args.addition.now.graph.now c.args.addition.now.unresolved.now c.in-Interface.owner ≡ Some c.in-Some-at.home =
    ap (foreign_interface_id c.args.addition.now.graph.now c.args.addition.now.unresolved.now) (sym c.index.ensures)
    ∙ (sym (found_interface-at a (named_items c.args.addition.now.unresolved.now.foreign_deps) c.args.found.now c.requires.found c.index.result c.at.result.now c.at.ensures) ∙ c.in-Some-at.is) in
    let active : interface_is_active c.args.addition.now.features.now c.args.addition.now.unresolved.now c.in-Interface.owner ≡ true =
    ap (interface_is_active c.args.addition.now.features.now c.args.addition.now.unresolved.now) (sym c.index-then-is_none.ensures)
    ∙ (sym (interface-flag a c.args.activity.now c.requires.activity c.index-then-is_none.result c.at-then-is_none.result.now c.at-then-is_none.ensures) ∙ c.if-at.true) in
    rw c.in_ok-type_not_defined.ensures
    (inr (type_missing a c.args.t c.at-def.result.now c.in-Some.name c.in-Interface.owner c.in-Some-at.home c.at-span.result.now c.at-def.ensures (lt-ltb _ _ c.requires.foreign) c.requires.active c.in-Some.is c.in-Interface.is active home
    (sym c.type_of-there.ensures ∙ none_from_test c.type_of-there.result c.is_none.result c.is_none.ensures c.if-is_none.true) c.at-span.ensures))

pub returns : goal.returns
returns c =
    let a = addition_of c.args.addition.now in
    let home : foreign_interface_id c.args.addition.now.graph.now c.args.addition.now.unresolved.now c.in-Interface.owner ≡ Some c.in-Some-at.home =
    ap (foreign_interface_id c.args.addition.now.graph.now c.args.addition.now.unresolved.now) (sym c.index.ensures)
    ∙ (sym (found_interface-at a (named_items c.args.addition.now.unresolved.now.foreign_deps) c.args.found.now c.requires.found c.index.result c.at.result.now c.at.ensures) ∙ c.in-Some-at.is) in
    record {
      id = c.type_of-there.ensures ∙ sym (foreign_type_id-is a c.args.t c.at-def.result.now c.at-def.ensures c.in-Interface.owner c.in-Interface.is c.in-Some.name c.in-Some.is (Some c.in-Some-at.home) home);
      there = type-there a c.args.t c.at-def.result.now c.at-def.ensures c.in-Interface.owner c.in-Interface.is c.in-Some.name c.in-Some.is
          (λ i' active found absent. elim c.else-is_none.branch [
            | else-is_none-via-then-is_none+else-at w ↦
                false≢true
                (sym w.if-at.false
                ∙ (interface-flag a c.args.activity.now c.requires.activity w.index-then-is_none.result w.at-then-is_none.result.now w.at-then-is_none.ensures
                ∙ (ap (interface_is_active c.args.addition.now.features.now c.args.addition.now.unresolved.now) w.index-then-is_none.ensures ∙ active)))
            | else-is_none-via-else-is_none w ↦
                some_from_test c.type_of-there.result c.is_none.result c.is_none.ensures w.if-is_none.false
                (c.type_of-there.ensures ∙ (ap (interface_type c.args.addition.now.graph.now c.in-Some.name) (one_id c.in-Some-at.home i' (sym home ∙ found)) ∙ absent))
          ]);
      cause = tt;
    }
  where
    one_id : (j k : ℕ) → Some j ≡ Some k → j ≡ k
    one_id j k same = cc
