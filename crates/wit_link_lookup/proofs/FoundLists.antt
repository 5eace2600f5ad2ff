-- What stands in the lists of what is found, and what is named of other packages.
use Rattle.std.proofs.Common.{◌≡◌, ◌∙◌, ℕ, Bool, true, false, not, is_some, List, length, Option, Some, None, slice_get, refl, sym, ap}
use Rattle.std.proofs.lemmas.Option.{slice_get_within}
use Rattle.wit_data.specs.Foreign.{IsNameOnly, interface_id, world_id}
use Rattle.wit_data.specs.Shape.{IsShaped}
use Rattle.wit_data.specs.declared.unresolved.AstItem.{AstItem}
use Rattle.wit_names.specs.declared.package_name.PackageName.{PackageName}
use Rattle.wit_data.specs.declared.unresolved.AstItem.TheVariants as item
use Rattle.wit_graph_theory.specs.facts.ListFacts.{found_at, place_of}
use Rattle.wit_link_spec.specs.Addition.{Addition}
use Rattle.wit_link_spec.specs.Gates.{interface_is_active, world_is_active}
use Rattle.wit_link_spec.specs.Lookup.{find_interface, find_world}
use Rattle.wit_link_spec.specs.declared.addition.Activity.{Activity}
use Rattle.wit_link_spec.specs.facts.FlagFacts.{interface-flag, world-flag}
use Rattle.wit_link_spec.specs.facts.ForeignFound.{named_at}
use Rattle.wit_link_spec.specs.facts.RangeFacts.{range-inside, range-read}
use Rattle.wit_link_spec.specs.steps.AdditionRefs.{activity_of}
use Rattle.wit_link_lookup.specs.steps.ForeignItems.{HasEntryFor, NamedItem, NamesItem, first_among, found_among, named_is_active}
use Rattle.wit_link_lookup.proofs.PackageItems.{IsItemOf}
use Rattle.wit_link_lookup.specs.declared.foreign.Found.{Found}
use Rattle.wit_data.specs.steps.Parts.{IsNameOnlyInterface, IsNameOnlyWorld}

module _ (a : Addition) (named : List NamedItem) (found : Found) (is : found ≡ found_among a named) where
  -- what the package has has an entry
  pub found-inside : (it : AstItem) → IsItemOf a.unresolved it → HasEntryFor found it
  found-inside (item.Interface i) below = range-inside (first_among interface_id find_interface a named) (length a.unresolved.interfaces) i found.interfaces (ap (λ (x : Found). x.interfaces) is) below
  found-inside (item.World w) below = range-inside (first_among world_id find_world a named) (length a.unresolved.worlds) w found.worlds (ap (λ (x : Found). x.worlds) is) below

  pub found_interface-at : (i : ℕ) (o : Option ℕ) → slice_get found.interfaces i ≡ Some o → o ≡ first_among interface_id find_interface a named i
  found_interface-at i o at = range-read (first_among interface_id find_interface a named) (length a.unresolved.interfaces) i found.interfaces o (ap (λ (x : Found). x.interfaces) is) at

-- what is named is there
pub named-inside : (a : Addition) → IsShaped a.unresolved → (name : PackageName) (home : Option ℕ) (requested : List ℕ) (it : AstItem) → NamesItem a name home requested it → IsItemOf a.unresolved it
named-inside a shaped name home requested it named =
    let there = named_at a.unresolved.foreign_deps (named.at, name, (requested, (it, named.notes))) named.names in
    let at = place_of there.0 (requested, (it, named.notes)) there.2 in
    by it (shaped.foreign.bare named.at (name, there.0) there.1 at.0 (requested, (it, named.notes)) at.1).0
  where
    by : (it : AstItem) → IsNameOnly a.unresolved.interfaces a.unresolved.worlds requested it → IsItemOf a.unresolved it
    by (item.Interface i) bare =
        let one = found_at (IsNameOnlyInterface requested) a.unresolved.interfaces i bare in
        slice_get_within a.unresolved.interfaces i one.0 one.1
    by (item.World w) bare =
        let one = found_at (IsNameOnlyWorld requested) a.unresolved.worlds w bare in
        slice_get_within a.unresolved.worlds w one.0 one.1

-- the flag of an item tells whether it is active
module _ (a : Addition) (activity : Activity) (is : activity ≡ activity_of a) {it : AstItem} {k id : ℕ} {b : Bool} where
  pub interface_flag-is : it ≡ item.Interface id → k ≡ id → slice_get activity.interfaces k ≡ Some b → named_is_active a it ≡ b
  interface_flag-is kind same at = ap (named_is_active a) kind ∙ ap (interface_is_active a.features a.unresolved) (sym same) ∙ sym (interface-flag a activity is k b at)

  pub world_flag-is : it ≡ item.World id → k ≡ id → slice_get activity.worlds k ≡ Some b → named_is_active a it ≡ b
  world_flag-is kind same at = ap (named_is_active a) kind ∙ ap (world_is_active a.features a.unresolved) (sym same) ∙ sym (world-flag a activity is k b at)

-- what a test of an option tells
pub none_from_test : {X : Type 0} (o : Option X) (b : Bool) → is_some o ≡ not b → b ≡ true → o ≡ None
none_from_test None b is on = refl
none_from_test (Some x) b is on = let same : true ≡ not true = is ∙ ap not on in cc

pub some_from_test : {X : Type 0} (o : Option X) (b : Bool) → is_some o ≡ not b → b ≡ false → o ≡ None → ⊥
some_from_test None b is off none = let same : false ≡ not false = is ∙ ap not off in cc
some_from_test (Some x) b is off none = cc
