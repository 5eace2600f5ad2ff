-- The keys of worlds of small graphs, and which interfaces are placed.
use Rattle.std.proofs.Common.{◌≡◌, ◌∙◌, ℕ, Bool, true, false, zero, suc, [], None, codes, refl, ap, Contains}
use Rattle.wit_digraph.specs.facts.MemberFacts.{Contains-here, Contains-nil}
use Rattle.wit_data.specs.Each.{SomeAt}
use Rattle.wit_data.specs.Entries.{Entry}
use Rattle.wit_data.specs.declared.world.World.{World}
use Rattle.wit_data.specs.declared.world.WorldItem.{WorldItem}
use Rattle.wit_data.specs.declared.world.WorldItem.TheVariants as item
use Rattle.wit_data.specs.declared.world.WorldKey.TheVariants as key
use Rattle.wit_graph_data.specs.examples.Samples.{entry_of, foo_bar, function_of, instance}
use Rattle.wit_graph_theory.specs.examples.TestFacts.{none_some, only_one}
use Rattle.wit_merge_laws.specs.laws.CopyLaws.{IsPlaced}
use Rattle.wit_merge_laws.specs.laws.Names.{HasLabel, at_label, in_package}
use Rattle.wit_merge_laws.specs.laws.OrderLaws.{HasKey, under_interface, under_label}
use Rattle.examples_resolve.specs.merge.Graphs.{world_of_i}
use Rattle.examples_resolve.specs.merge.NamesHeld.{ExamplesOfKeys, ExamplesOfPlaces, at_x, lost, same_text}

abbrev function_entry : Entry
function_entry = (key.Name (codes "foo:bar/i"), item.Function (function_of (codes "foo:bar/i") [] None))

no_label : HasKey world_of_i foo_bar (codes "w") false (under_label (codes "foo:bar/i")) → ⊥
no_label has = by has.w has.entry has.listed has.key_is
  where
    by : (w : ℕ) (e : Entry) → SomeAt world_of_i.worlds w (λ (there : World). Contains there.imports e) → e.0 ≡ key.Name (codes "foo:bar/i") → ⊥
    by zero e has is = let same : key.Interface 0 ≡ key.Name (codes "foo:bar/i") = ap (λ (x : Entry). x.0) (only_one (entry_of 0) e has) ∙ is in cc
    by (suc w) e has is = has

no_interface : HasKey same_text foo_bar (codes "w") false (under_interface foo_bar (codes "i")) → ⊥
no_interface has = by has.w has.entry has.listed has.key_is.0 has.key_is.2
  where
    by : (w : ℕ) (e : Entry) → SomeAt same_text.worlds w (λ (there : World). Contains there.imports e) → (i : ℕ) → e.0 ≡ key.Interface i → ⊥
    by zero e has i is = let same : key.Name (codes "foo:bar/i") ≡ key.Interface i = ap (λ (x : Entry). x.0) (only_one function_entry e has) ∙ is in cc
    by (suc w) e has i is = has

other_side : (w : ℕ) (e : Entry) → SomeAt world_of_i.worlds w (λ (there : World). Contains there.exports e) → ⊥
other_side zero e has = Contains-nil has
other_side (suc w) e has = has

abbrev labelled : HasKey same_text foo_bar (codes "w") false (under_label (codes "foo:bar/i"))
labelled = record { w = 0; of = record { p = 0; of = refl; is = (refl, refl) }; entry = function_entry; listed = Contains-here function_entry []; key_is = refl }

pub keys_are : ExamplesOfKeys
keys_are = record {
  text = refl;
  imported = record { w = 0; of = record { p = 0; of = refl; is = (refl, refl) }; entry = entry_of 0; listed = Contains-here (entry_of 0) []; key_is = (0, record { p = 0; of = refl; is = (refl, refl) }, refl) };
  labelled = labelled;
  no_label = no_label;
  no_interface = no_interface;
  other_side = λ has. other_side has.w has.entry has.listed;
  not_alike = λ alike. no_label ((alike.keys foo_bar (codes "w") false (under_label (codes "foo:bar/i"))).1 labelled);
}

-- ---- places

nowhere : IsPlaced lost 0 → ⊥
nowhere (in_package home name, is) = none_some name is.is.0
nowhere (at_label l, is) = none is.w l.exported is.held is.stands
  where
    none : (w : ℕ) (exported : Bool) (held : WorldItem) → HasLabel lost w exported l.label held → ⊥
    none zero false held stands = Contains-nil stands
    none zero true held stands = Contains-nil stands
    none (suc w) exported held stands = stands

pub places_are : ExamplesOfPlaces
places_are = record {
  named = (in_package foo_bar (codes "b"), record { p = 0; of = refl; is = (refl, refl) });
  unnamed = (
    at_label at_x,
    record { w = 0; of = record { p = 0; of = refl; is = (refl, refl) }; held = instance 0; stands = Contains-here (key.Name (codes "x"), instance 0) []; is = refl; unnamed = refl },
  );
  nowhere = nowhere;
  goes_to_itself = refl;
  type_goes_to_itself = refl;
  comes_again = refl;
  type_comes_again = refl;
}
