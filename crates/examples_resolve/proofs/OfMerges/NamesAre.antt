-- The names of small graphs.
use Rattle.std.proofs.Common.{◌≡◌, ℕ, zero, suc, true, [], ◌∷◌, List, None, Some, codes, refl, ap}
use Rattle.wit_values.specs.facts.Lists.{differ}
use Rattle.wit_digraph.specs.facts.MemberFacts.{Contains-here, Contains-nil, Contains-there}
use Rattle.wit_names.specs.declared.package_name.PackageName.{PackageName}
use Rattle.wit_data.specs.declared.world.WorldItem.{WorldItem}
use Rattle.wit_data.specs.declared.world.WorldKey.{WorldKey}
use Rattle.wit_data.specs.declared.types.Type_.TheVariants as type
use Rattle.wit_data.specs.declared.world.WorldKey.TheVariants as key
use Rattle.wit_graph_data.specs.examples.Samples.{entry_of, foo_bar, function_of, instance}
use Rattle.wit_graph_theory.specs.facts.OptionFacts.{some_same}
use Rattle.wit_graph_theory.specs.examples.TestFacts.{only_one}
use Rattle.wit_merge_laws.specs.laws.Names.{HasLabel, HasName, IsPackage, IsUnnamedAt, IsWorld, at_label, in_package, of_export, of_interface, of_label, of_package, of_type, of_world}
use Rattle.examples_resolve.specs.merge.Graphs.{b_uses_a, foo_named, three, world_of_i}
use Rattle.examples_resolve.specs.merge.NamesHeld.{ExamplesOfNames, at_x, inner_t}

world_w : IsWorld three foo_bar (codes "w") 0
world_w = record { p = 0; of = refl; is = (refl, refl) }

abbrev inner_x : IsUnnamedAt inner_t at_x 0
inner_x = record { w = 0; of = record { p = 0; of = refl; is = (refl, refl) }; held = instance 0; stands = Contains-here (key.Name (codes "x"), instance 0) []; is = refl; unnamed = refl }

no_package : HasName three (of_package (foo_named (codes "c"))) → ⊥
no_package (zero, is) = differ (codes "bar") (codes "c") refl (ap (λ (n : PackageName). n.name) is)
no_package (suc p, is) = is

other_home : HasName b_uses_a (of_interface (in_package (foo_named (codes "a")) (codes "j"))) → ⊥
other_home (zero, is) = differ (codes "i") (codes "j") refl (some_same (codes "i") (codes "j") is.is.0)
other_home (suc zero, is) = in_b is.p is.of is.is.1
  where
    in_b : (p : ℕ) → IsPackage b_uses_a (foo_named (codes "a")) p → Some 1 ≡ Some p → ⊥
    in_b zero of home = cc
    in_b (suc zero) of home = differ (codes "b") (codes "a") refl (ap (λ (n : PackageName). n.name) of)
    in_b (suc (suc p)) of home = of
other_home (suc (suc i), is) = is.is

no_world : HasName three (of_world foo_bar (codes "v")) → ⊥
no_world (zero, is) = differ (codes "w") (codes "v") refl is.is.0
no_world (suc w, is) = is.is

other_interface : HasName three (of_type (in_package foo_bar (codes "b")) (codes "t2")) → ⊥
other_interface (zero, t, is, has) = differ (codes "a") (codes "b") refl (some_same (codes "a") (codes "b") is.is.0)
other_interface (suc zero, t, is, has) = differ (codes "t") (codes "t2") refl (ap (λ (e : List ℕ × ℕ). e.0) (only_one (codes "t", 1) (codes "t2", t) has))
other_interface (suc (suc zero), t, is, has) = differ (codes "c") (codes "b") refl (some_same (codes "c") (codes "b") is.is.0)
other_interface (suc (suc (suc i)), t, is, has) = has

other_side : HasName inner_t (of_interface (at_label (record at_x { exported = true }))) → ⊥
other_side (i, is) = none is.w is.held is.stands
  where
    none : (w : ℕ) (held : WorldItem) → HasLabel inner_t w true (codes "x") held → ⊥
    none zero held stands = Contains-nil stands
    none (suc w) held stands = stands

no_label : HasName world_of_i (of_label (record at_x { label = codes "i" })) → ⊥
no_label (zero, held, is, stands) = let keys : key.Interface 0 ≡ key.Name (codes "i") = ap (λ (e : WorldKey × WorldItem). e.0) (only_one (entry_of 0) (key.Name (codes "i"), held) stands) in cc
no_label (suc w, held, is, stands) = stands

no_export : HasName three (of_export foo_bar (codes "w") foo_bar (codes "c")) → ⊥
no_export (zero, i, held, is, named, stands) = Contains-nil stands
no_export (suc w, i, held, is, named, stands) = stands

pub names_are : ExamplesOfNames
names_are = record {
  package_name = (0, refl);
  no_package = no_package;
  interface_name = (1, record { p = 0; of = refl; is = (refl, refl) });
  own_home = (1, record { p = 1; of = refl; is = (refl, refl) });
  other_home = other_home;
  world_name = (0, world_w);
  no_world = no_world;
  type_name = (2, 3, record { p = 0; of = refl; is = (refl, refl) }, Contains-there (codes "t", 2) (codes "t2", 3) ((codes "t2", 3) ∷ []) (Contains-here (codes "t2", 3) []));
  other_interface = other_interface;
  inner_interface = (0, inner_x);
  inner_type = (0, 0, inner_x, Contains-here (codes "t", 0) []);
  inner_function = (0, function_of (codes "f") (type.Id 0 ∷ []) None, inner_x, Contains-here (codes "f", function_of (codes "f") (type.Id 0 ∷ []) None) []);
  other_side = other_side;
  label_name = (0, instance 0, inner_x.of, inner_x.stands);
  no_label = no_label;
  imported = (
    0,
    2,
    instance 2,
    world_w,
    record { p = 0; of = refl; is = (refl, refl) },
    Contains-there (entry_of 0) (entry_of 2) (entry_of 1 ∷ entry_of 2 ∷ []) (Contains-there (entry_of 1) (entry_of 2) (entry_of 2 ∷ []) (Contains-here (entry_of 2) [])),
  );
  no_export = no_export;
}
