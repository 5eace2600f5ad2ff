-- The examples that compute.
use Rattle.std.proofs.Common.{◌≡◌, ℕ, List, [], length, slice_get, slice_index_or, flat_map, codes, Option, None, Some, refl, ap, arith}
use Rattle.std.specs.Option.{option_map_or}
use Rattle.std.specs.Prelude.{unwrap_or}
use Rattle.wit_values.specs.facts.Lists.{differ}
use Rattle.wit_digraph.specs.PostOrder.{post_order, post_order_within}
use Rattle.wit_data.specs.declared.types.TypeDef.{TypeDef}
use Rattle.wit_data.specs.declared.types.TypeDefKind.{TypeDefKind}
use Rattle.wit_data.specs.declared.types.TypeOwner.{TypeOwner}
use Rattle.wit_data.specs.declared.world.World.{World}
use Rattle.wit_data.specs.declared.types.TypeOwner.TheVariants as owner
use Rattle.wit_graph_data.specs.declared.graph.Graph.{Graph}
use Rattle.wit_remap.specs.declared.remap.Remap.{Remap}
use Rattle.examples_resolve.specs.merge.MergedGraphs.{ExamplesOfMatches, ExamplesOfMergedGraphs}

-- where type t goes
abbrev type_remapped : ℕ → Remap → ℕ
type_remapped t places = option_map_or (λ (place : Option ℕ). unwrap_or place 99) (slice_get places.types t) 99

pub matches : ExamplesOfMatches
unfolding post_order post_order_within
matches = record {
  home = refl;
  no_home = refl;
  interface = refl;
  no_interface = refl;
  other_home = refl;
  type = refl;
  no_type = refl;
  other_interface = refl;
  world = refl;
  inner_interface = refl;
  inner_type = refl;
  inner_export = refl;
  other_label = refl;
  other_label_type = refl;
  other_side = refl;
  other_side_too = refl;
  other_world = refl;
  named_there = refl;
  goes = refl;
  not_anew = λ same. let apart : 0 ≡ 1 = ap (type_remapped 0) same in absurd (omega (arith, apart));
  not_nowhere = λ same. let apart : 1 ≡ 99 = ap (type_remapped 1) same in absurd (omega (arith, apart));
  goes_across = refl;
  not_straight = λ same. let apart : 1 ≡ 0 = ap (λ (places : Remap). slice_index_or places.packages 0 99) same in absurd (omega (arith, apart));
  not_transformed = λ same. let apart : 2 ≡ 3 = ap (type_remapped 0) same in absurd (omega (arith, apart));
}

-- how many imports some worlds have
abbrev import_count : List World → ℕ
import_count worlds = length (flat_map (λ (w : World). w.imports) worlds)

-- the name and the kind of a type
abbrev name_at : ℕ → List TypeDef → List ℕ
name_at t types = unwrap_or (option_map_or (λ (def : TypeDef). def.name) (slice_get types t) None) []

abbrev kind_at : ℕ → List TypeDef → Option TypeDefKind
kind_at t types = option_map_or (λ (def : TypeDef). Some def.kind) (slice_get types t) None

-- the world that owns a type, and that of type 1
owner_world : TypeOwner → ℕ
owner_world (owner.World w) = w
owner_world (owner.Interface i) = 99
owner_world owner.None = 99

owner_at : List TypeDef → ℕ
owner_at types = option_map_or (λ (def : TypeDef). owner_world def.owner) (slice_get types 1) 99

pub merged_graphs : ExamplesOfMergedGraphs
unfolding post_order post_order_within owner_world owner_at
merged_graphs = record {
  nothing_comes = refl;
  into_nothing = refl;
  itself = refl;
  name_not_lost = λ same. let count : 1 ≡ 0 = ap (λ (g : Graph). length g.package_names) same in absurd (omega (arith, count));
  import_not_lost = λ same. let count : 3 ≡ 2 = ap (λ (g : Graph). import_count g.worlds) same in absurd (omega (arith, count));
  not_empty = λ same. let count : 4 ≡ 0 = ap (λ (g : Graph). length g.types) same in absurd (omega (arith, count));
  empty_package = λ same. let count : 2 ≡ 1 = ap (λ (g : Graph). length g.packages) same in absurd (omega (arith, count));
  type_not_twice = λ same. let count : 4 ≡ 5 = ap (λ (g : Graph). length g.types) same in absurd (omega (arith, count));
  package_not_twice = λ same. let count : 1 ≡ 2 = ap (λ (g : Graph). length g.packages) same in absurd (omega (arith, count));
  name_not_twice = λ same. let count : 1 ≡ 2 = ap (λ (g : Graph). length g.package_names) same in absurd (omega (arith, count));
  grown = refl;
  stays = λ same. let count : 3 ≡ 1 = ap (λ (g : Graph). length g.types) same in absurd (omega (arith, count));
  less = refl;
  first_order = refl;
  second_order = refl;
  first_not_transformed = λ same. differ (codes "u") (codes "v") refl (ap (λ (g : Graph). name_at 1 g.types) same);
  second_not_transformed = λ same. differ (codes "v") (codes "u") refl (ap (λ (g : Graph). name_at 1 g.types) same);
  first_not_less = λ same. let count : 3 ≡ 2 = ap (λ (g : Graph). length g.types) same in absurd (omega (arith, count));
  second_not_less = λ same. let count : 3 ≡ 2 = ap (λ (g : Graph). length g.types) same in absurd (omega (arith, count));
  first_import = λ same. let count : 1 ≡ 0 = ap (λ (g : Graph). import_count g.worlds) same in absurd (omega (arith, count));
  second_import = λ same. let count : 1 ≡ 0 = ap (λ (g : Graph). import_count g.worlds) same in absurd (omega (arith, count));
  orders_differ = λ same. differ (codes "u") (codes "v") refl (ap (λ (g : Graph). name_at 1 g.types) same);
  owned = refl;
  not_plain = λ same. let count : 3 ≡ 2 = ap (λ (ts : List TypeDef). length ts) same in absurd (omega (arith, count));
  not_borrowed = λ same. let kinds = ap (kind_at 2) same in cc;
  not_before = λ same. let kinds = ap (kind_at 1) same in cc;
  no_number = λ same. let kinds = ap (kind_at 0) same in cc;
  no_own = refl;
  not_owned = refl;
  elaborated = refl;
  not_as_listed = λ same. let count : 2 ≡ 1 = ap (λ (ws : List World). length (flat_map (λ (w : World). w.imports) ws)) same in absurd (omega (arith, count));
  inner_joined = refl;
  function_once = refl;
  world_comes = refl;
  not_of_another = λ same. let apart : 1 ≡ 0 = ap owner_at same in absurd (omega (arith, apart));
  types_once = refl;
  packages = refl;
  package_comes = refl;
  named_once = refl;
  of_its_package = refl;
  gate_comes = refl;
  gate_stays = refl;
  moved = refl;
}
