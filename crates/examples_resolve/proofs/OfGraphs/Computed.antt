-- The examples that compute.
use Rattle.std.proofs.Common.{◌≡◌, ℕ, zero, suc, List, [], ◌∷◌, Some, slice_get, length, map, flat_map, refl, ap, lit<, arith}
use Rattle.std.specs.Prelude.{codes}
use Rattle.wit_values.specs.facts.Lists.{differ}
use Rattle.wit_digraph.specs.PostOrder.{post_order, post_order_within}
use Rattle.wit_data.specs.declared.interface.Interface.{Interface}
use Rattle.wit_names.specs.declared.package_name.PackageName.{PackageName}
use Rattle.wit_data.specs.declared.world.World.{World}
use Rattle.wit_data.specs.declared.world.WorldItem.{WorldItem}
use Rattle.wit_data.specs.declared.world.WorldKey.{WorldKey}
use Rattle.wit_data.specs.declared.world.WorldItem.TheVariants as item
use Rattle.wit_data.specs.declared.world.WorldKey.TheVariants as key
use Rattle.wit_data.specs.Entries.{Entry}
use Rattle.wit_graph_data.specs.declared.graph.Graph.{Graph}
use Rattle.wit_graph_theory.specs.examples.TestFacts.{only_one}
use Rattle.wit_remap_spec.specs.ValueRemap.{item_function}
use Rattle.wit_link_spec.specs.Include.{EntryLists}
use Rattle.examples_resolve.proofs.OfGraphs.Accepted.{accepted, including_accepted, using_accepted}
use Rattle.examples_resolve.proofs.OfGraphs.WorldCauses.{label_same, other_feature}
use Rattle.examples_resolve.specs.graph.Gates.{ExamplesOfGates}
use Rattle.examples_resolve.specs.graph.IncludedWorlds.{ExamplesOfIncludedWorlds}
use Rattle.examples_resolve.specs.graph.Includes.{ExamplesOfIncluded, ExamplesOfIncludes}
use Rattle.examples_resolve.specs.graph.Pushes.{ExamplesOfPushes, ExamplesOfSpans}
use Rattle.examples_resolve.specs.graph.Values.{ExamplesOfValues}
use Rattle.wit_data.specs.Kind.{signature_types}

pub gates : ExamplesOfGates
gates = record {
  off = refl;
  on = refl;
  all = refl;
  none = refl;
  since = refl;
  later_gate = refl;
  asked = refl;
  asked_all = refl;
  own = refl;
  foreign = refl;
  foreign_on = refl;
}

-- ---- additions

first_of : (a b : ℕ) (xs ys : List ℕ) → a ∷ xs ≡ b ∷ ys → a ≡ b
first_of a b xs ys same = cc

pub pushes : ExamplesOfPushes
unfolding post_order post_order_within
pushes = record {
  first = refl;
  accepted = accepted;
  whole = refl;
  whole_accepted = using_accepted;
  not_the_alias = λ same. let count : 5 ≡ 4 = ap (λ (g : Graph). length g.types) same in absurd (omega (arith, count));
  not_alone = λ same. let count : 2 ≡ 1 = ap (λ (g : Graph). length (flat_map (λ (w : World). w.imports) g.worlds)) same in absurd (omega (arith, count));
  not_elaborated = λ same. let count : 2 ≡ 1 = ap (λ (g : Graph). length (flat_map (λ (w : World). w.imports) g.worlds)) same in absurd (omega (arith, count));
  other_id = λ same. let ids : 0 ∷ [] ≡ 1 ∷ [] = ap (map (λ (e : PackageName × ℕ). e.1)) same in let id : 0 ≡ 1 = first_of 0 1 [] [] ids in absurd (omega (arith, id));
  nothing_added = λ same. let count : 1 ≡ 0 = ap (λ (g : Graph). length g.packages) same in absurd (omega (arith, count));
  off = refl;
  on = refl;
  left_out = λ same. let count : 1 ≡ 0 = ap (λ (is : List Interface). length is) same in absurd (omega (arith, count));
}

pub spans : ExamplesOfSpans
spans = record { spans_of_world = refl; spans_of_names = refl }

pub values : ExamplesOfValues
unfolding post_order post_order_within
values = record {
  resource = refl;
  alias = refl;
  number = refl;
  own_itself = refl;
  of_alias = refl;
  of_handle = refl;
  of_list = refl;
  foreign = refl;
  stays = refl;
  becomes_own = refl;
  other_stays = refl;
  not_asked_for = refl;
  primitive = refl;
  alias_stays = refl;
  handle_stays = refl;
  part_becomes_own = refl;
  types = refl;
  interfaces = refl;
  foreign_value = refl;
  apart = λ same. let is : 4 ≡ 2 = same in absurd (omega (arith, is));
}

-- ---- includes

-- a key of an interface alone has no label
none_of_one : (n : List ℕ) (j : ℕ) → slice_get (key.Interface 0 ∷ []) j ≡ Some (key.Name n) → ⊥
none_of_one n zero at = cc
none_of_one n (suc j) at = cc

no_name : (label : List ℕ) → key.Interface 0 ≡ key.Name label → ⊥
no_name label same = cc

pub includes : ExamplesOfIncludes
unfolding post_order post_order_within
includes = record {
  known_replaces = refl;
  unknown_keeps = refl;
  disagree = record { from_known = λ same. cc; into_known = λ same. cc; differ = other_feature };
  same = λ d. d.differ refl;
  unknown = λ d. d.into_known refl;
  dropped = refl;
  not_dropped = refl;
  feature_kept = refl;
  shadows = (0, refl, (0, lit< tt, refl));
  twice = (1, refl, (0, lit< tt, refl));
  interfaces_never = λ n there. none_of_one n there.0 there.1;
  renames = (codes "[method]r.m", (0, lit< tt, refl), refl);
  renames_nothing = λ renamed. no_name renamed.0 (only_one _ _ renamed.1);
  joins = refl;
  joins_gate = refl;
  own_type = refl;
  interface_type = refl;
  own_list = refl;
  other_list = refl;
}

-- the type of the first import, or the label
type_of_item : WorldItem → ℕ
type_of_item (item.Interface i note docs span external_id) = 0
type_of_item (item.Function f) = 0
type_of_item (item.Type_ t span) = t

first_key : (j k : WorldKey) (js ks : List WorldKey) → j ∷ js ≡ k ∷ ks → j ≡ k
first_key j k js ks same = cc

pub included : ExamplesOfIncluded
unfolding post_order post_order_within type_of_item
included = record {
  copied = refl;
  shared = λ same. let types : 1 ∷ 0 ∷ [] ≡ 0 ∷ 0 ∷ [] = ap (λ (l : EntryLists). map (λ (e : Entry). type_of_item e.1) l.imports) same in let type : 1 ≡ 0 = first_of 1 0 (0 ∷ []) (0 ∷ []) types in absurd (omega (arith, type));
  old_label = λ same.
      let keys : key.Name (codes "t2") ∷ key.Name (codes "f") ∷ [] ≡ key.Name (codes "t") ∷ key.Name (codes "f") ∷ [] = ap (λ (l : EntryLists). map (λ (e : Entry). e.0) l.imports) same in
      differ (codes "t2") (codes "t") refl (label_same _ _ (first_key _ _ _ _ keys));
  old_parameter = λ same. let types : 1 ∷ [] ≡ 0 ∷ [] = ap (λ (l : EntryLists). flat_map signature_types (flat_map (λ (e : Entry). item_function e.1) l.imports)) same in let type : 1 ≡ 0 = first_of 1 0 [] [] types in absurd (omega (arith, type));
  since_other = refl;
  since_own = refl;
  since_joins = refl;
  since_keeps = refl;
}

pub included_worlds : ExamplesOfIncludedWorlds
unfolding post_order post_order_within
included_worlds = record {
  once = refl;
  accepted = including_accepted;
  twice = refl;
  in_two = refl;
  shared = λ same. let count : 7 ≡ 4 = ap (λ (g : Graph). length g.types) same in absurd (omega (arith, count));
}
