-- The worked rows compute.
use Rattle.std.proofs.Common.{◌≡◌, ℕ, List, [], length, slice_get, slice_index_or, refl, ap, arith}
use Rattle.std.specs.Option.{option_map_or}
use Rattle.std.specs.Prelude.{unwrap_or, flat_map}
use Rattle.semver.specs.Order.{strip_zeros}
use Rattle.wit_digraph.specs.PostOrder.{post_order, post_order_within}
use Rattle.wit_data.specs.declared.types.TypeDef.{TypeDef}
use Rattle.wit_data.specs.declared.world.World.{World}
use Rattle.wit_data.specs.Uses.{alias_target}
use Rattle.wit_elaboration.specs.Entries.{Entry, item_interface}
use Rattle.wit_graph_data.specs.declared.graph.Graph.{Graph}
use Rattle.examples_resolve.specs.merge.SemverMergeExamples.{ExamplesOfSemverMerges, ExamplesOfRules}
use Rattle.examples_resolve.specs.merge.TrackExamples.{ExamplesOfTracks}

-- ---- what tells graphs apart

-- the imports of world w, and one of the interfaces among them
imports_at : ℕ → Graph → List Entry
imports_at w g = option_map_or (λ (world : World). world.imports) (slice_get g.worlds w) []

import_at : ℕ → ℕ → Graph → ℕ
import_at w i g = slice_index_or (flat_map (λ (e : Entry). item_interface e.1) (imports_at w g)) i 99

import_count : ℕ → Graph → ℕ
import_count w g = length (imports_at w g)

export_count : Graph → ℕ
export_count g = option_map_or (λ (world : World). length world.exports) (slice_get g.worlds 0) 99

-- what type t is another name of
target : ℕ → Graph → ℕ
target t g = option_map_or (λ (def : TypeDef). unwrap_or (alias_target def.kind) 99) (slice_get g.types t) 99

pub examples_of_semver_merges : ExamplesOfSemverMerges
unfolding post_order post_order_within strip_zeros imports_at import_at import_count export_count target
examples_of_semver_merges = record {
  of_alias = refl;
  of_own_alias = refl;
  merged = refl;
  again = refl;
  not_kept = λ same. let apart : 1 ≡ 0 = ap (import_at 0 0) same in absurd (omega (arith, apart));
  not_unused = λ same. let apart : 1 ≡ 0 = ap (target 3) same in absurd (omega (arith, apart));
  not_the_first = λ same. let apart : 1 ≡ 0 = ap (import_at 0 0) same in absurd (omega (arith, apart));
  not_the_greatest = λ same. let apart : 1 ≡ 2 = ap (import_at 0 0) same in absurd (omega (arith, apart));
  newest_first = refl;
  exported = refl;
  not_dropped = λ same. let apart : 2 ≡ 1 = ap (export_count) same in absurd (omega (arith, apart));
  own_alias = refl;
  not_transformed = λ same. let apart : 0 ≡ 1 = ap (target 3) same in absurd (omega (arith, apart));
  labelled = refl;
  not_relabelled = λ same. let apart : 0 ≡ 1 = ap (import_at 0 1) same in absurd (omega (arith, apart));
  other_world = refl;
  not_as_it_was = λ same. let apart : 3 ≡ 2 = ap (import_count 1) same in absurd (omega (arith, apart));
  not_merged_too = λ same. let apart : 3 ≡ 2 = ap (import_count 1) same in absurd (omega (arith, apart));
  other_world_again = refl;
  alone = refl;
  nowhere = refl;
}

pub examples_of_rules : ExamplesOfRules
unfolding post_order post_order_within strip_zeros imports_at import_at import_count export_count target
examples_of_rules = record {
  apart = refl;
  apart_from_release = refl;
  apart_from_major = refl;
  apart_from_patch = refl;
  together = refl;
  below_release = refl;
  other_major = refl;
  below_patch = refl;
  not_with_release = λ same. let apart : 2 ≡ 1 = ap (import_count 0) same in absurd (omega (arith, apart));
  not_all_apart = λ same. let apart : 2 ≡ 3 = ap (import_count 0) same in absurd (omega (arith, apart));
  not_with_major = λ same. let apart : 2 ≡ 1 = ap (import_count 0) same in absurd (omega (arith, apart));
  not_with_patch = λ same. let apart : 2 ≡ 1 = ap (import_count 0) same in absurd (omega (arith, apart));
  not_beside_release = λ same. let apart : 1 ≡ 2 = ap (import_count 0) same in absurd (omega (arith, apart));
  not_above_release = λ same. let apart : 2 ≡ 1 = ap (import_at 0 0) same in absurd (omega (arith, apart));
  not_one_major = λ same. let apart : 2 ≡ 1 = ap (import_count 0) same in absurd (omega (arith, apart));
  not_beside_patch = λ same. let apart : 1 ≡ 2 = ap (import_count 0) same in absurd (omega (arith, apart));
  not_above_patch = λ same. let apart : 1 ≡ 0 = ap (import_at 0 0) same in absurd (omega (arith, apart));
  again = refl;
  not_by_the_other = λ same. let apart : 1 ≡ 2 = ap (import_count 0) same in absurd (omega (arith, apart));
  not_ignored = λ same. let apart : 1 ≡ 2 = ap (import_count 0) same in absurd (omega (arith, apart));
}

pub examples_of_tracks : ExamplesOfTracks
unfolding post_order post_order_within strip_zeros imports_at import_at import_count export_count target
examples_of_tracks = record {
  one_name = refl;
  other_interface = refl;
  other_package = refl;
  other_namespace = refl;
  without_version = refl;
  greatest_of_three = refl;
  not_the_next = λ same. let apart : 2 ≡ 1 = ap (target 3) same in absurd (omega (arith, apart));
  labelled_newer = refl;
  type_use = refl;
  not_left = λ same. let apart : 1 ≡ 0 = ap (target 2) same in absurd (omega (arith, apart));
  label_use = refl;
  label_not_left = λ same. let apart : 1 ≡ 0 = ap (target 2) same in absurd (omega (arith, apart));
  nameless_use = refl;
  nameless_not_left = λ same. let apart : 1 ≡ 0 = ap (target 2) same in absurd (omega (arith, apart));
  of_another_world = refl;
  not_of_new_entries = λ same. let apart : 0 ≡ 1 = ap (target 2) same in absurd (omega (arith, apart));
}
