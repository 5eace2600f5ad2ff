-- Of two reasons at once, which are told.
use Rattle.std.proofs.Common.{◌≡◌, inl, inr, ℕ, List, [], ◌∷◌, ◌++◌, None, codes, refl, sym, subst, lit<, arith, Contains}
use Rattle.std.specs.Fmt.{digits}
use Rattle.std.specs.Prelude.{Option}
use Rattle.semver.specs.Order.{strip_zeros}
use Rattle.wit_digraph.specs.Relation.{direct}
use Rattle.wit_data.specs.Kind.{type_references}
use Rattle.wit_names.specs.declared.package_name.PackageName.{PackageName}
use Rattle.wit_data.specs.declared.world.World.{World}
use Rattle.wit_names.specs.declared.track.TrackRule.TheVariants.{Published}
use Rattle.wit_data.specs.declared.world.WorldKey.TheVariants as key
use Rattle.wit_elaboration.specs.Elaboration.{graph_uses}
use Rattle.wit_elaboration.specs.Entries.{Entry}
use Rattle.wit_elaboration.specs.Imported.{HasTransitiveConflict, IsEntryInConflict}
use Rattle.wit_graph_data.specs.examples.Samples.{entry_of}
use Rattle.wit_graph_data.specs.declared.cause.Cause.TheVariants.{InterfaceCycle}
use Rattle.wit_graph_data.specs.declared.error_kind.ResolveErrorKind.TheVariants.{InvalidTransitiveDependency, PackageCycle, Semantic}
use Rattle.wit_elaboration.specs.AllElaborated.{DependsOnItself, HasWorldInConflict, RefersToItself, UsesItself}
use Rattle.wit_graph_theory.specs.examples.TestFacts.{no_cycle, none_in, one_of_two, only_one}
use Rattle.wit_semver.specs.SemverMerged.{IsComplete, LacksType, SemverMerge, SemverMergeCause, conflict_4, interface_cycle_22, package_cycle_6, types_of_new_entries, type_cycle_23, type_missing_25, semver_merge, with_new_entries_at}
use Rattle.examples_resolve.proofs.OfMerges.SemverFine.{complete, of_world}
use Rattle.examples_resolve.proofs.OfMerges.SemverReasons.{t_refers_to_itself}
use Rattle.examples_resolve.specs.merge.Releases.{foo_main, keyed, world_in}
use Rattle.examples_resolve.specs.merge.SemverTwoReasons.{ExamplesOfTwoReasons, exporting_lacking, exporting_newer, exporting_own, exporting_z, listed, with_u, without_u, x_text}

-- ---- what a reason says besides

module _ (u : SemverMerge) where
  of_conflict_whole : (span : Option (ℕ × ℕ)) (name : List ℕ) → SemverMergeCause u 0 (InvalidTransitiveDependency span name) → IsComplete u
  of_conflict_whole _ _ (conflict_4 span name whole is) = whole

  of_conflict : (span : Option (ℕ × ℕ)) (name : List ℕ) → SemverMergeCause u 0 (InvalidTransitiveDependency span name) → HasWorldInConflict (with_new_entries_at u 0) span name
  of_conflict _ _ (conflict_4 span name whole is) = is

  of_package_cycle : (span : Option (ℕ × ℕ)) (home : PackageName) → SemverMergeCause u 0 (PackageCycle span home) → IsComplete u
  of_package_cycle _ _ (package_cycle_6 home whole is) = whole

  of_circle : (span : Option (ℕ × ℕ)) (message : List ℕ) → SemverMergeCause u 0 (Semantic span message InterfaceCycle) → IsComplete u
  of_circle _ _ (interface_cycle_22 message whole is) = whole

-- ---- 22 and 6, and 25

abbrev w_of_app : World
w_of_app = world_in 3 (codes "w") (keyed (0 ∷ 2 ∷ 1 ∷ [])) []

abbrev meets : SemverMerge
meets = semver_merge Published with_u w_of_app

abbrev lacks : SemverMerge
lacks = semver_merge Published without_u w_of_app

circle_of : UsesItself (listed with_u) x_text
unfolding strip_zeros digits
circle_of = record { i = 1; j = 2; on_cycle = record { is_used = (0, lit< tt, refl); leads_back = (1 ∷ [], ((0, lit< tt, refl), refl)) }; id = _; id_is = refl; message_is = refl }

would_circle : UsesItself (listed without_u) x_text
unfolding strip_zeros digits
would_circle = record { i = 1; j = 2; on_cycle = record { is_used = (0, lit< tt, refl); leads_back = (1 ∷ [], ((0, lit< tt, refl), refl)) }; id = _; id_is = refl; message_is = refl }

cycle_of : DependsOnItself (listed with_u) foo_main
unfolding strip_zeros digits
cycle_of = record { p = 2; q = 1; on_cycle = record { is_used = (0, lit< tt, refl); leads_back = (2 ∷ [], ((0, lit< tt, refl), refl)) }; there = _; is = refl; home_is = refl }

would_cycle : DependsOnItself (listed without_u) foo_main
unfolding strip_zeros digits
would_cycle = record { p = 2; q = 1; on_cycle = record { is_used = (0, lit< tt, refl); leads_back = (2 ∷ [], ((0, lit< tt, refl), refl)) }; there = _; is = refl; home_is = refl }

abbrev u_text : List ℕ
u_text = codes "failed to upgrade `foo:x/x@0.2.0` to `foo:x/x@0.2.1`, was this semver-compatible update not semver compatible?: " ++ codes "type `u` is missing"

lacks_u : LacksType lacks 4 u_text
unfolding strip_zeros digits
lacks_u = record { f = 0; name = codes "u"; uses = refl; named = refl; absent = refl; message_is = refl }

u_follows : Contains (types_of_new_entries lacks) 4
unfolding strip_zeros digits
u_follows = (1, lit< tt, refl)

-- ---- 4 beside 22, 23 and 25

circle_newer : UsesItself (listed exporting_newer) x_text
unfolding strip_zeros digits
circle_newer = record { i = 1; j = 2; on_cycle = record { is_used = (0, lit< tt, refl); leads_back = (1 ∷ [], ((0, lit< tt, refl), refl)) }; id = _; id_is = refl; message_is = refl }

two_not_one : Contains {X = ℕ} (1 ∷ []) 2 → ⊥
two_not_one has = let one : 1 ≡ 2 = only_one 1 2 has in absurd (omega (arith, one))

would_conflict : HasTransitiveConflict (graph_uses (listed exporting_newer)) (keyed (1 ∷ []))
unfolding strip_zeros
would_conflict = (1, 2, (0, lit< tt, refl), (0, lit< tt, refl), (two_not_one, 1, (1 ∷ [], ((0, lit< tt, refl), refl)), (0, lit< tt, refl)))

two_not_there : Contains {X = ℕ} (1 ∷ 3 ∷ []) 2 → ⊥
two_not_there has = elim (one_of_two 1 3 2 has) [
  | inl same ↦ absurd (omega (arith, same))
  | inr same ↦ absurd (omega (arith, same))
]

would_conflict_of_type : HasTransitiveConflict (graph_uses (listed exporting_own)) (keyed (1 ∷ 3 ∷ []))
unfolding strip_zeros
would_conflict_of_type = (3, 2, (1, lit< tt, refl), (0, lit< tt, refl), (two_not_there, 1, (1 ∷ [], ((0, lit< tt, refl), refl)), (0, lit< tt, refl)))

t_of_own : RefersToItself (listed exporting_own) (codes "type `t` would refer to itself")
unfolding strip_zeros
t_of_own = t_refers_to_itself (listed exporting_own) refl

abbrev own : SemverMerge
own = semver_merge Published exporting_own (world_in 2 (codes "w") (keyed (0 ∷ 2 ∷ 1 ∷ [])) (keyed (1 ∷ 3 ∷ [])))

abbrev lacking : SemverMerge
lacking = semver_merge Published exporting_lacking (world_in 2 (codes "w") (keyed (0 ∷ 2 ∷ 1 ∷ [])) (keyed (1 ∷ 3 ∷ [])))

would_conflict_of_lack : HasTransitiveConflict (graph_uses (listed exporting_lacking)) (keyed (1 ∷ 3 ∷ []))
unfolding strip_zeros
would_conflict_of_lack = (3, 2, (1, lit< tt, refl), (0, lit< tt, refl), (two_not_there, 1, (1 ∷ [], ((0, lit< tt, refl), refl)), (0, lit< tt, refl)))

lacks_too : LacksType lacking 5 u_text
unfolding strip_zeros digits
lacks_too = record { f = 0; name = codes "u"; uses = refl; named = refl; absent = refl; message_is = refl }

follows_too : Contains (types_of_new_entries lacking) 5
unfolding strip_zeros digits
follows_too = (1, lit< tt, refl)

abbrev newer : SemverMerge
newer = semver_merge Published exporting_newer (world_in 2 (codes "w") (keyed (0 ∷ 2 ∷ 1 ∷ [])) (keyed (1 ∷ [])))

-- ---- 4 beside 6

abbrev both : SemverMerge
both = semver_merge Published exporting_z (world_in 3 (codes "w") (keyed (0 ∷ 2 ∷ 3 ∷ 1 ∷ [])) (keyed (1 ∷ 4 ∷ [])))

three_not_there : Contains {X = ℕ} (1 ∷ 4 ∷ []) 3 → ⊥
three_not_there has = elim (one_of_two 1 4 3 has) [
  | inl same ↦ absurd (omega (arith, same))
  | inr same ↦ absurd (omega (arith, same))
]

-- x@0.2.1 leads to none
not_before : (f : Entry) → Contains (entry_of 1 ∷ []) f → IsEntryInConflict (graph_uses (with_new_entries_at both 0)) (keyed (1 ∷ 4 ∷ [])) f → ⊥
unfolding strip_zeros
not_before f inside leads =
    let at_one = subst (λ (e : Entry). IsEntryInConflict (graph_uses (with_new_entries_at both 0)) (keyed (1 ∷ 4 ∷ [])) e) (sym (only_one (entry_of 1) f inside)) leads in
    let place : 1 ≡ at_one.0 = only_one 1 at_one.0 at_one.1 in
    let edge : Contains (direct (graph_uses (with_new_entries_at both 0)) 1) at_one.2.0 = subst (λ (i : ℕ). Contains (direct (graph_uses (with_new_entries_at both 0)) i) at_one.2.0) (sym place) at_one.2.2 in
    none_in at_one.2.0 edge

conflict : HasWorldInConflict (with_new_entries_at both 0) None (codes "foo:x/z@0.2.1")
unfolding strip_zeros digits
conflict = record {
  interfaces = λ message is. no_cycle (λ i. i) (graph_uses (with_new_entries_at both 0)) refl is.i is.j is.on_cycle;
  types = λ message is. no_cycle (λ t. t) (type_references (with_new_entries_at both 0).types) refl is.t is.u is.on_cycle;
  world = _;
  there = (0, lit< tt, refl);
  conflict = (4, 3, (1, lit< tt, refl), (0, lit< tt, refl), (three_not_there, 1, (2 ∷ 1 ∷ [], ((0, lit< tt, refl), ((0, lit< tt, refl), refl))), (0, lit< tt, refl)));
  name_is = (
    key.Interface 4,
    (entry_of 4, record { before = entry_of 1 ∷ []; after = []; are = refl; earlier = not_before; is = (4, (0, lit< tt, refl), (3, 3, (0, lit< tt, refl), ([], refl), (three_not_there, 1, (2 ∷ 1 ∷ [], ((0, lit< tt, refl), ((0, lit< tt, refl), refl))), (0, lit< tt, refl)))) }, refl),
    refl,
  );
  span_is = refl;
}

cycle_both : DependsOnItself (with_new_entries_at both 0) foo_main
unfolding strip_zeros digits
cycle_both = record { p = 2; q = 1; on_cycle = record { is_used = (0, lit< tt, refl); leads_back = (2 ∷ [], ((0, lit< tt, refl), refl)) }; there = _; is = refl; home_is = refl }

pub two_reasons : ExamplesOfTwoReasons
unfolding strip_zeros digits
two_reasons = record {
  circle = (w_of_app, refl, interface_cycle_22 x_text (complete meets refl) circle_of);
  package_cycle = (w_of_app, refl, package_cycle_6 foo_main (complete meets refl) cycle_of);
  missing = (w_of_app, refl, type_missing_25 4 u_text u_follows lacks_u);
  would_circle = would_circle;
  would_cycle = would_cycle;
  no_circle = λ span message c. of_circle lacks span message (of_world Published without_u 0 w_of_app (Semantic span message InterfaceCycle) refl c) 4 u_text u_follows lacks_u;
  no_package_cycle = λ span home c. of_package_cycle lacks span home (of_world Published without_u 0 w_of_app (PackageCycle span home) refl c) 4 u_text u_follows lacks_u;
  circle_told = (newer.world, refl, interface_cycle_22 x_text (complete newer refl) circle_newer);
  would_conflict = would_conflict;
  no_conflict = λ span name c. (of_conflict newer span name (of_world Published exporting_newer 0 newer.world (InvalidTransitiveDependency span name) refl c)).interfaces x_text circle_newer;
  type_told = (own.world, refl, type_cycle_23 (codes "type `t` would refer to itself") (complete own refl) t_of_own);
  would_conflict_of_type = would_conflict_of_type;
  no_conflict_of_type = λ span name c. (of_conflict own span name (of_world Published exporting_own 0 own.world (InvalidTransitiveDependency span name) refl c)).types (codes "type `t` would refer to itself") t_of_own;
  lack_told = (lacking.world, refl, type_missing_25 5 u_text follows_too lacks_too);
  would_conflict_of_lack = would_conflict_of_lack;
  no_conflict_of_lack = λ span name c. of_conflict_whole lacking span name (of_world Published exporting_lacking 0 lacking.world (InvalidTransitiveDependency span name) refl c) 5 u_text follows_too lacks_too;
  cycle_and_conflict = (both.world, refl, package_cycle_6 foo_main (complete both refl) cycle_both);
  conflict_and_cycle = (both.world, refl, conflict_4 None (codes "foo:x/z@0.2.1") (complete both refl) conflict);
}
