-- Each reason to refuse a merge by tracks has a graph, and its lack another.
use Rattle.std.proofs.Common.{◌≡◌, ◌∙◌, inl, inr, ℕ, zero, suc, Bool, true, List, [], ◌∷◌, ◌++◌, None, Some, codes, slice_get, slice_index_or, refl, sym, ap, subst, arith, Contains}
use Rattle.std.proofs.lemmas.Bool.{false≢true}
use Rattle.std.specs.Fmt.{digits}
use Rattle.std.specs.List.{list_all}
use Rattle.semver.specs.Order.{strip_zeros}
use Rattle.wit_digraph.specs.Cycles.{IsOnCycle}
use Rattle.wit_digraph.specs.facts.MemberFacts.{Contains-cons_cases, Contains-here, Contains-nil, Contains-there}
use Rattle.wit_digraph.specs.Relation.{Reaches, direct}
use Rattle.wit_data.specs.Kind.{referred, type_references}
use Rattle.wit_data.specs.declared.function.Function.{Function}
use Rattle.wit_data.specs.declared.interface.Interface.{Interface}
use Rattle.wit_names.specs.declared.package_name.PackageName.{PackageName}
use Rattle.wit_data.specs.declared.types.TypeDef.{TypeDef}
use Rattle.wit_data.specs.declared.world.World.{World}
use Rattle.wit_names.specs.declared.track.TrackRule.TheVariants.{Published, WithPrereleases}
use Rattle.wit_data.specs.declared.types.Type_.TheVariants as type
use Rattle.wit_elaboration.specs.Elaboration.{graph_uses}
use Rattle.wit_elaboration.specs.Entries.{Entry}
use Rattle.wit_elaboration.specs.Imported.{HasTransitiveConflict, IsEntryInConflict}
use Rattle.wit_graph_data.specs.examples.Samples.{entry_of}
use Rattle.wit_graph_data.specs.declared.cause.Cause.TheVariants.{InterfaceCycle, TypeCycle}
use Rattle.wit_graph_data.specs.declared.graph.Graph.{Graph}
use Rattle.wit_graph_data.specs.declared.graph.Package.{Package}
use Rattle.wit_graph_data.specs.declared.error_kind.ResolveErrorKind.{ResolveErrorKind}
use Rattle.wit_graph_data.specs.declared.error_kind.ResolveErrorKind.TheVariants.{InvalidTransitiveDependency, PackageCycle, Semantic}
use Rattle.wit_data.specs.declared.world.WorldKey.TheVariants as key
use Rattle.wit_graph_theory.specs.facts.ListFacts.{in_row}
use Rattle.wit_graph_theory.specs.examples.AgreementFacts.{functions_accepted}
use Rattle.wit_elaboration.specs.AllElaborated.{DependsOnItself, RefersToItself}
use Rattle.wit_remap_spec.specs.FunctionMismatch.{FunctionMismatch, parameter_names_differ}
use Rattle.wit_graph_theory.specs.facts.OptionFacts.{some_same}
use Rattle.wit_graph_theory.specs.examples.TestFacts.{all_are, all_uses, falls, is_empty, no_cycle, not_on_cycle, only_one}
use Rattle.wit_semver.specs.SemverMerged.{IsComplete, IsSemverMergeCause, LacksType, SemverMerge, SemverMergeCause, conflict_4, functions_disagree_25, interface_cycle_22, is_replaced, newest, package_cycle_6, types_of_new_entries, type_cycle_23, type_missing_25, semver_merge, with_new_entries_at}
use Rattle.wit_semver.specs.steps.SemverMerged.{Agrees}
use Rattle.examples_resolve.proofs.OfMerges.SemverFine.{Clear, complete, has_target, is_fine, no_functions}
use Rattle.examples_resolve.proofs.OfMerges.SemverMismatches.{x_is_not_y, x_of, y_of}
use Rattle.examples_resolve.specs.merge.CauseExamples.{ExamplesOfCauses, IsCauseOf, IsFine, around_main, around_z, exporting, f_of, failed, foo_app, newer_x, older_x, with_functions, with_newer, without_type, without_type_but_cycle}
use Rattle.examples_resolve.specs.merge.Releases.{alias_in, called, foo_main, foo_x, keyed, number_in, package_of, release, with_function, world_in}
use Rattle.examples_resolve.specs.merge.SemverMergeExamples.{first_release, of_three, published}
use Rattle.wit_elaboration.specs.steps.Parts.{exported_keys, exported_interfaces, graph_package_uses}
use Rattle.wit_semver.specs.steps.Parts.{listed_world}

-- the ranks of nodes by their places
abbrev rank_of : List ℕ → ℕ → ℕ
rank_of ranks i = slice_index_or ranks i 0

-- ---- what holds of worlds without exports, and with one

abbrev no_export : World → Bool
no_export world = is_empty world.exports

nothing_exported : (uses : List (List ℕ)) (exports : List Entry) → is_empty exports ≡ true → HasTransitiveConflict uses exports → ⊥
nothing_exported uses [] none conflict = Contains-nil conflict.2
nothing_exported uses (e ∷ es) none conflict = cc

no_exports : (g : Graph) → list_all no_export g.worlds ≡ true → (world : World) → Contains g.worlds world → HasTransitiveConflict (graph_uses g) world.exports → ⊥
no_exports g all world there conflict = nothing_exported (graph_uses g) world.exports (all_are no_export g.worlds all world there) conflict

-- a graph is clear whose things fall by ranks
clear_by : (u : SemverMerge) (w : ℕ) (packages interfaces types : List ℕ) → list_all (has_target u) (types_of_new_entries u) ≡ true → Agrees u
    → all_uses (falls (rank_of packages)) (graph_package_uses (with_new_entries_at u w)) ≡ true → all_uses (falls (rank_of interfaces)) (graph_uses (with_new_entries_at u w)) ≡ true
    → all_uses (falls (rank_of types)) (type_references (with_new_entries_at u w).types) ≡ true
    → ((world : World) → Contains (with_new_entries_at u w).worlds world → HasTransitiveConflict (graph_uses (with_new_entries_at u w)) world.exports → ⊥) → Clear u w
clear_by u w packages interfaces types targets agree package_fall interface_fall type_fall exports = record {
  is_complete = complete u targets;
  agrees = agree;
  packages = no_cycle (rank_of packages) (graph_package_uses (with_new_entries_at u w)) package_fall;
  interfaces = no_cycle (rank_of interfaces) (graph_uses (with_new_entries_at u w)) interface_fall;
  types = no_cycle (rank_of types) (type_references (with_new_entries_at u w).types) type_fall;
  exports = exports;
}

-- one interface alone is exported, which is on no cycle
one_export : (uses : List (List ℕ)) (exports : List Entry) (i : ℕ) → exported_keys exports ≡ i ∷ [] → exported_interfaces exports ≡ i ∷ [] → ((k j : ℕ) → IsOnCycle uses k j → ⊥) → HasTransitiveConflict uses exports → ⊥
one_export uses exports i keys held acyclic conflict =
    let between = conflict.4 in
    let key : i ≡ between.1 = only_one i between.1 (subst (λ (is : List ℕ). Contains is between.1) keys between.3) in
    let user : i ≡ conflict.0 = only_one i conflict.0 (subst (λ (is : List ℕ). Contains is conflict.0) held conflict.2) in
    acyclic conflict.0 conflict.1 (record { is_used = conflict.3; leads_back = subst (λ (k : ℕ). Reaches uses conflict.1 k) (sym key ∙ user) between.2 })

-- ---- 4

abbrev one_and_three : List ℕ
one_and_three = 1 ∷ 3 ∷ []

two_not_there : Contains one_and_three 2 → ⊥
two_not_there has = elim (Contains-cons_cases 1 2 (3 ∷ []) has) [
  | inl same ↦ let one : 1 ≡ 2 = same in absurd (omega (arith, one))
  | inr there ↦ let three : 3 ≡ 2 = only_one 3 2 there in absurd (omega (arith, three))
]

abbrev w_exporting : List ℕ → World
w_exporting exports = world_in 2 (codes "w") (keyed (0 ∷ 2 ∷ 1 ∷ [])) (keyed exports)

abbrev exporting_both : SemverMerge
exporting_both = published (exporting (1 ∷ 3 ∷ [])) (w_exporting (1 ∷ 3 ∷ []))

conflict : IsCauseOf (exporting (1 ∷ 3 ∷ [])) (InvalidTransitiveDependency None (codes "foo:main/y"))
unfolding strip_zeros digits
conflict = (
  w_exporting (1 ∷ 3 ∷ []),
  refl,
  conflict_4 None (codes "foo:main/y") (complete exporting_both refl) (record {
    interfaces = λ message is. no_cycle (rank_of (0 ∷ 1 ∷ 2 ∷ 3 ∷ [])) (graph_uses (with_new_entries_at exporting_both 0)) refl is.i is.j is.on_cycle;
    types = λ message is. no_cycle (rank_of (0 ∷ 1 ∷ 2 ∷ 3 ∷ [])) (type_references (with_new_entries_at exporting_both 0).types) refl is.t is.u is.on_cycle;
    world = listed_world exporting_both;
    there = Contains-here (listed_world exporting_both) [];
    conflict = (3, 2, Contains-there 1 3 (3 ∷ []) (Contains-here 3 []), Contains-here 2 [], (two_not_there, 1, (1 ∷ [], (Contains-here 1 [], refl)), Contains-here 1 (3 ∷ [])));
    name_is = (key.Interface 3, (entry_of 3, record { before = entry_of 1 ∷ []; after = []; are = refl; earlier = not_before; is = (3, Contains-here 3 [], (2, 2, Contains-here 2 [], ([], refl), (two_not_there, 1, (1 ∷ [], (Contains-here 1 [], refl)), Contains-here 1 (3 ∷ [])))) }, refl), refl);
    span_is = refl;
  }),
)
  where
    not_before : (f : Entry) → Contains (entry_of 1 ∷ []) f → IsEntryInConflict (graph_uses (with_new_entries_at exporting_both 0)) (keyed (1 ∷ 3 ∷ [])) f → ⊥
    not_before f has leads =
        let at_one = subst (λ (e : Entry). IsEntryInConflict (graph_uses (with_new_entries_at exporting_both 0)) (keyed (1 ∷ 3 ∷ [])) e) (sym (only_one (entry_of 1) f has)) leads in
        let place : 1 ≡ at_one.0 = only_one 1 at_one.0 at_one.1 in
        let edge : Contains (direct (graph_uses (with_new_entries_at exporting_both 0)) 1) at_one.2.0 = subst (λ (i : ℕ). Contains (direct (graph_uses (with_new_entries_at exporting_both 0)) i) at_one.2.0) (sym place) at_one.2.2 in
        Contains-nil edge

not_exported : IsFine (exporting (3 ∷ []))
unfolding strip_zeros digits
not_exported =
    let u = published (exporting (3 ∷ [])) (w_exporting (3 ∷ [])) in
    is_fine Published (exporting (3 ∷ [])) 0 (w_exporting (3 ∷ [])) refl
    (clear_by u 0 (0 ∷ 1 ∷ 2 ∷ []) (0 ∷ 1 ∷ 2 ∷ 3 ∷ []) (0 ∷ 1 ∷ 2 ∷ 3 ∷ []) refl (no_functions u refl) refl refl refl
    (λ world there. let same = only_one (listed_world u) world there in
    subst (λ (x : World). HasTransitiveConflict (graph_uses (with_new_entries_at u 0)) x.exports → ⊥) same
    (one_export (graph_uses (with_new_entries_at u 0)) (keyed (3 ∷ [])) 3 refl refl (no_cycle (rank_of (0 ∷ 1 ∷ 2 ∷ 3 ∷ [])) (graph_uses (with_new_entries_at u 0)) refl))))

-- ---- 6

abbrev w_of_app : World
w_of_app = world_in 3 (codes "w") (keyed (0 ∷ 2 ∷ 1 ∷ [])) []

abbrev app_cycle : SemverMerge
app_cycle = published (around_main (alias_in 4 (codes "v") 3)) w_of_app

package_cycle : IsCauseOf (around_main (alias_in 4 (codes "v") 3)) (PackageCycle None foo_main)
unfolding strip_zeros digits
package_cycle = (
  w_of_app,
  refl,
  package_cycle_6 foo_main (complete app_cycle refl) (record {
    p = 2;
    q = 1;
    on_cycle = record { is_used = Contains-here 1 []; leads_back = (2 ∷ [], (Contains-here 2 [], refl)) };
    there = package_of foo_main (called (codes "y") 2 ∷ called (codes "a") 3 ∷ []) [];
    is = refl;
    home_is = refl;
  }),
)

package_cycle_too : IsCauseOf (around_main (alias_in 4 (codes "v") 3)) (PackageCycle None (foo_x (release 0 2 1)))
unfolding strip_zeros digits
package_cycle_too = (
  w_of_app,
  refl,
  package_cycle_6 (foo_x (release 0 2 1)) (complete app_cycle refl) (record {
    p = 1;
    q = 2;
    on_cycle = record { is_used = Contains-here 2 []; leads_back = (1 ∷ [], (Contains-here 1 [], refl)) };
    there = package_of (foo_x (release 0 2 1)) (called (codes "x") 1 ∷ called (codes "z") 4 ∷ []) [];
    is = refl;
    home_is = refl;
  }),
)

-- the first letter of a package's name
abbrev letter_of : PackageName → ℕ
letter_of name = slice_index_or name.name 0 0

app_alone : (p q : ℕ) (there : Package) → slice_get (around_main (alias_in 4 (codes "v") 3)).packages p ≡ Some there → foo_app ≡ there.name → IsOnCycle (graph_package_uses (with_new_entries_at app_cycle 0)) p q → ⊥
unfolding strip_zeros digits
app_alone zero q there is name cycle = let same = some_same _ there is in let apart : 97 ≡ 120 = ap letter_of name ∙ ap (λ (x : Package). letter_of x.name) (sym same) in absurd (omega (arith, apart))
app_alone (suc zero) q there is name cycle = let same = some_same _ there is in let apart : 97 ≡ 120 = ap letter_of name ∙ ap (λ (x : Package). letter_of x.name) (sym same) in absurd (omega (arith, apart))
app_alone (suc (suc zero)) q there is name cycle = let same = some_same _ there is in let apart : 97 ≡ 109 = ap letter_of name ∙ ap (λ (x : Package). letter_of x.name) (sym same) in absurd (omega (arith, apart))
app_alone (suc (suc (suc zero))) q there is name cycle = not_on_cycle 3 (graph_package_uses (with_new_entries_at app_cycle 0)) refl q cycle
app_alone (suc (suc (suc (suc p)))) q there is name cycle = cc

not_app_in : (world : World) (error : ResolveErrorKind) → SemverMergeCause (published (around_main (alias_in 4 (codes "v") 3)) world) 0 error → world ≡ w_of_app → error ≡ PackageCycle None foo_app → ⊥
not_app_in world error (conflict_4 span name complete is) same told = cc
not_app_in world error (package_cycle_6 home complete is) same told =
    let name : home ≡ foo_app = cc in
    let at_w = subst (λ (x : World). DependsOnItself (with_new_entries_at (published (around_main (alias_in 4 (codes "v") 3)) x) 0) home) same is in
    app_alone at_w.p at_w.q at_w.there at_w.is (sym name ∙ at_w.home_is) at_w.on_cycle
not_app_in world error (interface_cycle_22 message complete is) same told = cc
not_app_in world error (type_cycle_23 message complete is) same told = cc
not_app_in world error (type_missing_25 t message follows lacks) same told = cc
not_app_in world error (functions_disagree_25 f message disagrees) same told = cc

not_of_the_world : IsCauseOf (around_main (alias_in 4 (codes "v") 3)) (PackageCycle None foo_app) → ⊥
not_of_the_world cause = not_app_in cause.0 (PackageCycle None foo_app) cause.2 (sym (some_same w_of_app cause.0 cause.1)) refl

no_package_cycle : IsFine (around_main (number_in 4 (codes "v")))
unfolding strip_zeros digits
no_package_cycle =
    let u = published (around_main (number_in 4 (codes "v"))) w_of_app in
    is_fine Published (around_main (number_in 4 (codes "v"))) 0 w_of_app refl
    (clear_by u 0 (0 ∷ 1 ∷ 2 ∷ 3 ∷ []) (0 ∷ 1 ∷ 2 ∷ 3 ∷ 4 ∷ []) (0 ∷ 1 ∷ 2 ∷ 3 ∷ 4 ∷ []) refl (no_functions u refl) refl refl refl (no_exports (with_new_entries_at u 0) refl))

-- ---- 22

abbrev w_of_main : List ℕ → World
w_of_main imports = world_in 2 (codes "w") (keyed imports) []

abbrev z_cycle : SemverMerge
z_cycle = published (around_z (alias_in 1 (codes "v") 3)) (w_of_main (0 ∷ 2 ∷ 1 ∷ []))

interface_cycle : IsCauseOf (around_z (alias_in 1 (codes "v") 3)) (Semantic None (codes "interface `foo:x/x@0.2.1` would depend on itself") InterfaceCycle)
unfolding strip_zeros digits
interface_cycle = (
  w_of_main (0 ∷ 2 ∷ 1 ∷ []),
  refl,
  interface_cycle_22 (codes "interface `foo:x/x@0.2.1` would depend on itself") (complete z_cycle refl) (record {
    i = 1;
    j = 2;
    on_cycle = record { is_used = Contains-here 2 []; leads_back = (1 ∷ [], (Contains-here 1 [], refl)) };
    id = codes "foo:x/x@0.2.1";
    id_is = refl;
    message_is = refl;
  }),
)

interface_cycle_too : IsCauseOf (around_z (alias_in 1 (codes "v") 3)) (Semantic None (codes "interface `foo:x/z@0.2.1` would depend on itself") InterfaceCycle)
unfolding strip_zeros digits
interface_cycle_too = (
  w_of_main (0 ∷ 2 ∷ 1 ∷ []),
  refl,
  interface_cycle_22 (codes "interface `foo:x/z@0.2.1` would depend on itself") (complete z_cycle refl) (record {
    i = 2;
    j = 1;
    on_cycle = record { is_used = Contains-here 1 []; leads_back = (2 ∷ [], (Contains-here 2 [], refl)) };
    id = codes "foo:x/z@0.2.1";
    id_is = refl;
    message_is = refl;
  }),
)

no_interface_cycle : IsFine (around_z (number_in 1 (codes "v")))
unfolding strip_zeros digits
no_interface_cycle =
    let u = published (around_z (number_in 1 (codes "v"))) (w_of_main (0 ∷ 2 ∷ 1 ∷ [])) in
    is_fine Published (around_z (number_in 1 (codes "v"))) 0 (w_of_main (0 ∷ 2 ∷ 1 ∷ [])) refl
    (clear_by u 0 (0 ∷ 1 ∷ 2 ∷ []) (0 ∷ 1 ∷ 2 ∷ []) (0 ∷ 1 ∷ 2 ∷ 3 ∷ 4 ∷ []) refl (no_functions u refl) refl refl refl (no_exports (with_new_entries_at u 0) refl))

-- ---- 23

-- type 1 is another name of itself
pub t_refers_to_itself : (g : Graph) → slice_get g.types 1 ≡ Some (alias_in 1 (codes "t") 1) → RefersToItself g (codes "type `t` would refer to itself")
t_refers_to_itself g is = record {
  t = 1;
  u = 1;
  on_cycle = record { is_used = in_row (λ (def : TypeDef). referred def.kind) g.types 1 (alias_in 1 (codes "t") 1) 1 is (Contains-here 1 []); leads_back = ([], refl) };
  def = alias_in 1 (codes "t") 1;
  is = is;
  name = codes "t";
  name_is = refl;
  message_is = refl;
}

abbrev own_type : SemverMerge
own_type = published (with_newer (alias_in 1 (codes "t") 0)) (w_of_main (0 ∷ 1 ∷ []))

type_cycle : IsCauseOf (with_newer (alias_in 1 (codes "t") 0)) (Semantic None (codes "type `t` would refer to itself") TypeCycle)
unfolding strip_zeros digits
type_cycle = (
  w_of_main (0 ∷ 1 ∷ []),
  refl,
  type_cycle_23 (codes "type `t` would refer to itself") (complete own_type refl) (t_refers_to_itself (with_new_entries_at own_type 0) refl),
)

no_type_cycle : IsFine (with_newer (number_in 1 (codes "t")))
unfolding strip_zeros digits
no_type_cycle =
    let u = published (with_newer (number_in 1 (codes "t"))) (w_of_main (0 ∷ 1 ∷ [])) in
    is_fine Published (with_newer (number_in 1 (codes "t"))) 0 (w_of_main (0 ∷ 1 ∷ [])) refl
    (clear_by u 0 (0 ∷ 1 ∷ 2 ∷ []) (0 ∷ 1 ∷ []) (0 ∷ 1 ∷ []) refl (no_functions u refl) refl refl refl (no_exports (with_new_entries_at u 0) refl))

-- ---- 25: a type

missing : IsCauseOf without_type (failed (codes "type `t` is missing"))
unfolding strip_zeros digits
missing = (
  w_of_main (0 ∷ 2 ∷ 1 ∷ []),
  refl,
  type_missing_25 1 _ (Contains-here 1 []) (record { f = 0; name = codes "t"; uses = refl; named = refl; absent = refl; message_is = refl }),
)

not_missing : IsFine of_three
unfolding strip_zeros digits
not_missing =
    let world = world_in 3 (codes "w") (keyed (0 ∷ 3 ∷ 1 ∷ 2 ∷ [])) [] in
    let u = published of_three world in
    is_fine Published of_three 0 world refl
    (clear_by u 0 (0 ∷ 1 ∷ 2 ∷ 3 ∷ []) (0 ∷ 1 ∷ 2 ∷ 3 ∷ []) (0 ∷ 1 ∷ 2 ∷ 3 ∷ []) refl (no_functions u refl) refl refl refl (no_exports (with_new_entries_at u 0) refl))

accepted_apart : IsFine (first_release (0 ∷ 1 ∷ []))
unfolding strip_zeros digits
accepted_apart =
    let world = world_in 2 (codes "w") (keyed (0 ∷ 1 ∷ [])) [] in
    let u = published (first_release (0 ∷ 1 ∷ [])) world in
    is_fine Published (first_release (0 ∷ 1 ∷ [])) 0 world refl
    (clear_by u 0 (0 ∷ 1 ∷ 2 ∷ []) (0 ∷ 1 ∷ []) (0 ∷ 1 ∷ []) refl (no_functions u refl) refl refl refl (no_exports (with_new_entries_at u 0) refl))

accepted_together : (error : ResolveErrorKind) → IsSemverMergeCause WithPrereleases (first_release (0 ∷ 1 ∷ [])) 0 error → ⊥
unfolding strip_zeros digits
accepted_together =
    let world = world_in 2 (codes "w") (keyed (0 ∷ 1 ∷ [])) [] in
    let u = semver_merge WithPrereleases (first_release (0 ∷ 1 ∷ [])) world in
    is_fine WithPrereleases (first_release (0 ∷ 1 ∷ [])) 0 world refl
    (clear_by u 0 (0 ∷ 1 ∷ 2 ∷ []) (0 ∷ 1 ∷ []) (0 ∷ 1 ∷ []) refl (no_functions u refl) refl refl refl (no_exports (with_new_entries_at u 0) refl))

abbrev u_missing : World → SemverMerge
u_missing world = published without_type_but_cycle world

abbrev u_text : List ℕ
u_text = codes "failed to upgrade `foo:x/x@0.2.0` to `foo:x/x@0.2.1`, was this semver-compatible update not semver compatible?: " ++ codes "type `u` is missing"

lacks_u : LacksType (u_missing (w_of_main (0 ∷ 2 ∷ 1 ∷ []))) 3 u_text
unfolding strip_zeros digits
lacks_u = record { f = 0; name = codes "u"; uses = refl; named = refl; absent = refl; message_is = refl }

u_follows : Contains (types_of_new_entries (u_missing (w_of_main (0 ∷ 2 ∷ 1 ∷ [])))) 3
unfolding strip_zeros digits
u_follows = Contains-here 3 (2 ∷ [])

missing_beside_cycle : IsCauseOf without_type_but_cycle (failed (codes "type `u` is missing"))
unfolding strip_zeros digits
missing_beside_cycle = (w_of_main (0 ∷ 2 ∷ 1 ∷ []), refl, type_missing_25 3 u_text u_follows lacks_u)

no_cycle_in : (world : World) (message : List ℕ) (error : ResolveErrorKind) → SemverMergeCause (u_missing world) 0 error → world ≡ w_of_main (0 ∷ 2 ∷ 1 ∷ []) → error ≡ Semantic None message TypeCycle → ⊥
no_cycle_in world message error (conflict_4 span name complete is) same told = cc
no_cycle_in world message error (package_cycle_6 home complete is) same told = cc
no_cycle_in world message error (interface_cycle_22 text complete is) same told = cc
no_cycle_in world message error (type_cycle_23 text complete is) same told = subst (λ (x : World). IsComplete (u_missing x)) same complete 3 u_text u_follows lacks_u
no_cycle_in world message error (type_missing_25 t text follows lacks) same told = cc
no_cycle_in world message error (functions_disagree_25 f text disagrees) same told = cc

-- ---- 25: functions

abbrev with_x : Interface → Interface
with_x interface = with_function interface (f_of (codes "x") type.U32)

abbrev with_y : Interface → Interface
with_y interface = with_function interface (f_of (codes "y") type.U32)

disagreement : IsCauseOf (with_functions (with_x older_x) (with_y newer_x) (number_in 1 (codes "t")))
    (failed (codes "failed to merge interfaces: mismatch in function `f`: different function parameter names: x != y"))
unfolding strip_zeros digits
disagreement = (
  w_of_main (0 ∷ 1 ∷ []),
  refl,
  functions_disagree_25 0 _ (record {
    old = with_x older_x;
    new = with_y newer_x;
    mismatch = codes "mismatch in function `f`: different function parameter names: x != y";
    replaced = refl;
    old_is = refl;
    new_is = refl;
    have = record {
      name = codes "f";
      function = f_of (codes "x") type.U32;
      other = f_of (codes "y") type.U32;
      has = Contains-here (codes "f", f_of (codes "x") type.U32) [];
      other_has = Contains-here (codes "f", f_of (codes "y") type.U32) [];
      ending = codes "different function parameter names: x != y";
      mismatch = parameter_names_differ 0 x_of y_of refl refl x_is_not_y refl;
      text_is = refl;
    };
    message_is = refl;
  }),
)

abbrev agreeing_graph : Graph
agreeing_graph = with_functions (with_x older_x) (with_x newer_x) (number_in 1 (codes "t"))

abbrev f_alone : List (List ℕ × Function)
f_alone = (codes "f", f_of (codes "x") type.U32) ∷ []

its_functions : (i : ℕ) (interface : Interface) → slice_get agreeing_graph.interfaces i ≡ Some interface → f_alone ≡ interface.functions
its_functions zero interface is = ap (λ (x : Interface). x.functions) (some_same (with_x older_x) interface is)
its_functions (suc zero) interface is = ap (λ (x : Interface). x.functions) (some_same (with_x newer_x) interface is)
its_functions (suc (suc i)) interface is = cc

agreement : IsFine agreeing_graph
unfolding strip_zeros digits
agreement =
    let u = published agreeing_graph (w_of_main (0 ∷ 1 ∷ [])) in
    is_fine Published agreeing_graph 0 (w_of_main (0 ∷ 1 ∷ [])) refl
    (clear_by u 0 (0 ∷ 1 ∷ 2 ∷ []) (0 ∷ 1 ∷ []) (0 ∷ 1 ∷ []) refl
    (λ f message d.
    let one = only_one (codes "f", f_of (codes "x") type.U32) (d.have.name, d.have.function) (subst (λ (fs : List (List ℕ × Function)). Contains fs (d.have.name, d.have.function)) (sym (its_functions f d.old d.old_is)) d.have.has) in
    let other = only_one (codes "f", f_of (codes "x") type.U32) (d.have.name, d.have.other) (subst (λ (fs : List (List ℕ × Function)). Contains fs (d.have.name, d.have.other)) (sym (its_functions (newest u f) d.new d.new_is)) d.have.other_has) in
    functions_accepted (f_of (codes "x") type.U32) (f_of (codes "x") type.U32) refl d.have.ending
    (subst (λ (fn : Function). FunctionMismatch fn (f_of (codes "x") type.U32) d.have.ending) (sym (ap (λ (e : List ℕ × Function). e.1) one))
    (subst (λ (fn : Function). FunctionMismatch d.have.function fn d.have.ending) (sym (ap (λ (e : List ℕ × Function). e.1) other)) d.have.mismatch)))
    refl refl refl (no_exports (with_new_entries_at u 0) refl))

abbrev older_alone : Graph
older_alone = with_functions (with_x older_x) newer_x (number_in 1 (codes "t"))

not_in_newer : (f : ℕ) (old new : Interface) (e : List ℕ × Function) → is_replaced (published older_alone (w_of_main (0 ∷ 1 ∷ []))) f ≡ true → slice_get older_alone.interfaces f ≡ Some old
    → slice_get older_alone.interfaces (newest (published older_alone (w_of_main (0 ∷ 1 ∷ []))) f) ≡ Some new → Contains new.functions e → ⊥
unfolding strip_zeros digits
not_in_newer zero old new e replaced old_is new_is has =
    let same = some_same newer_x new new_is in
    Contains-nil (subst (λ (x : Interface). Contains x.functions e) (sym same) has)
not_in_newer (suc zero) old new e replaced old_is new_is has = false≢true replaced
not_in_newer (suc (suc f)) old new e replaced old_is new_is has = cc

not_common : IsFine older_alone
unfolding strip_zeros digits
not_common =
    let u = published older_alone (w_of_main (0 ∷ 1 ∷ [])) in
    is_fine Published older_alone 0 (w_of_main (0 ∷ 1 ∷ [])) refl
    (clear_by u 0 (0 ∷ 1 ∷ 2 ∷ []) (0 ∷ 1 ∷ []) (0 ∷ 1 ∷ []) refl (λ f message d. not_in_newer f d.old d.new (d.have.name, d.have.other) d.replaced d.old_is d.new_is d.have.other_has)
    refl refl refl (no_exports (with_new_entries_at u 0) refl))

abbrev both_wrong : SemverMerge
both_wrong = published (with_functions (with_x older_x) (with_y newer_x) (alias_in 1 (codes "t") 0)) (w_of_main (0 ∷ 1 ∷ []))

cycle_beside : IsCauseOf (with_functions (with_x older_x) (with_y newer_x) (alias_in 1 (codes "t") 0)) (Semantic None (codes "type `t` would refer to itself") TypeCycle)
unfolding strip_zeros digits
cycle_beside = (
  w_of_main (0 ∷ 1 ∷ []),
  refl,
  type_cycle_23 (codes "type `t` would refer to itself") (complete both_wrong refl) (t_refers_to_itself (with_new_entries_at both_wrong 0) refl),
)

pub causes : ExamplesOfCauses
causes = record {
  conflict = conflict;
  not_exported = not_exported;
  package_cycle = package_cycle;
  package_cycle_too = package_cycle_too;
  not_of_the_world = not_of_the_world;
  no_package_cycle = no_package_cycle;
  interface_cycle = interface_cycle;
  interface_cycle_too = interface_cycle_too;
  no_interface_cycle = no_interface_cycle;
  type_cycle = type_cycle;
  no_type_cycle = no_type_cycle;
  missing = missing;
  not_missing = not_missing;
  accepted_apart = accepted_apart;
  accepted_together = accepted_together;
  missing_beside_cycle = missing_beside_cycle;
  no_cycle_beside = λ message cause. no_cycle_in cause.0 message (Semantic None message TypeCycle) cause.2 (sym (some_same (w_of_main (0 ∷ 2 ∷ 1 ∷ [])) cause.0 cause.1)) refl;
  disagreement = disagreement;
  agreement = agreement;
  not_common = not_common;
  cycle_beside = cycle_beside;
}
