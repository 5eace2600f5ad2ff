-- The examples of worlds one after another, and of packages without an image.
use Rattle.std.proofs.Common.{◌≡◌, ℕ, ◌<◌, zero, suc, [], ◌∷◌, Some, None, slice_get, refl, subst, inl, lit<, arith}
use Rattle.std.specs.Prelude.{codes}
use Rattle.wit_values.specs.facts.Lists.{differ}
use Rattle.wit_digraph.specs.PostOrder.{post_order, post_order_within}
use Rattle.wit_data.specs.declared.world.World.{World}
use Rattle.wit_data.specs.declared.world.WorldInclude.{WorldInclude}
use Rattle.wit_data.specs.declared.world.WorldKey.TheVariants as key
use Rattle.wit_graph_data.specs.declared.cause.Cause.TheVariants as cause
use Rattle.wit_graph_data.specs.declared.error_kind.ResolveErrorKind.TheVariants.{ItemShadowing, Semantic, StabilityMismatch}
use Rattle.wit_graph_data.specs.examples.Samples.{no_docs}
use Rattle.wit_graph_theory.specs.examples.TestFacts.{only_one}
use Rattle.wit_labels.specs.examples.Examples.{function_entry}
use Rattle.wit_link_spec.specs.Addition.{Addition, own_worlds, updated_includes}
use Rattle.wit_link_spec.specs.Cause as reason
use Rattle.wit_link_spec.specs.Gates as asked
use Rattle.wit_link_spec.specs.Include.{EntryLists}
use Rattle.wit_link_spec.specs.Reasons.{IsResolved, LacksVersion}
use Rattle.wit_link_spec.specs.WorldReasons.{IsCauseAtWorld, mismatch_8, no_getter_18, not_strongly_unique_17, of_image, of_imports, of_labels_alone, shadowing_7}
use Rattle.wit_link_spec.specs.facts.WorldCauseFacts.{includes_accepted}
use Rattle.examples_resolve.proofs.OfGraphs.AtWorlds.{AtInclude, HaveLists, IsCauseAtInclude, at_world, fine_without, list_world, made, no_include, of_first, of_include, refused_where, world_same, written}
use Rattle.examples_resolve.proofs.OfGraphs.HasImage.{image}
use Rattle.examples_resolve.proofs.OfGraphs.Matching.{ClashAt, of_alike}
use Rattle.examples_resolve.proofs.OfGraphs.WorldCauses.{first_reached, label_same, other_feature}
use Rattle.examples_resolve.proofs.OfGraphs.WorldTests.{IsPlain, fine, none_alike, plain_accepted}
use Rattle.examples_resolve.specs.graph.LaterWorlds.{ExamplesOfLaterWorlds, alike_unversioned, before_alike, include_of, including_unversioned, shadowing_first, two_gates, w_is_alike, w_of_alike}
use Rattle.examples_resolve.specs.graph.Packages.{gate_f, gate_g, loose_interface, since_one}
use Rattle.wit_link_spec.specs.steps.Parts.{AtWorld, IncludeIsAccepted, WorldIsAccepted, IsReached}

-- ---- a world with which nothing is wrong

-- it is plain, and includes nothing
plain_is_fine : (a : Addition) (k : ℕ) (y : AtWorld a k) → ((j : ℕ) → slice_get (updated_includes a y.world) j ≡ None) → IsPlain a k y → WorldIsAccepted a k
plain_is_fine a k y no_includes p = plain_accepted a k y p (λ image j. fine_without a k j (no_include a k y j (no_includes j)))

-- ---- the third world, and its second include

abbrev first_gate : AtWorld two_gates 0
first_gate = record { id = 0; world = _; is = refl }

abbrev second_gate : AtWorld two_gates 1
second_gate = record { id = 1; world = _; is = refl }

abbrev includes_both : AtWorld two_gates 2
includes_both = record { id = 2; world = _; is = refl }

abbrev first_include : AtInclude two_gates 2 0
first_include = record { at = includes_both; include = _; is = refl; before = _; before_is = refl; old = _; old_is = refl }

abbrev second_include : AtInclude two_gates 2 1
second_include = record { at = includes_both; include = _; is = refl; before = _; before_is = refl; old = _; old_is = refl }

fine_before : (i : ℕ) → i < 2 → WorldIsAccepted two_gates i
fine_before zero below = plain_is_fine two_gates 0 first_gate (λ j. refl) (record { lists = record { imports = refl; exports = refl }; no_exports = refl })
fine_before (suc zero) below = plain_is_fine two_gates 1 second_gate (λ j. refl) (record { lists = record { imports = refl; exports = refl }; no_exports = refl })
fine_before (suc (suc i)) below = absurd (omega (arith, below))

include_fine : (i : ℕ) → i < 1 → IncludeIsAccepted two_gates 2 i
unfolding post_order post_order_within
include_fine zero below = fine two_gates 2 0 first_include (record { import_labels = refl; export_labels = refl; import_keys = refl; export_keys = refl; names = refl })
include_fine (suc i) below = absurd (omega (arith, below))

gates_image : IsResolved two_gates
gates_image = image two_gates (record { packages = refl; items = refl; types = refl; interfaces = refl; worlds = refl })

mismatch : IsCauseAtInclude two_gates 2 1 (StabilityMismatch (Some (50, 60)) gate_g gate_f)
unfolding post_order post_order_within
mismatch = record {
  at = second_include;
  cause = of_imports _
      (mismatch_8 0 gate_g gate_f (no_docs, None, None, (0, lit< tt, refl)) (no_docs, None, None, (0, lit< tt, refl)) (record { from_known = λ same. cc; into_known = λ same. cc; differ = other_feature }) refl);
}

-- ---- labels of a world behind another

-- world w as it is written, with the labels that are not strongly unique
written_alike : (a : Addition) (k place : ℕ) → slice_get (own_worlds a) k ≡ Some (place, w_of_alike) → IsCauseAtWorld a k w_is_alike
written_alike a k place is = of_labels_alone place w_of_alike is refl (inl (not_strongly_unique_17 (codes "AB") (codes "ab") (0, 1, lit< tt, refl, refl, refl)))

abbrev empty_first : AtWorld (before_alike []) 0
empty_first = record { id = 0; world = _; is = refl }

nothing_before : (i : ℕ) → i < 1 → WorldIsAccepted (before_alike []) i
nothing_before zero below = plain_is_fine (before_alike []) 0 empty_first (λ j. refl) (record { lists = record { imports = refl; exports = refl }; no_exports = refl })
nothing_before (suc i) below = absurd (omega (arith, below))

abbrev setter_first : Addition
setter_first = before_alike (function_entry (codes "[set]p") ∷ [])

abbrev setter_world : AtWorld setter_first 0
setter_world = record { id = 0; world = _; is = refl }

lacks_getter : IsCauseAtWorld setter_first 0 (Semantic None (codes "import `[set]p` in world `v` has no corresponding getter `[get]p`") cause.NoGetter)
lacks_getter =
    of_labels_alone 0 _ refl refl
    (inl (no_getter_18 (codes "[set]p") _ (0, lit< tt, refl) refl (λ has. differ (codes "[set]p") (codes "[get]p") refl (label_same _ _ (only_one (key.Name (codes "[set]p")) (key.Name (codes "[get]p")) has)))))

first_told : (k : ℕ) → IsReached setter_first k → ClashAt setter_first k → ⊥
first_told zero reached c = none_alike setter_first 0 setter_world (record { imports = refl; exports = refl }) c
first_told (suc k) reached c =
    let below : 0 < suc k = omega arith in
    reached 0 below _ lacks_getter

-- ---- no image

lacks_version : LacksVersion including_unversioned None (codes "package [foo:main] contains a feature gate with a version specifier, so it must have a version")
lacks_version = record { since = _; deprecated = _; place = None; asked = asked.of_interface 1 _ _ refl (0, lit< tt, refl); no_version = refl; span_is = refl; message_is = refl }

abbrev unmade_world : AtWorld including_unversioned 0
unmade_world = record { id = 1; world = _; is = refl }

some_includes : (include : WorldInclude) → include ∷ [] ≡ [] → ⊥
some_includes include none = cc

no_lists : (lists : EntryLists) → HaveLists including_unversioned 0 lists → ⊥
no_lists _ (made at has fine) = has.version None (codes "package [foo:main] contains a feature gate with a version specifier, so it must have a version") lacks_version
no_lists _ (written at none) = some_includes (include_of 0) (subst (λ (w : World). w.includes ≡ []) (world_same including_unversioned 0 at unmade_world).1 none)

-- ---- a world behind one whose include is refused

abbrev unmade : Addition
unmade = shadowing_first (loose_interface (codes "i") [] since_one ∷ [])

unversioned_too : LacksVersion unmade None (codes "package [foo:bar] contains a feature gate with a version specifier, so it must have a version")
unversioned_too = record { since = _; deprecated = _; place = None; asked = asked.of_interface 0 _ _ refl (0, lit< tt, refl); no_version = refl; span_is = refl; message_is = refl }

no_image : IsResolved unmade → ⊥
no_image has = has.version None (codes "package [foo:bar] contains a feature gate with a version specifier, so it must have a version") unversioned_too

abbrev including_second : AtWorld unmade 1
including_second = record { id = 1; world = _; is = refl }

lists_none : (at : AtWorld unmade 1) → at.world.includes ≡ [] → ⊥
lists_none at none = some_includes (include_of 0) (subst (λ (w : World). w.includes ≡ []) (world_same unmade 1 at including_second).1 none)

second_unmade : WorldIsAccepted unmade 1
second_unmade error (of_image w world is image why) = no_image image
second_unmade error (of_labels_alone w world is none why) = lists_none (record { id = w; world = world; is = is }) none

fine_unmade : (i : ℕ) → i < 2 → WorldIsAccepted unmade i
fine_unmade zero below = plain_is_fine unmade 0 (record { id = 0; world = _; is = refl }) (λ j. refl) (record { lists = record { imports = refl; exports = refl }; no_exports = refl })
fine_unmade (suc zero) below = second_unmade
fine_unmade (suc (suc i)) below = absurd (omega (arith, below))

shadowing_image : IsResolved (shadowing_first [])
shadowing_image = image (shadowing_first []) (record { packages = refl; items = refl; types = refl; interfaces = refl; worlds = refl })

abbrev shadowing_world : AtWorld (shadowing_first []) 1
shadowing_world = record { id = 1; world = _; is = refl }

abbrev shadowing_include : AtInclude (shadowing_first []) 1 0
shadowing_include = record { at = shadowing_world; include = _; is = refl; before = _; before_is = refl; old = _; old_is = refl }

shadows : IsCauseAtInclude (shadowing_first []) 1 0 (ItemShadowing (Some (50, 60)) (codes "import") (codes "f"))
unfolding post_order post_order_within
shadows = record {
  at = shadowing_include;
  cause = of_imports _ (shadowing_7 (codes "f") (0, refl, (0, lit< tt, refl)));
}

refused_lists : (lists : EntryLists) → HaveLists (shadowing_first []) 1 lists → ⊥
refused_lists _ (made at has fine) = refused_where (shadowing_first []) 1 0 _ shadows (fine 0)
refused_lists _ (written at none) = some_includes (include_of 0) (subst (λ (w : World). w.includes ≡ []) (world_same (shadowing_first []) 1 at shadowing_world).1 none)

behind_shadowing : (k : ℕ) → IsReached (shadowing_first []) k → ClashAt (shadowing_first []) k → ⊥
behind_shadowing zero reached c = none_alike (shadowing_first []) 0 (record { id = 0; world = _; is = refl }) (record { imports = refl; exports = refl }) c
behind_shadowing (suc zero) reached c = refused_lists c.lists c.have
behind_shadowing (suc (suc k)) reached c =
    let below : 1 < suc (suc k) = omega arith in
    refused_where (shadowing_first []) 1 0 _ shadows (includes_accepted (shadowing_first []) 1 shadowing_image (reached 1 below) 0)

pub later_worlds : ExamplesOfLaterWorlds
later_worlds = record {
  second_include = reason.of_world 2 _ fine_before (at_world two_gates 2 _ (of_include 1 gates_image include_fine mismatch));
  second_world = reason.of_world 1 _ nothing_before (written_alike (before_alike []) 1 1 refl);
  first_told = λ span message c. let found = of_alike setter_first span message c in first_told found.0 found.1 found.2;
  unversioned = reason.of_world 0 _ (first_reached alike_unversioned) (written_alike alike_unversioned 0 0 refl);
  including = λ span message c.
      let found = of_alike including_unversioned span message c in
      of_first including_unversioned (λ k. refl) (ClashAt including_unversioned) (λ k x. list_world _ k x.lists x.have) (λ x. no_lists x.lists x.have) found.0 found.2;
  behind_unmade = reason.of_world 2 _ fine_unmade (written_alike unmade 2 2 refl);
  behind_shadowing = λ span message c. let found = of_alike (shadowing_first []) span message c in behind_shadowing found.0 found.1 found.2;
}
