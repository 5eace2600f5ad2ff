-- No cause holds against the first package, nor against one whose world includes another.
use Rattle.std.proofs.Common.{◌≡◌, ℕ, ◌+◌, ◌<◌, ◌≤◌, suc, Bool, true, false, ◌&&◌, [], ◌∷◌, None, Some, slice_get, nat_lt, refl, inl, inr, arith}
use Rattle.std.proofs.lemmas.Bool.{and_parts, false≢true, ltb-true}
use Rattle.std.specs.List.{list_all}
use Rattle.std.specs.Map.{lookup}
use Rattle.std.specs.Prelude.{codes, is_some}
use Rattle.wit_digraph.specs.PostOrder.{post_order, post_order_within}
use Rattle.wit_data.specs.Entries.{Entry}
use Rattle.wit_names.specs.PackageName.{same_package}
use Rattle.wit_data.specs.declared.function.Function.{Function}
use Rattle.wit_data.specs.declared.interface.Interface.{Interface}
use Rattle.wit_data.specs.declared.world.World.{World}
use Rattle.wit_data.specs.declared.world.WorldItem.{WorldItem}
use Rattle.wit_data.specs.declared.world.WorldItem.TheVariants as item
use Rattle.wit_elaboration.specs.examples.Examples.{empty_graph}
use Rattle.wit_graph_theory.specs.examples.TestFacts.{all_are, all_at, at_are, is_empty, not_passed, nothing_in}
use Rattle.wit_link_spec.specs.Addition.{Addition, own_worlds}
use Rattle.wit_link_spec.specs.Cause as reason
use Rattle.wit_link_spec.specs.Gates.{OptionalSpan, package_spans}
use Rattle.wit_link_spec.specs.Reasons.{IsActiveFunction, IsResolved}
use Rattle.wit_link_spec.specs.Reasons as part
use Rattle.wit_link_spec.specs.WorldReasons.{IsCauseAtWorld}
use Rattle.wit_link_spec.specs.facts.WorldCauseFacts.{cause_world}
use Rattle.examples_resolve.proofs.OfGraphs.AtWorlds.{AtInclude, all_fine, fine_without, no_include, of_first}
use Rattle.examples_resolve.proofs.OfGraphs.HasImage.{image}
use Rattle.examples_resolve.proofs.OfGraphs.WorldTests.{IsPlain, fine, plain_accepted}
use Rattle.examples_resolve.specs.graph.IncludedWorlds.{including}
use Rattle.examples_resolve.specs.graph.Packages.{adding, first_package, include_with, no_features}
use Rattle.examples_resolve.specs.graph.Pushes.{add_using}
use Rattle.wit_link_spec.specs.steps.Parts.{AtWorld, IncludeIsAccepted, AdditionIsAccepted, AdditionOverflows}

-- ---- tests

abbrev no_function : WorldItem → Bool
no_function (item.Interface i note docs span external_id) = true
no_function (item.Function f) = false
no_function (item.Type_ t span) = true

abbrev ends_before : ℕ → OptionalSpan → Bool
ends_before offset None = true
ends_before offset (Some (from, to)) = nat_lt (to + offset) 4294967296

-- what a package with one world passes, that has no functions and exports no interface under its own key
record Passes (a : Addition) (y : AtWorld a 0) : Type 0 where
  later : (k : ℕ) → slice_get (own_worlds a) (suc k) ≡ None
  has_image : IsResolved a
  absent : is_some (lookup (same_package a.unresolved.name) a.graph.package_names) ≡ false
  includes : (j : ℕ) → IncludeIsAccepted a 0 j
  plain : IsPlain a 0 y
  required : is_empty a.unresolved.required_resource_types ≡ true
  interfaces : all_at (λ (i : ℕ) (interface : Interface). is_empty interface.functions) a.unresolved.interfaces ≡ true
  worlds : all_at (λ (w : ℕ) (world : World). list_all (λ (e : Entry). no_function e.1) world.imports && list_all (λ (e : Entry). no_function e.1) world.exports) a.unresolved.worlds ≡ true
  spans : list_all (ends_before a.offset) (package_spans a.unresolved) ≡ true

-- ---- what they show

module _ (a : Addition) (y : AtWorld a 0) (p : Passes a y) where
  no_active : (f : Function) → IsActiveFunction a f → ⊥
  no_active f (part.of_interface i interface name _ at active inside on) =
      nothing_in interface.functions (name, f) (at_are (λ (i : ℕ) (interface : Interface). is_empty interface.functions) a.unresolved.interfaces p.interfaces i interface at) inside
  no_active f (part.of_world w world k _ at active (inl import) on) =
      let lists = and_parts _ _ (at_are (λ (w : ℕ) (world : World). list_all (λ (e : Entry). no_function e.1) world.imports && list_all (λ (e : Entry). no_function e.1) world.exports) a.unresolved.worlds p.worlds w world at) in
      false≢true (all_are (λ (e : Entry). no_function e.1) world.imports lists.0 (k, item.Function f) import)
  no_active f (part.of_world w world k _ at active (inr export) on) =
      let lists = and_parts _ _ (at_are (λ (w : ℕ) (world : World). list_all (λ (e : Entry). no_function e.1) world.imports && list_all (λ (e : Entry). no_function e.1) world.exports) a.unresolved.worlds p.worlds w world at) in
      false≢true (all_are (λ (e : Entry). no_function e.1) world.exports lists.1 (k, item.Function f) export)

  fits : AdditionOverflows a → ⊥
  fits c =
      let passes : ends_before a.offset (Some (c.from, c.to)) ≡ true = all_are (ends_before a.offset) (package_spans a.unresolved) p.spans (Some (c.from, c.to)) c.known in
      let below : c.to + a.offset < 4294967296 = ltb-true (c.to + a.offset) 4294967296 passes in
      let past : 4294967296 ≤ c.to + a.offset = c.past in
      absurd (omega (arith, below, past))

  is_accepted : AdditionIsAccepted a
  is_accepted _ (reason.package_not_found_1 span requested known c) = p.has_image.packages span requested known c
  is_accepted _ (reason.world_not_found_2 span requested home c) = p.has_image.worlds span requested home c
  is_accepted _ (reason.interface_not_found_3 span requested home c) = p.has_image.interfaces span requested home c
  is_accepted _ (reason.duplicate_5 name span1 span2 c) = not_passed p.absent c.there
  is_accepted _ (reason.gate_without_version_9 span message c) = p.has_image.version span message c
  is_accepted _ (reason.gate_unreleased_10 span message c) = p.has_image.released span message c
  is_accepted _ (reason.excluded_11 span message c) = p.has_image.references span message c
  is_accepted _ (reason.excluded_owner_12 span message c) = p.has_image.owners span message c
  is_accepted _ (reason.type_not_defined_13 span message c) = p.has_image.types span message c
  is_accepted _ (reason.not_a_resource_14 span message c) = nothing_in a.unresolved.required_resource_types (c.t, c.place) p.required c.required
  is_accepted _ (reason.borrow_in_result_15 span message c) = no_active c.f c.active
  is_accepted _ (reason.offset_overflow_27 from to known past) = fits (record { from = from; to = to; known = known; past = past })
  is_accepted _ (reason.of_world k error reached c) = of_first a p.later (λ (n : ℕ). IsCauseAtWorld a n error) (λ n x. cause_world a n error x) (plain_accepted a 0 y p.plain (λ image. p.includes) error) k c

-- ---- the first package

abbrev the_first : Addition
the_first = adding no_features empty_graph first_package

abbrev first_world : AtWorld the_first 0
first_world = record { id = 0; world = _; is = refl }

pub accepted : AdditionIsAccepted the_first
accepted = is_accepted the_first first_world (record {
  later = λ k. refl;
  has_image = image the_first (record { packages = refl; items = refl; types = refl; interfaces = refl; worlds = refl });
  absent = refl;
  includes = λ j. fine_without the_first 0 j (no_include the_first 0 first_world j refl);
  plain = record { lists = record { imports = refl; exports = refl }; no_exports = refl };
  required = refl;
  interfaces = refl;
  worlds = refl;
  spans = refl;
})

-- ---- a package that uses another

abbrev using_world : AtWorld add_using 0
using_world = record { id = 0; world = _; is = refl }

pub using_accepted : AdditionIsAccepted add_using
unfolding post_order post_order_within
using_accepted = is_accepted add_using using_world (record {
  later = λ k. refl;
  has_image = image add_using (record { packages = refl; items = refl; types = refl; interfaces = refl; worlds = refl });
  absent = refl;
  includes = λ j. fine_without add_using 0 j (no_include add_using 0 using_world j refl);
  plain = record { lists = record { imports = refl; exports = refl }; no_exports = refl };
  required = refl;
  interfaces = refl;
  worlds = refl;
  spans = refl;
})

-- ---- a package whose world includes another

abbrev the_including : Addition
the_including = including ((codes "d", include_with [] ∷ []) ∷ [])

abbrev base_include : AtInclude the_including 0 0
base_include = record { at = record { id = 1; world = _; is = refl }; include = _; is = refl; before = _; before_is = refl; old = _; old_is = refl }

pub including_accepted : AdditionIsAccepted the_including
unfolding post_order post_order_within
including_accepted = is_accepted the_including base_include.at (record {
  later = λ k. refl;
  has_image = image the_including (record { packages = refl; items = refl; types = refl; interfaces = refl; worlds = refl });
  absent = refl;
  includes = all_fine the_including base_include (λ j. refl) (fine the_including 0 0 base_include (record { import_labels = refl; export_labels = refl; import_keys = refl; export_keys = refl; names = refl }));
  plain = record { lists = record { imports = refl; exports = refl }; no_exports = refl };
  required = refl;
  interfaces = refl;
  worlds = refl;
  spans = refl;
})
