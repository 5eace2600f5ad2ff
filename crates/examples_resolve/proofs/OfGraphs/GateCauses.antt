-- The examples of gates, results and places.
use Rattle.std.proofs.Common.{◌≡◌, ℕ, zero, suc, true, List, [], ◌∷◌, Some, None, refl, ap, sym, subst, inl, inr, lit<, lit≤, Contains, arith}
use Rattle.std.proofs.lemmas.Bool.{false≢true}
use Rattle.std.specs.Fmt.{digits}
use Rattle.std.specs.Prelude.{codes}
use Rattle.wit_digraph.specs.Relation.{IsPath}
use Rattle.wit_sources.specs.Span.{end_of}
use Rattle.wit_data.specs.Kind.{named_option}
use Rattle.wit_data.specs.declared.function.Function.{Function}
use Rattle.wit_data.specs.declared.interface.Interface.{Interface}
use Rattle.wit_data.specs.declared.stability.Stability.TheVariants.{Unknown}
use Rattle.wit_data.specs.declared.types.Handle.TheVariants as handle
use Rattle.wit_data.specs.declared.types.TypeDefKind.TheVariants as kind
use Rattle.wit_data.specs.declared.types.Type_.TheVariants as type
use Rattle.wit_elaboration.specs.examples.Examples.{empty_graph}
use Rattle.wit_graph_data.specs.Queries.{type_contents}
use Rattle.wit_graph_data.specs.examples.Samples.{foo_bar, function_of, no_docs}
use Rattle.wit_graph_theory.specs.examples.TestFacts.{none_in, none_some, only_one}
use Rattle.wit_link_spec.specs.Addition.{Addition}
use Rattle.wit_link_spec.specs.Cause as reason
use Rattle.wit_link_spec.specs.Gates.{OptionalSpan}
use Rattle.wit_link_spec.specs.Gates as asked
use Rattle.wit_link_spec.specs.Reasons.{AType, AWorld, AnInterface, IsActiveFunction, IsResolved, ReturnsBorrow}
use Rattle.wit_link_spec.specs.Reasons as part
use Rattle.examples_resolve.proofs.OfGraphs.HasImage.{image}
use Rattle.examples_resolve.proofs.OfGraphs.Matching.{no_memory, of_borrow, of_excluded, of_excluded_owner, of_overflow, of_unreleased, of_version}
use Rattle.examples_resolve.specs.graph.Causes.{ExamplesOfCauses, returning_under}
use Rattle.examples_resolve.specs.graph.Packages.{adding, adding_at, bare, feature_f, gate_f, gated, gated_owner, loose_interface, no_features, returning, since_one}
use Rattle.wit_remap_spec.specs.steps.Parts.{IsBorrow}
use Rattle.wit_link_spec.specs.steps.Parts.{MayHoldBorrow, function_is_active, AdditionOverflows}

-- ---- packages with an image

abbrev versioned : Addition
versioned = adding no_features empty_graph (gated (Some (1, 0, 0, [], [])) since_one)

abbrev later : Addition
later = adding no_features empty_graph (gated (Some (1, 1, 0, [], [])) since_one)

later_image : IsResolved later
later_image = image later (record { packages = refl; items = refl; types = refl; interfaces = refl; worlds = refl })

abbrev gated_off : Addition
gated_off = adding no_features empty_graph (gated None gate_f)

gated_off_image : IsResolved gated_off
gated_off_image = image gated_off (record { packages = refl; items = refl; types = refl; interfaces = refl; worlds = refl })

abbrev owner_on : Addition
owner_on = adding feature_f empty_graph (gated_owner gate_f)

owner_on_image : IsResolved owner_on
owner_on_image = image owner_on (record { packages = refl; items = refl; types = refl; interfaces = refl; worlds = refl })

-- ---- an own is no borrow

abbrev returning_own : Addition
returning_own = adding no_features empty_graph (returning (type.Id 2))

own_alone : (b : ℕ) (path : List ℕ) → IsPath (type_contents (returning (type.Id 2)).types) 2 path b → IsBorrow (returning (type.Id 2)).types b → ⊥
own_alone b [] same borrow =
    let here : IsBorrow (returning (type.Id 2)).types 2 = subst (IsBorrow (returning (type.Id 2)).types) (sym same) borrow in
    let is : kind.Handle (handle.Own 0) ≡ kind.Handle (handle.Borrow here.0) = here.1 in
    cc
own_alone b (k ∷ path) leads borrow = none_in k leads.0

returned : (f : Function) → IsActiveFunction returning_own f → function_of (codes "f") [] (Some (type.Id 2)) ≡ f
returned f (part.of_interface zero interface name _ at active inside on) =
    let same : record (loose_interface (codes "i") ((codes "r", 0) ∷ []) Unknown) { functions = (codes "f", function_of (codes "f") [] (Some (type.Id 2))) ∷ [] } ≡ interface = cc in
    ap (λ (e : List ℕ × Function). e.1) (only_one _ _ (subst (λ (x : Interface). Contains x.functions (name, f)) (sym same) inside))
returned f (part.of_interface (suc i) interface name _ at active inside on) = cc
returned f (part.of_world w world k _ at active has on) = cc

holds_none : MayHoldBorrow returning_own 2 → ⊥
holds_none (inl holds) = own_alone holds.0 holds.1.0 holds.1.1 holds.2
holds_none (inr (s, s', leads, active, found, (b, reaches, borrow))) = borrow

own_result : (span : OptionalSpan) (message : List ℕ) → ReturnsBorrow returning_own span message → ⊥
own_result span message c =
    let result : 2 ≡ c.t = only_one _ _ (subst (λ (f : Function). Contains (named_option f.result_) c.t) (sym (returned c.f c.active)) c.result_is) in
    holds_none (subst (MayHoldBorrow returning_own) (sym result) c.holds)

-- ---- a function that is left out

abbrev returning_off : Addition
returning_off = adding no_features empty_graph (returning_under gate_f)

function_off : (f : Function) → IsActiveFunction returning_off f → ⊥
function_off f (part.of_interface zero interface name _ at active inside on) =
    let same : record (loose_interface (codes "i") ((codes "r", 0) ∷ []) Unknown) { functions = (codes "f", record (function_of (codes "f") [] (Some (type.Id 1))) { stability = gate_f }) ∷ [] } ≡ interface = cc in
    let is : record (function_of (codes "f") [] (Some (type.Id 1))) { stability = gate_f } ≡ f = ap (λ (e : List ℕ × Function). e.1) (only_one _ _ (subst (λ (x : Interface). Contains x.functions (name, f)) (sym same) inside)) in
    false≢true (subst (λ (g : Function). function_is_active no_features g ≡ true) (sym is) on)
function_off f (part.of_interface (suc i) interface name _ at active inside on) = cc
function_off f (part.of_world w world k _ at active has on) = cc

-- ---- a place that just fits

abbrev at_the_end : Addition
at_the_end = adding_at 4294967282 no_features empty_graph (bare foo_bar)

just_fits : AdditionOverflows at_the_end → ⊥
just_fits c =
    let end : 13 ≡ c.to = ap (λ (p : OptionalSpan). end_of p) (only_one _ _ c.known) in
    absurd (omega (arith, end, c.past))

pub causes : ExamplesOfCauses
unfolding digits
causes = record {
  no_version = reason.gate_without_version_9 _ _ (record {
    since = _;
    deprecated = _;
    place = None;
    asked = asked.of_interface 0 _ _ refl (0, lit< tt, refl);
    no_version = refl;
    span_is = refl;
    message_is = refl;
  });
  lacks_version = reason.gate_without_version_9 _ _ (record {
    since = _;
    deprecated = _;
    place = None;
    asked = asked.of_interface 1 _ _ refl (0, lit< tt, refl);
    no_version = refl;
    span_is = refl;
    message_is = refl;
  });
  has_version = λ span message c. none_some (1, 0, 0, [], []) (sym (of_version versioned span message c).no_version);
  unreleased = reason.gate_unreleased_10 _ _ (record {
    since = _;
    deprecated = _;
    version = _;
    place = None;
    asked = asked.of_interface 0 _ _ refl (0, lit< tt, refl);
    has_version = refl;
    below = refl;
    span_is = refl;
    message_is = refl;
  });
  released = λ span message c. later_image.released span message (of_unreleased later span message c);
  excluded = reason.excluded_11 _ _ (record {
    thing = AnInterface 0;
    place = None;
    refers = part.of_entry 0 _ _ 0 Unknown no_docs None None refl refl (inl (0, lit< tt, refl)) refl;
    excluded = refl;
    span_is = refl;
    message_is = refl;
  });
  excluded_field = reason.excluded_11 _ _ (record {
    thing = AType 0;
    place = Some (60, 63);
    refers = part.of_type 1 _ 0 (Some (60, 63)) refl refl (0, lit< tt, refl);
    excluded = refl;
    span_is = refl;
    message_is = refl;
  });
  excluded_world = reason.excluded_11 _ _ (record {
    thing = AWorld 0;
    place = Some (50, 60);
    refers = part.of_include 1 _ _ refl refl (0, lit< tt, refl) refl;
    excluded = refl;
    span_is = refl;
    message_is = refl;
  });
  no_reference = λ span message c. gated_off_image.references span message (of_excluded gated_off span message c);
  excluded_owner = reason.excluded_owner_12 _ _ (record {
    t = 0;
    def = _;
    thing = AnInterface 0;
    is = refl;
    own = λ same. cc;
    active = refl;
    owner = refl;
    excluded = refl;
    span_is = refl;
    message_is = refl;
  });
  owner_active = λ span message c. owner_on_image.owners span message (of_excluded_owner owner_on span message c);
  borrow = reason.borrow_in_result_15 _ _ (record {
    f = _;
    t = 1;
    active = part.of_interface 0 _ _ _ refl refl (0, lit< tt, refl) refl;
    result_is = (0, lit< tt, refl);
    holds = inl (1, ([], refl), (0, refl));
    span_is = refl;
    message_is = refl;
  });
  borrow_in_list = reason.borrow_in_result_15 _ _ (record {
    f = _;
    t = 3;
    active = part.of_interface 0 _ _ _ refl refl (0, lit< tt, refl) refl;
    result_is = (0, lit< tt, refl);
    holds = inl (1, (1 ∷ [], ((0, lit< tt, refl), refl)), (0, refl));
    span_is = refl;
    message_is = refl;
  });
  borrow_behind = reason.borrow_in_result_15 _ _ (record {
    f = _;
    t = 0;
    active = part.of_interface 1 _ _ _ refl refl (0, lit< tt, refl) refl;
    result_is = (0, lit< tt, refl);
    holds = inr (0, 0, ([], refl), refl, refl, (2, (2 ∷ [], ((0, lit< tt, refl), refl)), (3, refl)));
    span_is = refl;
    message_is = refl;
  });
  function_off = λ span message c. let found = of_borrow returning_off span message c in function_off found.f found.active;
  own_result = λ span message c. own_result span message (of_borrow returning_own span message c);
  too_far = reason.offset_overflow_27 8 13 (0, lit< tt, refl) (lit≤ tt);
  just_fits = λ c. just_fits (of_overflow at_the_end c);
  no_memory = λ a c. no_memory a c;
}
