-- The examples of what is named.
use Rattle.std.proofs.Common.{◌≡◌, ℕ, true, false, List, [], Some, refl, ap, sym, subst, inl, inr, lit<}
use Rattle.std.proofs.lemmas.Bool.{false≢true}
use Rattle.std.specs.Prelude.{codes}
use Rattle.wit_values.specs.facts.Lists.{differ}
use Rattle.wit_digraph.specs.PostOrder.{post_order, post_order_within}
use Rattle.wit_names.specs.declared.package_name.PackageName.{PackageName}
use Rattle.wit_elaboration.specs.examples.Examples.{empty_graph}
use Rattle.wit_graph_data.specs.examples.Samples.{foo_bar, sample}
use Rattle.wit_graph_theory.specs.facts.OptionFacts.{some_same}
use Rattle.wit_graph_theory.specs.examples.TestFacts.{only_one}
use Rattle.wit_link_spec.specs.Addition.{Addition}
use Rattle.wit_link_spec.specs.Cause as reason
use Rattle.wit_link_spec.specs.Gates.{OptionalSpan}
use Rattle.wit_link_spec.specs.Lookup.{foreign_type_id}
use Rattle.wit_link_spec.specs.Reasons.{IsNoResource, IsResolved}
use Rattle.wit_remap_spec.specs.Resources.{leads_to_resource}
use Rattle.examples_resolve.proofs.OfGraphs.HasImage.{image}
use Rattle.examples_resolve.proofs.OfGraphs.Matching.{of_duplicate, of_interface, of_package, of_resource, of_type, of_world}
use Rattle.examples_resolve.specs.graph.Causes.{ExamplesOfNames, finding}
use Rattle.examples_resolve.specs.graph.Packages.{adding, adding_at, bare, gate_f, naming, naming_type, no_features}
use Rattle.examples_resolve.specs.graph.Values.{with_resource}

finds : IsResolved finding
finds = image finding (record { packages = refl; items = refl; types = refl; interfaces = refl; worlds = refl })

abbrev not_asking : Addition
not_asking = adding no_features empty_graph (naming foo_bar foo_bar gate_f)

asks_nothing : IsResolved not_asking
asks_nothing = image not_asking (record { packages = refl; items = refl; types = refl; interfaces = refl; worlds = refl })

abbrev naming_t : Addition
naming_t = adding no_features (sample [] []) (naming_type (codes "t"))

finds_t : IsResolved naming_t
finds_t = image naming_t (record { packages = refl; items = refl; types = refl; interfaces = refl; worlds = refl })

abbrev naming_resource : Addition
naming_resource = adding no_features with_resource (naming_type (codes "t"))

is_resource : (span : OptionalSpan) (message : List ℕ) → IsNoResource naming_resource span message → ⊥
unfolding post_order post_order_within
is_resource span message c =
    let required : (0, Some (40, 41)) ≡ (c.t, c.place) = only_one _ _ c.required in
    let t : 0 ≡ c.t = ap (λ (r : ℕ × OptionalSpan). r.0) required in
    let found : Some 0 ≡ Some c.t' = subst (λ (x : ℕ). foreign_type_id with_resource (naming_type (codes "t")) x ≡ Some c.t') (sym t) c.found in
    let t' : 0 ≡ c.t' = some_same 0 c.t' found in
    let leads : true ≡ false = subst (λ (x : ℕ). leads_to_resource with_resource.types x ≡ false) (sym t') c.no_resource in
    false≢true (sym leads)

pub names : ExamplesOfNames
unfolding post_order post_order_within
names = record {
  there = reason.duplicate_5 _ _ _ (record { there = refl; name_is = refl; span1_is = refl; span2_is = refl });
  not_there = λ name span1 span2 c. false≢true (of_duplicate (adding_at 16 no_features empty_graph (bare foo_bar)) name span1 span2 c).there;
  no_package = reason.package_not_found_1 _ _ _ (record {
    at = 0;
    items = _;
    names = refl;
    some = λ same. cc;
    absent = λ has. false≢true has;
    other = λ same. differ (codes "dep") (codes "bar") refl (ap (λ (n : PackageName). n.name) same);
    span_is = refl;
    known_are = refl;
  });
  has_package = λ span requested known c. finds.packages span requested known (of_package finding span requested known c);
  no_world = reason.world_not_found_2 _ _ _ (record { at = 0; w = 0; notes = _; names = (1, lit< tt, refl); active = refl; has_package = inl refl; absent = refl; span_is = refl });
  has_world = λ span requested home c. finds.worlds span requested home (of_world finding span requested home c);
  no_interface = reason.interface_not_found_3 _ _ _ (record { at = 0; i = 0; notes = _; names = (0, lit< tt, refl); active = refl; has_package = inr refl; absent = refl; span_is = refl });
  not_asked = λ span requested home c. asks_nothing.interfaces span requested home (of_interface not_asking span requested home c);
  has_interface = λ span requested home c. finds.interfaces span requested home (of_interface finding span requested home c);
  own_world = reason.world_not_found_2 _ _ _ (record { at = 0; w = 0; notes = _; names = (1, lit< tt, refl); active = refl; has_package = inl refl; absent = refl; span_is = refl });
  own_interface = reason.interface_not_found_3 _ _ _ (record { at = 0; i = 0; notes = _; names = (0, lit< tt, refl); active = refl; has_package = inl refl; absent = refl; span_is = refl });
  own_found = refl;
  other_found = refl;
  other_world = refl;
  no_type = reason.type_not_defined_13 _ _ (record {
    t = 0;
    def = _;
    name = codes "u";
    i = 0;
    i' = 0;
    is = refl;
    foreign = refl;
    active = refl;
    called = refl;
    owner = refl;
    owner_active = refl;
    found = refl;
    absent = refl;
    span_is = refl;
    message_is = refl;
  });
  has_type = λ span message c. finds_t.types span message (of_type naming_t span message c);
  type_found = refl;
  no_resource = reason.not_a_resource_14 _ _ (record { t = 0; t' = 0; place = Some (40, 41); required = (0, lit< tt, refl); active = refl; found = refl; no_resource = refl; span_is = refl; message_is = refl });
  is_resource = λ span message c. is_resource span message (of_resource naming_resource span message c);
}
