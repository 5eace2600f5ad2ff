-- What is told of a place of the package is a reason.
use Rattle.std.proofs.Common.{◌≡◌, inl, inr, ◌≤◌, ◌+◌, ◌^◌, ℕ, true, false, List, ◌++◌, map, Some, refl, sym, subst, Contains}
use Rattle.std.specs.List.{flat_map}
use Rattle.std.proofs.lemmas.List.Elements.{Contains-append_left, Contains-append_right}
use Rattle.wit_digraph.specs.facts.MemberFacts.{Contains-flat_map, Contains-here, Contains-there}
use Rattle.wit_data.specs.Entries.{Entry}
use Rattle.wit_data.specs.Kind.{named_option}
use Rattle.wit_data.specs.declared.function.Function.{Function}
use Rattle.wit_data.specs.declared.function.Param.{Param}
use Rattle.wit_data.specs.declared.world.WorldInclude.{WorldInclude}
use Rattle.wit_data.specs.declared.world.WorldItem.TheVariants as item
use Rattle.wit_graph_data.specs.declared.cause.Cause.TheVariants as cause
use Rattle.wit_graph_data.specs.declared.error_kind.ResolveErrorKind.{ResolveErrorKind}
use Rattle.wit_graph_data.specs.declared.error_kind.ResolveErrorKind.TheVariants.{OffsetOverflow}
use Rattle.wit_graph_theory.specs.facts.ListFacts.{Contains-map, contained_at}
use Rattle.wit_link_spec.specs.Addition.{Addition}
use Rattle.wit_link_spec.specs.Cause.{IsAdditionCause, borrow_in_result_15, not_a_resource_14, offset_overflow_27}
use Rattle.wit_remap_spec.specs.Borrows.{borrow_text}
use Rattle.wit_link_spec.specs.Gates.{OptionalSpan, type_is_active, package_spans}
use Rattle.wit_remap_spec.specs.Spans.{function_spans, interface_spans, item_spans, type_spans, world_spans}
use Rattle.wit_link_spec.specs.Lookup.{foreign_type_id}
use Rattle.wit_link_spec.specs.Reasons.{IsActiveFunction, of_interface, of_world}
use Rattle.wit_remap_spec.specs.Resources.{leads_to_resource}
use Rattle.wit_link_resources.specs.steps.Borrows.{IsErrorAtSpan}
use Rattle.wit_link_spec.specs.steps.Parts.{MayHoldBorrow, not_a_resource_text}

module _ (a : Addition) where
  -- a place that would pass the end
  too_far : (place : OptionalSpan) (kind : ResolveErrorKind) → Contains (package_spans a.unresolved) place
      → (kind ≡ OffsetOverflow) × ((range : ℕ × ℕ) × (place ≡ Some range) × (2 ^ 32 ≤ range.1 + a.offset)) → IsAdditionCause a kind
  too_far place kind known told =
      subst (λ (k : ResolveErrorKind). IsAdditionCause a k) (sym told.0)
      (offset_overflow_27 told.1.0.0 told.1.0.1 (subst (λ (p : OptionalSpan). Contains (package_spans a.unresolved) p) told.1.1 known) told.1.2)

  -- the places of what has to be a resource
  required_known : (t : ℕ) (place : OptionalSpan) → Contains a.unresolved.required_resource_types (t, place) → Contains (package_spans a.unresolved) place
  required_known t place has =
      let u = a.unresolved in
      let things = flat_map type_spans u.types ++ (flat_map interface_spans u.interfaces ++ flat_map world_spans u.worlds) in
      let required = map (λ (r : ℕ × OptionalSpan). r.1) u.required_resource_types in
      Contains-there u.package_name_span place (u.foreign_dep_spans ++ (u.unknown_type_spans ++ (required ++ things)))
      (Contains-append_right u.foreign_dep_spans (u.unknown_type_spans ++ (required ++ things)) place
      (Contains-append_right u.unknown_type_spans (required ++ things) place
      (Contains-append_left required things place (Contains-map (λ (r : ℕ × OptionalSpan). r.1) u.required_resource_types (t, place) has))))

  -- those of functions
  function_known : (f : Function) → IsActiveFunction a f → Contains (package_spans a.unresolved) f.span
  function_known f active =
      let u = a.unresolved in
      let types = flat_map type_spans u.types in
      let interfaces = flat_map interface_spans u.interfaces in
      let worlds = flat_map world_spans u.worlds in
      let required = map (λ (r : ℕ × OptionalSpan). r.1) u.required_resource_types in
      Contains-there u.package_name_span f.span (u.foreign_dep_spans ++ (u.unknown_type_spans ++ (required ++ (types ++ (interfaces ++ worlds)))))
      (Contains-append_right u.foreign_dep_spans (u.unknown_type_spans ++ (required ++ (types ++ (interfaces ++ worlds)))) f.span
      (Contains-append_right u.unknown_type_spans (required ++ (types ++ (interfaces ++ worlds))) f.span
      (Contains-append_right required (types ++ (interfaces ++ worlds)) f.span
      (Contains-append_right types (interfaces ++ worlds) f.span (by f active)))))
    where
      own : (f : Function) → Contains (function_spans f) f.span
      own f = Contains-here f.span (map (λ (p : Param). p.span) f.params)

      by : (g : Function) → IsActiveFunction a g → Contains (flat_map interface_spans a.unresolved.interfaces ++ flat_map world_spans a.unresolved.worlds) g.span
      by g (of_interface i interface name f at on has takes) =
          Contains-append_left (flat_map interface_spans a.unresolved.interfaces) (flat_map world_spans a.unresolved.worlds) f.span
          (Contains-flat_map interface_spans a.unresolved.interfaces interface f.span (contained_at a.unresolved.interfaces i interface at)
          (Contains-there interface.span f.span (flat_map (λ (e : List ℕ × Function). function_spans e.1) interface.functions)
          (Contains-flat_map (λ (e : List ℕ × Function). function_spans e.1) interface.functions (name, f) f.span has (own f))))
      by g (of_world w world k f at on has takes) =
          Contains-append_right (flat_map interface_spans a.unresolved.interfaces) (flat_map world_spans a.unresolved.worlds) f.span
          (Contains-flat_map world_spans a.unresolved.worlds world f.span (contained_at a.unresolved.worlds w world at)
          (Contains-there world.span f.span (flat_map (λ (e : Entry). item_spans e.1) world.imports ++ (flat_map (λ (e : Entry). item_spans e.1) world.exports ++ map (λ (i : WorldInclude). i.span) world.includes))
          (elim has [
            | inl import ↦
                Contains-append_left (flat_map (λ (e : Entry). item_spans e.1) world.imports) (flat_map (λ (e : Entry). item_spans e.1) world.exports ++ map (λ (i : WorldInclude). i.span) world.includes) f.span
                (Contains-flat_map (λ (e : Entry). item_spans e.1) world.imports (k, item.Function f) f.span import (own f))
            | inr export ↦
                Contains-append_right (flat_map (λ (e : Entry). item_spans e.1) world.imports) (flat_map (λ (e : Entry). item_spans e.1) world.exports ++ map (λ (i : WorldInclude). i.span) world.includes) f.span
                (Contains-append_left (flat_map (λ (e : Entry). item_spans e.1) world.exports) (map (λ (i : WorldInclude). i.span) world.includes) f.span
                (Contains-flat_map (λ (e : Entry). item_spans e.1) world.exports (k, item.Function f) f.span export (own f)))
          ])))

  pub resource_cause : (t t' : ℕ) (place : OptionalSpan) (kind : ResolveErrorKind) → Contains a.unresolved.required_resource_types (t, place) → type_is_active a.features a.unresolved.types t ≡ true
      → foreign_type_id a.graph a.unresolved t ≡ Some t' → leads_to_resource a.graph.types t' ≡ false → IsErrorAtSpan place a.offset not_a_resource_text cause.NotAResource kind → IsAdditionCause a kind
  resource_cause t t' place kind required active found none (inl far) = too_far place kind (required_known t place required) far
  resource_cause t t' place kind required active found none (inr is) =
      subst (λ (k : ResolveErrorKind). IsAdditionCause a k) (sym is)
      (not_a_resource_14 _ _ (record { t = t; t' = t'; place = place; required = required; active = active; found = found; no_resource = none; span_is = refl; message_is = refl }))

  pub borrow_cause : (f : Function) (t : ℕ) (kind : ResolveErrorKind) → IsActiveFunction a f → Contains (named_option f.result_) t → MayHoldBorrow a t
      → IsErrorAtSpan f.span a.offset (borrow_text f.name) cause.BorrowInResult kind → IsAdditionCause a kind
  borrow_cause f t kind active returned holds (inl far) = too_far f.span kind (function_known f active) far
  borrow_cause f t kind active returned holds (inr is) =
      subst (λ (k : ResolveErrorKind). IsAdditionCause a k) (sym is)
      (borrow_in_result_15 _ _ (record { f = f; t = t; active = active; result_is = returned; holds = holds; span_is = refl; message_is = refl }))
