-- A package fits exactly where no span of it passes the end.
use Rattle.std.proofs.Common.{◌⊎◌, inl, inr, ℕ, ◌+◌, ◌<◌, ◌≤◌, ◌^◌, List, ◌++◌, map, Some, arith}
use Rattle.wit_data.specs.declared.unresolved.UnresolvedPackage.{UnresolvedPackage}
use Rattle.wit_link_spec.specs.Gates.{OptionalSpan, package_spans}
use Rattle.wit_graph_theory.specs.facts.ListFacts.{Each-map, place_of}
use Rattle.wit_link_spec.specs.Addition.{Addition}
use Rattle.wit_remap.specs.steps.Fits.{Fits}
use Rattle.wit_remap.specs.facts.FittingFacts.{AllFit, Each-append, Each-cons, Each-head, Each-left, Each-right, Each-tail, Each-unmapped, SomePasses, all_parts, fit_or_pass, parts_fit, parts_spans}
use Rattle.wit_link.specs.steps.Checked.{PackageFits}
use Rattle.wit_link_spec.specs.steps.Parts.{AdditionOverflows}

module _ (offset : ℕ) where
  -- ---- the spans of a package, from behind

  abbrev required_spans : UnresolvedPackage → List OptionalSpan
  required_spans u = map (λ (r : ℕ × OptionalSpan). r.1) u.required_resource_types

  abbrev RequiredFit : ℕ × OptionalSpan → Type 0
  RequiredFit r = Fits offset r.1

  abbrev after_required : UnresolvedPackage → List OptionalSpan
  after_required u = parts_spans offset u.types u.interfaces u.worlds

  abbrev after_unknown : UnresolvedPackage → List OptionalSpan
  after_unknown u = required_spans u ++ after_required u

  abbrev after_deps : UnresolvedPackage → List OptionalSpan
  after_deps u = u.unknown_type_spans ++ after_unknown u

  abbrev after_name : UnresolvedPackage → List OptionalSpan
  after_name u = u.foreign_dep_spans ++ after_deps u

  all_package : (u : UnresolvedPackage) → PackageFits offset u → AllFit offset (package_spans u)
  all_package u fits =
      let required : AllFit offset (required_spans u) = Each-map (λ (r : ℕ × OptionalSpan). r.1) (Fits offset) u.required_resource_types fits.foreign.required in
      Each-cons (Fits offset) u.package_name_span (after_name u) fits.name
      (Each-append (Fits offset) u.foreign_dep_spans (after_deps u) fits.foreign.deps
      (Each-append (Fits offset) u.unknown_type_spans (after_unknown u) fits.foreign.unknown
      (Each-append (Fits offset) (required_spans u) (after_required u) required (all_parts offset u.types u.interfaces u.worlds fits.parts))))

  package_fits : (u : UnresolvedPackage) → AllFit offset (package_spans u) → PackageFits offset u
  package_fits u all =
      let rest : AllFit offset (after_name u) = Each-tail (Fits offset) u.package_name_span (after_name u) all in
      let behind_deps : AllFit offset (after_deps u) = Each-right (Fits offset) u.foreign_dep_spans (after_deps u) rest in
      let behind_unknown : AllFit offset (after_unknown u) = Each-right (Fits offset) u.unknown_type_spans (after_unknown u) behind_deps in
      let behind_required : AllFit offset (after_required u) = Each-right (Fits offset) (required_spans u) (after_required u) behind_unknown in
      record {
        name = Each-head (Fits offset) u.package_name_span (after_name u) all;
        foreign = record {
          deps = Each-left (Fits offset) u.foreign_dep_spans (after_deps u) rest;
          unknown = Each-left (Fits offset) u.unknown_type_spans (after_unknown u) behind_deps;
          required =
              Each-unmapped (Fits offset) RequiredFit (λ (r : ℕ × OptionalSpan). r.1) u.required_resource_types (λ r h. h)
              (Each-left (Fits offset) (required_spans u) (after_required u) behind_unknown);
        };
        parts = parts_fit offset u.types u.interfaces u.worlds behind_required;
      }

  -- a package fits, or some span of it passes the end
  fits_or_passes : offset < 2 ^ 32 → (u : UnresolvedPackage) → PackageFits offset u ⊎ SomePasses offset (package_spans u)
  fits_or_passes small u =
      elim (fit_or_pass offset small (package_spans u)) [
        | inl all ↦ inl (package_fits u all)
        | inr passes ↦ inr passes
      ]

  never_both : (u : UnresolvedPackage) → PackageFits offset u → SomePasses offset (package_spans u) → ⊥
  never_both u fits passes =
      let place = place_of (package_spans u) (Some (passes.0, passes.1)) passes.2 in
      let below : Fits offset (Some (passes.0, passes.1)) = all_package u fits place.0 (Some (passes.0, passes.1)) place.1 in
      let above : 2 ^ 32 ≤ passes.1 + offset = passes.3 in
      omega (arith, below, above)

-- where a package doesn't fit, a span of it passes the end
pub passes-of_not_fitting : (a : Addition) → a.offset < 2 ^ 32 → (PackageFits a.offset a.unresolved → ⊥) → AdditionOverflows a
passes-of_not_fitting a small fits_not =
    elim (fits_or_passes a.offset small a.unresolved) [
      | inl fits ↦ absurd (fits_not fits)
      | inr passes ↦ record { from = passes.0; to = passes.1; known = passes.2; past = passes.3 }
    ]

-- where it fits, none does
pub fitting_passes_not : (a : Addition) → PackageFits a.offset a.unresolved → AdditionOverflows a → ⊥
fitting_passes_not a fits passes = never_both a.offset a.unresolved fits (passes.from, passes.to, passes.known, passes.past)
