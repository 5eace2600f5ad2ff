-- What is known of an addition before the graph is touched: that no reason holds against it which the graph and the
-- package tell alone, and that the spans of a package still end within the last position, 4294967295, when they are
-- moved.
use Rattle.std.specs.Prelude.{◌≡◌, ◌⊎◌, None, ℕ}
use Rattle.wit_sources.specs.Span.{moved_by}
use Rattle.wit_data.specs.Each.{Each}
use Rattle.wit_data.specs.declared.unresolved.UnresolvedPackage.{UnresolvedPackage}
use Rattle.wit_graph_data.specs.declared.error_kind.ResolveErrorKind.{ResolveErrorKind}
use Rattle.wit_graph_data.specs.declared.error_kind.ResolveErrorKind.TheVariants.{DuplicatePackage, OffsetOverflow}
use Rattle.wit_link_spec.specs.Addition.{Addition}
use Rattle.wit_link_spec.specs.Gates.{OptionalSpan}
use Rattle.wit_link_spec.specs.steps.Passed.{GatesAreMet, HasResources, IsAllFound, NeedsNothingExcluded, ReturnsNoBorrow}
use Rattle.wit_link_spec.specs.Reasons.{HasPackage}
use Rattle.wit_remap.specs.steps.Fits.{Fits, PartsFit}
use Rattle.wit_link_spec.specs.steps.Parts.{AdditionOverflows}

-- the package isn't there yet, and its spans stay within the last position
pub record IsNew (a : Addition) : Type 0 where
  pub absent : HasPackage a.graph a.unresolved.name → ⊥
  pub fits : AdditionOverflows a → ⊥

-- no reason holds against it that the graph and the package tell alone
pub record IsChecked (a : Addition) : Type 0 where
  pub met : GatesAreMet a
  pub needs : NeedsNothingExcluded a
  pub found : IsAllFound a
  pub resources : HasResources a
  pub no_borrow : ReturnsNoBorrow a

-- that of a type that has to be a resource
abbrev pub RequiredFits : ℕ → ℕ × OptionalSpan → Type 0
RequiredFits offset required = Fits offset required.1

-- those of what a package names of others
pub record ForeignFits (offset : ℕ) (u : UnresolvedPackage) : Type 0 where
  pub deps : Each (Fits offset) u.foreign_dep_spans
  pub unknown : Each (Fits offset) u.unknown_type_spans
  pub required : Each (RequiredFits offset) u.required_resource_types

-- those of a package
pub record PackageFits (offset : ℕ) (u : UnresolvedPackage) : Type 0 where
  pub name : Fits offset u.package_name_span
  pub foreign : ForeignFits offset u
  pub parts : PartsFit offset u.types u.interfaces u.worlds

-- the refusal of a package whose name is there: that it is there, with the place of the name, or that this
-- place passes the end
abbrev pub IsNameTaken : ℕ → UnresolvedPackage → ResolveErrorKind → Type 0
IsNameTaken offset u error =
    (error ≡ DuplicatePackage u.name (moved_by offset u.package_name_span) None)
    ⊎ ((error ≡ OffsetOverflow) × (Fits offset u.package_name_span → ⊥))
