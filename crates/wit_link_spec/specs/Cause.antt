-- The table of causes: with which errors an addition is refused, in the order of their numbers. An addition with such a
-- cause is refused, and one that is refused, but for want of memory, has the cause that it tells. Those that lie in a
-- world (4, 7, 8, 16, 17, 18) have a table of their own, `IsCauseAtWorld`; the first world that has one tells it.
use Rattle.std.specs.Prelude.{◌<◌, ℕ, List, Contains, Some, ◌≤◌, ◌^◌, ◌+◌}
use Rattle.wit_names.specs.declared.package_name.PackageName.{PackageName}
use Rattle.wit_graph_data.specs.Error.{NoCause}
use Rattle.wit_graph_data.specs.declared.cause.Cause.TheVariants as cause
use Rattle.wit_graph_data.specs.declared.error_kind.ResolveErrorKind.{ResolveErrorKind}
use Rattle.wit_graph_data.specs.declared.error_kind.ResolveErrorKind.TheVariants.{PackageNotFound, WorldNotFound, InterfaceNotFound, DuplicatePackage, Semantic, OffsetOverflow}
use Rattle.wit_link_spec.specs.Addition.{Addition}
use Rattle.wit_link_spec.specs.Gates.{OptionalSpan, package_spans}
use Rattle.wit_link_spec.specs.Reasons.{ForeignTypeMissing, HasExcludedOwner, IsDuplicate, IsNoResource, IsUnreleased, LacksInterface, LacksPackage, LacksVersion, LacksWorld, RefersToExcluded, ReturnsBorrow}
use Rattle.wit_link_spec.specs.WorldReasons.{IsCauseAtWorld}

pub data IsAdditionCause (a : Addition) : ResolveErrorKind → Type 0 where
  package_not_found_1 : (span : OptionalSpan) (requested : PackageName) (known : List PackageName)
      → LacksPackage a span requested known
      → IsAdditionCause a (PackageNotFound span requested known)
  world_not_found_2 : (span : OptionalSpan) (requested : List ℕ) (home : PackageName)
      → LacksWorld a span requested home → IsAdditionCause a (WorldNotFound span requested home)
  interface_not_found_3 : (span : OptionalSpan) (requested : List ℕ) (home : PackageName)
      → LacksInterface a span requested home
      → IsAdditionCause a (InterfaceNotFound span requested home)
  duplicate_5 : (name : PackageName) (span1 span2 : OptionalSpan) → IsDuplicate a name span1 span2
      → IsAdditionCause a (DuplicatePackage name span1 span2)
  gate_without_version_9 : (span : OptionalSpan) (message : List ℕ) → LacksVersion a span message
      → IsAdditionCause a (Semantic span message cause.GateWithoutVersion)
  gate_unreleased_10 : (span : OptionalSpan) (message : List ℕ) → IsUnreleased a span message
      → IsAdditionCause a (Semantic span message cause.GateUnreleased)
  excluded_11 : (span : OptionalSpan) (message : List ℕ) → RefersToExcluded a span message
      → IsAdditionCause a (Semantic span message cause.Excluded)
  excluded_owner_12 : (span : OptionalSpan) (message : List ℕ) → HasExcludedOwner a span message
      → IsAdditionCause a (Semantic span message cause.ExcludedOwner)
  type_not_defined_13 : (span : OptionalSpan) (message : List ℕ) → ForeignTypeMissing a span message
      → IsAdditionCause a (Semantic span message cause.TypeNotDefined)
  not_a_resource_14 : (span : OptionalSpan) (message : List ℕ) → IsNoResource a span message
      → IsAdditionCause a (Semantic span message cause.NotAResource)
  borrow_in_result_15 : (span : OptionalSpan) (message : List ℕ) → ReturnsBorrow a span message
      → IsAdditionCause a (Semantic span message cause.BorrowInResult)
  -- a span of the package would end past 4294967295
  offset_overflow_27 : (from to : ℕ) → Contains (package_spans a.unresolved) (Some (from, to))
      → 2 ^ 32 ≤ to + a.offset → IsAdditionCause a OffsetOverflow
  -- that of the first world that has one
  of_world : (k : ℕ) (error : ResolveErrorKind) → ((i : ℕ) → i < k → NoCause (IsCauseAtWorld a i))
      → IsCauseAtWorld a k error → IsAdditionCause a error
