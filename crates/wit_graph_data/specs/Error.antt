-- The numbers and places of errors; and when nothing is refused.
use Rattle.std.specs.Prelude.{ℕ, Option, None}
use Rattle.wit_sources.specs.declared.source_map.MapFault.{MapFault}
use Rattle.wit_sources.specs.declared.source_map.MapFault.TheVariants as fault
use Rattle.wit_graph_data.specs.declared.cause.Cause.{Cause}
use Rattle.wit_graph_data.specs.declared.error_kind.ResolveErrorKind.{ResolveErrorKind}
use Rattle.wit_graph_data.specs.declared.cause.Cause.TheVariants.{GateWithoutVersion, GateUnreleased, Excluded, ExcludedOwner, TypeNotDefined, NotAResource, BorrowInResult, RenameUnmatched, NotStronglyUnique, NoGetter, LabelClash, NameTaken, TypeExported, InterfaceCycle, TypeCycle, MergeMismatch, UpgradeMismatch, WorldSelection, Other}
use Rattle.wit_graph_data.specs.declared.error_kind.ResolveErrorKind.TheVariants.{PackageNotFound, WorldNotFound, InterfaceNotFound, InvalidTransitiveDependency, DuplicatePackage, PackageCycle, ItemShadowing, StabilityMismatch, Semantic, OffsetOverflow, OutOfMemory}

-- the number of a cause, 0 for one that has none
abbrev pub cause_number : Cause → ℕ
cause_number GateWithoutVersion = 9
cause_number GateUnreleased = 10
cause_number Excluded = 11
cause_number ExcludedOwner = 12
cause_number TypeNotDefined = 13
cause_number NotAResource = 14
cause_number BorrowInResult = 15
cause_number RenameUnmatched = 16
cause_number NotStronglyUnique = 17
cause_number NoGetter = 18
cause_number LabelClash = 19
cause_number NameTaken = 20
cause_number TypeExported = 21
cause_number InterfaceCycle = 22
cause_number TypeCycle = 23
cause_number MergeMismatch = 24
cause_number UpgradeMismatch = 25
cause_number WorldSelection = 26
cause_number Other = 0

-- the number of an error: that of its kind, or of its cause
abbrev pub error_number : ResolveErrorKind → ℕ
error_number (PackageNotFound span requested known) = 1
error_number (WorldNotFound span requested pack) = 2
error_number (InterfaceNotFound span requested pack) = 3
error_number (InvalidTransitiveDependency span name) = 4
error_number (DuplicatePackage name span1 span2) = 5
error_number (PackageCycle span pack) = 6
error_number (ItemShadowing span item_type name) = 7
error_number (StabilityMismatch span from into) = 8
error_number (Semantic span message cause) = cause_number cause
error_number OffsetOverflow = 27
error_number OutOfMemory = 28

-- accepted: no cause of a table of causes holds
abbrev pub NoCause : (ResolveErrorKind → Type 0) → Type 0
NoCause table = (error : ResolveErrorKind) → table error → ⊥

-- where the fault is: the first of two places, and unknown for the two errors that have none
abbrev pub error_span : ResolveErrorKind → Option (ℕ × ℕ)
error_span (PackageNotFound span requested known) = span
error_span (WorldNotFound span requested pack) = span
error_span (InterfaceNotFound span requested pack) = span
error_span (InvalidTransitiveDependency span name) = span
error_span (DuplicatePackage name span1 span2) = span1
error_span (PackageCycle span pack) = span
error_span (ItemShadowing span item_type name) = span
error_span (StabilityMismatch span from into) = span
error_span (Semantic span message cause) = span
error_span OffsetOverflow = None
error_span OutOfMemory = None

-- the kind that stands for a fault of a source map
abbrev pub map_fault_kind : MapFault → ResolveErrorKind
map_fault_kind fault.OffsetOverflow = OffsetOverflow
map_fault_kind fault.OutOfMemory = OutOfMemory
