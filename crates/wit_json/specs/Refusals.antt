-- Refusals as JSON.
use Rattle.std.specs.Prelude.{ℕ, List, ◌++◌, codes}
use Rattle.json.specs.Json.{Json}
use Rattle.wit_graph_data.specs.Error.{error_number, error_span}
use Rattle.wit_graph_data.specs.ErrorText.{kind_text}
use Rattle.wit_graph_data.specs.declared.cause.Cause.{Cause}
use Rattle.wit_graph_data.specs.declared.cause.Cause.TheVariants as cause
use Rattle.wit_graph_data.specs.declared.error_kind.ResolveErrorKind.{ResolveErrorKind}
use Rattle.wit_graph_data.specs.declared.error_kind.ResolveErrorKind.TheVariants as kind
use Rattle.wit_json.specs.Details.{span_member}
use Rattle.wit_json.specs.Values.{json_of_number, json_of_text, member, object}

-- the word of a cause that is told by a message
abbrev pub cause_word : Cause → List ℕ
cause_word cause.GateWithoutVersion = codes "gate-without-version"
cause_word cause.GateUnreleased = codes "gate-unreleased"
cause_word cause.Excluded = codes "excluded"
cause_word cause.ExcludedOwner = codes "excluded-owner"
cause_word cause.TypeNotDefined = codes "type-not-defined"
cause_word cause.NotAResource = codes "not-a-resource"
cause_word cause.BorrowInResult = codes "borrow-in-result"
cause_word cause.RenameUnmatched = codes "rename-unmatched"
cause_word cause.NotStronglyUnique = codes "not-strongly-unique"
cause_word cause.NoGetter = codes "no-getter"
cause_word cause.LabelClash = codes "label-clash"
cause_word cause.NameTaken = codes "name-taken"
cause_word cause.TypeExported = codes "type-exported"
cause_word cause.InterfaceCycle = codes "interface-cycle"
cause_word cause.TypeCycle = codes "type-cycle"
cause_word cause.MergeMismatch = codes "merge-mismatch"
cause_word cause.UpgradeMismatch = codes "upgrade-mismatch"
cause_word cause.WorldSelection = codes "world-selection"
cause_word cause.Other = codes "other"

-- the word of what went wrong
abbrev pub kind_word : ResolveErrorKind → List ℕ
kind_word (kind.PackageNotFound span requested known) = codes "package-not-found"
kind_word (kind.WorldNotFound span requested pack) = codes "world-not-found"
kind_word (kind.InterfaceNotFound span requested pack) = codes "interface-not-found"
kind_word (kind.InvalidTransitiveDependency span name) = codes "invalid-transitive-dependency"
kind_word (kind.DuplicatePackage name span1 span2) = codes "duplicate-package"
kind_word (kind.PackageCycle span pack) = codes "package-cycle"
kind_word (kind.ItemShadowing span item_type name) = codes "item-shadowing"
kind_word (kind.StabilityMismatch span from into) = codes "stability-mismatch"
kind_word (kind.Semantic span message cause) = cause_word cause
kind_word kind.OffsetOverflow = codes "offset-overflow"
kind_word kind.OutOfMemory = codes "out-of-memory"

-- its number, its word, its text, and where the fault is, where that is known
abbrev pub json_of_refusal : ResolveErrorKind → Json
json_of_refusal refusal =
    object (member (codes "number") (json_of_number (error_number refusal))
    ++ member (codes "cause") (json_of_text (kind_word refusal))
    ++ member (codes "text") (json_of_text (kind_text refusal)) ++ span_member (error_span refusal))
