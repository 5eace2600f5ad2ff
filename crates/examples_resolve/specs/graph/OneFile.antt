-- A position is of one file of a source map at the most.
use Rattle.std.specs.Prelude.{◌≡◌, ℕ, List, Some, true, slice_get}
use Rattle.wit_sources.specs.Locations.{has_position}
use Rattle.wit_sources.specs.SourceMap.{AreLaidOut}
use Rattle.wit_sources.specs.declared.source_map.SourceFile.{SourceFile}

-- files that stand one after another, as those of every source map do, have no position in common
abbrev pub HaveNoneInCommon : Type 0
HaveNoneInCommon =
    (from end position i j : ℕ) (files : List SourceFile) (a b : SourceFile)
    → AreLaidOut from files end → slice_get files i ≡ Some a → slice_get files j ≡ Some b
    → has_position position a ≡ true → has_position position b ≡ true → i ≡ j
