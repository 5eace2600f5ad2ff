-- The texts of errors, as wit-parser 0.263.0 writes them, but for those of a stability mismatch, of
-- positions that would be too large, and of want of memory, which are this library's own.
use Rattle.std.specs.Prelude.{ℕ, List, [], ◌∷◌, ◌++◌, Option, Some, None, codes, flat_map, unwrap_or}
use Rattle.semver.specs.Identifiers.{parts_text}
use Rattle.wit_values.specs.Version.{Parts}
use Rattle.wit_names.specs.PackageName.{package_name_text}
use Rattle.wit_names.specs.declared.package_name.PackageName.{PackageName}
use Rattle.wit_data.specs.declared.stability.Stability.{Stability}
use Rattle.wit_data.specs.declared.stability.Stability.TheVariants.{Unknown, Stable, Unstable}
use Rattle.wit_graph_data.specs.declared.error_kind.ResolveErrorKind.{ResolveErrorKind}
use Rattle.wit_graph_data.specs.declared.error_kind.ResolveErrorKind.TheVariants.{PackageNotFound, WorldNotFound, InterfaceNotFound, InvalidTransitiveDependency, DuplicatePackage, PackageCycle, ItemShadowing, StabilityMismatch, Semantic, OffsetOverflow, OutOfMemory}
use Rattle.wit_sources.specs.Locations.{highlight_text, location_of}
use Rattle.wit_sources.specs.declared.source_map.SourceFile.{SourceFile}
use Rattle.wit_graph_data.specs.Error.{error_span}

-- since when an item is deprecated, where it is
abbrev pub deprecated_text : Option Parts → List ℕ
deprecated_text None = []
deprecated_text (Some version) = codes " deprecated " ++ parts_text version

-- the word of a stability with its version or feature, and since when it is deprecated
abbrev pub stability_text : Stability → List ℕ
stability_text Unknown = codes "unknown"
stability_text (Stable since deprecated) =
    codes "stable " ++ (parts_text since ++ deprecated_text deprecated)
stability_text (Unstable feature deprecated) =
    codes "unstable " ++ (feature ++ deprecated_text deprecated)

-- a package on a line of its own, after four spaces
abbrev pub known_line : PackageName → List ℕ
known_line name = codes "\n    " ++ package_name_text name

-- the known packages, each on a line of its own; nothing where none is known
abbrev pub known_text : List PackageName → List ℕ
known_text [] = []
known_text (name ∷ names) = codes ". known packages:" ++ flat_map known_line (name ∷ names)

-- what went wrong, without the place
abbrev pub kind_text : ResolveErrorKind → List ℕ
kind_text (PackageNotFound span requested known) =
    codes "package '" ++ (package_name_text requested ++ (codes "' not found" ++ known_text known))
kind_text (WorldNotFound span requested pack) =
    codes "world '"
    ++ (requested ++ (codes "' not found in package '" ++ (package_name_text pack ++ codes "'")))
kind_text (InterfaceNotFound span requested pack) =
    codes "interface '"
    ++ (requested ++ (codes "' not found in package '" ++ (package_name_text pack ++ codes "'")))
kind_text (InvalidTransitiveDependency span name) =
    codes "interface `"
    ++ (name ++ codes "` transitively depends on an interface in incompatible ways")
kind_text (DuplicatePackage name span1 span2) =
    codes "package `" ++ (package_name_text name ++ codes "` is defined in two different locations")
kind_text (PackageCycle span pack) =
    codes "package `" ++ (package_name_text pack ++ codes "` creates a dependency cycle")
kind_text (ItemShadowing span item_type name) =
    item_type
    ++ (codes " of `"
    ++ (name ++ (codes "` shadows previously " ++ (item_type ++ codes "ed items"))))
kind_text (StabilityMismatch span from into) =
    codes "mismatch in stability from '"
    ++ (stability_text from ++ (codes "' to '" ++ (stability_text into ++ codes "'")))
kind_text (Semantic span message cause) = message
kind_text OffsetOverflow = codes "source positions would pass 4294967295"
kind_text OutOfMemory = codes "out of memory"

-- Errors as they are told with their places in the sources, as wit-parser 0.263.0 does.

-- a text with the line in which a span begins, the text alone where the span is unknown or in no file
abbrev pub text_at : List SourceFile → Option (ℕ × ℕ) → List ℕ → List ℕ
text_at files span text = unwrap_or (highlight_text files span text) text

-- a text, and two places on lines of their own
abbrev pub text_with_locations : List ℕ → List ℕ → List ℕ → List ℕ
text_with_locations text first second =
    text ++ (codes ":\n  * " ++ (first ++ (codes "\n  * " ++ second)))

-- the text of an error at its place; of a package that is defined twice, with both places
abbrev pub rendered_text : List SourceFile → ResolveErrorKind → List ℕ
rendered_text files (DuplicatePackage name span1 span2) =
    text_with_locations (kind_text (DuplicatePackage name span1 span2)) (location_of files span1)
    (location_of files span2)
rendered_text files kind = text_at files (error_span kind) (kind_text kind)
