-- Which world a selection chooses, and what it says where it chooses none. The questions are asked in this
-- order: is the text a use path, are there main packages, which package is meant, and which world.
-- Source: `select_world` of wit-parser 0.263.0; what is said of a text that is no use path is this
-- project's own.
use Rattle.std.specs.Prelude.{◌≡◌, ◌⊎◌, ℕ, ◌&&◌, Bool, List, [], ◌∷◌, ◌++◌, filter, slice_get, Option, None, Some, Result, Ok, Err, is_none, is_some, codes, flat_map, ok_or, bytes_eq}
use Rattle.std.specs.Map.{lookup}
use Rattle.std.specs.Option.{option_map_or}
use Rattle.semver.specs.Identifiers.{parts_text}
use Rattle.wit_values.specs.Version.{Parts}
use Rattle.wit_names.specs.PackageName.{package_name_text, same_package}
use Rattle.wit_names.specs.UsePath.{use_path_of}
use Rattle.wit_names.specs.declared.package_name.PackageName.{PackageName}
use Rattle.wit_names.specs.declared.use_path.ParsedUsePath.{ParsedUsePath}
use Rattle.wit_data.specs.declared.world.World.{World}
use Rattle.wit_names.specs.declared.use_path.ParsedUsePath.TheVariants as path
use Rattle.wit_graph_data.specs.IdText.{id_text}
use Rattle.wit_graph_data.specs.declared.cause.Cause.TheVariants.{WorldSelection}
use Rattle.wit_graph_data.specs.declared.graph.Graph.{Graph}
use Rattle.wit_graph_data.specs.declared.graph.Package.{Package}
use Rattle.wit_graph_data.specs.declared.error_kind.ResolveErrorKind.{ResolveErrorKind}
use Rattle.wit_graph_data.specs.declared.error_kind.ResolveErrorKind.TheVariants.{OutOfMemory, Semantic}

-- an id, or what is said where there is none
abbrev pub Choice : Type 0
Choice = Result ℕ (List ℕ)

-- ---- what is said

-- there is no main package
abbrev pub no_main_text : List ℕ
no_main_text = codes "No main packages defined"

-- a line of its own for a world
abbrev pub world_line : List ℕ → List ℕ
world_line text = codes "\n  " ++ text

-- there are several main packages, and none is named; a line for each world of the graph, by id
abbrev pub several_mains_text : Graph → List ℕ
several_mains_text g =
    codes "There are multiple main packages; a world must be explicitly chosen:"
    ++ flat_map (λ (world : World).
    option_map_or (λ p. world_line (id_text g.packages p world.name)) world.package [])
    g.worlds

-- the text of a version, where there is one
abbrev pub version_part : Option Parts → List ℕ
version_part version = option_map_or parts_text version []

-- ---- packages

-- the name has a version, and but for it is this one
abbrev pub is_version_of : PackageName → PackageName → Bool
is_version_of name candidate =
    is_some candidate.version
    && (bytes_eq name.namespace candidate.namespace && bytes_eq name.name candidate.name)

-- the packages that a name without a version may mean
abbrev pub versions_of : PackageName → List (PackageName × ℕ) → List (PackageName × ℕ)
versions_of name names =
    filter (λ (e : PackageName × ℕ). is_none name.version && is_version_of name e.0) names

-- the only one of some packages: else there is none of the name, or a name without a version may mean two
abbrev pub only_version : PackageName → List (PackageName × ℕ) → Choice
only_version name [] = Err (codes "unknown package `" ++ (package_name_text name ++ codes "`"))
only_version name (e ∷ []) = Ok e.1
only_version name (a ∷ b ∷ rest) = Err
    (codes "package name `"
    ++ (package_name_text name
    ++ (codes "` is available at both versions "
    ++ (version_part a.0.version
    ++ (codes " and "
    ++ (version_part b.0.version ++ codes " but which is not specified"))))))

-- the package of exactly that name, else without a version the one versioned package of that name
abbrev pub named_package : List (PackageName × ℕ) → PackageName → Choice
named_package names name =
    option_map_or Ok (lookup (same_package name) names) (only_version name (versions_of name names))

-- ---- worlds

-- the world of that name in a package
abbrev pub named_world : List ℕ → Package → Choice
named_world name home =
    ok_or (lookup (bytes_eq name) home.worlds) (codes "World `"
    ++ (name
    ++ (codes "` not found in package `" ++ (package_name_text home.name ++ codes "`"))))

-- the only world of a package: else it has none, or several, each told on a line, in the order of its table
abbrev pub only_world : Graph → ℕ → Package → List (List ℕ × ℕ) → Choice
only_world g p home [] =
    Err
    (codes "The main package `" ++ (package_name_text home.name ++ codes "` contains no worlds"))
only_world g p home (e ∷ []) = Ok e.1
only_world g p home (a ∷ b ∷ rest) = Err
    (codes "There are multiple worlds in `"
    ++ (package_name_text home.name
    ++ (codes "`; one must be explicitly chosen:"
    ++ flat_map (λ (e : List ℕ × ℕ). world_line (id_text g.packages p e.0))
    home.worlds)))

-- what is chosen in package p, which is there
abbrev pub in_package : Graph → ℕ → (Package → Choice) → Choice
in_package g p choose = option_map_or choose (slice_get g.packages p) (Err no_main_text)

-- the world of that name in a package that was chosen
abbrev pub in_named : Graph → List ℕ → Choice → Choice
in_named g name (Ok p) = in_package g p (named_world name)
in_named g name (Err said) = Err said

-- by a use path, or by none
abbrev pub by_path : Graph → List ℕ → Option ParsedUsePath → Choice
by_path g [] chosen = Err no_main_text
by_path g (p ∷ mains) (Some (path.Package home name)) =
    in_named g name (named_package g.package_names home)
by_path g (p ∷ []) (Some (path.Name name)) = in_package g p (named_world name)
by_path g (p ∷ []) None = in_package g p (λ (home : Package). only_world g p home home.worlds)
by_path g (p ∷ q ∷ mains) chosen = Err (several_mains_text g)

-- by a text, as it reads
abbrev pub by_reading : Graph → List ℕ → List ℕ → Option ParsedUsePath → Choice
by_reading g mains text None =
    Err (codes "failed to parse world specifier `" ++ (text ++ codes "`: invalid use path"))
by_reading g mains text (Some chosen) = by_path g mains (Some chosen)

-- the world that is chosen among the main packages, by a text or by none, or what is said
abbrev pub selected_world : Graph → List ℕ → Option (List ℕ) → Choice
selected_world g mains None = by_path g mains None
selected_world g mains (Some text) = by_reading g mains text (use_path_of text)

-- ---- what comes of it

-- the refusal that says this
abbrev pub selection_error : List ℕ → ResolveErrorKind
selection_error message = Semantic None message WorldSelection

-- the refusal of a choice: what is said instead, or want of memory
abbrev pub IsSelectionError : Choice → ResolveErrorKind → Type 0
IsSelectionError choice kind =
    (kind ≡ OutOfMemory)
    ⊎ ((message : List ℕ) × (choice ≡ Err message) × (kind ≡ selection_error message))

-- what comes of a choice: the id, or its refusal
abbrev pub IsSelectionResult : Choice → Result ℕ ResolveErrorKind → Type 0
IsSelectionResult choice (Ok id) = choice ≡ Ok id
IsSelectionResult choice (Err kind) = IsSelectionError choice kind

-- what comes of a selection among the main packages
abbrev pub IsSelection : Graph → List ℕ → Option (List ℕ) → Result ℕ ResolveErrorKind → Type 0
IsSelection g mains text = IsSelectionResult (selected_world g mains text)
