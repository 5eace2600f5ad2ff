-- Where the things of a graph stand that a message of 24 or 25 names.
use Rattle.std.specs.Prelude.{ℕ, ◌||◌, Bool, true, false, List, [], ◌∷◌, codes, drop, length, map, nat_eq, slice_get, Option, Some, None, option_and_then, option_map, is_some, if◌then◌else◌}
use Rattle.std.specs.List.{starts_with}
use Rattle.wit_data.specs.declared.function.Function.{Function}
use Rattle.wit_data.specs.declared.interface.Interface.{Interface}
use Rattle.wit_data.specs.declared.types.TypeDef.{TypeDef}
use Rattle.wit_graph_data.specs.IdText.{id_text}
use Rattle.wit_graph_data.specs.declared.graph.Graph.{Graph}
use Rattle.wit_graph_data.specs.declared.graph.Package.{Package}
use Rattle.wit_names.specs.PackageName.{package_name_text}
use Rattle.wit_sources.specs.Span.{OptionalSpan}
use Rattle.wit_json_commands.specs.Places.{first_known, world_span}

-- ---- what a text names

-- what follows a front in a text that begins with it
abbrev pub behind : List ℕ → List ℕ → Option (List ℕ)
behind front text = if starts_with nat_eq text front then Some (drop (length front) text) else None

-- what follows in a text that begins with a name between a front and an end
abbrev pub rest_behind : List ℕ → List ℕ → List ℕ → List ℕ → Option (List ℕ)
rest_behind front name end text =
    option_and_then (behind end) (option_and_then (behind name) (behind front text))

-- a text begins with a name between a front and an end
abbrev pub names : List ℕ → List ℕ → List ℕ → List ℕ → Bool
names front name end text = is_some (rest_behind front name end text)

-- ---- functions and types

-- where a function stands, if a text names it
abbrev pub function_place : List ℕ → List ℕ × Function → OptionalSpan
function_place text f =
    if names (codes "mismatch in function `") f.0 (codes "`: ") text
    || names (codes "failed to merge interfaces: mismatch in function `") f.0 (codes "`: ") text
    then f.1.span
    else None

-- where a type stands, if a text names it
abbrev pub type_place : Graph → List ℕ → List ℕ × ℕ → OptionalSpan
type_place g text t =
    if names (codes "mismatch in type `") t.0 (codes "`") text
    || names (codes "type `") t.0 (codes "` is missing") text
    then option_and_then (λ (def : TypeDef). def.span) (slice_get g.types t.1)
    else None

-- where an interface has the function or the type that a text names, or else where it stands itself
abbrev pub item_place : Graph → List ℕ → Interface → OptionalSpan
item_place g text interface =
    first_known (first_known (map (function_place text) interface.functions)
    ∷ first_known (map (type_place g text) interface.types) ∷ interface.span ∷ [])

-- ---- 24

-- where an interface or a world of a package has what a text names, if the text names it
abbrev pub place_in_interface : Graph → List ℕ → List ℕ × ℕ → OptionalSpan
place_in_interface g text e =
    option_and_then (λ rest. option_and_then (item_place g rest) (slice_get g.interfaces e.1))
    (rest_behind (codes "failed to merge interface `") e.0 (codes "`: ") text)

abbrev pub place_in_world : Graph → List ℕ → List ℕ × ℕ → OptionalSpan
place_in_world g text e =
    option_and_then (λ rest. world_span g e.1)
    (rest_behind (codes "failed to merge world `") e.0 (codes "`: ") text)

-- where a package has what a message names, if the message names the package
abbrev pub place_in_package : Graph → List ℕ → Package → OptionalSpan
place_in_package g message home =
    option_and_then (λ rest.
    first_known (first_known (map (place_in_interface g rest) home.interfaces)
    ∷ first_known (map (place_in_world g rest) home.worlds) ∷ []))
    (rest_behind (codes "failed to merge package `") (package_name_text home.name)
    (codes "` into existing copy: ") message)

-- where the graph has what a merge refuses
abbrev pub merge_place : Graph → List ℕ → OptionalSpan
merge_place g message = first_known (map (place_in_package g message) g.packages)

-- ---- 25

-- the id text of an interface, where it has a name and a package
abbrev pub id_of : Graph → Interface → Option (List ℕ)
id_of g interface =
    option_and_then
    (λ name. option_map (λ owner. id_text g.packages owner name) interface.package) interface.name

-- where the older or the newer of two interfaces has what a text names, if the text names the newer one
abbrev pub newer_place : Graph → Bool → Interface → List ℕ → Interface → OptionalSpan
newer_place g newer old text new =
    option_and_then (λ id. option_and_then (λ rest. item_place g rest (if newer then new else old))
    (rest_behind [] id
    (codes "`, was this semver-compatible update not semver compatible?: ") text))
    (id_of g new)

-- the same of one of the graph's interfaces, if a text names it
abbrev pub place_by_newer : Graph → Bool → Interface → List ℕ → OptionalSpan
place_by_newer g newer old text = first_known (map (newer_place g newer old text) g.interfaces)

-- the same of a message that names both
abbrev pub older_place : Graph → Bool → List ℕ → Interface → OptionalSpan
older_place g newer message old =
    option_and_then (λ id. option_and_then (place_by_newer g newer old)
    (rest_behind (codes "failed to upgrade `") id (codes "` to `") message))
    (id_of g old)

-- where the graph has what an upgrade refuses, in the older interface or the newer one
abbrev pub upgrade_place : Graph → Bool → List ℕ → OptionalSpan
upgrade_place g newer message = first_known (map (older_place g newer message) g.interfaces)
