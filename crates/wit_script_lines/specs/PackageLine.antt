-- What a line of a package says by its tokens alone: names with types, functions, whole lines, and the gate that may end
-- a line, `@since=VERSION` or `@unstable=FEATURE`.
use Rattle.std.specs.List.{slice_split}
use Rattle.std.specs.Prelude.{ℕ, List, [], ◌∷◌, Option, Some, None, option_and_then, codes, if◌then◌else◌, ◌==◌, ◌-◌, ◌||◌, Bool, false, length, take, slice_get, is_some, option_map, bytes_eq}
use Rattle.std.specs.Option.{option_map_or}
use Rattle.wit_data.specs.declared.world.IncludeName.{IncludeName}
use Rattle.wit_names.specs.declared.use_path.ParsedUsePath.{ParsedUsePath}
use Rattle.wit_data.specs.declared.stability.Stability.{Stability}
use Rattle.wit_data.specs.declared.stability.Stability.TheVariants.{Unknown, Stable, Unstable}
use Rattle.wit_script_lines.specs.Token.{after_prefix, part_of, path_of, split_at, version_of, only_of}
use Rattle.wit_script_lines.specs.TypeText.{type_text_of}
use Rattle.wit_script_lines.specs.declared.package_line.PackageLine.{PackageLine}
use Rattle.wit_script_lines.specs.declared.package_line.PackageLine.TheVariants as line
use Rattle.wit_script_lines.specs.declared.signature.Signature.{Signature}
use Rattle.wit_script_lines.specs.declared.signature.TypedName.{TypedName}
use Rattle.wit_script_lines.specs.declared.type_text.TypeText.{TypeText}

-- what each of them is read as, where each is read
abbrev pub each_of : {A B : Type 0} → (A → Option B) → List A → Option (List B)
each_of read [] = Some []
each_of read (x ∷ xs) = option_and_then (λ y. option_map (λ ys. y ∷ ys) (each_of read xs)) (read x)

-- `NAME:TYPE`; the name ends at the first colon, and has at least one byte
abbrev pub typed_name_of : List ℕ → Option TypedName
typed_name_of token =
    option_and_then (λ (parts : List ℕ × List ℕ).
    option_map (λ (name : List ℕ). record { name = name; ty = type_text_of parts.1 })
    (part_of parts.0)) (split_at 58 token)

-- the parameters between the brackets, which commas part
abbrev pub params_of : List ℕ → Option (List TypedName)
params_of [] = Some []
params_of (b ∷ bs) = each_of typed_name_of (slice_split (λ c. c == 44) (b ∷ bs))

-- what follows the closing bracket: nothing, or `->TYPE`
abbrev pub answer_of : List ℕ → Option (Option TypeText)
answer_of [] = Some None
answer_of (b ∷ bs) = option_map (λ ty. Some (type_text_of ty)) (after_prefix (codes "->") (b ∷ bs))

-- the function of this name from what stands between its brackets and after them
abbrev pub signature_with : List ℕ → List ℕ → List ℕ → Option Signature
signature_with name between after =
    option_and_then (λ (own : List ℕ).
    option_and_then (λ (params : List TypedName). option_map (λ (answer : Option TypeText).
    record { name = own; params = params; answer = answer }) (answer_of after)) (params_of between))
    (part_of name)

-- `NAME(P:TYPE,..)` or `NAME(P:TYPE,..)->TYPE`; the name ends at the first `(`, the parameters at the first `)` after it
abbrev pub signature_of : List ℕ → Option Signature
signature_of token =
    option_and_then (λ (named : List ℕ × List ℕ).
    option_and_then (λ (parts : List ℕ × List ℕ). signature_with named.0 parts.0 parts.1)
    (split_at 41 named.1)) (split_at 40 token)

-- `NAME TYPE`
abbrev pub type_line_of : List (List ℕ) → Option PackageLine
type_line_of (name ∷ ty ∷ []) = option_map (λ own. line.Type_ own (type_text_of ty)) (part_of name)
type_line_of _ = None

-- `NAME F:TYPE ..`, with at least one field
abbrev pub record_line_of : List (List ℕ) → Option PackageLine
record_line_of (name ∷ field ∷ fields) =
    option_and_then (λ own. option_map (line.Record own) (each_of typed_name_of (field ∷ fields)))
    (part_of name)
record_line_of _ = None

-- the use of a type of this name under a new one
abbrev pub use_line_with : List ℕ → List ℕ → List ℕ → Option PackageLine
use_line_with path name new =
    option_and_then (λ from.
    option_and_then (λ own. option_map (line.Use from own) (part_of new)) (part_of name))
    (path_of path)

-- `PATH NAME`, where the new name is the old one, or `PATH NAME NEW`
abbrev pub use_line_of : List (List ℕ) → Option PackageLine
use_line_of (path ∷ name ∷ []) = use_line_with path name name
use_line_of (path ∷ name ∷ new ∷ []) = use_line_with path name new
use_line_of _ = None

-- `PATH` or `LABEL=PATH`; the label ends at the first `=`
abbrev pub entry_of : List ℕ → Option (Option (List ℕ) × ParsedUsePath)
entry_of token =
    option_map_or (λ (parts : List ℕ × List ℕ).
    option_and_then (λ label. option_map (λ path. (Some label, path)) (path_of parts.1))
    (part_of parts.0))
    (split_at 61 token) (option_map (λ path. (None, path)) (path_of token))

-- `OLD=NEW`; the old name ends at the first `=`
abbrev pub rename_of : List ℕ → Option IncludeName
rename_of token =
    option_and_then (λ (parts : List ℕ × List ℕ). option_and_then (λ (old : List ℕ).
    option_map (λ (new : List ℕ). record { name = old; as_ = new }) (part_of parts.1))
    (part_of parts.0)) (split_at 61 token)

-- `PATH OLD=NEW ..`
abbrev pub include_line_of : List (List ℕ) → Option PackageLine
include_line_of [] = None
include_line_of (path ∷ names) =
    option_and_then (λ from. option_map (line.Include from) (each_of rename_of names))
    (path_of path)

-- a line of a package by its first token and its arguments without the gate
abbrev pub package_line_by : List ℕ → List (List ℕ) → Option PackageLine
package_line_by word arguments =
    if bytes_eq word (codes "interface") then option_map line.Interface (only_of part_of arguments)
    else if bytes_eq word (codes "world") then option_map line.World (only_of part_of arguments)
    else if bytes_eq word (codes "type") then type_line_of arguments
    else if bytes_eq word (codes "record") then record_line_of arguments
    else if bytes_eq word (codes "resource") then option_map line.Resource
    (only_of part_of arguments)
    else if bytes_eq word (codes "use") then use_line_of arguments
    else if bytes_eq word (codes "func") then option_map line.Function
    (only_of signature_of arguments)
    else if bytes_eq word (codes "import") then option_map (λ entry. line.Import entry.0 entry.1)
    (only_of entry_of arguments)
    else if bytes_eq word (codes "export") then option_map (λ entry. line.Export entry.0 entry.1)
    (only_of entry_of arguments)
    else if bytes_eq word (codes "import-func") then option_map line.ImportFunction
    (only_of signature_of arguments)
    else if bytes_eq word (codes "export-func") then option_map line.ExportFunction
    (only_of signature_of arguments)
    else if bytes_eq word (codes "include") then include_line_of arguments
    else None

-- an argument that is a gate by its beginning
abbrev pub is_gate : List ℕ → Bool
is_gate argument =
    is_some (after_prefix (codes "@since=") argument)
    || is_some (after_prefix (codes "@unstable=") argument)

-- the gate of a line whose last argument this is: `@since=` and a version, or `@unstable=` and a feature; one that looks like
-- a gate has to be one, any other says no gate
abbrev pub gate_of : List ℕ → Option Stability
gate_of last =
    option_map_or (λ version. option_map (λ since. Stable since None) (version_of version))
    (after_prefix (codes "@since=") last)
    (option_map_or (λ feature. option_map (λ name. Unstable name None) (part_of feature))
    (after_prefix (codes "@unstable=") last) (Some Unknown))

-- the last argument of a line
abbrev pub last_of : List (List ℕ) → Option (List ℕ)
last_of arguments = slice_get arguments (length arguments - 1)

-- the gate of a line of these arguments
abbrev pub gate_of_line : List (List ℕ) → Option Stability
gate_of_line arguments = option_map_or gate_of (last_of arguments) (Some Unknown)

-- the arguments of a line without its gate
abbrev pub ungated_of : List (List ℕ) → List (List ℕ)
ungated_of arguments =
    if option_map_or is_gate (last_of arguments) false
    then take (length arguments - 1) arguments
    else arguments
