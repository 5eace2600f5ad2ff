-- What single tokens of a script say.
use Rattle.std.specs.Prelude.{ℕ, ◌-◌, List, length, take, drop, ◌==◌, nat_eq, nat_lt, Option, Some, None, Result, Ok, Err, option_and_then, codes, if◌then◌else◌, bytes_eq, option_map, [], ◌∷◌}
use Rattle.std.specs.List.{position_or_len, before_first, after_first, list_any, starts_with, ends_with}
use Rattle.semver.specs.Parse.{version_parts}
use Rattle.semver.specs.declared.error.Error.{Error}
use Rattle.wit_values.specs.Version.{Parts}
use Rattle.wit_names.specs.UsePath.{use_path_of}
use Rattle.wit_names.specs.declared.package_name.PackageName.{PackageName}
use Rattle.wit_names.specs.declared.use_path.ParsedUsePath.{ParsedUsePath}
use Rattle.wit_data.specs.declared.types.Type_.{Type_}
use Rattle.wit_data.specs.declared.types.Type_.TheVariants as type
use Rattle.wit_names.specs.declared.use_path.ParsedUsePath.TheVariants.{Name}

-- a part of a line, which has at least one byte
abbrev pub part_of : List ℕ → Option (List ℕ)
part_of text = if length text == 0 then None else Some text

-- what stands before and after the first of a byte, where there is one
abbrev pub split_at : ℕ → List ℕ → Option (List ℕ × List ℕ)
split_at byte token =
    if nat_lt (position_or_len (λ b. b == byte) token) (length token)
    then Some (before_first (λ b. b == byte) token, after_first (λ b. b == byte) token)
    else None

-- what was read, where it was read
abbrev pub read_part : Result Parts Error → Option Parts
read_part (Ok parts) = Some parts
read_part (Err e) = None

-- the version that a text is by the `semver` crate, with numbers of 64 bits
abbrev pub version_of : List ℕ → Option Parts
version_of text = read_part (version_parts text)

-- a package of these parts
abbrev pub package_with : List ℕ → List ℕ → Option Parts → Option PackageName
package_with namespace name version =
    option_and_then (λ (space : List ℕ).
    option_map
    (λ (own : List ℕ). record { namespace = space; name = own; version = version })
    (part_of name)) (part_of namespace)

-- `name` or `name@version` after a namespace; the name ends at the first `@`
abbrev pub name_after : List ℕ → List ℕ → Option PackageName
name_after namespace rest =
    if nat_lt (position_or_len (λ b. b == 64) rest) (length rest)
    then option_and_then
    (λ version. package_with namespace (before_first (λ b. b == 64) rest) (Some version))
    (version_of (after_first (λ b. b == 64) rest))
    else package_with namespace rest None

-- `namespace:name` or `namespace:name@version`; the namespace ends at the first colon
abbrev pub package_name_of : List ℕ → Option PackageName
package_name_of token =
    if nat_lt (position_or_len (λ b. b == 58) token) (length token)
    then name_after (before_first (λ b. b == 58) token) (after_first (λ b. b == 58) token)
    else None

-- a name of the same package, or a use path, which has a colon and names something foreign even where it names the package
-- itself
abbrev pub path_of : List ℕ → Option ParsedUsePath
path_of token =
    if list_any (λ b. b == 58) token then use_path_of token else option_map Name (part_of token)

-- a primitive type in WIT's spelling
abbrev pub primitive_of : List ℕ → Option Type_
primitive_of token =
    if bytes_eq token (codes "bool") then Some type.Bool
    else if bytes_eq token (codes "u8") then Some type.U8
    else if bytes_eq token (codes "u16") then Some type.U16
    else if bytes_eq token (codes "u32") then Some type.U32
    else if bytes_eq token (codes "u64") then Some type.U64
    else if bytes_eq token (codes "s8") then Some type.S8
    else if bytes_eq token (codes "s16") then Some type.S16
    else if bytes_eq token (codes "s32") then Some type.S32
    else if bytes_eq token (codes "s64") then Some type.S64
    else if bytes_eq token (codes "f32") then Some type.F32
    else if bytes_eq token (codes "f64") then Some type.F64
    else if bytes_eq token (codes "char") then Some type.Char
    else if bytes_eq token (codes "string") then Some type.String
    else if bytes_eq token (codes "error-context") then Some type.ErrorContext
    else None

-- what follows a word at the beginning of a text
abbrev pub after_prefix : List ℕ → List ℕ → Option (List ℕ)
after_prefix word text =
    if starts_with nat_eq text word then Some (drop (length word) text) else None

-- what stands inside `WORD<..>`; the word is given with its `<`
abbrev pub inside : List ℕ → List ℕ → Option (List ℕ)
inside opening text =
    option_and_then (λ rest.
    if ends_with nat_eq rest (codes ">") then Some (take (length rest - 1) rest) else None)
    (after_prefix opening text)

-- a line without arguments
abbrev pub alone_of : {A : Type 0} → A → List (List ℕ) → Option A
alone_of said [] = Some said
alone_of said (argument ∷ arguments) = None

-- a line with one argument, which is read so
abbrev pub only_of : {A : Type 0} → (List ℕ → Option A) → List (List ℕ) → Option A
only_of read (argument ∷ []) = read argument
only_of read _ = None
