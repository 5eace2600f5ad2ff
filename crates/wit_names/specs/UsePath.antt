-- Kebab names and use paths, by which WIT names things (design/mvp/WIT.md of the component model).
use Rattle.std.specs.Prelude.{◌≡◌, ℕ, ◌==◌, ◌&&◌, ◌||◌, Bool, not, List, ◌∷◌, ◌++◌, length, slice_index, codes, IsTrue, Option, Some, None, if◌then◌else◌, option_map}
use Rattle.std.specs.Char.{is_ascii_alphabetic, is_ascii_digit, is_ascii_lowercase, is_ascii_uppercase}
use Rattle.std.specs.List.{list_all, list_any, slice_split, before_first, after_first}
use Rattle.std.specs.Result.{result_ok}
use Rattle.semver.specs.Parse.{version_parts}
use Rattle.wit_values.specs.Version.{Parts}
use Rattle.wit_names.specs.PackageName.{HasValidVersion, version_suffix}
use Rattle.wit_names.specs.declared.use_path.ParsedUsePath.{ParsedUsePath}
use Rattle.wit_names.specs.declared.use_path.ParsedUsePath.TheVariants.{Name, Package}
use Rattle.wit_names.specs.declared.use_path.UsePathFault.{UsePathFault}
use Rattle.wit_names.specs.declared.use_path.UsePathFault.TheVariants as fault

-- a word: lower case letters and digits, or upper case letters and digits, at least one
abbrev pub is_word : List ℕ → Bool
is_word word =
    not (length word == 0)
    && (list_all (λ b. is_ascii_lowercase b || is_ascii_digit b) word
    || list_all (λ b. is_ascii_uppercase b || is_ascii_digit b) word)

-- a kebab name: what stands between its dashes are words, and it begins with a letter
unfoldable pub is_kebab_name : List ℕ → Bool
is_kebab_name name =
    is_ascii_alphabetic (slice_index name 0) && list_all is_word (slice_split (λ b. b == 45) name)

-- the same, as a fact
abbrev pub IsKebabName : List ℕ → Type 0
IsKebabName name = IsTrue (is_kebab_name name)

-- what a use path says: a name alone, or `ns:pkg/name` or `ns:pkg/name@version`. Its names are kebab names, its version
-- is one of SemVer 2.0.0 with numbers of 64 bits, and nothing follows
abbrev pub IsUsePath : List ℕ → ParsedUsePath → Type 0
IsUsePath text (Name name) = IsKebabName name × (text ≡ name)
IsUsePath text (Package parent name) =
    IsKebabName parent.namespace × IsKebabName parent.name × IsKebabName name
    × HasValidVersion parent
    × (text
    ≡ parent.namespace ++ (58 ∷ (parent.name ++ (47 ∷ (name ++ version_suffix parent.version)))))

-- the version after the `@`, where there is an `@`; no reading where what follows it is no version
abbrev pub version_after : List ℕ → Option (Option Parts)
version_after tail =
    if list_any (λ b. b == 64) tail
    then option_map Some (result_ok (version_parts (after_first (λ b. b == 64) tail)))
    else Some None

-- the reading of what stands round the `:` and the `/` of a use path
abbrev pub package_path_of : List ℕ → List ℕ → List ℕ → Option ParsedUsePath
package_path_of namespace parent tail =
    let name = before_first (λ b. b == 64) tail in
    if is_kebab_name namespace && (is_kebab_name parent && is_kebab_name name)
    then option_map (λ version.
    Package (record { namespace = namespace; name = parent; version = version }) name)
    (version_after tail)
    else None

-- the reading of a text as a use path: what its grammar says, as `parse_use_path` ensures
unfoldable pub use_path_of : List ℕ → Option ParsedUsePath
use_path_of text =
    let rest = after_first (λ b. b == 58) text in
    if is_kebab_name text
    then Some (Name text)
    else package_path_of (before_first (λ b. b == 58) text) (before_first (λ b. b == 47) rest)
    (after_first (λ b. b == 47) rest)

-- what a fault says
abbrev pub use_path_fault_text : UsePathFault → List ℕ
use_path_fault_text fault.Invalid = codes "invalid use path"
use_path_fault_text fault.OutOfMemory = codes "out of memory"
