-- The texts of package names.
use Rattle.std.specs.Prelude.{ℕ, List, [], ◌∷◌, ◌++◌, Option, Some, None, IfSome, Bool, ◌&&◌, bytes_eq}
use Rattle.semver.specs.Grammar.{IsValid}
use Rattle.semver.specs.Identifiers.{parts_text}
use Rattle.wit_values.specs.Version.{Parts, version_cmp, version_eq}
use Rattle.wit_names.specs.declared.package_name.PackageName.{PackageName}
use Rattle.std.specs.Cmp.Lexicographic.{slice_cmp}
use Rattle.std.specs.Option.{option_cmp, option_eq}
use Rattle.std.specs.Ordering.{nat_cmp, on, then_cmp}
use Rattle.std.specs.declared.cmp.Ordering.{Ordering}

-- `@` and the version, where there is one
abbrev pub version_suffix : Option Parts → List ℕ
version_suffix None = []
version_suffix (Some version) = 64 ∷ parts_text version

-- `namespace:name`, and `@version` where there is one
abbrev pub package_name_text : PackageName → List ℕ
package_name_text p = p.namespace ++ (58 ∷ (p.name ++ version_suffix p.version))

-- the version, where there is one, is one of SemVer 2.0.0 with numbers of 64 bits
abbrev pub HasValidVersion : PackageName → Type 0
HasValidVersion p = IfSome p.version IsValid

-- The order of package names: by the namespace, then the name, then the version, a name without a version
-- first. Versions are ordered as SemVer 2.0.0 orders them, and then by their build metadata.

-- which of two names comes first
abbrev pub package_cmp : PackageName → PackageName → Ordering
package_cmp =
    then_cmp (on (λ (p : PackageName). p.namespace) (slice_cmp nat_cmp))
    (then_cmp (on (λ (p : PackageName). p.name) (slice_cmp nat_cmp))
    (on (λ (p : PackageName). p.version) (option_cmp version_cmp)))

-- two package names are the same
abbrev pub same_package : PackageName → PackageName → Bool
same_package a b =
    bytes_eq a.namespace b.namespace
    && (bytes_eq a.name b.name && option_eq version_eq a.version b.version)
