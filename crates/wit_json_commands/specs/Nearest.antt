-- The known package whose name is nearest to one that isn't known.
use Rattle.std.specs.Prelude.{ℕ, ◌/◌, ◌||◌, ◌&&◌, Bool, List, ◌∷◌, ◌++◌, length, Option, Some, None, fold, if◌then◌else◌, nat_eq, nat_le, nat_lt}
use Rattle.std.specs.Str.{chars}
use Rattle.strsim.specs.Edits.{levenshtein_row}
use Rattle.wit_graph_data.specs.declared.error_kind.ResolveErrorKind.{ResolveErrorKind}
use Rattle.wit_graph_data.specs.declared.error_kind.ResolveErrorKind.TheVariants.{PackageNotFound}
use Rattle.wit_names.specs.PackageName.{package_name_text}
use Rattle.wit_names.specs.declared.package_name.PackageName.{PackageName}

-- how many characters must at least be inserted, deleted or replaced to make one text of another
abbrev pub edits : List ℕ → List ℕ → ℕ
edits from into = levenshtein_row nat_eq (chars from) (chars into) (length (chars into))

-- `namespace:name`, without the version
abbrev pub short_text : PackageName → List ℕ
short_text p = p.namespace ++ (58 ∷ p.name)

-- how far a name is from another: the edits without the versions, then those with them
abbrev pub distance : PackageName → PackageName → ℕ × ℕ
distance requested name = (
  edits (short_text requested) (short_text name),
  edits (package_name_text requested) (package_name_text name),
)

-- a distance is less than another
abbrev pub is_less : ℕ × ℕ → ℕ × ℕ → Bool
is_less a b = nat_lt a.0 b.0 || (nat_eq a.0 b.0 && nat_lt a.1 b.1)

-- a name is near: without the versions, at most a third of the characters of what is requested is edited
abbrev pub is_near : PackageName → PackageName → Bool
is_near requested name =
    nat_le (distance requested name).0 (length (chars (short_text requested)) / 3)

-- the nearest name so far, after one more: the first at the least distance
abbrev pub nearer : PackageName → Option PackageName → PackageName → Option PackageName
nearer requested None name = if is_near requested name then Some name else None
nearer requested (Some best) name =
    if is_near requested name && is_less (distance requested name) (distance requested best)
    then Some name
    else Some best

-- the nearest of some names, where one is near; none of a name that takes more than 100 bytes
abbrev pub nearest : PackageName → List PackageName → Option PackageName
nearest requested known =
    if nat_lt 100 (length (package_name_text requested)) then None
    else fold (nearer requested) None known

-- 1: the nearest of the known names; of other errors none
abbrev pub nearest_known : ResolveErrorKind → Option PackageName
nearest_known (PackageNotFound span requested known) = nearest requested known
nearest_known _ = None
