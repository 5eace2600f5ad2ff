-- What is noted of which other packages a package names interfaces and worlds.
use Rattle.std.specs.Prelude.{◌≡◌, ℕ, suc, Bool, List, [], ◌∷◌, Option, Some, None, find, option_map, if◌then◌else◌, nat_eq}
use Rattle.std.specs.Map.{lookup}
use Rattle.std.specs.Option.{option_or}
use Rattle.wit_data.specs.Foreign.{ForeignItem, ForeignItems}
use Rattle.wit_data.specs.declared.unresolved.AstItem.{AstItem}
use Rattle.wit_data.specs.declared.unresolved.AstItem.TheVariants as item
use Rattle.wit_data.specs.declared.unresolved.UnresolvedPackage.{UnresolvedPackage}
use Rattle.wit_names.specs.declared.package_name.PackageName.{PackageName}
use Rattle.wit_ways.specs.Packages.{names_item}
use Rattle.wit_ways.specs.declared.foreign_home.ForeignHomes.{ForeignHomes}

-- the place that is noted of an item
abbrev pub home_place : ForeignHomes → AstItem → Option ℕ
home_place homes (item.Interface id) = lookup (nat_eq id) homes.interfaces.entries
home_place homes (item.World id) = lookup (nat_eq id) homes.worlds.entries

-- what is noted, or else this place, where it is that of the item
abbrev pub or_place : Option ℕ → Bool → ℕ → Option ℕ
or_place noted is place = option_or noted (if is then Some place else None)

-- the place of the first of some packages of which an item is named
abbrev pub place_in : AstItem → ForeignItems → Option ℕ
place_in it [] = None
place_in it (e ∷ deps) = if names_item it e.1 then Some 0 else option_map suc (place_in it deps)

-- of each item its place is noted
abbrev pub AreHomes : UnresolvedPackage → ForeignHomes → Type 0
AreHomes p homes = (it : AstItem) → home_place homes it ≡ place_in it p.foreign_deps

-- the first of some packages of which an item is named
abbrev pub first_home : AstItem → ForeignItems → Option PackageName
first_home it deps =
    option_map (λ (e : PackageName × List ForeignItem). e.0)
    (find (λ (e : PackageName × List ForeignItem). names_item it e.1) deps)
