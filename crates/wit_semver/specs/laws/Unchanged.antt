-- What is the same of a thing that stays at its id while the imports of a world are merged by tracks.
use Rattle.std.specs.Prelude.{◌≡◌, ◌⊎◌, IsSome}
use Rattle.wit_data.specs.Uses.{alias_target}
use Rattle.wit_data.specs.declared.types.TypeDef.{TypeDef}
use Rattle.wit_data.specs.declared.types.TypeDefKind.{TypeDefKind}
use Rattle.wit_data.specs.declared.world.World.{World}

-- another name of a type
abbrev pub IsAlias : TypeDefKind → Type 0
IsAlias kind = IsSome (alias_target kind)

-- what a type is, but that another name of a type may have become one of another type
abbrev pub SameKind : TypeDefKind → TypeDefKind → Type 0
SameKind old new = (new ≡ old) ⊎ (IsAlias old × IsAlias new)

-- all of a type but what it names as an alias
abbrev pub SameButTarget : TypeDef → TypeDef → Type 0
SameButTarget old new = (new ≡ record old { kind = new.kind }) × SameKind old.kind new.kind

-- all of a world but its lists
abbrev pub SameButLists : World → World → Type 0
SameButLists old new = new ≡ record old { imports = new.imports; exports = new.exports }
