-- What is the same of a thing that stays at its id while graphs are added and merged.
use Rattle.std.specs.Prelude.{◌≡◌, ℕ, List, ◌++◌}
use Rattle.wit_data.specs.declared.function.Function.{Function}
use Rattle.wit_data.specs.declared.interface.Interface.{Interface}
use Rattle.wit_data.specs.declared.types.TypeDef.{TypeDef}
use Rattle.wit_data.specs.declared.world.World.{World}
use Rattle.wit_graph_data.specs.declared.graph.Package.{Package}

-- all of a type but its stability
abbrev pub SameType : TypeDef → TypeDef → Type 0
SameType old new = new ≡ record old { stability = new.stability }

-- of an interface its name and its package, and in front of its lists what they had
pub record SameInterface (old new : Interface) : Type 0 where
  pub name : new.name ≡ old.name
  pub home : new.package ≡ old.package
  pub types : (more : List (List ℕ × ℕ)) × (new.types ≡ old.types ++ more)
  pub functions : (more : List (List ℕ × Function)) × (new.functions ≡ old.functions ++ more)

-- of a world its package: one that is transformed has another name and other lists
abbrev pub SameHome : World → World → Type 0
SameHome old new = new.package ≡ old.package

-- of a package its name, and in front of its interfaces what it had
abbrev pub SamePackage : Package → Package → Type 0
SamePackage old new =
    (new.name ≡ old.name) × ((more : List (List ℕ × ℕ)) × (new.interfaces ≡ old.interfaces ++ more))
