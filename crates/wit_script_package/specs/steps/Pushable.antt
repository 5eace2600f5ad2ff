-- What is asked of a package that lines built before it is pushed: what lines may break. All else of its shape they keep.
use Rattle.std.specs.Prelude.{IfSome}
use Rattle.wit_data.specs.Each.{Each, EachAt}
use Rattle.wit_names.specs.UsePath.{IsKebabName}
use Rattle.wit_data.specs.declared.interface.Interface.{Interface}
use Rattle.wit_data.specs.declared.unresolved.UnresolvedPackage.{UnresolvedPackage}
use Rattle.wit_data.specs.declared.world.World.{World}
use Rattle.wit_data.specs.steps.Parts.{IncludesEarlier}

-- names are kebab names, and a world includes earlier worlds, so not itself
pub record IsPushable (p : UnresolvedPackage) : Type 0 where
  pub namespace : IsKebabName p.name.namespace
  pub own : IsKebabName p.name.name
  pub interfaces : Each (λ (interface : Interface). IfSome interface.name IsKebabName) p.interfaces
  pub worlds : Each (λ (world : World). IsKebabName world.name) p.worlds
  pub includes : EachAt IncludesEarlier p.worlds
