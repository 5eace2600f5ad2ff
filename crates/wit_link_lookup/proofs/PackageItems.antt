-- What a package has of the items that it names of other packages.
use Rattle.std.proofs.Common.{◌≡◌, ◌<◌, length}
use Rattle.wit_sources.specs.Span.{OptionalSpan}
use Rattle.wit_data.specs.Each.{SomeAt}
use Rattle.wit_data.specs.declared.interface.Interface.{Interface}
use Rattle.wit_data.specs.declared.unresolved.AstItem.{AstItem}
use Rattle.wit_data.specs.declared.unresolved.UnresolvedPackage.{UnresolvedPackage}
use Rattle.wit_data.specs.declared.world.World.{World}
use Rattle.wit_data.specs.declared.unresolved.AstItem.TheVariants as item

-- the package has the item
abbrev pub IsItemOf : UnresolvedPackage → AstItem → Type 0
IsItemOf u (item.Interface i) = i < length u.interfaces
IsItemOf u (item.World w) = w < length u.worlds

-- it has the item there
abbrev pub IsItemAt : UnresolvedPackage → AstItem → OptionalSpan → Type 0
IsItemAt u (item.Interface i) span = SomeAt u.interfaces i (λ (interface : Interface). span ≡ interface.span)
IsItemAt u (item.World w) span = SomeAt u.worlds w (λ (world : World). span ≡ world.span)
