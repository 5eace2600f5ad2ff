-- What stands in a world under the ids of interfaces.
use Rattle.std.specs.Prelude.{ℕ, List, [], Option}
use Rattle.std.specs.Option.{option_map_or}
use Rattle.wit_elaboration.specs.Entries.{keyed_interfaces}
use Rattle.wit_data.specs.declared.world.World.{World}

-- the interfaces that a world imports under their own ids
abbrev pub own_imports : Option World → List ℕ
own_imports world = option_map_or (λ (there : World). keyed_interfaces there.imports) world []

-- those that it exports so
abbrev pub own_exports : Option World → List ℕ
own_exports world = option_map_or (λ (there : World). keyed_interfaces there.exports) world []
