-- What tells transformed worlds apart.
use Rattle.std.proofs.Common.{ℕ, List, [], length, slice_get}
use Rattle.std.specs.Option.{option_map_or}
use Rattle.wit_data.specs.declared.world.World.{World}
use Rattle.wit_data.specs.declared.world.WorldItem.{WorldItem}
use Rattle.wit_data.specs.declared.world.WorldItem.TheVariants as item
use Rattle.wit_elaboration.specs.Entries.{Entry}
use Rattle.wit_graph_data.specs.declared.graph.Graph.{Graph}

-- the imports of world 0
abbrev pub first_imports : Graph → List Entry
first_imports g = option_map_or (λ (world : World). world.imports) (slice_get g.worlds 0) []

-- how many there are
abbrev pub import_count : Graph → ℕ
import_count g = length (first_imports g)

-- how many parameters functions among them have
abbrev pub params_of : WorldItem → ℕ
params_of (item.Interface i stability docs span external_id) = 0
params_of (item.Function f) = length f.params
params_of (item.Type_ t span) = 0

abbrev pub first_params : Graph → ℕ
first_params g = option_map_or (λ (e : Entry). params_of e.1) (slice_get (first_imports g) 0) 99
