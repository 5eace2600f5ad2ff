-- The worlds of a package that are active, each with its includes, as they are added one after another.
use Rattle.std.specs.Prelude.{ℕ, List, map}
use Rattle.wit_sources.specs.Span.{moved_by}
use Rattle.wit_data.specs.declared.world.World.{World}
use Rattle.wit_data.specs.declared.world.WorldInclude.{WorldInclude}
use Rattle.wit_remap_spec.specs.Image.{world_image}
use Rattle.wit_link_spec.specs.Addition.{Addition, addition_maps, own_worlds, updated_includes}
use Rattle.wit_link_spec.specs.declared.addition.NewIds.{NewIds}
use Rattle.wit_remap.specs.steps.Movers.{goes}
use Rattle.wit_remap.specs.declared.worlds.UpdatedWorld.{UpdatedWorld}

-- an include with the id and the span that it has in the graph
abbrev pub include_at : NewIds → ℕ → WorldInclude → WorldInclude
include_at new_ids offset include =
    record include { id = goes new_ids.worlds include.id; span = moved_by offset include.span }

-- a world with such includes
abbrev pub world_with : NewIds → ℕ → UpdatedWorld → UpdatedWorld
world_with new_ids offset p = record p { includes = map (include_at new_ids offset) p.includes }

-- a world that is active, as it is added
abbrev pub ready_world : Addition → ℕ × World → UpdatedWorld
ready_world a e =
    record
    { id = e.0; world = world_image (addition_maps a) e.0 e.1; includes = updated_includes a e.1 }

-- all of them
abbrev pub ready_worlds : Addition → List UpdatedWorld
ready_worlds a = map (ready_world a) (own_worlds a)
