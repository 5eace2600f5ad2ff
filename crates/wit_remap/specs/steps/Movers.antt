-- What the things of a package are remapped to, as maps.
use Rattle.std.specs.Prelude.{ℕ, List, Option, None, Some, slice_get, unwrap_or}
use Rattle.wit_remap_spec.specs.Image.{Maps}
use Rattle.wit_link_spec.specs.declared.addition.NewIds.{NewIds}
use Rattle.wit_remap.specs.declared.mover.Mover.{Mover}

-- the id that is there, or else the old one
abbrev pub id_or : ℕ → Option (Option ℕ) → ℕ
id_or old None = old
id_or old (Some None) = old
id_or old (Some (Some new)) = new

-- what an id is remapped to by a list of new ids: one that isn't remapped stays
abbrev pub goes : List (Option ℕ) → ℕ → ℕ
goes new_ids id = id_or id (slice_get new_ids id)

-- the maps by such lists
abbrev pub maps_with : NewIds → List ℕ → ℕ → ℕ → Maps
maps_with new_ids values home offset = record {
  types = goes new_ids.types;
  values = λ t. unwrap_or (slice_get values t) t;
  interfaces = goes new_ids.interfaces;
  worlds = goes new_ids.worlds;
  home = λ p. Some home;
  labels = λ w name. name;
  offset = offset;
}

-- the maps that a mover stands for
abbrev pub maps_of : Mover → Maps
maps_of m = maps_with m.new_ids.now m.values.now m.«package» m.offset
