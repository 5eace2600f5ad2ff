-- A world that is included into another of a partially linked graph: what the graph is then.
use Rattle.std.specs.Prelude.{◌≡◌, ℕ, Bool, List, Some, slice_get, ◌++◌, map}
use Rattle.wit_data.specs.Entries.{Entry}
use Rattle.wit_data.specs.declared.world.IncludeName.{IncludeName}
use Rattle.wit_data.specs.declared.world.World.{World}
use Rattle.wit_graph_data.specs.declared.graph.Graph.{Graph}
use Rattle.wit_remap_spec.specs.Image.{Maps, entry_image, interface_image, type_image}
use Rattle.wit_link_spec.specs.Include.{belongs_to, copy_maps, is_copied, is_other_package, joined_entries}
use Rattle.wit_remap_spec.specs.Selected.{selected}

-- world `from` is included into world `into`, another one, of package `home`, under renamings
pub record Including (g : Graph) : Type 0 where
  pub from : ℕ
  pub old : World
  pub old_at : slice_get g.worlds from ≡ Some old
  pub into : ℕ
  pub host : World
  pub host_at : slice_get g.worlds into ≡ Some host
  pub apart : from ≡ into → ⊥
  pub home : ℕ
  pub host_home : host.package ≡ Some home
  pub names : List IncludeName

abbrev pub maps : (g : Graph) → Including g → Maps
maps g i = copy_maps g i.from i.old i.names i.into i.home

abbrev pub is_other : (g : Graph) → Including g → Bool
is_other g i = is_other_package i.old.package i.home

-- what is brought, and the lists that it joins
abbrev pub brought : (g : Graph) → Including g → List Entry → List Entry
brought g i entries = map (entry_image (maps g i) i.from) entries

abbrev pub joined_imports : (g : Graph) → Including g → List Entry
joined_imports g i = joined_entries (is_other g i) i.host.imports (brought g i i.old.imports)

abbrev pub joined_exports : (g : Graph) → Including g → List Entry
joined_exports g i = joined_entries (is_other g i) i.host.exports (brought g i i.old.exports)

abbrev pub joined_world : (g : Graph) → Including g → World
joined_world g i = record i.host { imports = joined_imports g i; exports = joined_exports g i }

-- the graph behind it: copies at the ends, and the world that includes with joined lists
pub record IsIncluded (g : Graph) (i : Including g) (new : Graph) : Type 0 where
  pub types_are : new.types
      ≡ g.types ++ map (type_image (maps g i)) (selected (is_copied g i.from i.old) g.types)
  pub interfaces_are : new.interfaces
      ≡ g.interfaces
      ++ map (interface_image (maps g i)) (selected (belongs_to g i.old) g.interfaces)
  pub joined_at : slice_get new.worlds i.into ≡ Some (joined_world g i)
  pub others : (w : ℕ) → (w ≡ i.into → ⊥) → slice_get new.worlds w ≡ slice_get g.worlds w
