-- What a world prints as.
use Rattle.std.specs.Prelude.{ℕ, List, [], ◌++◌, slice_get, codes, flat_map}
use Rattle.std.specs.Option.{option_map_or}
use Rattle.wit_graph_data.specs.declared.graph.Graph.{Graph}
use Rattle.wit_graph_data.specs.IdText.{id_text, interface_id_at, key_text}
use Rattle.wit_data.specs.declared.world.World.{World}
use Rattle.wit_data.specs.declared.world.WorldItem.{WorldItem}
use Rattle.wit_data.specs.declared.world.WorldKey.{WorldKey}
use Rattle.wit_data.specs.declared.world.WorldItem.TheVariants as item
use Rattle.wit_data.specs.declared.world.WorldKey.TheVariants as key

-- an entry: an interface key by its id text; under a label an interface with its id text where it is named
abbrev pub entry_text : Graph → WorldKey → WorldItem → List ℕ
entry_text g (key.Name label) (item.Interface id stability docs span external_id) =
    option_map_or (λ text. label ++ (codes " = " ++ text))
    (interface_id_at g.packages g.interfaces id) label
entry_text g (key.Name label) (item.Function function) = codes "func " ++ label
entry_text g (key.Name label) (item.Type_ id span) = codes "type " ++ label
entry_text g (key.Interface id) entry = key_text g.packages g.interfaces (key.Interface id)

-- the line of an entry: two spaces, `import` or `export`, a space, the entry
abbrev pub entry_line : Graph → List ℕ → WorldKey × WorldItem → List ℕ
entry_line g word entry =
    codes "  " ++ (word ++ (codes " " ++ (entry_text g entry.0 entry.1 ++ codes "\n")))

-- the id text of a world that has a package
abbrev pub world_id_text : Graph → World → List ℕ
world_id_text g world =
    option_map_or (λ owner. id_text g.packages owner world.name) world.package []

-- the id text of world w, where it is there and has a package
abbrev pub world_id_text_at : Graph → ℕ → List ℕ
world_id_text_at g w = option_map_or (world_id_text g) (slice_get g.worlds w) []

-- the lines of world w: its id text, its imports, its exports
abbrev pub world_text_at : Graph → ℕ → List ℕ
world_text_at g w =
    option_map_or (λ (world : World).
    codes "world " ++ (world_id_text g world ++ (codes "\n" ++
    (flat_map (entry_line g (codes "import")) world.imports
    ++ flat_map (entry_line g (codes "export")) world.exports))))
    (slice_get g.worlds w) []
