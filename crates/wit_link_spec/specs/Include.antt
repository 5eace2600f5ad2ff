-- What an `include` makes of a world: the entries of the included world join its own, those under labels
-- as copies with fresh ids, so that no two worlds have a type or an interface without a name in common.
-- Source: the WIT page of the component model, "include"; `resolve_include` of wit-parser 0.263.0. What is
-- copied is a rule of this project.
use Rattle.wit_remap_spec.specs.Joined.{joined_entry}
use Rattle.std.specs.Prelude.{ℕ, ◌+◌, ◌&&◌, ◌||◌, Bool, not, true, false, List, [], ◌∷◌, ◌++◌, map, filter, fold, length, nat_eq, is_some, slice_get, Option, Some, if◌then◌else◌, flat_map}
use Rattle.std.specs.List.{list_any}
use Rattle.std.specs.Option.{option_eq, option_map_or}
use Rattle.wit_digraph.specs.PostOrder.{post_order}
use Rattle.wit_data.specs.Entries.{Entry, interfaces_in_worlds, is_unnamed}
use Rattle.wit_data.specs.Kind.{function_references, type_references}
use Rattle.wit_data.specs.declared.function.Function.{Function}
use Rattle.wit_data.specs.declared.world.IncludeName.{IncludeName}
use Rattle.wit_data.specs.declared.interface.Interface.{Interface}
use Rattle.wit_data.specs.declared.types.TypeDef.{TypeDef}
use Rattle.wit_data.specs.declared.types.TypeOwner.{TypeOwner}
use Rattle.wit_data.specs.declared.world.World.{World}
use Rattle.wit_data.specs.declared.world.WorldInclude.{WorldInclude}
use Rattle.wit_data.specs.declared.world.WorldItem.{WorldItem}
use Rattle.wit_data.specs.declared.world.WorldKey.{WorldKey}
use Rattle.wit_data.specs.declared.stability.Stability.TheVariants.{Unknown, Stable}
use Rattle.wit_data.specs.declared.types.TypeOwner.TheVariants as owner
use Rattle.wit_data.specs.declared.world.WorldItem.TheVariants as item
use Rattle.wit_data.specs.declared.world.WorldKey.TheVariants as key
use Rattle.wit_elaboration.specs.Entries.{same_key}
use Rattle.wit_graph_data.specs.declared.graph.Graph.{Graph}
use Rattle.wit_remap_spec.specs.Image.{Maps, entry_image, interface_image, type_image}
use Rattle.wit_remap_spec.specs.Selected.{rank, selected}
use Rattle.wit_labels.specs.Rename.{renamed_label}

-- the two lists of a world
pub record EntryLists : Type 0 where
  pub imports : List Entry
  pub exports : List Entry

abbrev pub lists_of : World → EntryLists
lists_of world = record { imports = world.imports; exports = world.exports }

-- a world with these lists
abbrev pub with_entry_lists : World → EntryLists → World
with_entry_lists world lists = record world { imports = lists.imports; exports = lists.exports }

-- ---- what is copied
--
--     world base { import x: interface { type u = u8 }; type t = u32; import f: func(p: list<t>) -> list<u8> }
--
--     types       0 t         world 0        copied: it is of base
--                 1 list<0>   no owner       copied: it has no name, and is on the way from f to t
--                 2 u         interface 0    copied: it is of an interface without a name that stands in base
--                 3 list<u8>  no owner       stays: f names it, but nothing of base is reached from it
--     interfaces  0 no name   (x)            copied
--
-- An interface with a name, and its types, are never copied.
-- (`once` of `ExamplesOfIncludedWorlds` in examples_graph proves the whole graph)

-- does interface i belong to the world? It has no name and stands in it
abbrev pub belongs_to : Graph → World → ℕ → Bool
belongs_to g world i =
    is_unnamed g.interfaces i && list_any (nat_eq i) (interfaces_in_worlds (world ∷ []))

-- an owner belongs to world w: it is that world, or an interface that belongs to it
abbrev pub owner_belongs_to : Graph → ℕ → World → TypeOwner → Bool
owner_belongs_to g w world (owner.World v) = nat_eq v w
owner_belongs_to g w world (owner.Interface i) = belongs_to g world i
owner_belongs_to g w world owner.None = false

-- does type t belong to world w? Its owner does
abbrev pub is_owned_within : Graph → ℕ → World → ℕ → Bool
is_owned_within g w world t =
    option_map_or (λ (def : TypeDef). owner_belongs_to g w world def.owner) (slice_get g.types t)
    false

-- the types that an entry names: itself where it is a type, those that its function refers to, those that an interface
-- which belongs to the world lists and that its functions refer to
abbrev pub entry_mentions : Graph → World → Entry → List ℕ
entry_mentions g world (k, item.Interface i stability docs span external_id) =
    if belongs_to g world i
    then option_map_or (λ (interface : Interface).
    map (λ (e : List ℕ × ℕ). e.1) interface.types
    ++ flat_map (λ (e : List ℕ × Function). function_references e.1) interface.functions)
    (slice_get g.interfaces i) []
    else []
entry_mentions g world (k, item.Function f) = function_references f
entry_mentions g world (k, item.Type_ t span) = t ∷ []

-- what is reached from the types that the world's entries name
abbrev pub named_types : Graph → World → List ℕ
named_types g world =
    flat_map (post_order (type_references g.types))
    (flat_map (entry_mentions g world) (world.imports ++ world.exports))

-- has type t no name?
abbrev pub is_unnamed_type : Graph → ℕ → Bool
is_unnamed_type g t =
    option_map_or (λ (def : TypeDef). not (is_some def.name)) (slice_get g.types t) false

-- does an include of world w copy type t? It belongs to the world; or it has no name and is on a way from what an entry
-- names to a type that belongs to the world: it is reached from the one, and the other from it
abbrev pub is_copied : Graph → ℕ → World → ℕ → Bool
is_copied g w world t =
    is_owned_within g w world t
    || (is_unnamed_type g t
    && (list_any (nat_eq t) (named_types g world)
    && list_any (is_owned_within g w world) (post_order (type_references g.types) t)))

-- what a type is remapped to: one that is copied to its copy, behind what is there in the order of the ids; all else stays
abbrev pub type_copy : Graph → ℕ → World → ℕ → ℕ
type_copy g w world t =
    if is_copied g w world t then length g.types + rank (is_copied g w world) t else t

-- the maps of an include of world `from` into world `into` of package `home`, under these renamings: what is copied goes
-- to its copy, values plainly (no `own` is made), labels are renamed
abbrev pub copy_maps : Graph → ℕ → World → List IncludeName → ℕ → ℕ → Maps
copy_maps g from world names into home = record {
  types = type_copy g from world;
  values = type_copy g from world;
  interfaces =
      λ i. if belongs_to g world i then length g.interfaces + rank (belongs_to g world) i else i;
  worlds = λ w. if nat_eq w from then into else w;
  home = λ p. Some home;
  labels = λ w name. if nat_eq w from then renamed_label names name else name;
  offset = 0;
}

-- the graph with the copies at its ends
abbrev pub with_copies : Graph → ℕ → World → Maps → Graph
with_copies g from world m = record g {
  types = g.types ++ map (type_image m) (selected (is_copied g from world) g.types);
  interfaces = g.interfaces ++ map (interface_image m) (selected (belongs_to g world) g.interfaces);
}

-- an entry that comes anew: under the key of an interface a `@since` of another package is dropped
abbrev pub new_item : Bool → WorldKey → WorldItem → WorldItem
new_item true (key.Interface k) (item.Interface i (Stable since deprecated) docs span external_id) =
    item.Interface i Unknown docs span external_id
new_item other k held = held

-- a list with brought entries added to it: those that were there stay in front
abbrev pub joined_entries : Bool → List Entry → List Entry → List Entry
joined_entries other current brought =
    map (joined_entry other brought) current
    ++ map (λ (e : Entry). (e.0, new_item other e.0 e.1)) (filter
    (λ (e : Entry). not (list_any (λ (there : Entry). same_key e.0 there.0) current))
    brought)

-- ---- the include

-- a partially linked graph, and the lists of the world that comes next
pub record PartiallyLinked : Type 0 where
  pub graph : Graph
  pub lists : EntryLists

-- is the included world of another package?
abbrev pub is_other_package : Option ℕ → ℕ → Bool
is_other_package there home = not (option_eq nat_eq there (Some home))

-- with world `from` included into world `into` of package `home`
abbrev pub with_world_included : ℕ → ℕ → List IncludeName → ℕ → World → PartiallyLinked
    → PartiallyLinked
with_world_included home into names from world b =
    let m = copy_maps b.graph from world names into home in
    record {
      graph = with_copies b.graph from world m;
      lists = record {
        imports = joined_entries (is_other_package world.package home) b.lists.imports
            (map (entry_image m from) world.imports);
        exports =
            joined_entries (is_other_package world.package home) b.lists.exports
            (map (entry_image m from) world.exports);
      };
    }

-- a world of package `home` that comes next in a graph, with these includes, one after another; one of a world that isn't
-- there changes nothing
abbrev pub with_several : ℕ → Graph → World → List WorldInclude → PartiallyLinked
with_several home g world includes =
    fold (λ (b : PartiallyLinked) (i : WorldInclude).
    option_map_or
    (λ (old : World). with_world_included home (length b.graph.worlds) i.names i.id old b)
    (slice_get b.graph.worlds i.id) b)
    (record { graph = g; lists = lists_of world }) includes
