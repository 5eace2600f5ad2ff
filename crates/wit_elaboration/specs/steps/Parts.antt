-- Parts of the definitions under names of their own, for contracts of inner functions and for proofs. Each is what stands
-- in a definition in its place, so none has to be believed.
use Rattle.std.specs.Prelude.{ℕ, List, [], ◌∷◌, Option, filter, nat_eq, Bool, map, Contains, flat_map, ◌++◌, codes}
use Rattle.wit_data.specs.declared.types.TypeDef.{TypeDef}
use Rattle.wit_data.specs.declared.world.WorldItem.{WorldItem}
use Rattle.wit_data.specs.Entries.{Entry}
use Rattle.wit_elaboration.specs.declared.role.Role.{Role}
use Rattle.wit_elaboration.specs.declared.role.Role.TheVariants.{Instance, TypeUse, TypeDefinition, FreeFunction, ResourceFunction}
use Rattle.wit_elaboration.specs.Elaborated.{InheritedData, dependencies_before, dependency_of, export_needs}
use Rattle.wit_elaboration.specs.Entries.{elaboration_class, role_of, is_instance, item_interface, keyed_interfaces}
use Rattle.wit_digraph.specs.Relation.{direct, Reaches}
use Rattle.wit_elaboration.specs.Imported.{IsBetween}
use Rattle.wit_graph_data.specs.Queries.{package_uses}
use Rattle.wit_graph_data.specs.declared.graph.Graph.{Graph}
use Rattle.std.specs.Option.{option_map_or}

-- what a type is to elaboration: another name of a type that an interface owns, or a type that the world defines
abbrev pub type_role : Option ℕ → Role
type_role o = option_map_or TypeUse o TypeDefinition

-- what a function is, of a resource or of none
abbrev pub function_role : Option ℕ → Role
function_role o = option_map_or (λ resource. ResourceFunction) o FreeFunction

-- the entries of one class, in their order
abbrev pub of_class : List TypeDef → ℕ → List Entry → List Entry
of_class types class entries =
    filter (λ (e : Entry). nat_eq (elaboration_class (role_of types e.1)) class) entries

-- an entry, changed so, and before it those of what it needs
abbrev pub entry_post_order : List TypeDef → List (List ℕ) → (WorldItem → InheritedData)
    → (WorldItem → WorldItem) → Entry → List Entry
entry_post_order types uses carries change e =
    map (dependency_of (carries e.1)) (dependencies_before uses (role_of types e.1))
    ++ (e.0, change e.1) ∷ []

-- what the interface of an entry needs
abbrev pub interface_needs : List (List ℕ) → Entry → List ℕ
interface_needs uses e = flat_map (λ i. dependencies_before uses (Instance i)) (item_interface e.1)

-- an export, and before it what it needs of what a test picks
abbrev pub export_with_needs : List (List ℕ) → (ℕ → Bool) → Entry → List Entry
export_with_needs uses picks e = export_needs uses picks e ++ e ∷ []

-- is the entry an interface, under a label or under its own key?
abbrev pub is_interface : Entry → Bool
is_interface e = is_instance e.1

-- the interfaces that are exported under their own keys
abbrev pub exported_keys : List Entry → List ℕ
exported_keys exports = keyed_interfaces exports

-- all exported interfaces, under labels or under their own keys
abbrev pub exported_interfaces : List Entry → List ℕ
exported_interfaces exports = flat_map (λ (e : Entry). item_interface e.1) exports

-- in one step or more, i reaches one that is between
abbrev pub LeadsToConflict : List (List ℕ) → List Entry → ℕ → Type 0
LeadsToConflict uses exports i =
    (j : ℕ) × (b : ℕ) × Contains (direct uses i) j × Reaches uses j b × IsBetween uses exports b

-- which package of a graph depends on which
abbrev pub graph_package_uses : Graph → List (List ℕ)
graph_package_uses g = package_uses g.types g.interfaces g.worlds g.packages

-- 22: the message of a cycle of interfaces
abbrev pub interface_cycle_text : List ℕ → List ℕ
interface_cycle_text id = codes "interface `" ++ (id ++ codes "` would depend on itself")

-- 23: the message of a cycle of types
abbrev pub type_cycle_text : List ℕ → List ℕ
type_cycle_text name = codes "type `" ++ (name ++ codes "` would refer to itself")
