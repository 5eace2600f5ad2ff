-- When a world can't import what it must, by paths along uses.
-- Source: the documentation of `elaborate_world_exports` of wit-parser 0.263.0. Here only keys that
-- are interfaces can be in conflict, and the refused name is that of the first export that reaches
-- the conflict.
use Rattle.std.specs.Prelude.{ℕ, ◌≡◌, Bool, List, nat_eq, Contains}
use Rattle.std.specs.List.{list_any}
use Rattle.wit_data.specs.Each.{First}
use Rattle.wit_data.specs.declared.interface.Interface.{Interface}
use Rattle.wit_data.specs.declared.world.WorldKey.{WorldKey}
use Rattle.wit_digraph.specs.Relation.{direct, Reaches}
use Rattle.wit_graph_data.specs.declared.graph.Package.{Package}
use Rattle.wit_elaboration.specs.Entries.{Entry, item_interface, keyed_interfaces}
use Rattle.wit_graph_data.specs.IdText.{key_text}
use Rattle.wit_data.specs.Entries.{interfaces_of_entries}

-- ---- exports

-- is interface i exported under its own key?
abbrev pub is_exported : List Entry → ℕ → Bool
is_exported exports i = list_any (nat_eq i) (keyed_interfaces exports)

-- ---- conflict
--
--        exported          no exported key       exported key
--           C  -----uses----->  B  -----reaches---->  A
--
-- C needs B from outside, so the world imports B; B needs A from outside too, but A is what the world itself exports. A
-- component of this world would see two copies of A, one imported and one its own, and C would mix them
-- (https://github.com/WebAssembly/component-model/issues/208), so the world is refused.
-- It is no conflict if B is an exported key as well, if A is exported under a label alone (an interface under a label
-- is another instance, which nothing that uses A means), or if A or C isn't exported.

-- as B: d is no exported key, and reaches one
abbrev pub IsBetween : List (List ℕ) → List Entry → ℕ → Type 0
IsBetween uses exports d =
    (Contains (keyed_interfaces exports) d → ⊥) × (a : ℕ) × Reaches uses d a
    × Contains (keyed_interfaces exports) a

-- some exported interface uses directly one that is between
abbrev pub HasTransitiveConflict : List (List ℕ) → List Entry → Type 0
HasTransitiveConflict uses exports =
    (c : ℕ) × (b : ℕ) × Contains (interfaces_of_entries exports) c × Contains (direct uses c) b
    × IsBetween uses exports b

-- the interface of this entry leads to a conflict: in one step or more it reaches one that is between
abbrev pub IsEntryInConflict : List (List ℕ) → List Entry → Entry → Type 0
IsEntryInConflict uses exports e =
    (i : ℕ) × Contains (item_interface e.1) i
    × ((j : ℕ) × (b : ℕ) × Contains (direct uses i) j × Reaches uses j b
    × IsBetween uses exports b)

-- the refused key is that of the first export that leads to the conflict
abbrev pub IsRefusedKey : List (List ℕ) → List Entry → WorldKey → Type 0
IsRefusedKey uses exports k =
    (e : Entry) × First (IsEntryInConflict uses exports) exports e × (k ≡ e.0)

-- the refused name: the key as it is named
abbrev pub IsRefusedName : List Package → List Interface → List (List ℕ) → List Entry → List ℕ
    → Type 0
IsRefusedName packages interfaces uses exports name =
    (k : WorldKey) × IsRefusedKey uses exports k × (name ≡ key_text packages interfaces k)
