-- What an elaborated world imports, by paths along uses.
use Rattle.std.specs.Prelude.{ℕ, ◌⊎◌, List, [], ◌∷◌, Contains, flat_map}
use Rattle.wit_data.specs.declared.types.TypeDef.{TypeDef}
use Rattle.wit_data.specs.declared.world.WorldKey.{WorldKey}
use Rattle.wit_data.specs.declared.world.WorldKey.TheVariants as key
use Rattle.wit_digraph.specs.Relation.{direct, Reaches}
use Rattle.wit_elaboration.specs.Entries.{Entry, Role, Instance, TypeUse, TypeDefinition, FreeFunction, ResourceFunction, role_of}
use Rattle.wit_elaboration.specs.steps.Parts.{exported_keys, exported_interfaces}

-- the exports need j from outside: an exported interface uses one that is not an exported key, and that reaches j
abbrev pub Needed : List (List ℕ) → List Entry → ℕ → Type 0
Needed uses exports j =
    (x : ℕ) × (d : ℕ) × Contains (exported_interfaces exports) x × Contains (direct uses x) d
    × (Contains (exported_keys exports) d → ⊥) × Reaches uses d j

-- where the imports of an entry begin: an interface under its own key, the uses of one under a label, the interface of a type use
abbrev pub roots_of : List (List ℕ) → WorldKey → Role → List ℕ
roots_of uses (key.Interface k) (Instance i) = i ∷ []
roots_of uses (key.Name label) (Instance i) = direct uses i
roots_of uses k (TypeUse i) = i ∷ []
roots_of uses k TypeDefinition = []
roots_of uses k FreeFunction = []
roots_of uses k ResourceFunction = []

-- the elaborated world imports j: the exports need it, or it is reached from where an import begins
abbrev pub IsImported : List TypeDef → List (List ℕ) → List Entry → List Entry → ℕ → Type 0
IsImported types uses imports exports j =
    Needed uses exports j
    ⊎ ((r : ℕ)
    × Contains (flat_map (λ (e : Entry). roots_of uses e.0 (role_of types e.1)) imports) r
    × Reaches uses r j)
