-- How the futures and streams of a function are told: a type after another is taken off a stack, told
-- where it is one, and gives way to the types that its values hold. What is told comes last first.
use Rattle.std.specs.Prelude.{◌≡◌, ◌<◌, ℕ, List, [], ◌∷◌, ◌++◌, All, Contains, filter, length, nat_lt, reverse, flat_map}
use Rattle.wit_digraph.specs.Relation.{direct}
use Rattle.wit_digraph.specs.PostOrder.{first_of_each, post_order}
use Rattle.wit_data.specs.declared.types.TypeDef.{TypeDef}
use Rattle.wit_graph_data.specs.steps.Parts.{is_future}

-- the futures and streams that the values of type t hold, as rows tell what they hold: those inside others
-- before them, with repeats
abbrev pub futures_of : List TypeDef → List (List ℕ) → ℕ → List ℕ
futures_of types held t = filter (is_future types) (post_order held t)

-- the types of an order that are not marked hold neither futures nor streams
abbrev pub OthersHoldNone : List TypeDef → List (List ℕ) → List ℕ → List ℕ → Type 0
OthersHoldNone types held order marked =
    (t : ℕ) → Contains order t → (Contains marked t → ⊥) → futures_of types held t ≡ []

-- that stays so where the order goes on with a type whose parts are in it
abbrev pub KeepsOthers : List TypeDef → List (List ℕ) → List ℕ → List ℕ → ℕ → Type 0
KeepsOthers types held old new t =
    (order : List ℕ) → All (Contains order) (direct held t) → OthersHoldNone types held order old
    → OthersHoldNone types held (order ++ t ∷ []) new

-- the places of a list that are there
abbrev pub places_within : ℕ → List ℕ → List ℕ
places_within count places = filter (λ t. nat_lt t count) places
