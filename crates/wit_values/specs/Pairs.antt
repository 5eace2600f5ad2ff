-- What contracts see of the pairs of a table.
use Rattle.std.specs.Prelude.{◌≡◌, ◌++◌, ℕ, Bool, List, remove, slice_get}
use Rattle.std.specs.Borrow.{Bor}
use Rattle.std.specs.Fn.{FnReturnsAt, Shared}
use Rattle.std.specs.List.{IsDistinct}
use Rattle.std.specs.Map.{keys_of}
use Rattle.std.specs.Option.{option_to_list}
use Rattle.wit_values.specs.declared.pairs.Pairs.{Pairs}
use Rattle.wit_values.specs.declared.pairs.Pairs.TheVariants.{Few, Many}

module _ {K V : Type 0} where
  -- the pairs, in order
  abbrev pub pairs_of : Pairs K V → List (K × V)
  pairs_of (Few pairs) = pairs.items
  pairs_of (Many map) = map.value.entries

  -- the keys differ: of few pairs it is said here, of many the map tells it
  abbrev pub HaveKeysApart : (K → K → Bool) → Pairs K V → Type 0
  HaveKeysApart test (Few pairs) = IsDistinct test (keys_of pairs.items)
  HaveKeysApart test (Many map) = Unit {0}

-- what stands at an index comes last
abbrev pub last_from : {X : Type 0} → List X → ℕ → List X
last_from xs i = remove xs i ++ option_to_list (slice_get xs i)

-- of each value a closure says what a test says
abbrev pub Tells : {F V : Type 0} → Shared F (Bor V × Unit {0}) Bool → F → (V → Bool) → Type 0
Tells {F} {V} g keep test = (v : V) (says : Bool) → FnReturnsAt g keep v says → says ≡ test v
