-- What a test keeps of a list, in its order.
use Rattle.std.specs.Prelude.{ℕ, Bool, List, map, filter, if◌then◌else◌, zero, suc}
use Rattle.std.specs.List.{enumerate_from}

-- how many of the first i the test keeps
abbrev pub rank : (ℕ → Bool) → ℕ → ℕ
rank kept zero = zero
rank kept (suc i) = if kept i then suc (rank kept i) else rank kept i

-- what it keeps of a list, each with its index
abbrev pub selected_with_index : {X : Type 0} → (ℕ → Bool) → List X → List (ℕ × X)
selected_with_index kept xs = filter (λ e. kept e.0) (enumerate_from 0 xs)

-- what it keeps of a list
abbrev pub selected : {X : Type 0} → (ℕ → Bool) → List X → List X
selected kept xs = map (λ e. e.1) (selected_with_index kept xs)
