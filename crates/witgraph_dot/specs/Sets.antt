-- Lists of ids as sets.
use Rattle.std.specs.Prelude.{ℕ, Bool, List, filter, nat_eq, not}
use Rattle.std.specs.List.{list_all, list_any}

-- it is one of them
abbrev pub is_one_of : List ℕ → ℕ → Bool
is_one_of others i = list_any (nat_eq i) others

-- each is one of them
abbrev pub are_among : List ℕ → List ℕ → Bool
are_among is others = list_all (is_one_of others) is

-- those that aren't among others
abbrev pub without : List ℕ → List ℕ → List ℕ
without is others = filter (λ i. not (is_one_of others i)) is

-- those that are
abbrev pub intersection : List ℕ → List ℕ → List ℕ
intersection is others = filter (is_one_of others) is
