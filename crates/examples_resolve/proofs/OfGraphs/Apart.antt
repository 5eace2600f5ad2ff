-- What tells outcomes apart.
use Rattle.std.proofs.Common.{◌≡◌, false, List, ℕ, None, Some}
use Rattle.std.specs.Str.{bytes_eq}
use Rattle.wit_graph_theory.specs.facts.OptionFacts.{some_same}
use Rattle.wit_values.specs.facts.Lists.{differ}

-- texts that are there and that a test tells apart are different
pub some_differ : (a b : List ℕ) → bytes_eq a b ≡ false → Some a ≡ Some b → ⊥
some_differ a b other same = differ a b other (some_same a b same)

-- what is there isn't none
pub there : (a : List ℕ) → Some a ≡ None → ⊥
there a same = cc

pub not_there : (a : List ℕ) → None ≡ Some a → ⊥
not_there a same = cc
