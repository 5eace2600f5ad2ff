-- What is in a set once a number was put there.
use Rattle.std.proofs.Common.{◌≡◌, ◌∙◌, ℕ, Bool, true, false, not, List, [], ◌∷◌, ◌++◌, nat_eq, refl, ap, Contains, if◌then◌else◌}
use Rattle.std.specs.List.{list_any}
use Rattle.wit_digraph.specs.facts.FreshFacts.{contains_from_any}

from_not : (b r : Bool) → r ≡ not b → r ≡ true → b ≡ false
from_not true r is h = cc
from_not false r is h = refl

from_yes : (b r : Bool) → r ≡ not b → r ≡ false → b ≡ true
from_yes true r is h = refl
from_yes false r is h = cc

module _ (keys new : List ℕ) (p : ℕ) (added : Bool) (is : added ≡ not (list_any (nat_eq p) keys)) (are : new ≡ (if list_any (nat_eq p) keys then keys else keys ++ p ∷ [])) where
  -- one that is new
  pub insert-new : added ≡ true → new ≡ keys ++ p ∷ []
  insert-new h = are ∙ ap (λ (b : Bool). if b then keys else keys ++ p ∷ []) (from_not (list_any (nat_eq p) keys) added is h)

  -- one that is there
  pub insert-same : added ≡ false → new ≡ keys
  insert-same h = are ∙ ap (λ (b : Bool). if b then keys else keys ++ p ∷ []) (from_yes (list_any (nat_eq p) keys) added is h)

  pub insert-known : added ≡ false → Contains keys p
  insert-known h = contains_from_any p keys (from_yes (list_any (nat_eq p) keys) added is h)
