-- The tokens of members, as a writer writes one after another.
use Rattle.std.specs.Prelude.{◌≡◌, List, [], ◌∷◌, ◌++◌}
use Rattle.json.specs.Token.{Token}
use Rattle.json.specs.Token as token
use Rattle.json.specs.Tree.{json_tokens}
use Rattle.wit_json.specs.Values.{Member}

abbrev pub member_tokens : List Member → List Token
member_tokens [] = []
member_tokens (m ∷ ms) = token.key m.0 ∷ (json_tokens m.1 ++ member_tokens ms)

-- some members are written behind what was there
pub record Adds (old new : List Token) (ms : List Member) : Type 0 where
  pub tokens : new ≡ old ++ member_tokens ms
