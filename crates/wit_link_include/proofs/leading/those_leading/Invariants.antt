use Rattle.std.proofs.Common.{◌≡◌, ◌⊎◌, ℕ, true, Contains}
use Rattle.std.specs.Map.{keys_of}
use Rattle.wit_link_include.specs.steps.Included.{said}
use Rattle.wit_link_include.proofs.leading.those_leading.Given as goal

-- what has been added leads there; what leads there has been added or is left
abbrev pub invariant-loop-id : goal.invariant-loop-id
invariant-loop-id l = record {
  lead : (t : ℕ) → Contains l.ids t → said l.known t ≡ true;
  all : (t : ℕ) → said l.known t ≡ true → Contains l.ids t ⊎ Contains (keys_of l.id-iterator) t;
}
