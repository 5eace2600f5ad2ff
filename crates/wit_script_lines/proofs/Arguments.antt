-- What commands with several arguments are, by how many arguments there are.
use Rattle.std.proofs.Common.{◌≡◌, ◌∙◌, ◌<◌, ◌≤◌, ℕ, List, [], ◌∷◌, None, length, ◌-◌, map, drop, take, slice_index_or, Bor, refl, sym, ap, arith}
use Rattle.std.proofs.Math.Seq.{take-length}
use Rattle.wit_script_lines.specs.Request.{exportize_of, importize_of, world_of}
use Rattle.wit_script_lines.specs.steps.Parts.{exportize_to}

abbrev Tokens : Type 0
Tokens = List (Bor (List ℕ))

-- a world takes two
pub world_of-other : (ts : Tokens) → (length ts ≡ 2 → ⊥) → world_of (map (λ t. t.now) ts) ≡ None
world_of-other [] other = refl
world_of-other (a ∷ []) other = refl
world_of-other (a ∷ b ∷ []) other = absurd (other refl)
world_of-other (a ∷ b ∷ c ∷ ts) other = refl

-- `importize` two or three
pub importize_of-other : (ts : Tokens) → (length ts ≡ 2 → ⊥) → (length ts ≡ 3 → ⊥) → importize_of (map (λ t. t.now) ts) ≡ None
importize_of-other [] two three = refl
importize_of-other (a ∷ []) two three = refl
importize_of-other (a ∷ b ∷ []) two three = absurd (two refl)
importize_of-other (a ∷ b ∷ c ∷ []) two three = absurd (three refl)
importize_of-other (a ∷ b ∷ c ∷ d ∷ ts) two three = refl

-- `exportize` three or more
pub exportize_of-few : (ts : Tokens) → length ts < 3 → exportize_of (map (λ t. t.now) ts) ≡ None
exportize_of-few [] few = refl
exportize_of-few (a ∷ []) few = refl
exportize_of-few (a ∷ b ∷ []) few = refl
exportize_of-few (a ∷ b ∷ c ∷ ts) few = absurd (omega (arith, few))

taken : (ts : Tokens) (n : ℕ) → n ≡ length ts → take n ts ≡ ts
taken ts n is = ap (λ (k : ℕ). take k ts) is ∙ take-length ts

pub exportize_of-enough : (ts : Tokens) (none : Bor (List ℕ)) → 3 ≤ length ts
    → exportize_of (map (λ t. t.now) ts)
    ≡ exportize_to (slice_index_or ts 0 none).now (slice_index_or ts 1 none).now (slice_index_or ts 2 none).now (map (λ t. t.now) (take (length ts - 3) (drop 3 ts)))
exportize_of-enough [] none enough = absurd (omega (arith, enough))
exportize_of-enough (a ∷ []) none enough = absurd (omega (arith, enough))
exportize_of-enough (a ∷ b ∷ []) none enough = absurd (omega (arith, enough))
exportize_of-enough (a ∷ b ∷ c ∷ ts) none enough = ap (λ (keys : Tokens). exportize_to a.now b.now c.now (map (λ t. t.now) keys)) (sym (taken ts (length (a ∷ b ∷ c ∷ ts) - 3) (omega arith)))
