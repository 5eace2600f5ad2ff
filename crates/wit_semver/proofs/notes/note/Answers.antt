use Rattle.std.proofs.Common.{◌≡◌, ◌∙◌, ◌++◌, ◌∷◌, [], ℕ, List, Option, None, Some, true, false, is_some, nat_eq, refl, sym, ap, subst}
use Rattle.std.specs.Map.{lookup}
use Rattle.std.proofs.lemmas.Bool.{true≢false}
use Rattle.wit_semver.specs.steps.Replacing.{IsFilled}
use Rattle.wit_semver.proofs.Filled.{filled-known, filled-more, filled-nowhere}
use Rattle.wit_semver.proofs.notes.note.Goals as goal

none_left : (o : Option ℕ) → is_some o ≡ false → o ≡ None
none_left None off = refl
none_left (Some x) off = absurd (true≢false off)

some_there : (o : Option ℕ) → is_some o ≡ true → (v : ℕ) × (o ≡ Some v)
some_there None on = absurd (true≢false (sym on))
some_there (Some x) on = (x, refl)

pub returns-in_default : goal.returns-in_default
returns-in_default g c f ids is filled = filled-nowhere f ids c.args.id.now c.args.found.now filled (sym c.in_default.is ∙ is)

pub returns-then-contains_key : goal.returns-then-contains_key
returns-then-contains_key g c f ids is filled =
    let known = some_there (lookup (nat_eq c.args.id.now) c.args.found.now) (sym c.contains_key.ensures ∙ c.if-contains_key.true) in
    filled-known f ids c.args.id.now c.args.found.now filled known.0 known.1

pub returns : goal.returns
returns g c f ids is filled =
    let found : List (ℕ × ℕ) = c.args.found.now in
    let id : ℕ = c.args.id.now in
    let absent : lookup (nat_eq id) found ≡ None = none_left (lookup (nat_eq id) found) (sym c.contains_key.ensures ∙ c.if-contains_key.false) in
    let more = filled-more f ids id found filled c.in-Some.target (sym c.in-Some.is ∙ is) absent in
    let pushed = c.in_ok-push.ensures.ok ∙ ap (λ (k : ℕ). found ++ (k, c.in-Some.target) ∷ []) c.in_ok-try_clone.ensures in
    subst (λ (xs : List (ℕ × ℕ)). IsFilled f (ids ++ id ∷ []) xs) (sym pushed) more
