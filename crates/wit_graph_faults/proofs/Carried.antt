-- What a search tells of a package's places, it tells of those of a graph.
use Rattle.std.proofs.Common.{◌≡◌, ◌∙◌, ℕ, List, Option, None, Some, option_and_then, refl, sym, ap, subst}
use Rattle.wit_data.specs.Each.{Each, EachAt}
use Rattle.wit_shape.specs.First.{AtFirst, AtFirstId, Finds, FindsFirst, FindsWithin, WithinFirst}
use Rattle.wit_shape.specs.declared.place.ShapePlace.{ShapePlace}
use Rattle.wit_graph_faults.specs.declared.place.GraphPlace.{GraphPlace}
use Rattle.wit_graph_faults.specs.steps.Places.{graph_place}

-- where each place that breaks it is one of a graph that does
carried : (H : Type 0) (breaks : ShapePlace → Type 0) (breaks_too : GraphPlace → Type 0)
    → ((at : ShapePlace) → breaks at → (to : GraphPlace) × ((graph_place at ≡ Some to) × breaks_too to))
    → (found : Option ShapePlace) (answer : Option GraphPlace) → answer ≡ option_and_then graph_place found → Finds H breaks found → Finds H breaks_too answer
carried H breaks breaks_too go None answer is told = subst (Finds H breaks_too) (sym is) told
carried H breaks breaks_too go (Some at) answer is told = let to = go at told in subst (Finds H breaks_too) (sym (is ∙ to.1.0)) to.1.1

-- the first thing
pub carried_first : {X : Type 0} (place : ℕ → ShapePlace) (to : ℕ → GraphPlace) → ((i : ℕ) → graph_place (place i) ≡ Some (to i)) → (P : ℕ → X → Type 0) (xs : List X)
    → (found : Option ShapePlace) (answer : Option GraphPlace) → answer ≡ option_and_then graph_place found → FindsFirst place P xs found → FindsFirst to P xs answer
carried_first place to goes P xs =
    carried (EachAt P xs) (AtFirst place P xs) (AtFirst to P xs) (λ at is. (to is.0, (ap graph_place is.1.1 ∙ goes is.0, (is.0, (is.1.0, refl)))))

-- that of the first id
pub carried_id : (place : ℕ → ShapePlace) (to : ℕ → GraphPlace) → ((i : ℕ) → graph_place (place i) ≡ Some (to i)) → (H : Type 0) (P : ℕ → ℕ → Type 0) (ids : List ℕ)
    → (found : Option ShapePlace) (answer : Option GraphPlace) → answer ≡ option_and_then graph_place found → Finds H (AtFirstId place P ids) found → Finds H (AtFirstId to P ids) answer
carried_id place to goes H P ids =
    carried H (AtFirstId place P ids) (AtFirstId to P ids) (λ at is. (to is.1, (ap graph_place is.2.2 ∙ goes is.1, (is.0, is.1, (is.2.0, is.2.1, refl)))))

-- the first within
pub carried_within : {X Y : Type 0} (place : ℕ → ℕ → ShapePlace) (to : ℕ → ℕ → GraphPlace) → ((i k : ℕ) → graph_place (place i k) ≡ Some (to i k)) → (Q : ℕ → X → Y → Type 0) (list : X → List Y) (xs : List X)
    → (found : Option ShapePlace) (answer : Option GraphPlace) → answer ≡ option_and_then graph_place found → FindsWithin place Q list xs found → FindsWithin to Q list xs answer
carried_within place to goes Q list xs =
    carried (EachAt (λ i x. Each (Q i x) (list x)) xs) (WithinFirst place Q list xs) (WithinFirst to Q list xs)
    (λ at is. (to is.0 is.1, (ap graph_place is.2.2 ∙ goes is.0 is.1, (is.0, is.1, (is.2.0, is.2.1, refl)))))
