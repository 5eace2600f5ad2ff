-- What it means that the exports of a world are refused, and that they aren't.
use Rattle.std.proofs.Common.{◌≡◌, ◌∙◌, inl, inr, List, [], ◌∷◌, Option, None, Some, refl, sym, ap, Contains}
use Rattle.wit_digraph.specs.facts.MemberFacts.{Contains-cons_cases, Contains-nil}
use Rattle.wit_elaboration.specs.Entries.{Entry}
use Rattle.wit_graph_data.specs.declared.error_kind.ResolveErrorKind.{ResolveErrorKind}
use Rattle.wit_transform.specs.Transformed.{export_refusal, first_refusal, type_refusal}

-- where none of some refusals is there, the first isn't
first_none : (o : Option ResolveErrorKind) (rest : List (Option ResolveErrorKind)) → first_refusal (o ∷ rest) ≡ None → o ≡ None
first_none None rest none = refl
first_none (Some error) rest none = cc

-- nor any of the others
others_none : (o : Option ResolveErrorKind) (rest : List (Option ResolveErrorKind)) → first_refusal (o ∷ rest) ≡ None → first_refusal rest ≡ None
others_none None rest none = none
others_none (Some error) rest none = cc

-- of exports that aren't refused none is a type under a label
pub no_types : (es : List Entry) → export_refusal es ≡ None → (e : Entry) → Contains es e → type_refusal e.0 e.1 ≡ None
no_types [] none e has = absurd (Contains-nil has)
no_types (x ∷ xs) none e has = elim (Contains-cons_cases x e xs has) [
  | inl same ↦ ap (λ (y : Entry). type_refusal y.0 y.1) (sym same) ∙ first_none (type_refusal x.0 x.1) _ none
  | inr there ↦ no_types xs (others_none (type_refusal x.0 x.1) _ none) e there
]

-- what is never told isn't there
pub none_told : {X : Type 0} (o : Option X) → ((x : X) → o ≡ Some x → ⊥) → o ≡ None
none_told None never = refl
none_told (Some x) never = absurd (never x refl)
