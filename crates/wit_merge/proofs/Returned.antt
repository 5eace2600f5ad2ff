-- What is told of the results of one function is told of those of all.
use Rattle.std.proofs.Common.{◌≡◌, inl, inr, ℕ, List, [], ◌∷◌, option_to_list, Option, Some, sym, ap, subst, ◌∙◌, Contains}
use Rattle.wit_digraph.specs.facts.MemberFacts.{Contains-cons_cases, Contains-here, Contains-nil}
use Rattle.wit_data.specs.Kind.{named_option}
use Rattle.wit_data.specs.declared.function.Function.{Function}
use Rattle.wit_data.specs.declared.types.TypeDef.{TypeDef}
use Rattle.wit_graph_data.specs.declared.error_kind.ResolveErrorKind.{ResolveErrorKind}
use Rattle.wit_remap_spec.specs.Borrows.{HoldsBorrow}
use Rattle.wit_merge.specs.steps.Behind.{AreReturned, ReturnNoBorrow, ReturnsBorrow}

one_of : {X : Type 0} (x y : X) → Contains (x ∷ []) y → x ≡ y
one_of x y has = elim (Contains-cons_cases x y [] has) [ inl same ↦ same | inr none ↦ absurd (Contains-nil none) ]

-- the type that a function returns is named by it
pub result_named : (f : Function) (o : Option ℕ) (t : ℕ) → option_to_list o ≡ named_option f.result_ → o ≡ Some t → Contains (named_option f.result_) t
result_named f o t is some =
    let one : t ∷ [] ≡ named_option f.result_ = ap (λ (x : Option ℕ). option_to_list x) (sym some) ∙ is in
    subst (λ (ids : List ℕ). Contains ids t) one (Contains-here t [])

pub one_returned : (types : List TypeDef) (fs : List Function) (f : Function) → AreReturned types fs → Contains fs f → AreReturned types (f ∷ [])
one_returned types fs f all has g t among names = all g t (subst (λ (x : Function). Contains fs x) (one_of f g among) has) names

pub told_of_all : (types : List TypeDef) (fs : List Function) (f : Function) (kind : ResolveErrorKind) → Contains fs f → ReturnsBorrow types (f ∷ []) kind → ReturnsBorrow types fs kind
told_of_all types fs f kind has told = record {
  f = told.f;
  t = told.t;
  there = subst (λ (x : Function). Contains fs x) (one_of f told.f told.there) has;
  result_is = told.result_is;
  holds = told.holds;
  is = told.is;
}

-- a function whose type holds no borrow returns none
pub none_returned : (types : List TypeDef) (f : Function) (o : Option ℕ) (t : ℕ) → option_to_list o ≡ named_option f.result_ → o ≡ Some t → (HoldsBorrow types t → ⊥) → ReturnNoBorrow types (f ∷ [])
none_returned types f o t is some free g t' among names holds =
    let same : f ≡ g = one_of f g among in
    let one : t ∷ [] ≡ named_option f.result_ = ap (λ (x : Option ℕ). option_to_list x) (sym some) ∙ is in
    let its : Contains (t ∷ []) t' = subst (λ (ids : List ℕ). Contains ids t') (sym one) (subst (λ (x : Function). Contains (named_option x.result_) t') (sym same) names) in
    free (subst (λ (x : ℕ). HoldsBorrow types x) (sym (one_of t t' its)) holds)
