use Rattle.std.proofs.Common.{◌≡◌, ◌∙◌, ◌⊎◌, ◌++◌, ◌∷◌, [], ℕ, Bool, true, false, List, Option, None, Some, Contains, nat_eq, unwrap_or, slice_get, length, refl, sym, ap, subst, inl, inr}
use Rattle.std.specs.List.{IsDistinct, list_any}
use Rattle.std.specs.Map.{keys_of, lookup}
use Rattle.std.specs.Map.Iter.{deref_pair}
use Rattle.std.proofs.lemmas.Bool.{false≢true}
use Rattle.std.proofs.lemmas.List.Elements.{Contains-append_cases, Contains-append_left, Contains-push}
use Rattle.std.proofs.lemmas.Map.Entries.{lookup_from_place}
use Rattle.std.proofs.lemmas.Map.Iter.{iter_turn, rest_all, rest_more}
use Rattle.std.specs.Cmp.{nat_eq_equiv}
use Rattle.wit_digraph.specs.facts.FreshFacts.{any_from_contains, contains_from_any}
use Rattle.wit_digraph.specs.facts.MemberFacts.{Contains-cons_cases, Contains-nil}
use Rattle.wit_link_include.specs.steps.Included.{said}
use Rattle.wit_link_include.proofs.Members.{key_at, same_truth}
use Rattle.wit_link_include.proofs.leading.those_leading.Goals as goal

one_of : (x y : ℕ) → Contains (x ∷ []) y → x ≡ y
one_of x y has = elim (Contains-cons_cases x y [] has) [ inl same ↦ same | inr none ↦ absurd (Contains-nil none) ]

-- what leads there is among the keys
key_said : (known : List (ℕ × Bool)) (t : ℕ) → said known t ≡ true → Contains (keys_of known) t
key_said known t = by (lookup (nat_eq t) known) refl
  where
    by : (o : Option Bool) → lookup (nat_eq t) known ≡ o → unwrap_or o false ≡ true → Contains (keys_of known) t
    by None at is = absurd (false≢true is)
    by (Some b) at is = key_at known t b at

module _ (known : List (ℕ × Bool)) (distinct : IsDistinct nat_eq (keys_of known)) (ids : List ℕ) (i k : ℕ) (b : Bool) (at : slice_get known i ≡ Some (k, b)) (left others : List (ℕ × Bool)) (first : left ≡ (k, b) ∷ others) where
  is_said : said known k ≡ b
  is_said = ap (λ (o : Option Bool). unwrap_or o false) (lookup_from_place nat_eq_equiv known i k b distinct at)

  left_is : (t : ℕ) → Contains (keys_of left) t → (k ≡ t) ⊎ Contains (keys_of others) t
  left_is t has = Contains-cons_cases k t (keys_of others) (subst (λ (es : List (ℕ × Bool)). Contains (keys_of es) t) first has)

  still_all : b ≡ false → ((t : ℕ) → said known t ≡ true → Contains ids t ⊎ Contains (keys_of left) t) → (t : ℕ) → said known t ≡ true → Contains ids t ⊎ Contains (keys_of others) t
  still_all off all t is = elim (all t is) [
    | inl old ↦ inl old
    | inr there ↦ elim (left_is t there) [
      | inl same ↦ absurd (false≢true (sym (ap (said known) (sym same) ∙ (is_said ∙ off)) ∙ is))
      | inr more ↦ inr more
    ]
  ]

  then_all : ((t : ℕ) → said known t ≡ true → Contains ids t ⊎ Contains (keys_of left) t) → (t : ℕ) → said known t ≡ true → Contains (ids ++ k ∷ []) t ⊎ Contains (keys_of others) t
  then_all all t is = elim (all t is) [
    | inl old ↦ inl (Contains-append_left ids (k ∷ []) t old)
    | inr there ↦ elim (left_is t there) [
      | inl same ↦ inl (subst (λ (x : ℕ). Contains (ids ++ k ∷ []) x) same (Contains-push ids k))
      | inr more ↦ inr more
    ]
  ]

  then_lead : b ≡ true → ((t : ℕ) → Contains ids t → said known t ≡ true) → (t : ℕ) → Contains (ids ++ k ∷ []) t → said known t ≡ true
  then_lead on lead t has =
      elim (Contains-append_cases ids (k ∷ []) t has) [
        | inl old ↦ lead t old
        | inr last ↦ ap (said known) (sym (one_of k t last)) ∙ (is_said ∙ on)
      ]

-- at the end
in_the_end : (known : List (ℕ × Bool)) (ids : List ℕ) (left : List (ℕ × Bool)) → left ≡ [] → ((t : ℕ) → Contains ids t → said known t ≡ true)
    → ((t : ℕ) → said known t ≡ true → Contains ids t ⊎ Contains (keys_of left) t) → (t : ℕ) → list_any (nat_eq t) ids ≡ said known t
in_the_end known ids left none lead all t =
    same_truth (list_any (nat_eq t) ids) (said known t)
    (λ h. lead t (contains_from_any t ids h))
    (λ h. elim (all t h) [
      | inl there ↦ any_from_contains t ids there
      | inr more ↦ absurd (Contains-nil (subst (λ (es : List (ℕ × Bool)). Contains (keys_of es) t) none more))
    ])

pub loop-id-init : goal.loop-id-init
loop-id-init c = record {
  lead = λ t has. absurd (Contains-nil (subst (λ (xs : List ℕ). Contains xs t) c.new-ids.ensures has));
  all = λ t is. inr (subst (λ (es : List (ℕ × Bool)). Contains (keys_of es) t) (sym (c.into_iter-id-iterator.ensures.into_iter_gives ∙ c.iter-id-items.ensures.rest)) (key_said c.args.known.now t is));
}

pub loop-id-preserved : goal.loop-id-preserved
loop-id-preserved c =
    let known = c.args.known.now in
    let turn = iter_turn deref_pair known c.loop-id.yielded _ _ _ _ (c.into_iter-id-iterator.ensures.into_iter_gives ∙ c.iter-id-items.ensures.rest) c.loop-id.yielded_by _ c.in-Some.is c.next.ensures.steps in
    let first = rest_more deref_pair _ _ _ _ c.in-Some.is c.next.ensures.steps in
    record {
      lead = c.loop-id.invariant.lead;
      all = still_all known c.iter-id-items.ensures.distinct c.loop-id.ids (length c.loop-id.yielded) c.in-Some.id.now c.in-Some.leads.now turn.1 c.loop-id.id-iterator c.next.new.self first c.if-leads.false c.loop-id.invariant.all;
    }

pub loop-id-preserved-in-Continue-1 : goal.loop-id-preserved-in-Continue-1
loop-id-preserved-in-Continue-1 c =
    let known = c.args.known.now in
    let ids : List ℕ = c.loop-id.ids in
    let turn = iter_turn deref_pair known c.loop-id.yielded _ _ _ _ (c.into_iter-id-iterator.ensures.into_iter_gives ∙ c.iter-id-items.ensures.rest) c.loop-id.yielded_by _ c.in-Some.is c.next.ensures.steps in
    let first = rest_more deref_pair _ _ _ _ c.in-Some.is c.next.ensures.steps in
    let is = c.in_ok-push.ensures.ok in
    record {
      lead = λ t has. then_lead known c.iter-id-items.ensures.distinct ids (length c.loop-id.yielded) c.in-Some.id.now c.in-Some.leads.now turn.1 c.loop-id.id-iterator c.next.new.self first c.if-leads.true c.loop-id.invariant.lead t
          (subst (λ (xs : List ℕ). Contains xs t) is has);
      all = λ t said_so. subst (λ (xs : List ℕ). Contains xs t ⊎ Contains (keys_of c.next.new.self) t) (sym is)
          (then_all known c.iter-id-items.ensures.distinct ids (length c.loop-id.yielded) c.in-Some.id.now c.in-Some.leads.now turn.1 c.loop-id.id-iterator c.next.new.self first c.loop-id.invariant.all t said_so);
    }

pub returns : goal.returns
returns c = in_the_end c.args.known.now c.loop-id.ids c.loop-id.id-iterator (rest_all deref_pair _ _ _ c.in-None.is c.next.ensures.steps) c.loop-id.invariant.lead c.loop-id.invariant.all
