-- What stands where in lists that grow.
use Rattle.std.proofs.Common.{◌≡◌, ◌∙◌, ℕ, zero, suc, ◌<◌, ◌≤◌, Bool, true, false, cond, List, [], ◌∷◌, ◌++◌, inl, inr, length, drop, Option, Some, None, is_some, if◌then◌else◌, IfSome, slice_get, slice_set, refl, sym, ap, subst, arith, Contains, flat_map, Decides}
use Rattle.std.proofs.lemmas.Grind.{flat_map-append}
use Rattle.std.proofs.lemmas.List.{drop-append-le, append-nil}
use Rattle.std.proofs.lemmas.Option.{slice_get_within, slice_get-get_or, get_or_from_slice_get}
use Rattle.std.specs.List.{AllByRecursion}
use Rattle.std.specs.Map.{lookup}
use Rattle.wit_values.specs.Table.{HasDistinctKeys}
use Rattle.wit_values.specs.facts.Lists.{AllByRecursion-at, kept-cases, push-cases, set-cases, slice_get-set}
use Rattle.wit_data.specs.Each.{Each, EachAt, SomeAt}
use Rattle.wit_data.specs.facts.EachFacts.{SomeAt-is, SomeAt-of}
use Rattle.wit_script_lines.specs.facts.OptionFacts.{same-some}

module _ {X : Type 0} where
  -- one place has one thing
  pub same_at : (xs : List X) (i : ℕ) (x y : X) → slice_get xs i ≡ Some x → slice_get xs i ≡ Some y → x ≡ y
  same_at xs i x y first second = same-some x y (sym first ∙ second)

  pub get_at : (xs : List X) (i : ℕ) → i < length xs → (x : X) × (slice_get xs i ≡ Some x)
  get_at [] i within = absurd (omega arith)
  get_at (x ∷ xs) zero within = (x, refl)
  get_at (x ∷ xs) (suc i) within = get_at xs i (omega arith)

  -- what a list contains stands at a place of it
  pub place_of : (xs : List X) (x : X) → Contains xs x → (k : ℕ) × (slice_get xs k ≡ Some x)
  place_of xs x has = (has.0, slice_get-get_or xs has.0 x has.1 ∙ ap Some has.2)

  pub contained_at : (xs : List X) (k : ℕ) (x : X) → slice_get xs k ≡ Some x → Contains xs x
  contained_at xs k x at = (k, slice_get_within xs k x at, get_or_from_slice_get xs k x x at)

  -- a place before a new one
  pub at_old : (xs ys : List X) (k : ℕ) (z : X) → k < length xs → slice_get (xs ++ ys) k ≡ Some z → slice_get xs k ≡ Some z
  at_old [] ys k z within at = absurd (omega arith)
  at_old (x ∷ xs) ys zero z within at = at
  at_old (x ∷ xs) ys (suc k) z within at = at_old xs ys k z (omega arith) at

  -- what holds of each, of one more, and of one that is changed
  pub EachAt-push : (P : ℕ → X → Type 0) (xs : List X) (x : X) → EachAt P xs → P (length xs) x → EachAt P (xs ++ x ∷ [])
  EachAt-push P xs x each new i y at =
      elim (push-cases xs x i y at) [
        | inl old ↦ each i y old
        | inr last ↦ subst (λ (z : X). P i z) (sym last.1) (subst (λ (k : ℕ). P k x) (sym last.0) new)
      ]

  pub EachAt-set : (P : ℕ → X → Type 0) (xs : List X) (i : ℕ) (x : X) → EachAt P xs → P i x → EachAt P (slice_set xs i x)
  EachAt-set P xs i x each new j y at =
      elim (set-cases xs i x j y at) [
        | inl here ↦ subst (λ (z : X). P j z) (sym here.1) (subst (λ (k : ℕ). P k x) (sym here.0) new)
        | inr old ↦ each j y old
      ]

  -- another place than the one that is changed
  pub set_other : (xs : List X) (i j : ℕ) (x : X) → j < i → slice_get (slice_set xs i x) j ≡ slice_get xs j
  set_other [] i j x below = refl
  set_other (y ∷ xs) zero j x below = absurd (omega arith)
  set_other (y ∷ xs) (suc i) zero x below = refl
  set_other (y ∷ xs) (suc i) (suc j) x below = set_other xs i j x (omega arith)

  pub append_other : (xs ys : List X) (j : ℕ) → j < length xs → slice_get (xs ++ ys) j ≡ slice_get xs j
  append_other [] ys j below = absurd (omega arith)
  append_other (x ∷ xs) ys zero below = refl
  append_other (x ∷ xs) ys (suc j) below = append_other xs ys j (omega arith)

  -- what is there of a thing stays where the thing stays or grows
  pub SomeAt-moved : {Y : Type 0} (P : X → Type 0) (Q : Y → Type 0) (xs : List X) (ys : List Y) (i : ℕ)
      → ((x : X) → slice_get xs i ≡ Some x → P x → (y : Y) × (slice_get ys i ≡ Some y) × Q y) → SomeAt xs i P → SomeAt ys i Q
  SomeAt-moved P Q xs ys i moves some =
      let old = SomeAt-is P xs i some in
      let new = moves old.0 old.1 old.2 in
      SomeAt-of Q ys i new.0 new.1 new.2

  module _ {A : Type 0} (f : X → List A) where
    -- what is told of the things from a place on, where one is changed of which nothing else is told
    pub told-set : (n : ℕ) (xs : List X) (i : ℕ) (x y : X) → slice_get xs i ≡ Some x → f x ≡ f y → flat_map f (drop n (slice_set xs i y)) ≡ flat_map f (drop n xs)
    told-set zero [] i x y at same = cc
    told-set zero (z ∷ xs) zero x y at same = ap (λ (l : List A). l ++ flat_map f xs) (sym same ∙ ap f (sym (same-some z x at)))
    told-set zero (z ∷ xs) (suc i) x y at same = ap (λ (l : List A). f z ++ l) (told-set zero xs i x y at same)
    told-set (suc n) [] i x y at same = cc
    told-set (suc n) (z ∷ xs) zero x y at same = refl
    told-set (suc n) (z ∷ xs) (suc i) x y at same = told-set n xs i x y at same

    -- and where there is one more
    pub told-push : (n : ℕ) (xs : List X) (y : X) → n ≤ length xs → flat_map f (drop n (xs ++ y ∷ [])) ≡ flat_map f (drop n xs) ++ f y
    told-push n xs y within = rw (drop-append-le n xs (y ∷ []) within, flat_map-append f (drop n xs) (y ∷ []), append-nil) refl

module _ {X : Type 0} where
  -- a thing that is changed in a way, and the others as they are
  pub set-moves : (R : X → X → Type 0) → ((x : X) → R x x) → (xs : List X) (i : ℕ) (x y : X) → slice_get xs i ≡ Some x → R x y
      → (j : ℕ) (z : X) → slice_get xs j ≡ Some z → (new : X) × (slice_get (slice_set xs i y) j ≡ Some new) × R z new
  set-moves R same xs i x y at changed j z there =
      elim (kept-cases xs i y j z there) [
        | inl here ↦
            let is : x ≡ z = same_at xs i x z at (subst (λ (k : ℕ). slice_get xs k ≡ Some z) here there) in
            (y, subst (λ (k : ℕ). slice_get (slice_set xs i y) k ≡ Some y) (sym here) (slice_get-set xs i x y at), subst (λ (u : X). R u y) is changed)
        | inr kept ↦ (z, kept, same z)
      ]

  pub Each-append : (P : X → Type 0) (xs ys : List X) → Each P xs → Each P ys → Each P (xs ++ ys)
  Each-append P [] ys first second i x at = second i x at
  Each-append P (x ∷ xs) ys first second zero z at = first 0 z at
  Each-append P (x ∷ xs) ys first second (suc i) z at = Each-append P xs ys (λ j y there. first (suc j) y there) second i z at

  pub Each-contains : (P : X → Type 0) (xs : List X) (x : X) → Each P xs → Contains xs x → P x
  Each-contains P xs x each has = let at = place_of xs x has in each at.0 x at.1

  pub Each-nil : (P : X → Type 0) → Each P []
  Each-nil P i x at = cc

  pub Each-from_all : (P : X → Type 0) (xs : List X) → AllByRecursion P xs → Each P xs
  Each-from_all P xs all i x at = AllByRecursion-at P xs i x all at

  pub some-within : (P : X → Type 0) (xs : List X) (i : ℕ) → SomeAt xs i P → i < length xs
  some-within P xs i some = let there = SomeAt-is P xs i some in slice_get_within xs i there.0 there.1

  -- what holds of what is there or not
  pub if-some : {P Q : X → Type 0} (o : Option X) → ((x : X) → o ≡ Some x → P x → Q x) → IfSome o P → IfSome o Q
  if-some None weaker holds = tt
  if-some (Some x) weaker holds = weaker x refl holds

  pub if-some-at : (P : X → Type 0) (o : Option X) (x : X) → o ≡ Some x → IfSome o P → P x
  if-some-at P None x is holds = cc
  if-some-at P (Some y) x is holds = subst P (same-some y x is) holds

-- a thing that isn't there yet, added
pub new-is : {X Y : Type 0} (o : Option X) (y z : Y) → (if is_some o then None else Some y) ≡ Some z → (o ≡ None) × (y ≡ z)
new-is None y z is = (refl, same-some y z is)
new-is (Some x) y z is = cc

module _ {K V : Type 0} (test : K → Bool) where
  -- what is found stands at a place, under a key that passes
  pub lookup-at : (es : List (K × V)) (v : V) → lookup test es ≡ Some v → (i : ℕ) × (k : K) × (slice_get es i ≡ Some (k, v)) × (test k ≡ true)
  lookup-at [] v found = cc
  lookup-at (e ∷ es) v found = by (test e.0) refl found (λ f. lookup-at es v f) where
    by : (b : Bool) → test e.0 ≡ b → cond b (Some e.1) (lookup test es) ≡ Some v
        → (lookup test es ≡ Some v → (i : ℕ) × (k : K) × (slice_get es i ≡ Some (k, v)) × (test k ≡ true))
        → (i : ℕ) × (k : K) × (slice_get (e ∷ es) i ≡ Some (k, v)) × (test k ≡ true)
    by true passes found rest = (0, e.0, ap (λ (u : V). Some (e.0, u)) (same-some e.1 v found), passes)
    by false passes found rest = let r = rest found in (suc r.0, r.1, r.2, r.3)

  -- where nothing is found, no key passes
  pub none-at : (es : List (K × V)) (i : ℕ) (k : K) (v : V) → lookup test es ≡ None → slice_get es i ≡ Some (k, v) → test k ≡ false
  none-at [] i k v none at = cc
  none-at (e ∷ es) zero k v none at = by (test e.0) refl none where
    by : (b : Bool) → test e.0 ≡ b → cond b (Some e.1) (lookup test es) ≡ None → test k ≡ false
    by true is none = cc
    by false is none = subst (λ (d : K × V). test d.0 ≡ false) (same-some e (k, v) at) is
  none-at (e ∷ es) (suc i) k v none at = by (test e.0) none (λ n. none-at es i k v n at) where
    by : (b : Bool) → cond b (Some e.1) (lookup test es) ≡ None → (lookup test es ≡ None → test k ≡ false) → test k ≡ false
    by true none rest = cc
    by false none rest = rest none

module _ {K V : Type 0} (eq : K → K → Bool) (same : (a b : K) → Decides (eq a b) (a ≡ b)) where
  -- no key stands twice where one comes that isn't there
  pub distinct-push : (es : List (K × V)) (k : K) (v : V) → HasDistinctKeys es → lookup (eq k) es ≡ None → HasDistinctKeys (es ++ (k, v) ∷ [])
  distinct-push es k v distinct none i j e f first second equal =
      elim (push-cases es (k, v) i e first) [
        | inl old ↦
            elim (push-cases es (k, v) j f second) [
              | inl older ↦ distinct i j e f old older equal
              | inr new ↦ absurd (apart i e old (equal ∙ ap (λ (d : K × V). d.0) new.1))
            ]
        | inr new ↦
            elim (push-cases es (k, v) j f second) [
              | inl older ↦ absurd (apart j f older (sym equal ∙ ap (λ (d : K × V). d.0) new.1))
              | inr newer ↦ new.0 ∙ sym newer.0
            ]
      ]
    where
      apart : (n : ℕ) (d : K × V) → slice_get es n ≡ Some d → d.0 ≡ k → ⊥
      apart n d at is =
          let passes : eq k d.0 ≡ true = (same k d.0).1 (sym is) in
          let fails : eq k d.0 ≡ false = none-at (eq k) es n d.0 d.1 none at in
          cc
