-- Lists that are made of another one, one thing after another, with their places.
use Rattle.std.proofs.Common.{◌≡◌, ◌∙◌, ℕ, suc, ◌+◌, ◌<◌, ◌≤◌, Bool, true, false, List, [], ◌∷◌, ◌++◌, Some, cond, drop, filter, length, map, slice_get, append_assoc, refl, sym, ap, arith}
use Rattle.std.proofs.lemmas.List.{append-nil, drop_all}
use Rattle.std.specs.List.{enumerate_from}
use Rattle.wit_graph_theory.specs.facts.ListFacts.{get_at}
use Rattle.wit_link_spec.specs.facts.DropFacts.{drop_at}

-- the things from a place on, with their places; and those of them that are kept
abbrev pub behind : {X : Type 0} → List X → ℕ → List (ℕ × X)
behind xs k = enumerate_from k (drop k xs)

abbrev pub kept_behind : {X : Type 0} → List X → (ℕ → Bool) → ℕ → List (ℕ × X)
kept_behind {X} xs kept k = filter (λ (e : ℕ × X). kept e.0) (behind xs k)

module _ {X : Type 0} (xs : List X) where
  -- all of them
  pub all_behind : behind xs 0 ≡ enumerate_from 0 xs
  all_behind = inside xs
    where
      inside : (ys : List X) → behind ys 0 ≡ enumerate_from 0 ys
      inside [] = refl
      inside (y ∷ ys) = refl

  -- the first of them
  pub first_behind : (k n : ℕ) (x : X) → n ≡ k + 1 → slice_get xs k ≡ Some x → behind xs k ≡ (k, x) ∷ behind xs n
  first_behind k n x next at =
      ap (enumerate_from k) (drop_at xs k x at)
      ∙ ap (λ (l : List X). (k, x) ∷ enumerate_from (k + 1) l) (ap (λ (i : ℕ). drop i xs) (let one : suc k ≡ n = omega (arith, next) in one))
      ∙ ap (λ (i : ℕ). (k, x) ∷ enumerate_from i (drop n xs)) (sym next)

  none_behind : (k : ℕ) → length xs ≤ k → behind xs k ≡ []
  none_behind k past = ap (enumerate_from k) (drop_all k xs past)

  module _ {Y : Type 0} (f : ℕ × X → Y) where
    -- one thing more is made
    pub made_next : (k n : ℕ) (x : X) (done new whole : List Y) (y : Y) → n ≡ k + 1 → slice_get xs k ≡ Some x → done ++ map f (behind xs k) ≡ whole → new ≡ done ++ y ∷ [] → y ≡ f (k, x)
        → new ++ map f (behind xs n) ≡ whole
    made_next k n x done new whole y next at all pushed is =
        ap (λ (l : List Y). l ++ map f (behind xs n)) pushed ∙ append_assoc done (y ∷ []) (map f (behind xs n))
        ∙ ap (λ (z : Y). done ++ z ∷ map f (behind xs n)) is ∙ ap (λ (l : List (ℕ × X)). done ++ map f l) (sym (first_behind k n x next at)) ∙ all

    pub made_all : (k : ℕ) (done whole : List Y) → length xs ≤ k → done ++ map f (behind xs k) ≡ whole → done ≡ whole
    made_all k done whole past all = sym (append-nil done) ∙ ap (λ (l : List (ℕ × X)). done ++ map f l) (sym (none_behind k past)) ∙ all

    module _ (kept : ℕ → Bool) where
      first_kept : (k n : ℕ) (x : X) (b : Bool) → n ≡ k + 1 → slice_get xs k ≡ Some x → kept k ≡ b → kept_behind xs kept k ≡ cond b ((k, x) ∷ kept_behind xs kept n) (kept_behind xs kept n)
      first_kept k n x b next at is =
          ap (filter (λ (e : ℕ × X). kept e.0)) (first_behind k n x next at) ∙ ap (λ (c : Bool). cond c ((k, x) ∷ kept_behind xs kept n) (kept_behind xs kept n)) is

      -- one that is kept
      pub kept_next : (k n : ℕ) (x : X) (done new whole : List Y) (y : Y) → n ≡ k + 1 → slice_get xs k ≡ Some x → kept k ≡ true → done ++ map f (kept_behind xs kept k) ≡ whole → new ≡ done ++ y ∷ [] → y ≡ f (k, x)
          → new ++ map f (kept_behind xs kept n) ≡ whole
      kept_next k n x done new whole y next at takes all pushed is =
          ap (λ (l : List Y). l ++ map f (kept_behind xs kept n)) pushed ∙ append_assoc done (y ∷ []) (map f (kept_behind xs kept n))
          ∙ ap (λ (z : Y). done ++ z ∷ map f (kept_behind xs kept n)) is ∙ ap (λ (l : List (ℕ × X)). done ++ map f l) (sym (first_kept k n x true next at takes)) ∙ all

      -- and one that isn't
      pub left_next : (k n : ℕ) (done whole : List Y) → n ≡ k + 1 → k < length xs → kept k ≡ false → done ++ map f (kept_behind xs kept k) ≡ whole → done ++ map f (kept_behind xs kept n) ≡ whole
      left_next k n done whole next below leaves all =
          let x : (x : X) × (slice_get xs k ≡ Some x) = get_at xs k below in
          ap (λ (l : List (ℕ × X)). done ++ map f l) (sym (first_kept k n x.0 false next x.1 leaves)) ∙ all

      pub kept_all : (k : ℕ) (done whole : List Y) → length xs ≤ k → done ++ map f (kept_behind xs kept k) ≡ whole → done ≡ whole
      kept_all k done whole past all = sym (append-nil done) ∙ ap (λ (l : List (ℕ × X)). done ++ map f (filter (λ (e : ℕ × X). kept e.0) l)) (sym (none_behind k past)) ∙ all
