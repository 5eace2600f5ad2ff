-- Facts on the first difference of two lists, for the proofs of this crate and of the crates above. They say nothing
-- about this crate's code.
use Rattle.std.proofs.Common.{◌≡◌, ◌∙◌, ℕ, List, [], ◌∷◌, ◌++◌, map, refl, sym, ap, append_assoc}
use Rattle.std.proofs.lemmas.List.{append_cancel_left, map-append}
use Rattle.wit_merge_spec.specs.Structure.{Content, Feature, FirstDifference, within}

module _ {X : Type 0} where
  -- at the head
  pub first_here : (x y : X) (xs ys : List X) → (x ≡ y → ⊥) → FirstDifference (x ∷ xs) (y ∷ ys) x y
  first_here x y xs ys apart = record { before = []; after = xs; after' = ys; xs_are = refl; ys_are = refl; apart = apart }

  -- in front of more
  pub first_front : (xs ys more more' : List X) (x y : X) → FirstDifference xs ys x y → FirstDifference (xs ++ more) (ys ++ more') x y
  first_front xs ys more more' x y d = record {
    before = d.before;
    after = d.after ++ more;
    after' = d.after' ++ more';
    xs_are = ap (λ (l : List X). l ++ more) d.xs_are ∙ append_assoc d.before (x ∷ d.after) more;
    ys_are = ap (λ (l : List X). l ++ more') d.ys_are ∙ append_assoc d.before (y ∷ d.after') more';
    apart = d.apart;
  }

  -- behind the same
  pub first_behind : (front front' xs ys : List X) (x y : X) → front ≡ front' → FirstDifference xs ys x y → FirstDifference (front ++ xs) (front' ++ ys) x y
  first_behind front front' xs ys x y same d = record {
    before = front ++ d.before;
    after = d.after;
    after' = d.after';
    xs_are = ap (λ (l : List X). front ++ l) d.xs_are ∙ sym (append_assoc front d.before (x ∷ d.after));
    ys_are = ap (λ (l : List X). l ++ ys) (sym same) ∙ (ap (λ (l : List X). front ++ l) d.ys_are ∙ sym (append_assoc front d.before (y ∷ d.after')));
    apart = d.apart;
  }

  -- lists that are the same have none
  pub same_no_first : (xs ys : List X) (x y : X) → xs ≡ ys → FirstDifference xs ys x y → ⊥
  same_no_first xs ys x y same d =
      let tails : x ∷ d.after ≡ y ∷ d.after' = append_cancel_left d.before (x ∷ d.after) (y ∷ d.after') (sym d.xs_are ∙ same ∙ d.ys_are) in
      d.apart (cc)

  heads_apart : (before before' after after' : List X) (x y z w : X) → before ++ (x ∷ after) ≡ before' ++ (z ∷ after') → (rest rest' : List X) → before ++ (y ∷ rest) ≡ before' ++ (w ∷ rest')
      → (x ≡ y → ⊥) → (z ≡ w → ⊥) → (x ≡ z) × (y ≡ w)
  heads_apart [] [] after after' x y z w one rest rest' other apart apart' = (cc, cc)
  heads_apart [] (b ∷ before') after after' x y z w one rest rest' other apart apart' = let x_is : x ≡ b = cc in let y_is : y ≡ b = cc in absurd (apart (x_is ∙ sym y_is))
  heads_apart (b ∷ before) [] after after' x y z w one rest rest' other apart apart' = let z_is : z ≡ b = cc in let w_is : w ≡ b = cc in absurd (apart' (z_is ∙ sym w_is))
  heads_apart (a ∷ before) (b ∷ before') after after' x y z w one rest rest' other apart apart' =
      let one' : before ++ (x ∷ after) ≡ before' ++ (z ∷ after') = cc in
      let other' : before ++ (y ∷ rest) ≡ before' ++ (w ∷ rest') = cc in
      heads_apart before before' after after' x y z w one' rest rest' other' apart apart'

  -- and two lists have one alone
  pub one_first : (xs ys : List X) (x y z w : X) → FirstDifference xs ys x y → FirstDifference xs ys z w → (x ≡ z) × (y ≡ w)
  one_first xs ys x y z w d e = heads_apart d.before e.before d.after e.after x y z w (sym d.xs_are ∙ e.xs_are) d.after' e.after' (sym d.ys_are ∙ e.ys_are) d.apart e.apart

-- a step further in
pub first_within : (step : List ℕ) (xs ys : List Feature) (x y : Feature) → FirstDifference xs ys x y → FirstDifference (map (within step) xs) (map (within step) ys) (within step x) (within step y)
first_within step xs ys x y d = record {
  before = map (within step) d.before;
  after = map (within step) d.after;
  after' = map (within step) d.after';
  xs_are = ap (map (within step)) d.xs_are ∙ map-append (within step) d.before (x ∷ d.after);
  ys_are = ap (map (within step)) d.ys_are ∙ map-append (within step) d.before (y ∷ d.after');
  apart = λ same. d.apart (same_inside same);
}
  where
    same_inside : within step x ≡ within step y → x ≡ y
    same_inside same =
        let paths : step ∷ x.path ≡ step ∷ y.path = ap (λ (f : Feature). f.path) same in
        let contents : x.content ≡ y.content = ap (λ (f : Feature). f.content) same in
        let tails : x.path ≡ y.path = cc in
        ap (λ (path : List (List ℕ)). record { path = path; content = x.content }) tails ∙ ap (λ (content : Content). record { path = y.path; content = content }) contents
