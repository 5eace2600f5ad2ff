-- Labels met so far, under their keys.
use Rattle.std.proofs.Common.{◌≡◌, ◌∙◌, ◌⊎◌, ◌<◌, ◌≤◌, ◌+◌, ℕ, zero, suc, Bool, true, false, cond, List, [], ◌∷◌, ◌++◌, length, refl, ap, sym, subst, inl, inr, arith, Option, Some, None, map, slice_get}
use Rattle.std.proofs.lemmas.Bool.{and_from, and_parts}
use Rattle.std.proofs.lemmas.Option.{slice_get_within}
use Rattle.std.specs.Borrow.{Bor}
use Rattle.std.specs.Map.{lookup}
use Rattle.std.specs.Cmp.Lexicographic.{nat_list_eq_equiv, same_text}
use Rattle.std.specs.Option.{option_eq}
use Rattle.std.specs.Str.{bytes_eq}
use Rattle.wit_data.specs.declared.world.WorldKey.{WorldKey}
use Rattle.wit_data.specs.declared.world.WorldKey.TheVariants as key
use Rattle.wit_values.specs.facts.Lists.{lookup-push}
use Rattle.wit_labels.specs.Strong.{Clashes, strong_key}
use Rattle.wit_labels.specs.steps.Strong.{AreStronglyUnique}
use Rattle.wit_labels.specs.declared.strong.StrongKey.{StrongKey}
use Rattle.wit_labels.specs.contracts.strong.StrongKeyPartialEq.TheImpl.{eq-value}
use Rattle.wit_labels.specs.contracts.strong.ClassPartialEq.TheImpl as class
use Rattle.wit_labels.specs.declared.strong.Class.{Class}
use Rattle.wit_labels.specs.declared.strong.Class.TheVariants.{Constructor, Getter, Setter}

-- equal keys are the same
one_same : (a b : Class) → class.eq-value.it a b ≡ true → a ≡ b
one_same Constructor Constructor equal = refl
one_same Constructor Getter equal = cc
one_same Constructor Setter equal = cc
one_same Getter Constructor equal = cc
one_same Getter Getter equal = refl
one_same Getter Setter equal = cc
one_same Setter Constructor equal = cc
one_same Setter Getter equal = cc
one_same Setter Setter equal = refl

one_refl : (a : Class) → class.eq-value.it a a ≡ true
one_refl Constructor = refl
one_refl Getter = refl
one_refl Setter = refl

class_same : (a b : Option Class) → option_eq class.eq-value.it a b ≡ true → a ≡ b
class_same None None equal = refl
class_same None (Some b) equal = cc
class_same (Some a) None equal = cc
class_same (Some a) (Some b) equal = ap (λ (c : Class). Some c) (one_same a b equal)

class_refl : (a : Option Class) → option_eq class.eq-value.it a a ≡ true
class_refl None = refl
class_refl (Some a) = one_refl a

key_same : (a b : StrongKey) → eq-value.it a b ≡ true → a ≡ b
key_same a b equal =
    let parts = and_parts (option_eq class.eq-value.it a.class b.class) (bytes_eq a.name b.name) equal in
    let classes : a.class ≡ b.class = class_same a.class b.class parts.0 in
    let names : a.name ≡ b.name = same_text a.name b.name (sym parts.1) in
    ap (λ (c : Option Class). record { class = c; name = a.name }) classes ∙ ap (λ (n : List ℕ). record { class = b.class; name = n }) names

key_refl : (a : StrongKey) → eq-value.it a a ≡ true
key_refl a = and_from (option_eq class.eq-value.it a.class a.class) (bytes_eq a.name a.name) (class_refl a.class) (nat_list_eq_equiv.refl a.name)

module _ {K V : Type 0} (test : K → Bool) where
  -- what is found in a table with one more entry is found before or is that one
  pub lookup-push_cases : (es : List (K × V)) (k : K) (v w : V) → lookup test (es ++ (k, v) ∷ []) ≡ Some w → (lookup test es ≡ Some w) ⊎ ((test k ≡ true) × (v ≡ w))
  lookup-push_cases [] k v w found = by (test k) refl found
    where
      by : (b : Bool) → test k ≡ b → cond b (Some v) None ≡ Some w → (None ≡ Some w) ⊎ ((test k ≡ true) × (v ≡ w))
      by true is h = inr (is, cc)
      by false is h = inl h
  lookup-push_cases (e ∷ es) k v w found = by (test e.0) found (lookup-push_cases es k v w)
    where
      by : (b : Bool) → cond b (Some e.1) (lookup test (es ++ (k, v) ∷ [])) ≡ Some w → (lookup test (es ++ (k, v) ∷ []) ≡ Some w → (lookup test es ≡ Some w) ⊎ ((test k ≡ true) × (v ≡ w)))
          → (cond b (Some e.1) (lookup test es) ≡ Some w) ⊎ ((test k ≡ true) × (v ≡ w))
      by true h rest = inl h
      by false h rest = rest h

  -- what isn't in the longer table isn't in its front
  pub lookup-none_front : (es fs : List (K × V)) → lookup test (es ++ fs) ≡ None → lookup test es ≡ None
  lookup-none_front [] fs none = refl
  lookup-none_front (e ∷ es) fs none = by (test e.0) none (lookup-none_front es fs)
    where
      by : (b : Bool) → cond b (Some e.1) (lookup test (es ++ fs)) ≡ None → (lookup test (es ++ fs) ≡ None → lookup test es ≡ None) → cond b (Some e.1) (lookup test es) ≡ None
      by true h rest = cc
      by false h rest = rest h

-- the key of the entry at a place
pub slice_get-map : {X Y : Type 0} (f : X → Y) (xs : List X) (i : ℕ) (x : X) → slice_get xs i ≡ Some x → slice_get (map f xs) i ≡ Some (f x)
slice_get-map f [] i x at = cc
slice_get-map f (y ∷ ys) zero x at = let same : y ≡ x = cc in ap (λ z. Some (f z)) same
slice_get-map f (y ∷ ys) (suc i) x at = slice_get-map f ys i x at

abbrev pub Met : Type 0
Met = List (StrongKey × Bor (List ℕ))

-- the first n keys are met: each label under its strong key, and no two with the same
pub record AreMet (keys : List WorldKey) (n : ℕ) (met : Met) : Type 0 where
  pub sound : (k : StrongKey) (b : Bor (List ℕ)) → lookup (eq-value.it k) met ≡ Some b
      → (i : ℕ) × (i < n) × (slice_get keys i ≡ Some (key.Name b.now)) × (k ≡ strong_key b.now)
  pub complete : (i : ℕ) (m : List ℕ) → i < n → slice_get keys i ≡ Some (key.Name m)
      → lookup (eq-value.it (strong_key m)) met ≡ None → ⊥
  pub apart : (i j : ℕ) (p m : List ℕ) → i < j → j < n → slice_get keys i ≡ Some (key.Name m)
      → slice_get keys j ≡ Some (key.Name p) → strong_key p ≡ strong_key m → ⊥

pub met-none : (keys : List WorldKey) → AreMet keys 0 []
met-none keys = record {
  sound = λ k b found. cc;
  complete = λ i m below at absent. omega (arith, below);
  apart = λ i j p m before below first second same. omega (arith, below);
}

pub met-clash : (keys : List WorldKey) (n : ℕ) (met : Met) (label : List ℕ) (b : Bor (List ℕ)) → AreMet keys n met → slice_get keys n ≡ Some (key.Name label)
    → lookup (eq-value.it (strong_key label)) met ≡ Some b → Clashes keys label b.now
met-clash keys n met label b are here found =
    let there = are.sound (strong_key label) b found in (there.0, n, there.1, there.2, here, there.3)

below_or_same : (i n : ℕ) → i < n + 1 → (i < n) ⊎ (i ≡ n)
below_or_same i n within = grind arith

label_same : (a b : List ℕ) → Some (key.Name a) ≡ Some (key.Name b) → a ≡ b
label_same a b same = cc

label_at : (keys : List WorldKey) (i n : ℕ) (a b : List ℕ) → i ≡ n → slice_get keys n ≡ Some (key.Name a) → slice_get keys i ≡ Some (key.Name b) → a ≡ b
label_at keys i n a b same here there = label_same a b (sym here ∙ ap (slice_get keys) (sym same) ∙ there)

pub met-label : (keys : List WorldKey) (n : ℕ) (met : Met) (label : List ℕ) (b : Bor (List ℕ)) → AreMet keys n met → slice_get keys n ≡ Some (key.Name label) → b.now ≡ label
    → lookup (eq-value.it (strong_key label)) met ≡ None → AreMet keys (n + 1) (met ++ (strong_key label, b) ∷ [])
met-label keys n met label b are here is absent = record {
  sound = λ k w found. elim (lookup-push_cases (eq-value.it k) met (strong_key label) b w found) [
    | inl old ↦ let there = are.sound k w old in (there.0, omega (arith, there.1), there.2, there.3)
    | inr new ↦
        let called : label ≡ w.now = sym is ∙ ap (λ (x : Bor (List ℕ)). x.now) new.1 in
        (n, omega arith, here ∙ ap (λ (x : List ℕ). Some (key.Name x)) called, key_same k (strong_key label) new.0 ∙ ap strong_key called)
  ];
  complete = λ i m below at none. elim (below_or_same i n below) [
    | inl earlier ↦ are.complete i m earlier at (lookup-none_front (eq-value.it (strong_key m)) met ((strong_key label, b) ∷ []) none)
    | inr same ↦
        let called : label ≡ m = label_at keys i n label m same here at in
        let found : lookup (eq-value.it (strong_key m)) (met ++ (strong_key label, b) ∷ []) ≡ Some b =
        subst (λ (x : List ℕ). lookup (eq-value.it (strong_key x)) (met ++ (strong_key label, b) ∷ []) ≡ Some b) called
        (lookup-push (eq-value.it (strong_key label)) met (strong_key label) b absent (key_refl (strong_key label))) in
        cc (sym found ∙ none)
  ];
  apart = λ i j p m before below first second same. elim (below_or_same j n below) [
    | inl earlier ↦ are.apart i j p m before earlier first second same
    | inr last ↦
        let called : label ≡ p = label_at keys j n label p last here second in
        are.complete i m (omega arith) first (subst (λ (k : StrongKey). lookup (eq-value.it k) met ≡ None) (ap strong_key called ∙ same) absent)
  ];
}

pub met-other : (keys : List WorldKey) (n : ℕ) (met : Met) → AreMet keys n met → ((m : List ℕ) → slice_get keys n ≡ Some (key.Name m) → ⊥) → AreMet keys (n + 1) met
met-other keys n met are other = record {
  sound = λ k w found. let there = are.sound k w found in (there.0, omega (arith, there.1), there.2, there.3);
  complete = λ i m below at none. elim (below_or_same i n below) [
    | inl earlier ↦ are.complete i m earlier at none
    | inr same ↦ other m (ap (slice_get keys) (sym same) ∙ at)
  ];
  apart = λ i j p m before below first second same. elim (below_or_same j n below) [
    | inl earlier ↦ are.apart i j p m before earlier first second same
    | inr last ↦ other p (ap (slice_get keys) (sym last) ∙ second)
  ];
}

pub met-all : (keys : List WorldKey) (n : ℕ) (met : Met) → AreMet keys n met → length keys ≤ n → AreStronglyUnique keys
met-all keys n met are reached p m clash =
    let within : clash.1 < length keys = slice_get_within keys clash.1 (key.Name p) clash.4 in
    are.apart clash.0 clash.1 p m clash.2 (omega arith) clash.3 clash.4 clash.5
