-- Tables in which the value of a key is changed, or which get the key.
use Rattle.std.proofs.Common.{◌≡◌, ◌∙◌, ℕ, ◌<◌, ◌+◌, suc, Bool, true, false, cond, List, [], ◌∷◌, ◌++◌, length, Some, None, is_some, length-append, refl, sym, ap, arith, flat_map, append_assoc, append-nil, nat_eq}
use Rattle.std.proofs.lemmas.Bool.Decides.{Decides-eqb}
use Rattle.std.specs.List.{AllByRecursion, IsDistinct}
use Rattle.std.specs.Map.{keys_of, lookup}
use Rattle.wit_script_package.specs.steps.Mentioning.{with_value}

-- ids of which new ones stand among others
pub record IsInserted (old more new : List ℕ) : Type 0 where
  pub before : List ℕ
  pub after : List ℕ
  pub was : old ≡ before ++ after
  pub is : new ≡ before ++ (more ++ after)

pub inserted-nothing : (ids : List ℕ) → IsInserted ids [] ids
inserted-nothing ids = record { before = []; after = ids; was = refl; is = refl }

pub inserted-last : (ids more : List ℕ) → IsInserted ids more (ids ++ more)
inserted-last ids more = record { before = ids; after = []; was = sym (append-nil ids); is = ap (λ (l : List ℕ). ids ++ l) (sym (append-nil more)) }

inserted-left : (first old more new : List ℕ) → IsInserted old more new → IsInserted (first ++ old) more (first ++ new)
inserted-left first old more new it = record {
  before = first ++ it.before;
  after = it.after;
  was = ap (λ (l : List ℕ). first ++ l) it.was ∙ sym (append_assoc first it.before it.after);
  is = ap (λ (l : List ℕ). first ++ l) it.is ∙ sym (append_assoc first it.before (more ++ it.after));
}

inserted-right : (old more new last : List ℕ) → IsInserted old more new → IsInserted (old ++ last) more (new ++ last)
inserted-right old more new last it = record {
  before = it.before;
  after = it.after ++ last;
  was = ap (λ (l : List ℕ). l ++ last) it.was ∙ append_assoc it.before it.after last;
  is = ap (λ (l : List ℕ). l ++ last) it.is ∙ append_assoc it.before (more ++ it.after) last ∙ ap (λ (l : List ℕ). it.before ++ l) (append_assoc more it.after last);
}

module _ {K V : Type 0} (eq : K → K → Bool) (key : K) (first : V) (change : V → V) where
  -- the table after the change
  abbrev pub keyed : List (K × V) → List (K × V)
  keyed es = with_value (eq key) key first change es

  pub keyed-keys : (R : K → Type 0) (es : List (K × V)) → AllByRecursion R (keys_of es) → R key → AllByRecursion R (keys_of (keyed es))
  keyed-keys R [] all new = (new, tt)
  keyed-keys R (e ∷ es) all new = by (eq key e.0) (keyed-keys R es all.1 new) where
    by : (b : Bool) → AllByRecursion R (keys_of (keyed es)) → AllByRecursion R (keys_of (cond b ((e.0, change e.1) ∷ es) (e ∷ keyed es)))
    by true rest = (all.0, all.1)
    by false rest = (all.0, rest)

  pub keyed-distinct : ((a b : K) → eq a b ≡ eq b a) → (es : List (K × V)) → IsDistinct eq (keys_of es) → IsDistinct eq (keys_of (keyed es))
  unfolding IsDistinct
  keyed-distinct turn [] distinct = (tt, tt)
  keyed-distinct turn (e ∷ es) distinct = by (eq key e.0) refl (keyed-distinct turn es distinct.1) where
    by : (b : Bool) → eq key e.0 ≡ b → IsDistinct eq (keys_of (keyed es)) → IsDistinct eq (keys_of (cond b ((e.0, change e.1) ∷ es) (e ∷ keyed es)))
    by true is rest = distinct
    by false is rest = (keyed-keys (λ (y : K). eq e.0 y ≡ false) es distinct.0 (turn e.0 key ∙ is), rest)

  pub keyed-each : (P : K × V → Type 0) (es : List (K × V)) → AllByRecursion P es → P (key, change first) → ((k : K) (v : V) → P (k, v) → P (k, change v)) → AllByRecursion P (keyed es)
  keyed-each P [] all new changes = (new, tt)
  keyed-each P (e ∷ es) all new changes = by (eq key e.0) (keyed-each P es all.1 new changes) where
    by : (b : Bool) → AllByRecursion P (keyed es) → AllByRecursion P (cond b ((e.0, change e.1) ∷ es) (e ∷ keyed es))
    by true rest = (changes e.0 e.1 all.0, all.1)
    by false rest = (all.0, rest)

  pub keyed-length : (es : List (K × V)) → length (keyed es) ≡ length es + cond (is_some (lookup (eq key) es)) 0 1
  keyed-length [] = refl
  keyed-length (e ∷ es) = by (eq key e.0) (keyed-length es) where
    by : (b : Bool) → length (keyed es) ≡ length es + cond (is_some (lookup (eq key) es)) 0 1
        → length (cond b ((e.0, change e.1) ∷ es) (e ∷ keyed es)) ≡ suc (length es) + cond (is_some (cond b (Some e.1) (lookup (eq key) es))) 0 1
    by true rest = omega arith
    by false rest = omega (arith, rest)

  -- what entries tell, with what the new value tells besides
  pub keyed-told : (f : K × V → List ℕ) (more : List ℕ) (es : List (K × V)) → (lookup (eq key) es ≡ None → f (key, change first) ≡ more)
      → ((k : K) (v : V) → lookup (eq key) es ≡ Some v → IsInserted (f (k, v)) more (f (k, change v))) → IsInserted (flat_map f es) more (flat_map f (keyed es))
  keyed-told f more [] none some = record { before = []; after = []; was = refl; is = ap (λ (l : List ℕ). l ++ []) (none refl) }
  keyed-told f more (e ∷ es) none some = by (eq key e.0) none some (λ n s. keyed-told f more es n s) where
    by : (b : Bool) → (cond b (Some e.1) (lookup (eq key) es) ≡ None → f (key, change first) ≡ more)
        → ((k : K) (v : V) → cond b (Some e.1) (lookup (eq key) es) ≡ Some v → IsInserted (f (k, v)) more (f (k, change v)))
        → ((lookup (eq key) es ≡ None → f (key, change first) ≡ more) → ((k : K) (v : V) → lookup (eq key) es ≡ Some v → IsInserted (f (k, v)) more (f (k, change v)))
        → IsInserted (flat_map f es) more (flat_map f (keyed es)))
        → IsInserted (f e ++ flat_map f es) more (flat_map f (cond b ((e.0, change e.1) ∷ es) (e ∷ keyed es)))
    by true none some rest = inserted-right (f e) more (f (e.0, change e.1)) (flat_map f es) (some e.0 e.1 refl)
    by false none some rest = inserted-left (f e) (flat_map f es) more (flat_map f (keyed es)) (rest none some)

-- ids that are the first ones, each once
pub record AreAll (ids : List ℕ) (count : ℕ) : Type 0 where
  pub once : IsDistinct nat_eq ids
  pub below : AllByRecursion (λ id. id < count) ids
  pub all : length ids ≡ count

all-wider : (n : ℕ) (ids : List ℕ) → AllByRecursion (λ id. id < n) ids → AllByRecursion (λ id. id < n + 1) ids
all-wider n [] all = tt
all-wider n (id ∷ ids) all = let here = all.0 in (omega arith, all-wider n ids all.1)

module _ (n : ℕ) where
  below-inserted : (before after : List ℕ) → AllByRecursion (λ id. id < n) (before ++ after) → AllByRecursion (λ id. id < n + 1) (before ++ n ∷ after)
  below-inserted [] after all = (omega arith, all-wider n after all)
  below-inserted (id ∷ before) after all = let here = all.0 in (omega arith, below-inserted before after all.1)

  apart : (id : ℕ) → id < n → nat_eq id n ≡ false
  apart id below = by (nat_eq id n) refl where
    by : (b : Bool) → nat_eq id n ≡ b → b ≡ false
    by true is = let same : id ≡ n = (Decides-eqb id n).0 is in absurd (omega (arith, below, same))
    by false is = refl

  apart_from : (id : ℕ) → id < n → nat_eq n id ≡ false
  apart_from id below = by (nat_eq n id) refl where
    by : (b : Bool) → nat_eq n id ≡ b → b ≡ false
    by true is = let same : n ≡ id = (Decides-eqb n id).0 is in absurd (omega (arith, below, same))
    by false is = refl

  differs-inserted : (P : ℕ → Type 0) (before after : List ℕ) → AllByRecursion P (before ++ after) → P n → AllByRecursion P (before ++ n ∷ after)
  differs-inserted P [] after all new = (new, all)
  differs-inserted P (id ∷ before) after all new = (all.0, differs-inserted P before after all.1 new)

  apart_all : (after : List ℕ) → AllByRecursion (λ id. id < n) after → AllByRecursion (λ id. nat_eq n id ≡ false) after
  apart_all [] all = tt
  apart_all (id ∷ after) all = (apart_from id all.0, apart_all after all.1)

  once-inserted : (before after : List ℕ) → IsDistinct nat_eq (before ++ after) → AllByRecursion (λ id. id < n) (before ++ after) → IsDistinct nat_eq (before ++ n ∷ after)
  unfolding IsDistinct
  once-inserted [] after once all = (apart_all after all, once)
  once-inserted (id ∷ before) after once all =
      (differs-inserted (λ y. nat_eq id y ≡ false) before after once.0 (apart id all.0), once-inserted before after once.1 all.1)

  pub all-inserted : (old new : List ℕ) → AreAll old n → IsInserted old (n ∷ []) new → AreAll new (n + 1)
  all-inserted old new all it =
      rw it.is (record {
        once = once-inserted it.before it.after (rw it.was at all.once) (rw it.was at all.below);
        below = below-inserted it.before it.after (rw it.was at all.below);
        all = let whole : length (it.before ++ it.after) ≡ n = (rw it.was at all.all) in
            omega (arith, whole, length-append it.before it.after, length-append it.before (n ∷ it.after));
      })

pub all-same : (n : ℕ) (old new : List ℕ) → AreAll old n → IsInserted old [] new → AreAll new n
all-same n old new all it = let same : old ≡ new = it.was ∙ sym it.is in rw same at all
