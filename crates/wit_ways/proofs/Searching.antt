-- The search for a way.
use Rattle.std.proofs.Common.{◌≡◌, ◌<◌, ◌≤◌, ◌+◌, ◌⊎◌, ℕ, zero, suc, Bool, true, false, List, [], ◌∷◌, ◌++◌, Option, None, Some, inl, inr, refl, sym, ap, ◌∙◌, subst, arith, length, Contains, get_or, ◌-◌}
use Rattle.std.specs.Prelude.{◌||◌, not, slice_get, count_by, bytes_eq, cond, if◌then◌else◌, IfNone, IfSome, reverse}
use Rattle.std.specs.Map.{lookup}
use Rattle.std.specs.Cmp.Lexicographic.{nat_list_eq_equiv}
use Rattle.std.specs.Prelude.{IfOk, Result, Ok, Err}
use Rattle.std.specs.Option.{option_map_or}
use Rattle.std.proofs.lemmas.Bool.{cases_eq, cases_lt}
use Rattle.std.proofs.lemmas.List.{length-reverse, reverse-append}
use Rattle.std.proofs.lemmas.List.Sums.{sum_by-cons}
use Rattle.std.proofs.lemmas.List.Elements.{Contains-append_cases, Contains-append_left, Contains-push}
use Rattle.std.proofs.lemmas.Map.Views.{Contains-from_any, list_any-from_Contains}
use Rattle.std.proofs.lemmas.Option.{slice_get-get_or, slice_get_within}
use Rattle.std.proofs.lemmas.Slice.Eq.{bytes_eq-Decides}
use Rattle.wit_ways.specs.Ways.{AreReached, IsChosen, IsWay, is_among}
use Rattle.wit_ways.specs.steps.Searching.{GoesOn, IsAt, IsClosed, IsLinked, IsSearched, IsSearching, IsIndexUpTo, IsSeen, begins_at, last_from, names_reached, unseen, with_new, with_reached}
use Rattle.wit_ways.specs.declared.arrow.Arrow.{Arrow}
use Rattle.wit_ways.specs.declared.way.ArrowIndex.{ArrowIndex}
use Rattle.wit_ways.specs.declared.way.Reached.{Reached}
use Rattle.wit_ways.specs.declared.way.Search.{Search}

-- ---- elements

-- an element stays where more come behind
pub get_more : {X : Type 0} (xs ys : List X) (q : ℕ) (x : X) → slice_get xs q ≡ Some x → slice_get (xs ++ ys) q ≡ Some x
get_more [] ys q x there = cc
get_more (y ∷ xs) ys zero x there = there
get_more (y ∷ xs) ys (suc q) x there = get_more xs ys q x there

pub get_last : {X : Type 0} (xs : List X) (x : X) → slice_get (xs ++ x ∷ []) (length xs) ≡ Some x
get_last [] x = refl
get_last (y ∷ xs) x = get_last xs x

get_cases : {X : Type 0} (xs : List X) (x : X) (q : ℕ) (y : X) → slice_get (xs ++ x ∷ []) q ≡ Some y → (slice_get xs q ≡ Some y) ⊎ ((q ≡ length xs) × (x ≡ y))
get_cases [] x zero y there = let same : x ≡ y = cc in inr (refl, same)
get_cases [] x (suc q) y there = cc
get_cases (z ∷ xs) x zero y there = inl there
get_cases (z ∷ xs) x (suc q) y there = elim (get_cases xs x q y there) [ inl before ↦ inl before | inr last ↦ inr (ap suc last.0, last.1) ]

none_in : {X : Type 0} (x : X) → Contains [] x → ⊥
none_in x h = omega (arith, h.1)

first_in : {X : Type 0} (x : X) (xs : List X) → Contains (x ∷ xs) x
first_in x xs = (0, omega arith, refl)

later_in : {X : Type 0} (x y : X) (xs : List X) → Contains xs y → Contains (x ∷ xs) y
later_in x y xs h = (suc h.0, omega (arith, h.1), h.2)

in_cases : {X : Type 0} (x y : X) (xs : List X) → Contains (x ∷ xs) y → (x ≡ y) ⊎ Contains xs y
in_cases x y xs (zero, below, is) = inl is
in_cases x y xs (suc k, below, is) = inr (k, omega (arith, below), is)

pub contains_at : {X : Type 0} (xs : List X) (q : ℕ) (x : X) → slice_get xs q ≡ Some x → Contains xs x
contains_at [] q x there = cc
contains_at (y ∷ xs) zero x there = let same : y ≡ x = cc in subst (λ z. Contains (y ∷ xs) z) same (first_in y xs)
contains_at (y ∷ xs) (suc q) x there = later_in y x xs (contains_at xs q x there)

pub at_contains : {X : Type 0} (xs : List X) (x : X) → Contains xs x → (q : ℕ) × (slice_get xs q ≡ Some x)
at_contains [] x has = absurd (none_in x has)
at_contains (y ∷ xs) x has = elim (in_cases y x xs has) [ inl same ↦ (0, ap Some same) | inr there ↦ let p = at_contains xs x there in (suc p.0, p.1) ]

-- ---- names

pub among : (names : List (List ℕ)) (x : List ℕ) → Contains names x → is_among names x ≡ true
among names x has = list_any-from_Contains nat_list_eq_equiv x names has

pub from_among : (names : List (List ℕ)) (x : List ℕ) → is_among names x ≡ true → Contains names x
from_among names x found = Contains-from_any (λ a b h. (bytes_eq-Decides a b).0 h) x names found

pub among_more : (names : List (List ℕ)) (y x : List ℕ) → is_among names x ≡ true → is_among (names ++ y ∷ []) x ≡ true
among_more names y x found = among (names ++ y ∷ []) x (Contains-append_left names (y ∷ []) x (from_among names x found))

pub among_last : (names : List (List ℕ)) (y : List ℕ) → is_among (names ++ y ∷ []) y ≡ true
among_last names y = among (names ++ y ∷ []) y (Contains-push names y)

pub among_cases : (names : List (List ℕ)) (y x : List ℕ) → is_among (names ++ y ∷ []) x ≡ true → (is_among names x ≡ true) ⊎ (x ≡ y)
among_cases names y x found =
    elim (Contains-append_cases names (y ∷ []) x (from_among (names ++ y ∷ []) x found)) [
      | inl before ↦ inl (among names x before)
      | inr last ↦ elim (in_cases y x [] last) [ inl same ↦ inr (sym same) | inr none ↦ absurd (none_in x none) ]
    ]

-- ---- the index

-- an arrow that begins at a name
begun : (name : List ℕ) (o : Option Arrow) → begins_at o name ≡ true → (a : Arrow) × (o ≡ Some a) × (a.from ≡ name)
begun name None begins = cc
begun name (Some a) begins = (a, refl, (bytes_eq-Decides a.from name).0 begins)

begins : (name : List ℕ) (o : Option Arrow) (a : Arrow) → o ≡ Some a → a.from ≡ name → begins_at o name ≡ true
begins name o a is from = rw is ((bytes_eq-Decides a.from name).1 from)

module _ (arrows : List Arrow) (name : List ℕ) where
  -- what is told of the last arrow of so many
  abbrev pub IsLast : ℕ → Option ℕ → Type 0
  IsLast count None = (j : ℕ) (a : Arrow) → j < count → slice_get arrows j ≡ Some a → a.from ≡ name → ⊥
  IsLast count (Some k) =
      (k < count) × ((a : Arrow) × (slice_get arrows k ≡ Some a) × (a.from ≡ name)) × ((j : ℕ) (a : Arrow) → k < j → j < count → slice_get arrows j ≡ Some a → a.from ≡ name → ⊥)

  -- one more arrow doesn't begin there
  past : (count : ℕ) (o : Option ℕ) → begins_at (slice_get arrows count) name ≡ false → IsLast count o → IsLast (suc count) o
  past count None other is = λ j a below there from. elim (cases_eq j count) [
    | inl same ↦
        let yes : begins_at (slice_get arrows count) name ≡ true = begins name (slice_get arrows count) a (subst (λ i. slice_get arrows i ≡ Some a) same there) from in
        cc
    | inr apart ↦ is j a (omega (arith, below, apart)) there from
  ]
  past count (Some k) other is = (
    omega (arith, is.0),
    is.1,
    λ j a above below there from. elim (cases_eq j count) [
      | inl same ↦
          let yes : begins_at (slice_get arrows count) name ≡ true = begins name (slice_get arrows count) a (subst (λ i. slice_get arrows i ≡ Some a) same there) from in
          cc
      | inr apart ↦ is.2 j a above (omega (arith, below, apart)) there from
    ],
  )

  last_by : (count : ℕ) (b : Bool) → begins_at (slice_get arrows count) name ≡ b → IsLast count (last_from arrows name count) → IsLast (suc count) (if b then Some count else last_from arrows name count)
  last_by count true here is = (omega arith, begun name (slice_get arrows count) here, λ j a above below there from. omega (arith, above, below))
  last_by count false other is = past count (last_from arrows name count) other is

  pub last_is : (count : ℕ) → IsLast count (last_from arrows name count)
  last_is zero = λ j a below there from. omega (arith, below)
  last_is (suc count) = last_by count (begins_at (slice_get arrows count) name) refl (last_is count)

-- one more arrow in the index
pub index_next : (arrows : List Arrow) (n : ℕ) (old new : ArrowIndex) (a : Arrow) (earlier : Option ℕ) → IsIndexUpTo arrows n old → slice_get arrows n ≡ Some a
    → earlier ≡ lookup (bytes_eq a.from) old.last.entries → ((q : List ℕ) → lookup (bytes_eq q) new.last.entries ≡ cond (bytes_eq a.from q) (Some n) (lookup (bytes_eq q) old.last.entries))
    → new.before ≡ old.before ++ earlier ∷ [] → IsIndexUpTo arrows (suc n) new
index_next arrows n old new a earlier is there earlier_is updates longer = record {
  last_is = λ name. updates name ∙ ap (λ (o : Option ℕ). cond (bytes_eq a.from name) (Some n) o) (is.last_is name)
      ∙ ap (λ (o : Option Arrow). cond (begins_at o name) (Some n) (last_from arrows name n)) (sym there);
  before_is = λ k b below there_b. elim (cases_eq k n) [
    | inl same ↦
        let at : a ≡ b = (let h : slice_get arrows n ≡ Some b = subst (λ i. slice_get arrows i ≡ Some b) same there_b in cc) in
        let last : slice_get new.before n ≡ Some earlier =
        subst (λ (xs : List (Option ℕ)). slice_get xs n ≡ Some earlier) (sym longer) (subst (λ i. slice_get (old.before ++ earlier ∷ []) i ≡ Some earlier) is.long (get_last old.before earlier)) in
        let told : earlier ≡ last_from arrows b.from n = earlier_is ∙ is.last_is a.from ∙ ap (λ (x : Arrow). last_from arrows x.from n) at in
        subst (λ i. slice_get new.before i ≡ Some (last_from arrows b.from i)) (sym same) (last ∙ ap Some told)
    | inr apart ↦
        subst (λ (xs : List (Option ℕ)). slice_get xs k ≡ Some (last_from arrows b.from k)) (sym longer)
        (get_more old.before (earlier ∷ []) k (last_from arrows b.from k) (is.before_is k b (omega (arith, below, apart)) there_b))
  ];
  long = ap length longer ∙ long_more old.before earlier ∙ ap suc is.long;
} where
  long_more : (xs : List (Option ℕ)) (x : Option ℕ) → length (xs ++ x ∷ []) ≡ suc (length xs)
  long_more [] x = refl
  long_more (y ∷ xs) x = ap suc (long_more xs x)

-- ---- what is reached

module _ (arrows : List Arrow) (goals : List (List ℕ)) where
  -- a search stands where it stood
  pub at_same : (start : List ℕ) (first : Bool) (old new : List Reached) (before : Option ℕ) (name : List ℕ) (met : Bool) → ((q : ℕ) (r : Reached) → slice_get old q ≡ Some r → slice_get new q ≡ Some r)
      → IsAt arrows start first old before name met → IsAt arrows start first new before name met
  at_same start first old new None name met same at = at
  at_same start first old new (Some q) name met same at = (at.0, at.1, same q at.0 at.2, at.3, at.4, at.5)

  linked_same : (start : List ℕ) (first : Bool) (old new : List Reached) (q : ℕ) (r : Reached) → ((q : ℕ) (r : Reached) → slice_get old q ≡ Some r → slice_get new q ≡ Some r)
      → IsLinked arrows goals start first old q r → IsLinked arrows goals start first new q r
  linked_same start first old new q r same l = record {
    arrow = l.arrow;
    there = l.there;
    met = l.met;
    stood = at_same start first old new r.before l.arrow.from l.met same l.stood;
    met_is = l.met_is;
    earlier = l.earlier;
  }

  -- ---- turns

  -- 1 for a name that isn't seen
  abbrev pub weight : Bool → ℕ
  weight b = cond (not b) 1 0

  abbrev pub absent : List (List ℕ) → List Arrow → ℕ
  absent names all = count_by (λ (a : Arrow). not (is_among names a.to)) all

  absent_more : (names : List (List ℕ)) (a : Arrow) (all : List Arrow) → absent names (a ∷ all) ≡ weight (is_among names a.to) + absent names all
  absent_more names a all = sum_by-cons (λ (b : Arrow). weight (is_among names b.to)) a all

  fewer_one : (names : List (List ℕ)) (to x : List ℕ) → weight (is_among (names ++ to ∷ []) x) ≤ weight (is_among names x)
  fewer_one names to x = by (is_among names x) (is_among (names ++ to ∷ []) x) refl refl where
    by : (b c : Bool) → is_among names x ≡ b → is_among (names ++ to ∷ []) x ≡ c → weight c ≤ weight b
    by true true known more = omega arith
    by false true known more = omega arith
    by false false known more = omega arith
    by true false known more = let stays = among_more names to x known in cc

  pub fewer : (names : List (List ℕ)) (to : List ℕ) (all : List Arrow) → absent (names ++ to ∷ []) all ≤ absent names all
  fewer names to [] = omega arith
  fewer names to (a ∷ all) = omega (arith, fewer_one names to a.to, fewer names to all, absent_more names a all, absent_more (names ++ to ∷ []) a all)

  pub less : (names : List (List ℕ)) (to : List ℕ) (all : List Arrow) (k : ℕ) (a : Arrow) → slice_get all k ≡ Some a → a.to ≡ to → is_among names to ≡ false
      → suc (absent (names ++ to ∷ []) all) ≤ absent names all
  less names to [] k a there same new = cc
  less names to (b ∷ all) zero a there same new =
      let is : b ≡ a = cc in
      let at : b.to ≡ to = ap (λ (x : Arrow). x.to) is ∙ same in
      let before : weight (is_among names b.to) ≡ 1 = ap (λ (x : List ℕ). weight (is_among names x)) at ∙ ap weight new in
      let after : weight (is_among (names ++ to ∷ []) b.to) ≡ 0 = ap (λ (x : List ℕ). weight (is_among (names ++ to ∷ []) x)) at ∙ ap weight (among_last names to) in
      omega (arith, before, after, fewer names to all, absent_more names b all, absent_more (names ++ to ∷ []) b all)
  less names to (b ∷ all) (suc k) a there same new =
      omega (arith, fewer_one names to b.to, less names to all k a there same new, absent_more names b all, absent_more (names ++ to ∷ []) b all)

  -- ---- one more is reached

  module _ (s : Search) (to : List ℕ) (r : Reached) where
    new_reached : (m : Bool) → (with_new s to r m).reached ≡ s.reached ++ r ∷ []
    new_reached true = refl
    new_reached false = refl

    new_kept : (m : Bool) (x : List ℕ) (n : Bool) → IsSeen s x n → IsSeen (with_new s to r m) x n
    new_kept true x true seen = among_more s.past to x seen
    new_kept true x false seen = seen
    new_kept false x true seen = seen
    new_kept false x false seen = among_more s.plain to x seen

    new_seen : (m : Bool) → IsSeen (with_new s to r m) to m
    new_seen true = among_last s.past to
    new_seen false = among_last s.plain to

    new_cases : (m : Bool) (x : List ℕ) (n : Bool) → IsSeen (with_new s to r m) x n → IsSeen s x n ⊎ ((x ≡ to) × (n ≡ m))
    new_cases true x true seen = elim (among_cases s.past to x seen) [ inl before ↦ inl before | inr same ↦ inr (same, refl) ]
    new_cases true x false seen = inl seen
    new_cases false x true seen = inl seen
    new_cases false x false seen = elim (among_cases s.plain to x seen) [ inl before ↦ inl before | inr same ↦ inr (same, refl) ]

    new_nearer : (m : Bool) (k : ℕ) (a : Arrow) → slice_get arrows k ≡ Some a → a.to ≡ to → is_among (names_reached s m) to ≡ false → suc (unseen arrows (with_new s to r m)) ≤ unseen arrows s
    new_nearer true k a there same new = omega (arith, less s.past to arrows k a there same new)
    new_nearer false k a there same new = omega (arith, less s.plain to arrows k a there same new)

    long_new : (m : Bool) → length (with_new s to r m).reached ≡ length s.reached + 1
    long_new m = ap length (new_reached m) ∙ longer s.reached
      where
        longer : (xs : List Reached) → length (xs ++ r ∷ []) ≡ length xs + 1
        longer [] = refl
        longer (x ∷ xs) = omega (arith, longer xs)

    same_new : (m : Bool) (q : ℕ) (x : Reached) → slice_get s.reached q ≡ Some x → slice_get (with_new s to r m).reached q ≡ Some x
    same_new m q x there = subst (λ (xs : List Reached). slice_get xs q ≡ Some x) (sym (new_reached m)) (get_more s.reached (r ∷ []) q x there)

  module _ (from : List ℕ) (met : Bool) (before : Option ℕ) where
    pub on_refl : (s : Search) → GoesOn arrows goals from met before s s
    on_refl s = record {
      stays = λ start first is at. is;
      kept = λ name m seen. seen;
      same = λ q r there. there;
      longer = omega arith;
      nearer = omega arith;
    }

    pub on_trans : (s t u : Search) → GoesOn arrows goals from met before s t → GoesOn arrows goals from met before t u → GoesOn arrows goals from met before s u
    on_trans s t u one two = record {
      stays = λ start first is at. two.stays start first (one.stays start first is at) (at_same start first s.reached t.reached before from met one.same at);
      kept = λ name m seen. two.kept name m (one.kept name m seen);
      same = λ q r there. two.same q r (one.same q r there);
      longer = omega (arith, one.longer, two.longer);
      nearer = omega (arith, one.nearer, two.nearer);
    }

    -- the place before is earlier than all that come
    before_within : (start : List ℕ) (first : Bool) (reached : List Reached) (o : Option ℕ) → IsAt arrows start first reached o from met → IfSome o (λ p. p < length reached)
    before_within start first reached None at = tt
    before_within start first reached (Some p) at = slice_get_within reached p at.0 at.2

    module _ (s : Search) (k : ℕ) (a : Arrow) (m : Bool) (there : slice_get arrows k ≡ Some a) (begins_here : a.from ≡ from) (met_is : m ≡ (met || not (is_among goals a.to))) where
      abbrev pub r : Reached
      r = record { arrow = k; before = before; met = m }

      new_on : is_among (names_reached s m) a.to ≡ false → GoesOn arrows goals from met before s (with_new s a.to r m)
      new_on new = record {
        stays = λ start first is at. record {
          linked = λ q x found. elim (get_cases s.reached r q x (subst (λ (xs : List Reached). slice_get xs q ≡ Some x) (new_reached s a.to r m) found)) [
            | inl old ↦ linked_same start first s.reached (with_new s a.to r m).reached q x (same_new s a.to r m) (is.linked q x old)
            | inr last ↦
                subst (λ (y : Reached). IsLinked arrows goals start first (with_new s a.to r m).reached q y) last.1
                (record {
                  arrow = a;
                  there = there;
                  met = met;
                  stood = at_same start first s.reached (with_new s a.to r m).reached before a.from met (same_new s a.to r m)
                      (subst (λ (x : List ℕ). IsAt arrows start first s.reached before x met) (sym begins_here) at);
                  met_is = met_is;
                  earlier = subst (λ (n : ℕ). IfSome before (λ p. p < n)) (sym last.0) (before_within start first s.reached before at);
                })
          ];
          seen = λ x n shown. elim (new_cases s a.to r m x n shown) [
            | inl old ↦ let p = is.seen x n old in (p.0, at_same start first s.reached (with_new s a.to r m).reached (Some p.0) x n (same_new s a.to r m) p.1)
            | inr last ↦ (
              length s.reached,
              (r, a, subst (λ (xs : List Reached). slice_get xs (length s.reached) ≡ Some r) (sym (new_reached s a.to r m)) (get_last s.reached r), there, last.0, last.1),
            )
          ];
        };
        kept = new_kept s a.to r m;
        same = same_new s a.to r m;
        longer = omega (arith, long_new s a.to r m);
        nearer = omega (arith, long_new s a.to r m, new_nearer s a.to r m k a there refl new);
      }

      -- an arrow is gone along
      pub reached_on : GoesOn arrows goals from met before s (with_reached s a.to r) × IsSeen (with_reached s a.to r) a.to m
      reached_on = by (is_among (names_reached s m) a.to) refl where
        by : (b : Bool) → is_among (names_reached s m) a.to ≡ b
            → GoesOn arrows goals from met before s (if b then s else with_new s a.to r m) × IsSeen (if b then s else with_new s a.to r m) a.to m
        by true known = (on_refl s, known)
        by false new = (new_on new, new_seen s a.to r m)

  -- ---- ways

  module _ (start : List ℕ) (first : Bool) (s : Search) where
    -- one arrow back
    pub back_one : (q : ℕ) (r : Reached) (name : List ℕ) (met : Bool) (way : List Arrow) (end : List ℕ) (m : Bool) → slice_get s.reached q ≡ Some r → (l : IsLinked arrows goals start first s.reached q r)
        → IsAt arrows start first s.reached (Some q) name met → IsWay arrows goals name met way end m → IsWay arrows goals l.arrow.from l.met (l.arrow ∷ way) end m
    back_one q r name met way end m there l at leads =
        let same_r : at.0 ≡ r = (let h = at.2 in cc) in
        let found : slice_get arrows r.arrow ≡ Some at.1 = subst (λ (x : Reached). slice_get arrows x.arrow ≡ Some at.1) same_r at.3 in
        let same_a : at.1 ≡ l.arrow = (let h = l.there in cc) in
        let name_is : name ≡ l.arrow.to = at.4 ∙ ap (λ (x : Arrow). x.to) same_a in
        let met_is : met ≡ (l.met || not (is_among goals l.arrow.to)) = at.5 ∙ ap (λ (x : Reached). x.met) same_r ∙ l.met_is in (
          contains_at arrows r.arrow l.arrow l.there,
          refl,
          subst (λ (x : Bool). IsWay arrows goals l.arrow.to x way end m) met_is (subst (λ (x : List ℕ). IsWay arrows goals x met way end m) name_is leads),
        )

    -- from the start, or from an earlier place
    back_by : (q : ℕ) (o : Option ℕ) (from : List ℕ) (met : Bool) (a : Arrow) (way : List Arrow) (end : List ℕ) (m : Bool) → IsAt arrows start first s.reached o from met → IfSome o (λ p. p < q)
        → IsWay arrows goals from met (a ∷ way) end m
        → ((p : ℕ) → p < q → IsAt arrows start first s.reached (Some p) from met → (b : Arrow) × (more : List Arrow) × IsWay arrows goals start first (b ∷ more) end m)
        → (b : Arrow) × (more : List Arrow) × IsWay arrows goals start first (b ∷ more) end m
    back_by q None from met a way end m stood earlier leads again =
        (a, way, subst (λ (x : Bool). IsWay arrows goals start x (a ∷ way) end m) stood.1 (subst (λ (x : List ℕ). IsWay arrows goals x met (a ∷ way) end m) stood.0 leads))
    back_by q (Some p) from met a way end m stood earlier leads again = again p earlier stood

    -- all the way back
    pub back : IsSearching arrows goals start first s → (fuel q : ℕ) → q < fuel → (name : List ℕ) (met : Bool) → IsAt arrows start first s.reached (Some q) name met
        → (way : List Arrow) (end : List ℕ) (m : Bool) → IsWay arrows goals name met way end m → (a : Arrow) × (more : List Arrow) × IsWay arrows goals start first (a ∷ more) end m
    back is zero q below name met at way end m leads = absurd (omega (arith, below))
    back is (suc fuel) q below name met at way end m leads =
        let l = is.linked q at.0 at.2 in
        let longer = back_one q at.0 name met way end m at.2 l at leads in
        back_by q at.0.before l.arrow.from l.met l.arrow way end m l.stood l.earlier longer
        (λ p early stood. back is fuel p (omega (arith, below, early)) l.arrow.from l.met stood (l.arrow ∷ way) end m longer)

    -- what a way leads to is seen
    pub ways_seen : IsSearched arrows goals start first s → (name : List ℕ) (met : Bool) → IsClosed arrows goals s name met → (a : Arrow) (way : List Arrow) (end : List ℕ) (m : Bool)
        → IsWay arrows goals name met (a ∷ way) end m → IsSeen s end m
    ways_seen is name met closed a [] end m leads =
        subst (λ (x : Bool). IsSeen s end x) leads.2.1 (subst (λ (x : List ℕ). IsSeen s x (met || not (is_among goals a.to))) leads.2.0 (closed a leads.0 leads.1))
    ways_seen is name met closed a (b ∷ way) end m leads =
        let seen = closed a leads.0 leads.1 in
        let at = is.searching.seen a.to (met || not (is_among goals a.to)) seen in
        ways_seen is a.to (met || not (is_among goals a.to)) (is.closed at.0 a.to (met || not (is_among goals a.to)) at.1) b way end m leads.2

    -- what is seen has a way
    pub seen_ways : IsSearching arrows goals start first s → (name : List ℕ) (met : Bool) → IsSeen s name met → (a : Arrow) × (way : List Arrow) × IsWay arrows goals start first (a ∷ way) name met
    seen_ways is name met seen = let at = is.seen name met seen in back is (suc at.0) at.0 (omega arith) name met at.1 [] name met (refl, refl)

-- ---- turns of loops

-- all arrows from a name on are gone along, but those of which this is the last
pub record AreDone (arrows : List Arrow) (goals : List (List ℕ)) (s : Search) (from : List ℕ) (met : Bool) (next : Option ℕ) : Type 0 where
  pub bound : ℕ
  pub is : next ≡ last_from arrows from bound
  pub done : (j : ℕ) (a : Arrow) → bound ≤ j → slice_get arrows j ≡ Some a → a.from ≡ from → IsSeen s a.to (met || not (is_among goals a.to))

-- what was reached at a place is reached from where the search stood at another, along these arrows from the last to the first
pub record IsBack (arrows : List Arrow) (s : Search) (at : ℕ) (next : Option ℕ) (way : List Arrow) : Type 0 where
  pub leads : (goals : List (List ℕ)) (start name : List ℕ) (first met : Bool) → IsSearching arrows goals start first s → IsAt arrows start first s.reached (Some at) name met
      → (n : List ℕ) × (m : Bool) × IsAt arrows start first s.reached next n m × IsWay arrows goals n m (reverse way) name met
  pub there : IfSome next (λ q. q < length s.reached)
  pub some : IfNone next (0 < length way)

module _ (arrows : List Arrow) (goals : List (List ℕ)) (from : List ℕ) (met : Bool) where
  pub done_first : (s : Search) → AreDone arrows goals s from met (last_from arrows from (length arrows))
  done_first s = record {
    bound = length arrows;
    is = refl;
    done = λ j a past there begins. absurd (omega (arith, past, slice_get_within arrows j a there));
  }

  -- the next arrow is there, and begins there
  pub next_arrow : (s : Search) (k : ℕ) (d : AreDone arrows goals s from met (Some k)) → (k < d.bound) × ((a : Arrow) × (slice_get arrows k ≡ Some a) × (a.from ≡ from))
  next_arrow s k d = let last = subst (IsLast arrows from d.bound) (sym d.is) (last_is arrows from d.bound) in (last.0, last.1)

  pub done_next : (s t : Search) (k : ℕ) (a : Arrow) (next : Option ℕ) → AreDone arrows goals s from met (Some k) → ((name : List ℕ) (m : Bool) → IsSeen s name m → IsSeen t name m)
      → slice_get arrows k ≡ Some a → IsSeen t a.to (met || not (is_among goals a.to)) → next ≡ last_from arrows from k → AreDone arrows goals t from met next
  done_next s t k a next d kept there seen is = record {
    bound = k;
    is = is;
    done = λ j b past there_b begins. elim (cases_eq j k) [
      | inl same ↦
          let at : a ≡ b = (let h : slice_get arrows k ≡ Some b = subst (λ i. slice_get arrows i ≡ Some b) same there_b in cc) in
          subst (λ (x : Arrow). IsSeen t x.to (met || not (is_among goals x.to))) at seen
      | inr apart ↦ elim (cases_lt j d.bound) [
        | inl below ↦ absurd (last.2 j b (omega (arith, past, apart)) below there_b begins)
        | inr above ↦ kept b.to (met || not (is_among goals b.to)) (d.done j b (omega (arith, above)) there_b begins)
      ]
    ];
  }
    where
      last : IsLast arrows from d.bound (Some k)
      last = subst (IsLast arrows from d.bound) (sym d.is) (last_is arrows from d.bound)

  pub done_all : (s : Search) → AreDone arrows goals s from met None → IsClosed arrows goals s from met
  done_all s d = λ a has begins.
      let at = at_contains arrows a has in
      elim (cases_lt at.0 d.bound) [
        | inl below ↦ absurd (subst (IsLast arrows from d.bound) (sym d.is) (last_is arrows from d.bound) at.0 a below at.1 begins)
        | inr above ↦ d.done at.0 a (omega (arith, above)) at.1 begins
      ]

module _ (arrows : List Arrow) (goals : List (List ℕ)) (start : List ℕ) (first : Bool) where
  -- nothing is reached
  pub none_reached : IsSearching arrows goals start first (record { reached = []; plain = []; past = [] })
  none_reached = record {
    linked = λ q r there. cc;
    seen = λ name met seen. absurd (nothing name met seen);
  }
    where
      nothing : (name : List ℕ) (met : Bool) → IsSeen (record { reached = []; plain = []; past = [] }) name met → ⊥
      nothing name true seen = cc
      nothing name false seen = cc

  pub closed_kept : (s t : Search) → ((name : List ℕ) (m : Bool) → IsSeen s name m → IsSeen t name m) → (name : List ℕ) (met : Bool) → IsClosed arrows goals s name met → IsClosed arrows goals t name met
  closed_kept s t kept name met closed = λ a has begins. kept a.to (met || not (is_among goals a.to)) (closed a has begins)

  -- the name reached next is left behind
  module _ (s t : Search) (next : ℕ) (r : Reached) (a : Arrow) (below : next < length s.reached) (there : slice_get s.reached next ≡ Some r) (leads : slice_get arrows r.arrow ≡ Some a)
      (on : GoesOn arrows goals a.to r.met (Some next) s t) where
    pub turn_searching : IsSearching arrows goals start first s → IsSearching arrows goals start first t
    turn_searching is = on.stays start first is (r, a, there, leads, refl, refl)

    pub turn_closed : IsClosed arrows goals t a.to r.met → ((q : ℕ) (name : List ℕ) (met : Bool) → q < next → IsAt arrows start first s.reached (Some q) name met → IsClosed arrows goals s name met)
        → (q : ℕ) (name : List ℕ) (met : Bool) → q < next + 1 → IsAt arrows start first t.reached (Some q) name met → IsClosed arrows goals t name met
    turn_closed closed before q name met early at = elim (cases_eq q next) [
      | inl same ↦
          let now : slice_get t.reached next ≡ Some at.0 = subst (λ i. slice_get t.reached i ≡ Some at.0) same at.2 in
          let same_r : r ≡ at.0 = (let h = on.same next r there in cc) in
          let found : slice_get arrows r.arrow ≡ Some at.1 = subst (λ (x : Reached). slice_get arrows x.arrow ≡ Some at.1) (sym same_r) at.3 in
          let same_a : a ≡ at.1 = cc in
          subst (λ (x : Bool). IsClosed arrows goals t name x) (ap (λ (x : Reached). x.met) same_r ∙ sym at.5)
          (subst (λ (x : List ℕ). IsClosed arrows goals t x r.met) (ap (λ (x : Arrow). x.to) same_a ∙ sym at.4) closed)
      | inr apart ↦
          let inside : q < length s.reached = omega (arith, early, below, apart) in
          let was : slice_get s.reached q ≡ Some (get_or s.reached q at.0) = slice_get-get_or s.reached q at.0 inside in
          let same_r : get_or s.reached q at.0 ≡ at.0 = (let h = on.same q (get_or s.reached q at.0) was in let now = at.2 in cc) in
          let old : slice_get s.reached q ≡ Some at.0 = was ∙ ap Some same_r in
          closed_kept s t on.kept name met (before q name met (omega (arith, early, apart)) (at.0, at.1, old, at.3, at.4, at.5))
    ]

    pub turn_within : next + 1 ≤ length t.reached
    turn_within = omega (arith, below, on.longer)

    pub turn_smaller : unseen arrows t + (length t.reached - (next + 1)) < unseen arrows s + (length s.reached - next)
    turn_smaller = omega (arith, below, on.longer, on.nearer)

  -- ---- answers

  pub chosen : (way : List Arrow) (end : List ℕ) → 0 < length way → IsWay arrows goals start first way end true → is_among goals end ≡ true → IsChosen arrows goals start first way
  chosen [] end some leads goal = omega (arith, some)
  chosen (a ∷ way) end some leads goal = (end, leads, goal)

  pub chosen_none : (s : Search) → IsSearched arrows goals start first s
      → ((q : ℕ) (r : Reached) (a : Arrow) → slice_get s.reached q ≡ Some r → slice_get arrows r.arrow ≡ Some a → r.met ≡ true → is_among goals a.to ≡ true → ⊥) → IsChosen arrows goals start first []
  chosen_none s is none = λ a way end leads goal.
      let at = is.searching.seen end true (ways_seen arrows goals start first s is start first is.begun a way end true leads) in
      none at.0 at.1.0 at.1.1 at.1.2 at.1.3 (sym at.1.5) (subst (λ (x : List ℕ). is_among goals x ≡ true) at.1.4 goal)

-- what is reached is what is included
pub included : (arrows : List Arrow) (world : List ℕ) (s : Search) → IsSearched arrows [] world true s → AreReached arrows world s.past
included arrows world s is name = (
  λ seen. seen_ways arrows [] world true s is.searching name true seen,
  λ w. ways_seen arrows [] world true s is world true is.begun w.0 w.1 name true w.2,
)

-- the first turn
pub first_turn : (arrows : List Arrow) (goals : List (List ℕ)) (start : List ℕ) (first : Bool) (s t : Search) → s ≡ record { reached = []; plain = []; past = [] }
    → GoesOn arrows goals start first None s t → IsSearching arrows goals start first t
first_turn arrows goals start first s t is on =
    on.stays start first (subst (IsSearching arrows goals start first) (sym is) (none_reached arrows goals start first)) (refl, refl)

-- all is left behind
pub searched : (arrows : List Arrow) (goals : List (List ℕ)) (start : List ℕ) (first : Bool) (s : Search) (next : ℕ) → length s.reached ≡ next → IsSearching arrows goals start first s
    → IsClosed arrows goals s start first → ((q : ℕ) (name : List ℕ) (met : Bool) → q < next → IsAt arrows start first s.reached (Some q) name met → IsClosed arrows goals s name met)
    → IsSearched arrows goals start first s
searched arrows goals start first s next past is begun closed = record {
  searching = is;
  begun = begun;
  closed = λ q name met at. closed q name met (omega (arith, past, slice_get_within s.reached q at.0 at.2)) at;
}

-- the turn of `go_on`
module _ (arrows : List Arrow) (goals : List (List ℕ)) (from : List ℕ) (met : Bool) where
  -- the arrow before one is earlier
  pub next_before : (index : ArrowIndex) → IsIndexUpTo arrows (length arrows) index → (s : Search) (k : ℕ) → AreDone arrows goals s from met (Some k) → (o : Option ℕ) → slice_get index.before k ≡ Some o
      → (o ≡ last_from arrows from k) × (option_map_or suc o 0 < suc k)
  next_before index is s k done o there =
      let next = next_arrow arrows goals from met s k done in
      let a = next.1.0 in
      let told : slice_get index.before k ≡ Some (last_from arrows a.from k) = is.before_is k a (slice_get_within arrows k a next.1.1) next.1.1 in
      let same : o ≡ last_from arrows a.from k = cc in
      let here : o ≡ last_from arrows from k = same ∙ ap (λ (x : List ℕ). last_from arrows x k) next.1.2 in
      (here, subst (λ (x : Option ℕ). option_map_or suc x 0 < suc k) (sym here) (earlier (last_from arrows from k) (last_is arrows from k)))
    where
      earlier : (x : Option ℕ) → IsLast arrows from k x → option_map_or suc x 0 < suc k
      earlier None last = omega arith
      earlier (Some j) last = omega (arith, last.0)

  pub gone : (before : Option ℕ) (index : ArrowIndex) → IsIndexUpTo arrows (length arrows) index → (first s : Search) (k : ℕ) (a : Arrow) (m : Bool) (o : Option ℕ)
      → GoesOn arrows goals from met before first s → AreDone arrows goals s from met (Some k) → slice_get arrows k ≡ Some a → m ≡ (met || not (is_among goals a.to)) → slice_get index.before k ≡ Some o
      → GoesOn arrows goals from met before first (with_reached s a.to (record { arrow = k; before = before; met = m }))
      × AreDone arrows goals (with_reached s a.to (record { arrow = k; before = before; met = m })) from met o
  gone before index is first s k a m o on done at past there =
      let next = next_arrow arrows goals from met s k done in
      let same : next.1.0 ≡ a = (let h = next.1.1 in cc) in
      let begins_here : a.from ≡ from = ap (λ (x : Arrow). x.from) (sym same) ∙ next.1.2 in
      let one = reached_on arrows goals from met before s k a m at begins_here past in
      let new = with_reached s a.to (record { arrow = k; before = before; met = m }) in (
        on_trans arrows goals from met before first s new on one.0,
        done_next arrows goals from met s new k a o done one.0.kept at (subst (λ (x : Bool). IsSeen new a.to x) past one.1) (next_before index is s k done o there).0,
      )

-- the turns of `way_to`
module _ (arrows : List Arrow) (s : Search) where
  pub back_first : (at : ℕ) → at < length s.reached → IsBack arrows s at (Some at) []
  back_first at below = record {
    leads = λ goals start name first met is stood. (name, met, stood, (refl, refl));
    there = below;
    some = tt;
  }

  module _ (goals : List (List ℕ)) (start : List ℕ) (first : Bool) (is : IsSearching arrows goals start first s) where
    pub back_there : (q : ℕ) (r : Reached) → slice_get s.reached q ≡ Some r → (a : Arrow) × (slice_get arrows r.arrow ≡ Some a)
    back_there q r at = let l = is.linked q r at in (l.arrow, l.there)

    pub back_smaller : (q : ℕ) (r : Reached) → slice_get s.reached q ≡ Some r → option_map_or suc r.before 0 < suc q
    back_smaller q r at = by r.before (is.linked q r at).earlier where
      by : (o : Option ℕ) → IfSome o (λ p. p < q) → option_map_or suc o 0 < suc q
      by None earlier = omega arith
      by (Some p) earlier = omega (arith, earlier)

    pub back_more : (at q : ℕ) (r : Reached) (a : Arrow) (way : List Arrow) → slice_get s.reached q ≡ Some r → slice_get arrows r.arrow ≡ Some a → IsBack arrows s at (Some q) way
        → IsBack arrows s at r.before (way ++ a ∷ [])
    back_more at q r a way there leads_a was = record {
      leads = λ goals' start' name first' met is' stood.
          let old = was.leads goals' start' name first' met is' stood in
          let l = is'.linked q r there in
          let same : l.arrow ≡ a = (let h = l.there in cc) in
          let one = back_one arrows goals' start' first' s q r old.0 old.1 (reverse way) name met there l old.2 old.3 in
          let here : IsWay arrows goals' l.arrow.from l.met (a ∷ reverse way) name met = subst (λ (x : Arrow). IsWay arrows goals' l.arrow.from l.met (x ∷ reverse way) name met) same one in
          (l.arrow.from, l.met, l.stood, subst (λ (w : List Arrow). IsWay arrows goals' l.arrow.from l.met w name met) (sym (reverse-append way (a ∷ []))) here);
      there = by r.before (is.linked q r there).earlier;
      some = has r.before;
    }
      where
        by : (o : Option ℕ) → IfSome o (λ p. p < q) → IfSome o (λ p. p < length s.reached)
        by None earlier = tt
        by (Some p) earlier = omega (arith, earlier, slice_get_within s.reached q r there)

        many : (w : List Arrow) → 0 < length (w ++ a ∷ [])
        many [] = omega arith
        many (x ∷ w) = omega arith

        has : (o : Option ℕ) → IfNone o (0 < length (way ++ a ∷ []))
        has None = many way
        has (Some p) = tt

  pub led : (at : ℕ) (way : List Arrow) → IsBack arrows s at None way → (goals : List (List ℕ)) (start name : List ℕ) (first met : Bool) → IsSearching arrows goals start first s
      → IsAt arrows start first s.reached (Some at) name met → IsWay arrows goals start first (reverse way) name met × (0 < length (reverse way))
  led at way was goals start name first met is stood =
      let old = was.leads goals start name first met is stood in (
        subst (λ (x : Bool). IsWay arrows goals start x (reverse way) name met) old.2.1 (subst (λ (x : List ℕ). IsWay arrows goals x old.1 (reverse way) name met) old.2.0 old.3),
        subst (λ n. 0 < n) (sym (length-reverse way)) was.some,
      )

-- a goal that is reached has a way
pub answered : {E : Type 0} (arrows : List Arrow) (goals : List (List ℕ)) (start : List ℕ) (first : Bool) (s : Search) (at : ℕ) (told : Result (List Arrow) E) → IsSearching arrows goals start first s
    → ((r : Reached) × (a : Arrow) × (slice_get s.reached at ≡ Some r) × (slice_get arrows r.arrow ≡ Some a) × (r.met ≡ true) × (is_among goals a.to ≡ true))
    → IfOk told (λ way. (goals : List (List ℕ)) (start name : List ℕ) (first met : Bool) → IsSearching arrows goals start first s → IsAt arrows start first s.reached (Some at) name met → IsWay arrows goals start first way name met × (0 < length way))
    → IfOk told (λ way. IsChosen arrows goals start first way)
answered arrows goals start first s at (Ok way) is found leads =
    let w = leads goals start found.1.to first true is (found.0, found.1, found.2, found.3, refl, sym found.4) in
    chosen arrows goals start first way found.1.to w.1 w.0 found.5
answered arrows goals start first s at (Err e) is found leads = tt
