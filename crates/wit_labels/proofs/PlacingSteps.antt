-- Setters placed by numbers.
use Rattle.std.proofs.Common.{◌≡◌, ◌∙◌, ◌<◌, ◌≤◌, ◌+◌, ◌-◌, ℕ, zero, suc, Bool, true, false, cond, List, [], ◌∷◌, ◌++◌, length, take, refl, ap, sym, subst, inl, inr, arith, Option, Some, None, map, slice_get, get_or, All, nat_eq}
use Rattle.std.proofs.lemmas.Bool.{cases_eq, eq-eqb, eqb-false, ltb-false, ltb-true, ne_eqb}
use Rattle.std.proofs.lemmas.List.{append-nil, append_assoc, length-map, take_all}
use Rattle.std.proofs.lemmas.List.FromFn.{length-enumerate_from}
use Rattle.std.proofs.lemmas.List.Quantifiers.{position-Some}
use Rattle.std.specs.Cmp.Lexicographic.{same_text}
use Rattle.std.specs.Prelude.{◌||◌, not, nat_lt, position, option_and_then}
use Rattle.std.specs.List.{AllByRecursion, AllZip, IsDistinct, enumerate_from, list_any, position_or_len}
use Rattle.std.specs.Map.{keys_of, lookup}
use Rattle.std.specs.Option.{option_map_or}
use Rattle.wit_values.specs.facts.Lists.{key_at, lookup-before, map-next}
use Rattle.wit_data.specs.Entries.{Entry}
use Rattle.wit_data.specs.facts.WorldKeyFacts.{key_laws}
use Rattle.wit_data.specs.contracts.world.WorldKeyPartialEq.TheImpl.{eq-value}
use Rattle.wit_data.specs.declared.world.WorldItem.{WorldItem}
use Rattle.wit_data.specs.declared.world.WorldKey.{WorldKey}
use Rattle.wit_data.specs.declared.world.WorldItem.TheVariants as item
use Rattle.wit_data.specs.declared.world.WorldKey.TheVariants as key
use Rattle.wit_labels.specs.steps.Placing.{AreLater, getters_of, later_getter, order_after_getters, order_from, put_index}
use Rattle.wit_labels.specs.Setters.{is_getter_of, is_under, put_behind, setters_placed, wanted_getter}
use Rattle.wit_labels.proofs.OrderSteps.{order-below, order-once, zip-put}
use Rattle.wit_labels.specs.steps.Parts.{indexed_entries, after}

-- ---- lists by their places

get_at : {X : Type 0} (xs : List X) (i : ℕ) (x d : X) → slice_get xs i ≡ Some x → get_or xs i d ≡ x
get_at [] i x d at = cc
get_at (y ∷ ys) zero x d at = cc
get_at (y ∷ ys) (suc i) x d at = get_at ys i x d at

pub got_at : {X : Type 0} (xs : List X) (i : ℕ) (d : X) → i < length xs → slice_get xs i ≡ Some (get_or xs i d)
got_at [] i d within = absurd (omega arith)
got_at (x ∷ xs) zero d within = refl
got_at (x ∷ xs) (suc i) d within = got_at xs i d (omega arith)

within_at : {X : Type 0} (xs : List X) (i : ℕ) (x : X) → slice_get xs i ≡ Some x → i < length xs
within_at [] i x at = cc
within_at (y ∷ ys) zero x at = omega arith
within_at (y ∷ ys) (suc i) x at = let rest = within_at ys i x at in omega arith

-- ---- the entries in that order

-- the entries with their places from a on
enumerate-at : (a : ℕ) (xs : List Entry) (i j : ℕ) (e : Entry) → a + i ≡ j → slice_get xs i ≡ Some e → slice_get (enumerate_from a xs) i ≡ Some (j, e)
enumerate-at a [] i j e is at = cc
enumerate-at a (x ∷ xs) zero j e is at =
    let one : x ≡ e = cc in
    let here : a ≡ j = omega arith in
    ap (λ (y : Entry). Some (a, y)) one ∙ ap (λ (m : ℕ). Some (m, e)) here
enumerate-at a (x ∷ xs) (suc i) j e is at = enumerate-at (a + 1) xs i j e (omega arith) at

pub indexed_entries-at : (entries : List Entry) (i : ℕ) (e : Entry) → slice_get entries i ≡ Some e → slice_get (indexed_entries entries) i ≡ Some (i, e)
indexed_entries-at entries i e at = enumerate-at 0 entries i i e (omega arith) at

pub length-indexed_entries : (entries : List Entry) → length (indexed_entries entries) ≡ length entries
length-indexed_entries entries = length-enumerate_from 0 entries

pub length-getters : (entries : List Entry) → length (getters_of entries) ≡ length entries
length-getters entries = length-map (indexed_entries entries) (λ (p : ℕ × Entry). later_getter entries p.0 p.1) ∙ length-indexed_entries entries

mapped-at : {X Y : Type 0} (f : X → Y) (xs : List X) (i : ℕ) (x : X) → slice_get xs i ≡ Some x → slice_get (map f xs) i ≡ Some (f x)
mapped-at f [] i x at = cc
mapped-at f (y ∷ ys) zero x at = let same : y ≡ x = cc in ap (λ z. Some (f z)) same
mapped-at f (y ∷ ys) (suc i) x at = mapped-at f ys i x at

getter-at : (entries : List Entry) (i : ℕ) (e : Entry) → slice_get entries i ≡ Some e → slice_get (getters_of entries) i ≡ Some (later_getter entries i e)
getter-at entries i e at = mapped-at (λ (p : ℕ × Entry). later_getter entries p.0 p.1) (indexed_entries entries) i (i, e) (indexed_entries-at entries i e at)

-- ---- what one entry waits for

pub some_at : {X : Type 0} (xs : List X) (i : ℕ) → i < length xs → (x : X) × (slice_get xs i ≡ Some x)
some_at [] i within = absurd (omega arith)
some_at (x ∷ xs) zero within = (x, refl)
some_at (x ∷ xs) (suc i) within = some_at xs i (omega arith)

key_under : (label : List ℕ) (k : WorldKey) → eq-value.it (key.Name label) k ≡ is_under label k
key_under label (key.Name name) = refl
key_under label (key.Interface i) = refl

same_entry : (entries : List Entry) (i : ℕ) (d e : Entry) → slice_get entries i ≡ Some d → slice_get entries i ≡ Some e → d ≡ e
same_entry entries i d e first second = let same : Some d ≡ Some e = sym first ∙ second in cc

pub later_getter-some : (entries : List Entry) (i : ℕ) (k : WorldKey) (held : WorldItem) (label : List ℕ) (found : Option ℕ) → slice_get entries i ≡ Some (k, held) → wanted_getter k held ≡ Some label
    → found ≡ position (eq-value.it (key.Name label)) (keys_of entries) → (e : Entry) → slice_get entries i ≡ Some e → after i found ≡ later_getter entries i e
later_getter-some entries i k held label found at wanted is e there =
    ap (after i) (is ∙ ap (λ (p : WorldKey → Bool). position p (keys_of entries)) (λ j x. key_under label x j))
    ∙ ap (λ (o : Option (List ℕ)). after i (option_and_then (λ (l : List ℕ). position (is_under l) (keys_of entries)) o)) (sym wanted)
    ∙ ap (later_getter entries i) (same_entry entries i (k, held) e at there)

pub later_getter-none : (entries : List Entry) (i : ℕ) (k : WorldKey) (held : WorldItem) → slice_get entries i ≡ Some (k, held) → wanted_getter k held ≡ None
    → (e : Entry) → slice_get entries i ≡ Some e → None ≡ later_getter entries i e
later_getter-none entries i k held at wanted e there =
    ap (λ (o : Option (List ℕ)). after i (option_and_then (λ (l : List ℕ). position (is_under l) (keys_of entries)) o)) (sym wanted)
    ∙ ap (later_getter entries i) (same_entry entries i (k, held) e at there)

-- two entries of one list have different keys
keys-apart : (es : List Entry) (p q : ℕ) (x y : Entry) → IsDistinct eq-value.it (keys_of es) → slice_get es p ≡ Some x → slice_get es q ≡ Some y → (p ≡ q → ⊥) → eq-value.it x.0 y.0 ≡ false
unfolding IsDistinct
keys-apart [] p q x y distinct first second apart = cc
keys-apart (e ∷ es) zero zero x y distinct first second apart = absurd (apart refl)
keys-apart (e ∷ es) zero (suc q) x y distinct first second apart =
    let same : e ≡ x = cc in
    subst (λ (z : Entry). eq-value.it z.0 y.0 ≡ false) same (key_at (λ k. eq-value.it e.0 k ≡ false) es q y.0 y.1 distinct.0 second)
keys-apart (e ∷ es) (suc p) zero x y distinct first second apart =
    let same : e ≡ y = cc in
    key_laws.symm x.0 y.0 ∙ subst (λ (z : Entry). eq-value.it z.0 x.0 ≡ false) same (key_at (λ k. eq-value.it e.0 k ≡ false) es p x.0 x.1 distinct.0 first)
keys-apart (e ∷ es) (suc p) (suc q) x y distinct first second apart = keys-apart es p q x y distinct.1 first second (λ same. apart (ap suc same))

-- the getter that is waited for stands later
after-is : (i g : ℕ) (o : Option ℕ) → after i o ≡ Some g → (o ≡ Some g) × (i < g)
after-is i g None is = cc
after-is i g (Some h) is = by (nat_lt i h) refl is
  where
    by : (b : Bool) → nat_lt i h ≡ b → cond b (Some h) None ≡ Some g → (Some h ≡ Some g) × (i < g)
    by true test same = let one : h ≡ g = cc in (same, subst (λ (m : ℕ). i < m) one (ltb-true i h test))
    by false test same = cc

-- the entry under the label that is asked for
pub record IsLater (entries : List Entry) (i : ℕ) (e : Entry) (g : ℕ) : Type 0 where
  pub later : i < g
  pub getter : Entry
  pub at : slice_get entries g ≡ Some getter
  pub asked : is_getter_of e getter ≡ true

none_key : WorldKey
none_key = key.Interface 0

key-entry : (entries : List Entry) (g : ℕ) → g < length (keys_of entries) → (x : Entry) × (slice_get entries g ≡ Some x) × (get_or (keys_of entries) g none_key ≡ x.0)
key-entry [] g within = absurd (omega arith)
key-entry (x ∷ xs) zero within = (x, refl, refl)
key-entry (x ∷ xs) (suc g) within = key-entry xs g (omega arith)

pub later-is : (entries : List Entry) (i g : ℕ) (e : Entry) → later_getter entries i e ≡ Some g → IsLater entries i e g
later-is entries i g e is = by (wanted_getter e.0 e.1) refl is
  where
    by : (o : Option (List ℕ)) → wanted_getter e.0 e.1 ≡ o → after i (option_and_then (λ (label : List ℕ). position (is_under label) (keys_of entries)) o) ≡ Some g → IsLater entries i e g
    by None wanted found = cc
    by (Some label) wanted found =
        let place = after-is i g (position (is_under label) (keys_of entries)) found in
        let one = position-Some (is_under label) (keys_of entries) g none_key place.0 in
        let x = key-entry entries g one.0 in
        record {
          later = place.1;
          getter = x.0;
          at = x.1;
          asked = ap (λ (o : Option (List ℕ)). option_map_or (λ (l : List ℕ). is_under l x.0.0) o false) wanted ∙ ap (is_under label) (sym x.2) ∙ one.1;
        }

-- each getter that is waited for stands later, in the list
pub getters-later : (entries : List Entry) → AreLater (getters_of entries)
getters-later entries s g at =
    let long = length-getters entries in
    let inside : s < length entries = omega (arith, long, within_at (getters_of entries) s (Some g) at) in
    let e = some_at entries s inside in
    let same : Some (Some g) ≡ Some (later_getter entries s e.0) = sym at ∙ getter-at entries s e.0 e.1 in
    let is = later-is entries s g e.0 (some_same same) in
    let low = within_at entries g is.getter is.at in
    (is.later, omega (arith, low, long))
  where
    some_same : {X : Type 0} {x y : X} → Some x ≡ Some y → y ≡ x
    some_same same = cc

-- of two entries of one list at most one is under a label
one_under : (entries : List Entry) (label : List ℕ) (p q : ℕ) (x y : Entry) → IsDistinct eq-value.it (keys_of entries) → slice_get entries p ≡ Some x → slice_get entries q ≡ Some y
    → is_under label x.0 ≡ true → (p ≡ q → ⊥) → is_under label y.0 ≡ false
one_under entries label p q x y distinct first second under apart =
    sym (key_under label y.0) ∙ ap (λ (k : WorldKey). eq-value.it k y.0) (sym (is_label x.0 under)) ∙ keys-apart entries p q x y distinct first second apart
  where
    is_label : (k : WorldKey) → is_under label k ≡ true → k ≡ key.Name label
    is_label (key.Name name) test = ap (λ (n : List ℕ). key.Name n) (sym (same_text label name (sym test)))
    is_label (key.Interface i) test = cc

-- of a list at most one is asked for
one_asked : (entries : List Entry) (e : Entry) (p q : ℕ) (x y : Entry) → IsDistinct eq-value.it (keys_of entries) → slice_get entries p ≡ Some x → slice_get entries q ≡ Some y
    → is_getter_of e x ≡ true → (p ≡ q → ⊥) → is_getter_of e y ≡ false
one_asked entries e p q x y distinct first second asked apart = by (wanted_getter e.0 e.1) asked
  where
    by : (o : Option (List ℕ)) → option_map_or (λ (l : List ℕ). is_under l x.0) o false ≡ true → option_map_or (λ (l : List ℕ). is_under l y.0) o false ≡ false
    by None test = refl
    by (Some label) test = one_under entries label p q x y distinct first second test apart

all_fail : (p : WorldKey → Bool) (es : List Entry) (j : ℕ) (x : Entry) → length (keys_of es) ≤ position_or_len p (keys_of es) → slice_get es j ≡ Some x → p x.0 ≡ false
all_fail p [] j x all at = cc
all_fail p (e ∷ es) j x all at = first (p e.0) refl all (λ m low there. all_fail p es m x low there)
  where
    first : (b : Bool) → p e.0 ≡ b → suc (length (keys_of es)) ≤ cond (not b) (1 + position_or_len p (keys_of es)) 0
        → ((m : ℕ) → length (keys_of es) ≤ position_or_len p (keys_of es) → slice_get es m ≡ Some x → p x.0 ≡ false) → p x.0 ≡ false
    first true test all rest = absurd (omega arith)
    first false test all rest = place j at
      where
        place : (m : ℕ) → slice_get (e ∷ es) m ≡ Some x → p x.0 ≡ false
        place zero here = let same : e ≡ x = cc in subst (λ (y : Entry). p y.0 ≡ false) same test
        place (suc m) there = rest m (omega (arith, all)) there

no_position : (p : WorldKey → Bool) (entries : List Entry) (k : ℕ) (x : Entry) → position p (keys_of entries) ≡ None → slice_get entries k ≡ Some x → p x.0 ≡ false
no_position p entries k x absent at = by (nat_lt (position_or_len p (keys_of entries)) (length (keys_of entries))) refl absent
  where
    by : (b : Bool) → nat_lt (position_or_len p (keys_of entries)) (length (keys_of entries)) ≡ b → cond b (Some (position_or_len p (keys_of entries))) None ≡ None → p x.0 ≡ false
    by true test is = cc
    by false test is = all_fail p entries k x (ltb-false (position_or_len p (keys_of entries)) (length (keys_of entries)) test) at

-- where none is waited for, none that stands later is asked for
none-later : (entries : List Entry) (i k : ℕ) (e x : Entry) → IsDistinct eq-value.it (keys_of entries) → later_getter entries i e ≡ None → i < k → slice_get entries k ≡ Some x → is_getter_of e x ≡ false
none-later entries i k e x distinct is behind at = by (wanted_getter e.0 e.1) is
  where
    by : (o : Option (List ℕ)) → after i (option_and_then (λ (label : List ℕ). position (is_under label) (keys_of entries)) o) ≡ None → option_map_or (λ (l : List ℕ). is_under l x.0) o false ≡ false
    by None none = refl
    by (Some label) none = found (position (is_under label) (keys_of entries)) refl none
      where
        found : (p : Option ℕ) → position (is_under label) (keys_of entries) ≡ p → after i p ≡ None → is_under label x.0 ≡ false
        found None absent none = no_position (is_under label) entries k x absent at
        found (Some p) there none =
            let one = position-Some (is_under label) (keys_of entries) p none_key there in
            let y = key-entry entries p one.0 in
            one_under entries label p k y.0 x distinct y.1 at (ap (is_under label) (sym y.2) ∙ one.1) (λ same. early (nat_lt i p) refl none (omega (arith, same, behind)))
          where
            early : (b : Bool) → nat_lt i p ≡ b → cond b (Some p) None ≡ None → i < p → ⊥
            early true test same later = cc
            early false test same later = let low : p ≤ i = ltb-false i p test in omega (arith, low, later)

-- ---- the entries in the order of the indices

-- the entries from index i on, and what they wait for
record IsSuffix (entries : List Entry) (i : ℕ) (es : List Entry) (os : List (Option ℕ)) : Type 0
  where
    pub long : length os ≡ length es
    pub ends : i + length es ≡ length entries
    pub at : (j k : ℕ) → i + j ≡ k → slice_get entries k ≡ slice_get es j
    pub waits : (j k : ℕ) (e : Entry) → i + j ≡ k → slice_get es j ≡ Some e
        → slice_get os j ≡ Some (later_getter entries k e)

some-any : {X : Type 0} (p : X → Bool) (xs : List X) (j : ℕ) (x : X) → slice_get xs j ≡ Some x → p x ≡ true → list_any p xs ≡ true
some-any p [] j x at test = cc
some-any p (y ∷ ys) zero x at test = let same : y ≡ x = cc in rw (same, test) refl
some-any p (y ∷ ys) (suc j) x at test = by (p y) (some-any p ys j x at test)
  where
    by : (b : Bool) → list_any p ys ≡ true → (b || list_any p ys) ≡ true
    by true rest = refl
    by false rest = rest

none-any : {X : Type 0} (p : X → Bool) (xs : List X) → ((j : ℕ) (x : X) → slice_get xs j ≡ Some x → p x ≡ false) → list_any p xs ≡ false
none-any p [] none = refl
none-any p (y ∷ ys) none = rw (none 0 y refl) (none-any p ys (λ j x at. none (suc j) x at))

abbrev Stands : List Entry → ℕ → Entry → Type 0
Stands entries place e = slice_get entries place ≡ Some e

-- one entry more
entry-placed : (entries : List Entry) (i : ℕ) (e : Entry) (es placed : List Entry) (os : List (Option ℕ)) → IsDistinct eq-value.it (keys_of entries) → IsSuffix entries i (e ∷ es) (later_getter entries i e ∷ os)
    → AllZip (Stands entries) (order_from (i + 1) os) placed
    → AllZip (Stands entries) (put_index i (later_getter entries i e) (order_from (i + 1) os)) (cond (list_any (is_getter_of e) es) (put_behind (is_getter_of e) e placed) (e ∷ placed))
entry-placed entries i e es placed os distinct is rest = by (later_getter entries i e) refl
  where
    here : slice_get entries i ≡ Some e
    here = is.at 0 i (omega arith)

    by : (o : Option ℕ) → later_getter entries i e ≡ o
        → AllZip (Stands entries) (put_index i o (order_from (i + 1) os)) (cond (list_any (is_getter_of e) es) (put_behind (is_getter_of e) e placed) (e ∷ placed))
    by None waits =
        let none : list_any (is_getter_of e) es ≡ false =
        none-any (is_getter_of e) es (λ j x at. none-later entries i (i + suc j) e x distinct waits (omega arith) (is.at (suc j) (i + suc j) refl ∙ at)) in
        subst (λ (b : Bool). AllZip (Stands entries) (i ∷ order_from (i + 1) os) (cond b (put_behind (is_getter_of e) e placed) (e ∷ placed))) (sym none) (here, rest)
    by (Some g) waits =
        let later = later-is entries i g e waits in
        let j : ℕ = g - (i + 1) in
        let there : slice_get es j ≡ Some later.getter = sym (is.at (suc j) g (let low = later.later in omega arith)) ∙ later.at in
        let some : list_any (is_getter_of e) es ≡ true = some-any (is_getter_of e) es j later.getter there later.asked in
        subst (λ (b : Bool). AllZip (Stands entries) (put_behind (nat_eq g) i (order_from (i + 1) os)) (cond b (put_behind (is_getter_of e) e placed) (e ∷ placed))) (sym some)
        (zip-put (Stands entries) (nat_eq g) (is_getter_of e) i e here (order_from (i + 1) os) placed (λ place x has at. alike place x at) rest)
      where
        alike : (place : ℕ) (x : Entry) → slice_get entries place ≡ Some x → nat_eq g place ≡ is_getter_of e x
        alike place x at = elim (cases_eq g place) [
          | inl same ↦
              let later = later-is entries i g e waits in
              let one : x ≡ later.getter = same_entry entries place x later.getter at (subst (λ (m : ℕ). slice_get entries m ≡ Some later.getter) same later.at) in
              eq-eqb g place same ∙ sym later.asked ∙ ap (is_getter_of e) (sym one)
          | inr apart ↦ let later = later-is entries i g e waits in ne_eqb g place apart ∙ sym (one_asked entries e g place later.getter x distinct later.at at later.asked apart)
        ]

suffix-placed : (entries : List Entry) (i : ℕ) (es : List Entry) (os : List (Option ℕ)) → IsDistinct eq-value.it (keys_of entries) → IsSuffix entries i es os → AllZip (Stands entries) (order_from i os) (setters_placed es)
suffix-placed entries i [] [] distinct is = tt
suffix-placed entries i [] (o ∷ os) distinct is = absurd (let long = is.long in omega arith)
suffix-placed entries i (e ∷ es) [] distinct is = absurd (let long = is.long in omega arith)
suffix-placed entries i (e ∷ es) (o ∷ os) distinct is =
    let first : Some o ≡ Some (later_getter entries i e) = is.waits 0 i e (omega arith) refl in
    let o_is : later_getter entries i e ≡ o = cc in
    let rest : IsSuffix entries (i + 1) es os = record {
      long = let long = is.long in omega arith;
      ends = let ends = is.ends in omega arith;
      at = λ j k sum. is.at (suc j) k (omega (arith, sum));
      waits = λ j k x sum at. is.waits (suc j) k x (omega (arith, sum)) at;
    } in
    subst (λ (p : Option ℕ). AllZip (Stands entries) (put_index i p (order_from (i + 1) os)) (setters_placed (e ∷ es))) o_is
    (entry-placed entries i e es (setters_placed es) os distinct (subst (λ (p : Option ℕ). IsSuffix entries i (e ∷ es) (p ∷ os)) (sym o_is) is) (suffix-placed entries (i + 1) es os distinct rest))

order-placed : (entries : List Entry) → IsDistinct eq-value.it (keys_of entries) → AllZip (Stands entries) (order_after_getters (getters_of entries)) (setters_placed entries)
order-placed entries distinct = suffix-placed entries 0 entries (getters_of entries) distinct (record {
  long = length-getters entries;
  ends = omega arith;
  at = λ j k sum. let same : k ≡ j = omega (arith, sum) in ap (slice_get entries) same;
  waits = λ j k e sum at.
      let same : j ≡ k = omega (arith, sum) in
      getter-at entries j e at ∙ ap (λ (m : ℕ). Some (later_getter entries m e)) same;
})

-- the entries at the places of an order
stands-once : (entries : List Entry) (order : List ℕ) (xs ys : List Entry) → AllZip (Stands entries) order xs → AllZip (Stands entries) order ys → xs ≡ ys
stands-once entries [] [] [] first second = refl
stands-once entries [] [] (y ∷ ys) first second = absurd second
stands-once entries [] (x ∷ xs) ys first second = absurd first
stands-once entries (p ∷ ps) [] ys first second = absurd first
stands-once entries (p ∷ ps) (x ∷ xs) [] first second = absurd second
stands-once entries (p ∷ ps) (x ∷ xs) (y ∷ ys) first second =
    ap (λ (e : Entry). e ∷ xs) (same_entry entries p x y first.0 second.0) ∙ ap (λ (es : List Entry). y ∷ es) (stands-once entries ps xs ys first.1 second.1)

pub setters_placed-are : (entries arranged : List Entry) → IsDistinct eq-value.it (keys_of entries) → AllZip (Stands entries) (order_after_getters (getters_of entries)) arranged → arranged ≡ setters_placed entries
setters_placed-are entries arranged distinct all = stands-once entries (order_after_getters (getters_of entries)) arranged (setters_placed entries) all (order-placed entries distinct)

-- ---- lists that are gone through

pub moved-next : {X : Type 0} (done left rest whole new : List X) (x : X) → done ++ left ≡ whole → left ≡ x ∷ rest → new ≡ done ++ x ∷ [] → new ++ rest ≡ whole
moved-next {X} done left rest whole new x all first made =
    ap (λ (l : List X). l ++ rest) made ∙ append_assoc done (x ∷ []) rest ∙ ap (λ (l : List X). done ++ l) (sym first) ∙ all

pub moved-all : {X : Type 0} (done left whole : List X) → done ++ left ≡ whole → left ≡ [] → done ≡ whole
moved-all {X} done left whole all none = sym (append-nil done) ∙ ap (λ (l : List X). done ++ l) (sym none) ∙ all

-- the next key is new
pub key-new : (whole done left rest : List Entry) (k : WorldKey) (held : WorldItem) → IsDistinct eq-value.it (keys_of whole) → done ++ left ≡ whole → left ≡ (k, held) ∷ rest
    → lookup (eq-value.it k) done ≡ None
key-new whole done left rest k held distinct all first =
    let split : done ++ (k, held) ∷ rest ≡ whole = ap (λ (l : List Entry). done ++ l) (sym first) ∙ all in
    lookup-before key_laws done rest k held (subst (λ (l : List Entry). IsDistinct eq-value.it (keys_of l)) (sym split) distinct)

pub getters-next : (entries : List Entry) (n : ℕ) (e : Entry) (getters new : List (Option ℕ)) (getter : Option ℕ) → slice_get entries n ≡ Some e
    → getters ≡ map (λ (p : ℕ × Entry). later_getter entries p.0 p.1) (take n (indexed_entries entries)) → getter ≡ later_getter entries n e → new ≡ getters ++ getter ∷ []
    → new ≡ map (λ (p : ℕ × Entry). later_getter entries p.0 p.1) (take (n + 1) (indexed_entries entries))
getters-next entries n e getters new getter at so_far is made =
    made ∙ ap (λ (l : List (Option ℕ)). l ++ getter ∷ []) so_far ∙ ap (λ (o : Option ℕ). map (λ (p : ℕ × Entry). later_getter entries p.0 p.1) (take n (indexed_entries entries)) ++ o ∷ []) is
    ∙ sym (map-next (λ (p : ℕ × Entry). later_getter entries p.0 p.1) (indexed_entries entries) n (n, e) (indexed_entries-at entries n e at))

pub getters-all : (entries : List Entry) (n : ℕ) (getters : List (Option ℕ)) → length entries ≤ n → getters ≡ map (λ (p : ℕ × Entry). later_getter entries p.0 p.1) (take n (indexed_entries entries)) → getters ≡ getters_of entries
getters-all entries n getters reached so_far =
    let long = length-indexed_entries entries in
    so_far ∙ ap (map (λ (p : ℕ × Entry). later_getter entries p.0 p.1)) (take_all n (indexed_entries entries) (omega arith))

-- ---- keys still differ

pub arranged-differ : (es : List Entry) (order : List ℕ) (arranged : List Entry) → IsDistinct eq-value.it (keys_of es) → IsDistinct nat_eq order
    → AllZip (λ place (x : Entry). slice_get es place ≡ Some x) order arranged → IsDistinct eq-value.it (keys_of arranged)
unfolding IsDistinct
arranged-differ es [] [] distinct once all = tt
arranged-differ es [] (x ∷ xs) distinct once all = absurd all
arranged-differ es (p ∷ ps) [] distinct once all = absurd all
arranged-differ es (p ∷ ps) (x ∷ xs) distinct once all = (each ps xs once.0 all.1, arranged-differ es ps xs distinct once.1 all.1)
  where
    each : (qs : List ℕ) (ys : List Entry) → AllByRecursion (λ q. nat_eq p q ≡ false) qs → AllZip (λ place (y : Entry). slice_get es place ≡ Some y) qs ys → AllByRecursion (λ k. eq-value.it x.0 k ≡ false) (keys_of ys)
    each [] [] others zip = tt
    each [] (y ∷ ys) others zip = absurd zip
    each (q ∷ qs) [] others zip = absurd zip
    each (q ∷ qs) (y ∷ ys) others zip = (keys-apart es p q x y distinct all.0 zip.0 (eqb-false p q others.0), each qs ys others.1 zip.1)

-- ---- from the steps to the whole

-- the items are the entries, and the order is that of their setters
pub record IsPlacing (entries items : List Entry) (order : List ℕ) : Type 0 where
  pub items_are : items ≡ entries
  pub order_is : order ≡ order_after_getters (getters_of entries)

pub placing-once : (entries items : List Entry) (order : List ℕ) → IsPlacing entries items order → IsDistinct nat_eq order
placing-once entries items order is = subst (IsDistinct nat_eq) (sym is.order_is) (order-once (getters_of entries))

pub placing-below : (entries items : List Entry) (order : List ℕ) → IsPlacing entries items order → All (λ place. place < length items) order
placing-below entries items order is =
    let long : length (getters_of entries) ≡ length items = length-getters entries ∙ ap length (sym is.items_are) in
    subst (λ (n : ℕ). All (λ place. place < n) order) long (subst (All (λ place. place < length (getters_of entries))) (sym is.order_is) (order-below (getters_of entries)))

zip-of : (entries items arranged : List Entry) (order : List ℕ) → IsPlacing entries items order → AllZip (λ place (x : Entry). slice_get items place ≡ Some x) order arranged
    → AllZip (λ place (x : Entry). slice_get entries place ≡ Some x) (order_after_getters (getters_of entries)) arranged
zip-of entries items arranged order is all =
    subst (λ (l : List ℕ). AllZip (λ place (x : Entry). slice_get entries place ≡ Some x) l arranged) is.order_is
    (subst (λ (es : List Entry). AllZip (λ place (x : Entry). slice_get es place ≡ Some x) order arranged) is.items_are all)

pub placing-differ : (entries items arranged : List Entry) (order : List ℕ) → IsPlacing entries items order → IsDistinct eq-value.it (keys_of entries)
    → AllZip (λ place (x : Entry). slice_get items place ≡ Some x) order arranged → IsDistinct eq-value.it (keys_of arranged)
placing-differ entries items arranged order is distinct all =
    arranged-differ entries (order_after_getters (getters_of entries)) arranged distinct (order-once (getters_of entries)) (zip-of entries items arranged order is all)

pub placing-setters_placed : (entries items arranged : List Entry) (order : List ℕ) → IsPlacing entries items order → IsDistinct eq-value.it (keys_of entries)
    → AllZip (λ place (x : Entry). slice_get items place ≡ Some x) order arranged → arranged ≡ setters_placed entries
placing-setters_placed entries items arranged order is distinct all = setters_placed-are entries arranged distinct (zip-of entries items arranged order is all)

pub placing-of : (entries kept items : List Entry) (getters : List (Option ℕ)) (order places_of : List ℕ) → kept ≡ entries → getters ≡ getters_of kept → order ≡ order_after_getters getters → items ≡ kept
    → places_of ≡ order → IsPlacing entries items places_of
placing-of entries kept items getters order places_of kept_are getters_are order_is items_are is = record {
  items_are = items_are ∙ kept_are;
  order_is = is ∙ order_is ∙ ap order_after_getters (getters_are ∙ ap getters_of kept_are);
}
