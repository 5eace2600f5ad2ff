-- What stands for a replaced interface is the greatest on its track.
use Rattle.std.proofs.Common.{◌≡◌, ◌∙◌, ◌⊎◌, inl, inr, ℕ, Bool, true, false, cond, not, ◌&&◌, ◌||◌, List, [], ◌∷◌, Option, None, Some, unwrap_or, refl, sym, ap, subst, Contains, nat_eq}
use Rattle.std.specs.List.{find, list_any}
use Rattle.std.specs.Ordering.{is_lt, ordering_reverse}
use Rattle.std.specs.Str.{bytes_eq}
use Rattle.std.specs.declared.cmp.Ordering.{Ordering}
use Rattle.std.specs.declared.cmp.Ordering.TheVariants.{Less, Equal, Greater}
use Rattle.std.proofs.lemmas.Bool.{and_parts, cases_Bool, false_from_ne_true, false≢true, not-true, not_from_false}
use Rattle.std.proofs.lemmas.Slice.Eq.{bytes_eq-Decides}
use Rattle.wit_values.specs.Version.{version_cmp}
use Rattle.wit_values.specs.facts.VersionFacts.{version_cmp_total}
use Rattle.wit_digraph.specs.facts.FreshFacts.{any_from_contains, contains_from_any}
use Rattle.wit_digraph.specs.facts.MemberFacts.{Contains-cons_cases, Contains-here, Contains-nil, Contains-there}
use Rattle.wit_names.specs.facts.PackageNameFacts.{same_package-Decides}
use Rattle.wit_names.specs.PackageName.{same_package}
use Rattle.wit_names.specs.declared.track.TrackRule.{TrackRule}
use Rattle.wit_semver.specs.SemverMerged.{SemverMerge, Versioned, are_on_one_track, both, have_one_track, imported, is_replaced, newest, versioned}
use Rattle.wit_semver.specs.laws.TrackLaws.{IsGreatest}
use Rattle.wit_semver.specs.steps.Parts.{is_below, track_package, is_older_than}

-- ---- tests

pub both_true : (a b : Bool) → a ≡ true → b ≡ true → (a && b) ≡ true
both_true true b on also = also
both_true false b on also = cc

-- some element passes
pub any_of : {X : Type 0} (test : X → Bool) (xs : List X) → list_any test xs ≡ true → (x : X) × Contains xs x × (test x ≡ true)
any_of test [] found = cc
any_of test (x ∷ xs) found = by (test x) refl found (λ h. any_of test xs h)
  where
    by : (b : Bool) → test x ≡ b → (b || list_any test xs) ≡ true → (list_any test xs ≡ true → (y : _) × Contains xs y × (test y ≡ true)) → (y : _) × Contains (x ∷ xs) y × (test y ≡ true)
    by true is h rest = (x, Contains-here x xs, is)
    by false is h rest = let more = rest h in (more.0, Contains-there x more.0 xs more.1, more.2)

pub any_with : {X : Type 0} (test : X → Bool) (xs : List X) (x : X) → Contains xs x → test x ≡ true → list_any test xs ≡ true
any_with test [] x has passes = absurd (Contains-nil has)
any_with test (y ∷ ys) x has passes = elim (Contains-cons_cases y x ys has) [
  | inl same ↦ here (test y) (ap test same ∙ passes)
  | inr there ↦ behind (test y) (any_with test ys x there passes)
]
  where
    here : (b : Bool) → b ≡ true → (b || list_any test ys) ≡ true
    here true on = refl
    here false on = cc

    behind : (b : Bool) → list_any test ys ≡ true → (b || list_any test ys) ≡ true
    behind true on = refl
    behind false on = on

-- what is found of a list that has one that passes is a member, and passes
found_passes : (test : ℕ → Bool) (xs : List ℕ) (i m : ℕ) → Contains xs m → test m ≡ true → Contains xs (unwrap_or (find test xs) i) × (test (unwrap_or (find test xs) i) ≡ true)
found_passes test [] i m has on = absurd (Contains-nil has)
found_passes test (x ∷ xs) i m has on = by (test x) refl (λ off. found_passes test xs i m (behind off) on)
  where
    behind : test x ≡ false → Contains xs m
    behind off = elim (Contains-cons_cases x m xs has) [ inl same ↦ absurd (false≢true (sym off ∙ ap test same ∙ on)) | inr there ↦ there ]

    by : (b : Bool) → test x ≡ b → (test x ≡ false → Contains xs (unwrap_or (find test xs) i) × (test (unwrap_or (find test xs) i) ≡ true))
        → Contains (x ∷ xs) (unwrap_or (cond b (Some x) (find test xs)) i) × (test (unwrap_or (cond b (Some x) (find test xs)) i) ≡ true)
    by true is rest = (Contains-here x xs, is)
    by false is rest = let more = rest is in (Contains-there x (unwrap_or (find test xs) i) xs more.0, more.1)

-- ---- a greatest element

module _ (below : ℕ → ℕ → Bool) (trans : (a b c : ℕ) → below a b ≡ true → below b c ≡ true → below a c ≡ true) (itself : (a : ℕ) → below a a ≡ true → ⊥) where
  record Top (xs : List ℕ) (x : ℕ) : Type 0 where
    m : ℕ
    among : Contains xs m ⊎ (m ≡ x)
    above : (m ≡ x) ⊎ (below x m ≡ true)
    none_above : (y : ℕ) → Contains xs y → below m y ≡ true → ⊥

  top : (xs : List ℕ) (x : ℕ) → Top xs x
  top [] x = record { m = x; among = inr refl; above = inl refl; none_above = λ y has up. Contains-nil has }
  top (z ∷ zs) x =
      let rest = top zs x in
      elim (cases_Bool (below rest.m z)) [
        | inl up ↦ record {
          m = z;
          among = inl (Contains-here z zs);
          above = inr (elim rest.above [ inl same ↦ subst (λ (y : ℕ). below y z ≡ true) same up | inr over ↦ trans x rest.m z over up ]);
          none_above = λ y has over. elim (Contains-cons_cases z y zs has) [
            | inl same ↦ itself z (subst (λ (v : ℕ). below z v ≡ true) (sym same) over)
            | inr there ↦ rest.none_above y there (trans rest.m z y up over)
          ];
        }
        | inr level ↦ record {
          m = rest.m;
          among = elim rest.among [ inl there ↦ inl (Contains-there z rest.m zs there) | inr same ↦ inr same ];
          above = rest.above;
          none_above = λ y has over. elim (Contains-cons_cases z y zs has) [
            | inl same ↦ false≢true (sym level ∙ subst (λ (v : ℕ). below rest.m v ≡ true) (sym same) over)
            | inr there ↦ rest.none_above y there over
          ];
        }
      ]

-- ---- versions on one track

lt_is : (o : Ordering) → is_lt o ≡ true → o ≡ Less
lt_is Less on = refl
lt_is Equal on = cc
lt_is Greater on = cc

own_reverse : (o : Ordering) → o ≡ ordering_reverse o → o ≡ Less → ⊥
own_reverse Less transformed less = cc
own_reverse Equal transformed less = cc
own_reverse Greater transformed less = cc

pub below_trans : (a b c : Versioned) → is_below a b ≡ true → is_below b c ≡ true → is_below a c ≡ true
below_trans a b c first second =
    ap is_lt (version_cmp_total.trans a.version b.version c.version (lt_is (version_cmp a.version b.version) first) (lt_is (version_cmp b.version c.version) second))

pub below_itself : (a : Versioned) → is_below a a ≡ true → ⊥
below_itself a on = own_reverse (version_cmp a.version a.version) (version_cmp_total.antisymm a.version a.version) (lt_is (version_cmp a.version a.version) on)

pub record SameTrack (rule : TrackRule) (v w : Versioned) : Type 0 where
  pub home : track_package rule v ≡ track_package rule w
  pub name : v.name ≡ w.name

pub track_from : (rule : TrackRule) (v w : Versioned) → have_one_track rule v w ≡ true → SameTrack rule v w
track_from rule v w on =
    let parts = and_parts (same_package (track_package rule v) (track_package rule w)) (bytes_eq v.name w.name) on in
    record { home = (same_package-Decides (track_package rule v) (track_package rule w)).0 parts.0; name = (bytes_eq-Decides v.name w.name).0 parts.1 }

pub track_into : (rule : TrackRule) (v w : Versioned) → SameTrack rule v w → have_one_track rule v w ≡ true
track_into rule v w same =
    both_true (same_package (track_package rule v) (track_package rule w)) (bytes_eq v.name w.name) ((same_package-Decides (track_package rule v) (track_package rule w)).1 same.home) ((bytes_eq-Decides v.name w.name).1 same.name)

-- both are of versions, and the test passes
pub both_from : (test : Versioned → Versioned → Bool) (a b : Option Versioned) → both test a b ≡ true → (v : Versioned) × (w : Versioned) × (a ≡ Some v) × (b ≡ Some w) × (test v w ≡ true)
both_from test None b on = cc
both_from test (Some v) None on = cc
both_from test (Some v) (Some w) on = (v, w, refl, refl, on)

pub both_into : (test : Versioned → Versioned → Bool) (a b : Option Versioned) (v w : Versioned) → a ≡ Some v → b ≡ Some w → test v w ≡ true → both test a b ≡ true
both_into test a b v w first second on = subst (λ (o : Option Versioned). both test o b ≡ true) (sym first) (subst (λ (o : Option Versioned). both test (Some v) o ≡ true) (sym second) on)

pub inside : (v w : Versioned) → Some v ≡ Some w → v ≡ w
inside v w same = cc

module _ (u : SemverMerge) where
  abbrev at : ℕ → Option Versioned
  at i = versioned u.graph i

  abbrev on_track : ℕ → ℕ → Bool
  on_track = are_on_one_track u.rule u.graph

  abbrev outdone : ℕ → ℕ → Bool
  outdone = is_older_than u.rule u.graph

  abbrev test : Versioned → Versioned → Bool
  test v w = have_one_track u.rule v w && is_below v w

  outdone_trans : (a b c : ℕ) → outdone a b ≡ true → outdone b c ≡ true → outdone a c ≡ true
  outdone_trans a b c first second =
      let one = both_from test (at a) (at b) first in
      let two = both_from test (at b) (at c) second in
      let middle : one.1 ≡ two.0 = inside one.1 two.0 (sym one.3 ∙ two.2) in
      let left = and_parts (have_one_track u.rule one.0 one.1) (is_below one.0 one.1) one.4 in
      let right : (have_one_track u.rule one.1 two.1 ≡ true) × (is_below one.1 two.1 ≡ true) =
      subst (λ (v : Versioned). (have_one_track u.rule v two.1 ≡ true) × (is_below v two.1 ≡ true)) (sym middle) (and_parts (have_one_track u.rule two.0 two.1) (is_below two.0 two.1) two.4) in
      let x = track_from u.rule one.0 one.1 left.0 in
      let y = track_from u.rule one.1 two.1 right.0 in
      both_into test (at a) (at c) one.0 two.1 one.2 two.3
      (both_true (have_one_track u.rule one.0 two.1) (is_below one.0 two.1) (track_into u.rule one.0 two.1 (record { home = x.home ∙ y.home; name = x.name ∙ y.name })) (below_trans one.0 one.1 two.1 left.1 right.1))

  outdone_itself : (a : ℕ) → outdone a a ≡ true → ⊥
  outdone_itself a on =
      let one = both_from test (at a) (at a) on in
      let same : one.0 ≡ one.1 = inside one.0 one.1 (sym one.2 ∙ one.3) in
      below_itself one.0 (subst (λ (v : Versioned). is_below one.0 v ≡ true) (sym same) (and_parts (have_one_track u.rule one.0 one.1) (is_below one.0 one.1) one.4).1)

  outdone_on_track : (a b : ℕ) → outdone a b ≡ true → on_track a b ≡ true
  outdone_on_track a b on =
      let one = both_from test (at a) (at b) on in
      both_into (have_one_track u.rule) (at a) (at b) one.0 one.1 one.2 one.3 (and_parts (have_one_track u.rule one.0 one.1) (is_below one.0 one.1) one.4).0

  -- an import that stays is outdone by none
  pub stays_from : (i : ℕ) → Contains (imported u) i → is_replaced u i ≡ false → (j : ℕ) → Contains (imported u) j → outdone i j ≡ true → ⊥
  stays_from i has stays j there up =
      false≢true (sym stays ∙ both_true (list_any (nat_eq i) (imported u)) (list_any (outdone i) (imported u)) (any_from_contains i (imported u) has) (any_with (outdone i) (imported u) j there up))

  -- an import that stays, on the track
  pub record StaysOnTrack (f m : ℕ) : Type 0 where
    pub is_imported : Contains (imported u) m
    pub on : on_track f m ≡ true
    pub stays : is_replaced u m ≡ false

  one_stays : (f : ℕ) → is_replaced u f ≡ true → (m : ℕ) × StaysOnTrack f m
  one_stays f replaced =
      let parts = and_parts (list_any (nat_eq f) (imported u)) (list_any (outdone f) (imported u)) replaced in
      let here = contains_from_any f (imported u) parts.0 in
      let peak = top outdone outdone_trans outdone_itself (imported u) f in
      let among : Contains (imported u) peak.m = elim peak.among [ inl there ↦ there | inr same ↦ subst (Contains (imported u)) (sym same) here ] in
      let stays : is_replaced u peak.m ≡ false =
      false_from_ne_true (is_replaced u peak.m) (λ on.
      let up = any_of (outdone peak.m) (imported u) (and_parts (list_any (nat_eq peak.m) (imported u)) (list_any (outdone peak.m) (imported u)) on).1 in peak.none_above up.0 up.1 up.2) in (
        peak.m,
        record {
          is_imported = among;
          on = elim peak.above [
            | inl same ↦ absurd (false≢true (sym (subst (λ (i : ℕ). is_replaced u i ≡ false) same stays) ∙ replaced))
            | inr up ↦ outdone_on_track f peak.m up
          ];
          stays = stays;
        },
      )

  abbrev stays_test : ℕ → ℕ → Bool
  stays_test f j = on_track f j && not (is_replaced u j)

  pub newest_stays : (f : ℕ) → is_replaced u f ≡ true → StaysOnTrack f (newest u f)
  newest_stays f replaced =
      let some = one_stays f replaced in
      let first =
      found_passes (stays_test f) (imported u) f some.0 some.1.is_imported (both_true (on_track f some.0) (not (is_replaced u some.0)) some.1.on (not_from_false (is_replaced u some.0) some.1.stays)) in
      let parts = and_parts (on_track f (newest u f)) (not (is_replaced u (newest u f))) first.1 in
      record { is_imported = first.0; on = parts.0; stays = not-true (is_replaced u (newest u f)) parts.1 }

  less_from_greater : (v w : Versioned) → version_cmp v.version w.version ≡ Greater → is_below w v ≡ true
  less_from_greater v w greater = ap is_lt (version_cmp_total.antisymm w.version v.version ∙ ap ordering_reverse greater)

  pub newest_is_greatest : (f : ℕ) → is_replaced u f ≡ true → IsGreatest u f (newest u f)
  newest_is_greatest f replaced =
      let it = newest_stays f replaced in
      record {
        is_imported = it.is_imported;
        on_track = it.on;
        stays = it.stays;
        greatest = λ j v w has on at_j at_n greater.
            let one = both_from (have_one_track u.rule) (at (newest u f)) (at j) on in
            let first : one.0 ≡ w = inside one.0 w (sym one.2 ∙ at_n) in
            let second : one.1 ≡ v = inside one.1 v (sym one.3 ∙ at_j) in
            stays_from (newest u f) it.is_imported it.stays j has
            (both_into test (at (newest u f)) (at j) w v at_n at_j
            (both_true (have_one_track u.rule w v) (is_below w v) (subst (λ (x : Versioned). have_one_track u.rule x v ≡ true) first (subst (λ (x : Versioned). have_one_track u.rule one.0 x ≡ true) second one.4)) (less_from_greater v w greater)));
      }
