-- The greatest version on each track: one interface more, and what a whole table tells of the replaced.
use Rattle.std.proofs.Common.{◌≡◌, ◌∙◌, inl, inr, ℕ, Bool, true, false, cond, ◌&&◌, List, [], ◌∷◌, ◌++◌, Option, None, Some, Contains, nat_eq, refl, sym, ap, subst, if◌then◌else◌}
use Rattle.std.specs.Bool.{Decides}
use Rattle.std.specs.List.{list_any}
use Rattle.std.specs.Map.{lookup}
use Rattle.std.specs.Option.{option_map, option_map_or}
use Rattle.std.specs.Ordering.{is_lt, ordering_reverse}
use Rattle.std.specs.Str.{bytes_eq}
use Rattle.std.specs.declared.cmp.Ordering.{Ordering}
use Rattle.std.specs.declared.cmp.Ordering.TheVariants.{Less, Equal, Greater}
use Rattle.std.proofs.lemmas.Bool.{and_parts, false_from_ne_true, false≢true}
use Rattle.std.proofs.lemmas.List.Elements.{Contains-append_cases, Contains-append_left, Contains-append_right}
use Rattle.std.proofs.lemmas.Slice.Eq.{bytes_eq-Decides}
use Rattle.wit_values.specs.Version.{version_cmp}
use Rattle.wit_values.specs.facts.VersionFacts.{version_cmp_total}
use Rattle.wit_digraph.specs.facts.FreshFacts.{any_from_contains}
use Rattle.wit_digraph.specs.facts.MemberFacts.{Contains-cons_cases, Contains-here, Contains-nil}
use Rattle.wit_names.specs.facts.PackageNameFacts.{same_package-Decides}
use Rattle.wit_names.specs.PackageName.{same_package}
use Rattle.wit_names.specs.declared.track.TrackRule.{TrackRule}
use Rattle.wit_elaboration.specs.Valid.{IsValid}
use Rattle.wit_graph_data.specs.declared.graph.Graph.{Graph}
use Rattle.wit_semver.specs.SemverMerged.{SemverMerge, Versioned, both, have_one_track, imported, is_replaced, newest, versioned}
use Rattle.wit_semver.specs.facts.Greatest.{any_of, any_with, below_itself, below_trans, both_from, both_into, both_true, inside, newest_stays, stays_from, track_into}
use Rattle.wit_semver.specs.facts.Merged.{equal_versions, one_track}
use Rattle.wit_semver.specs.steps.Replacing.{IsNewestTable, is_newer, is_smaller, key_at, key_of, replacement, same_track}
use Rattle.wit_semver.specs.declared.tracks.TrackKey.{TrackKey}
use Rattle.wit_semver.specs.steps.Parts.{is_below, is_older_than}

-- ---- keys of tracks

pub same_track-Decides : (a b : TrackKey) → Decides (same_track a b) (a ≡ b)
same_track-Decides a b = (
  λ on.
      let parts = and_parts (same_package a.home b.home) (bytes_eq a.interface b.interface) on in
      let home : a.home ≡ b.home = (same_package-Decides a.home b.home).0 parts.0 in
      let interface : a.interface ≡ b.interface = (bytes_eq-Decides a.interface b.interface).0 parts.1 in
      λ i. record { home = home i; interface = interface i },
  λ same.
      both_true (same_package a.home b.home) (bytes_eq a.interface b.interface)
      ((same_package-Decides a.home b.home).1 (ap (λ (k : TrackKey). k.home) same)) ((bytes_eq-Decides a.interface b.interface).1 (ap (λ (k : TrackKey). k.interface) same)),
)

same_value : (i j : ℕ) → Some i ≡ Some j → i ≡ j
same_value i j same = cc

same_key : (a b : TrackKey) → Some a ≡ Some b → a ≡ b
same_key a b same = cc

last_is : (i id : ℕ) → Contains (id ∷ []) i → i ≡ id
last_is i id has = elim (Contains-cons_cases id i [] has) [ inl same ↦ sym same | inr none ↦ absurd (Contains-nil none) ]

-- ---- one interface more

module _ (rule : TrackRule) (g : Graph) where
  abbrev at : ℕ → Option Versioned
  at i = versioned g i

  -- what has a key is of a version
  pub keyed_from : (i : ℕ) (k : TrackKey) → key_at rule g i ≡ Some k → (v : Versioned) × (at i ≡ Some v) × (k ≡ key_of rule v)
  keyed_from i k is = by (at i) refl is
    where
      by : (o : Option Versioned) → at i ≡ o → option_map (key_of rule) o ≡ Some k → (v : Versioned) × (at i ≡ Some v) × (k ≡ key_of rule v)
      by None now is = cc
      by (Some v) now is = (v, now, sym (same_key (key_of rule v) k is))

  pub keyed_into : (i : ℕ) (v : Versioned) → at i ≡ Some v → key_at rule g i ≡ Some (key_of rule v)
  keyed_into i v is = ap (option_map (key_of rule)) is

  smaller_is : (i j : ℕ) (v w : Versioned) → at i ≡ Some v → at j ≡ Some w → is_smaller g i j ≡ is_below v w
  smaller_is i j v w first second =
      ap (λ (o : Option Versioned). both is_below o (at j)) first ∙ ap (λ (o : Option Versioned). both is_below (Some v) o) second

  newer_is : (j : ℕ) (v w : Versioned) → at j ≡ Some w → is_newer g (Some j) v ≡ is_below w v
  newer_is j v w is = ap (λ (o : Option Versioned). option_map_or (λ (x : Versioned). is_below x v) o true) is

  module _ (ids : List ℕ) (id : ℕ) where
    grown : {j : ℕ} → Contains ids j → Contains (ids ++ id ∷ []) j
    grown {j} has = Contains-append_left ids (id ∷ []) j has

    here : Contains (ids ++ id ∷ []) id
    here = Contains-append_right ids (id ∷ []) id (Contains-here id [])

    module _ (old new : List (TrackKey × ℕ)) (tells : IsNewestTable rule g ids old) where
      -- what has no version changes nothing
      pub tells_unversioned : at id ≡ None → IsNewestTable rule g (ids ++ id ∷ []) old
      tells_unversioned none = record {
        from = λ k j is. let it = tells.from k j is in (grown it.0, it.1);
        into = λ i k has is. elim (Contains-append_cases ids (id ∷ []) i has) [
          | inl there ↦ tells.into i k there is
          | inr last ↦ absurd (no_key i k (last_is i id last) is)
        ];
      }
        where
          no_key : (i : ℕ) (k : TrackKey) → i ≡ id → key_at rule g i ≡ Some k → ⊥
          no_key i k same is =
              let now : key_at rule g i ≡ None = ap (key_at rule g) same ∙ ap (option_map (key_of rule)) none in
              let both_ : None ≡ Some k = sym now ∙ is in
              cc

      module _ (v : Versioned) (is_v : at id ≡ Some v) where
        abbrev key : TrackKey
        key = key_of rule v

        -- where it is of no greater version, nothing changes
        pub tells_smaller : is_newer g (lookup (same_track key) old) v ≡ false → IsNewestTable rule g (ids ++ id ∷ []) old
        tells_smaller stays = record {
          from = λ k j is. let it = tells.from k j is in (grown it.0, it.1);
          into = λ i k has is. elim (Contains-append_cases ids (id ∷ []) i has) [
            | inl there ↦ tells.into i k there is
            | inr last ↦ mine i k (last_is i id last) is (lookup (same_track key) old) refl
          ];
        }
          where
            mine : (i : ℕ) (k : TrackKey) → i ≡ id → key_at rule g i ≡ Some k → (o : Option ℕ) → lookup (same_track key) old ≡ o → (j : ℕ) × (lookup (same_track k) old ≡ Some j) × (is_smaller g j i ≡ false)
            mine i k same is None found =
                let new_one : is_newer g None v ≡ false = subst (λ (o : Option ℕ). is_newer g o v ≡ false) found stays in
                absurd (false≢true (sym new_one))
            mine i k same is (Some j) found =
                let key_is : k ≡ key = same_key k key (sym is ∙ ap (key_at rule g) same ∙ keyed_into id v is_v) in
                let it = keyed_from j key (tells.from key j found).1 in
                let level : is_below it.0 v ≡ false = sym (newer_is j v it.0 it.1) ∙ subst (λ (o : Option ℕ). is_newer g o v ≡ false) found stays in
                (j, ap (λ (q : TrackKey). lookup (same_track q) old) key_is ∙ found, smaller_is j i it.0 v it.1 (ap at same ∙ is_v) ∙ level)

        -- where it is, it takes the place of what was known
        pub tells_newer : is_newer g (lookup (same_track key) old) v ≡ true
            → ((q : TrackKey) → lookup (same_track q) new ≡ cond (same_track key q) (Some id) (lookup (same_track q) old)) → IsNewestTable rule g (ids ++ id ∷ []) new
        tells_newer newer put = record {
          from = λ k j is. told_from k j (same_track key k) refl is;
          into = λ i k has is. elim (Contains-append_cases ids (id ∷ []) i has) [
            | inl there ↦ let it = tells.into i k there is in known i k is it.0 it.1 it.2 (same_track key k) refl
            | inr last ↦ mine i k (last_is i id last) is
          ];
        }
          where
            put_at : (k : TrackKey) (b : Bool) → same_track key k ≡ b → lookup (same_track k) new ≡ cond b (Some id) (lookup (same_track k) old)
            put_at k b on = put k ∙ ap (λ (x : Bool). cond x (Some id) (lookup (same_track k) old)) on

            told_from : (k : TrackKey) (j : ℕ) (b : Bool) → same_track key k ≡ b → lookup (same_track k) new ≡ Some j → Contains (ids ++ id ∷ []) j × (key_at rule g j ≡ Some k)
            told_from k j true on is =
                let j_is : id ≡ j = same_value id j (sym (put_at k true on) ∙ is) in
                let key_is : key ≡ k = (same_track-Decides key k).0 on in
                (subst (Contains (ids ++ id ∷ [])) j_is here, ap (key_at rule g) (sym j_is) ∙ keyed_into id v is_v ∙ ap Some key_is)
            told_from k j false on is = let it = tells.from k j (sym (put_at k false on) ∙ is) in (grown it.0, it.1)

            mine : (i : ℕ) (k : TrackKey) → i ≡ id → key_at rule g i ≡ Some k → (j : ℕ) × (lookup (same_track k) new ≡ Some j) × (is_smaller g j i ≡ false)
            mine i k same is =
                let key_is : key ≡ k = same_key key k (sym (keyed_into id v is_v) ∙ ap (key_at rule g) (sym same) ∙ is) in
                let on : same_track key k ≡ true = (same_track-Decides key k).1 key_is in
                (id, put_at k true on, smaller_is id i v v is_v (ap at same ∙ is_v) ∙ false_from_ne_true (is_below v v) (below_itself v))

            known : (i : ℕ) (k : TrackKey) → key_at rule g i ≡ Some k → (j : ℕ) → lookup (same_track k) old ≡ Some j → is_smaller g j i ≡ false → (b : Bool) → same_track key k ≡ b
                → (j : ℕ) × (lookup (same_track k) new ≡ Some j) × (is_smaller g j i ≡ false)
            known i k is j found level false on = (j, put_at k false on ∙ found, level)
            known i k is j found level true on =
                let key_is : key ≡ k = (same_track-Decides key k).0 on in
                let mine_ = keyed_from i k is in
                let its = keyed_from j k (tells.from k j found).1 in
                let found_here : lookup (same_track key) old ≡ Some j = ap (λ (q : TrackKey). lookup (same_track q) old) key_is ∙ found in
                let over : is_below its.0 v ≡ true = sym (newer_is j v its.0 its.1) ∙ subst (λ (o : Option ℕ). is_newer g o v ≡ true) found_here newer in
                let not_below : is_below its.0 mine_.0 ≡ false = sym (smaller_is j i its.0 mine_.0 its.1 mine_.1) ∙ level in (
                  id,
                  put_at k true on,
                  smaller_is id i v mine_.0 is_v mine_.1 ∙ false_from_ne_true (is_below v mine_.0) (λ up. false≢true (sym not_below ∙ below_trans its.0 v mine_.0 over up)),
                )

-- ---- what a whole table tells

-- nothing of a list passes a test that fails everywhere
none_any : {X : Type 0} (test : X → Bool) (xs : List X) → ((x : X) → test x ≡ false) → list_any test xs ≡ false
none_any test xs fails = false_from_ne_true (list_any test xs) (λ on. let it = any_of test xs on in false≢true (sym (fails it.0) ∙ it.2))

-- what is above what isn't below another one is above that
above_level : (g : Graph) → IsValid g → (v w x : Versioned) → is_below v x ≡ true → is_below w x ≡ false → is_below v w ≡ true
above_level g valid v w x up level = by (version_cmp w.version x.version) refl
  where
    by : (o : Ordering) → version_cmp w.version x.version ≡ o → is_below v w ≡ true
    by Less is = absurd (false≢true (sym level ∙ ap is_lt is))
    by Equal is =
        let same = equal_versions g valid w.version x.version is in
        subst (λ (n : _). is_lt (version_cmp v.version n) ≡ true) (sym same) up
    by Greater is = below_trans v x w up (ap is_lt (version_cmp_total.antisymm x.version w.version ∙ ap ordering_reverse is))

module _ (u : SemverMerge) (valid : IsValid u.graph) (table : List (TrackKey × ℕ)) (tells : IsNewestTable u.rule u.graph (imported u) table) (i : ℕ) (has : Contains (imported u) i) where
  abbrev at_ : ℕ → Option Versioned
  at_ j = versioned u.graph j

  abbrev outdone : ℕ → ℕ → Bool
  outdone = is_older_than u.rule u.graph

  abbrev test : Versioned → Versioned → Bool
  test v w = have_one_track u.rule v w && is_below v w

  replaced_is : (b : Bool) → list_any (outdone i) (imported u) ≡ b → is_replaced u i ≡ b
  replaced_is b is = ap (λ (x : Bool). x && list_any (outdone i) (imported u)) (any_from_contains i (imported u) has) ∙ is

  not_replaced : is_replaced u i ≡ false → None ≡ replacement u i
  not_replaced is = sym (ap (λ (b : Bool). if b then Some (newest u i) else None) is)

  -- one that has no version isn't replaced
  pub unversioned_stays : at_ i ≡ None → None ≡ replacement u i
  unversioned_stays none = not_replaced (replaced_is false (none_any (outdone i) (imported u) (λ j. ap (λ (o : Option Versioned). both test o (at_ j)) none)))

  module _ (v : Versioned) (is_v : at_ i ≡ Some v) where
    -- something is known on its track
    pub is_known : lookup (same_track (key_of u.rule v)) table ≡ None → ⊥
    is_known none =
        let it = tells.into i (key_of u.rule v) has (keyed_into u.rule u.graph i v is_v) in
        let both_ : None ≡ Some it.0 = sym none ∙ it.1 in
        cc

    module _ (n : ℕ) (found : lookup (same_track (key_of u.rule v)) table ≡ Some n) where
      pub n_told : Contains (imported u) n × (key_at u.rule u.graph n ≡ Some (key_of u.rule v))
      n_told = tells.from (key_of u.rule v) n found

      pub n_at : (w : Versioned) × (at_ n ≡ Some w) × (key_of u.rule v ≡ key_of u.rule w)
      n_at = keyed_from u.rule u.graph n (key_of u.rule v) n_told.1

      one_key : (x y : Versioned) → key_of u.rule x ≡ key_of u.rule y → have_one_track u.rule x y ≡ true
      one_key x y same = track_into u.rule x y (record { home = ap (λ (k : TrackKey). k.home) same; name = ap (λ (k : TrackKey). k.interface) same })

      -- no import on the track is of a greater version
      greatest : (j : ℕ) (x : Versioned) → Contains (imported u) j → at_ j ≡ Some x → key_of u.rule x ≡ key_of u.rule v → is_below n_at.0 x ≡ false
      greatest j x there is_x same =
          let it = tells.into j (key_of u.rule x) there (keyed_into u.rule u.graph j x is_x) in
          let one : it.0 ≡ n = same_value it.0 n (sym it.1 ∙ ap (λ (k : TrackKey). lookup (same_track k) table) same ∙ found) in
          sym (smaller_is u.rule u.graph n j n_at.0 x n_at.1 is_x) ∙ subst (λ (m : ℕ). is_smaller u.graph m j ≡ false) one it.2

      -- where that is of a greater version, it replaces the other
      pub greater_replaces : is_below v n_at.0 ≡ true → Some n ≡ replacement u i
      greater_replaces up =
          let on = one_key v n_at.0 n_at.2 in
          let replaced : is_replaced u i ≡ true =
          replaced_is true (any_with (outdone i) (imported u) n n_told.0 (both_into test (at_ i) (at_ n) v n_at.0 is_v n_at.1 (both_true (have_one_track u.rule v n_at.0) (is_below v n_at.0) on up))) in
          let it = newest_stays u i replaced in
          let pair = both_from (have_one_track u.rule) (at_ i) (at_ (newest u i)) it.on in
          let first : pair.0 ≡ v = inside pair.0 v (sym pair.2 ∙ is_v) in
          let track : have_one_track u.rule v pair.1 ≡ true = subst (λ (x : Versioned). have_one_track u.rule x pair.1 ≡ true) first pair.4 in
          let key_is = keys_same v pair.1 track in
          let level = greatest (newest u i) pair.1 it.is_imported pair.3 (sym key_is) in
          let onward : have_one_track u.rule pair.1 n_at.0 ≡ true = one_key pair.1 n_at.0 (sym key_is ∙ n_at.2) in
          let same : newest u i ≡ n =
          one_track u.graph valid u.rule (newest u i) n pair.1 n_at.0 pair.3 n_at.1 onward
          (λ below. stays_from u (newest u i) it.is_imported it.stays n n_told.0 (both_into test (at_ (newest u i)) (at_ n) pair.1 n_at.0 pair.3 n_at.1 (both_true (have_one_track u.rule pair.1 n_at.0) (is_below pair.1 n_at.0) onward below)))
          (λ below. false≢true (sym level ∙ below)) in
          ap Some (sym same) ∙ sym (ap (λ (b : Bool). if b then Some (newest u i) else None) replaced)
        where
          keys_same : (x y : Versioned) → have_one_track u.rule x y ≡ true → key_of u.rule x ≡ key_of u.rule y
          keys_same x y on = (same_track-Decides (key_of u.rule x) (key_of u.rule y)).0 on

      -- else nothing does
      pub level_stays : is_below v n_at.0 ≡ false → None ≡ replacement u i
      level_stays level = not_replaced (false_from_ne_true (is_replaced u i) (λ on.
          let up = any_of (outdone i) (imported u) (and_parts (list_any (nat_eq i) (imported u)) (list_any (outdone i) (imported u)) on).1 in
          let pair = both_from test (at_ i) (at_ up.0) up.2 in
          let first : pair.0 ≡ v = inside pair.0 v (sym pair.2 ∙ is_v) in
          let parts = and_parts (have_one_track u.rule pair.0 pair.1) (is_below pair.0 pair.1) pair.4 in
          let over : is_below v pair.1 ≡ true = subst (λ (x : Versioned). is_below x pair.1 ≡ true) first parts.1 in
          let track : have_one_track u.rule v pair.1 ≡ true = subst (λ (x : Versioned). have_one_track u.rule x pair.1 ≡ true) first parts.0 in
          let key_is : key_of u.rule v ≡ key_of u.rule pair.1 = (same_track-Decides (key_of u.rule v) (key_of u.rule pair.1)).0 track in
          let below = greatest up.0 pair.1 up.1 pair.3 (sym key_is) in
          false≢true (sym level ∙ above_level u.graph valid v n_at.0 pair.1 over below)))
