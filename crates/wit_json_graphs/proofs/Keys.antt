-- The names of entries, which tell their keys.
use Rattle.std.proofs.Common.{◌≡◌, ◌∙◌, ℕ, zero, suc, ◌<◌, ◌^◌, ◌&&◌, ◌||◌, ◌+◌, ◌*◌, ◌-◌, Bool, true, false, List, [], ◌∷◌, ◌++◌, length, map, Some, None, Ok, refl, sym, ap, subst, arith, codes, decimal, drop, if◌then◌else◌, bytes_eq, nat_eq, slice_get, append_assoc}
use Rattle.std.specs.Char.{is_ascii_digit}
use Rattle.std.specs.List.{list_all, list_any, starts_with}
use Rattle.std.specs.Option.{option_map_or}
use Rattle.std.proofs.lemmas.Fmt.{decimal_injective}
use Rattle.std.proofs.lemmas.List.{map-append}
use Rattle.std.proofs.lemmas.Option.{slice_get_within}
use Rattle.std.proofs.lemmas.Slice.Eq.{bytes_eq-Decides}
use Rattle.json.specs.Json.{Json}
use Rattle.wit_values.specs.Table.{HasDistinctKeys}
use Rattle.wit_values.specs.facts.Lists.{slice_get-behind, slice_get-append}
use Rattle.wit_data.specs.Each.{Each}
use Rattle.wit_data.specs.declared.stability.Stability.TheVariants.{Unknown}
use Rattle.wit_data.specs.declared.world.WorldItem.{WorldItem}
use Rattle.wit_data.specs.declared.world.WorldItem.TheVariants as item
use Rattle.wit_data.specs.declared.world.WorldKey.{WorldKey}
use Rattle.wit_data.specs.declared.world.WorldKey.TheVariants as key
use Rattle.wit_json.specs.Values.{members_of}
use Rattle.wit_json.specs.Worlds.{entry_name, is_like_key, wants_mark}
use Rattle.wit_json_graphs.specs.Writable.{FitsKey, IsWritableItem, IsWritableKey}
use Rattle.wit_json_graphs.specs.laws.ReadBack.{EntryNamesDiffer}
use Rattle.wit_json_reading.specs.Reading.{instead_of, under}
use Rattle.wit_json_reading.specs.Values.{decimal_after}
use Rattle.wit_json_reading.specs.Worlds.{read_key, names_differ, plain_key}
use Rattle.wit_json_reading.specs.declared.fault.Expected.TheVariants as expected
use Rattle.wit_json_reading.specs.declared.fault.Step.TheVariants as step
use Rattle.wit_json_graphs.proofs.Small.{number_read}

-- ---- digits

-- what reads as a number has digits alone
read_digits : (k m : ℕ) (ds : List ℕ) → decimal_after k ds ≡ Some m → list_all is_ascii_digit ds ≡ true
read_digits k m [] read = refl
read_digits k m (c ∷ cs) read = by (is_ascii_digit c) read (λ rest. read_digits (k * 10 + (c - 48)) m cs rest)
  where
    by : (b : Bool) → (if b then decimal_after (k * 10 + (c - 48)) cs else None) ≡ Some m
        → (decimal_after (k * 10 + (c - 48)) cs ≡ Some m → list_all is_ascii_digit cs ≡ true) → (b && list_all is_ascii_digit cs) ≡ true
    by true h others = others h
    by false h others = cc

-- the name of an interface's key is like one
is_key : (id : ℕ) → id < 2 ^ 64 → is_like_key (entry_name (key.Interface id)) ≡ true
is_key id fits = read_digits 0 id (decimal id) (number_read id fits)

-- ---- marks

neither : (a b : Bool) → (a || b) ≡ false → (a ≡ false) × (b ≡ false)
neither true b h = cc
neither false b h = (refl, h)

-- a name without a mark is read as it is
unmarked : (name : List ℕ) (it : WorldItem) → starts_with nat_eq name (codes "%") ≡ false → read_key name it ≡ plain_key name it
unmarked name it none =
    ap (λ (b : Bool). if b then key.Name (drop 1 name) else plain_key name it) none

-- a label that is like no key isn't the name of one
other_label : (label : List ℕ) (id : ℕ) → id < 2 ^ 64 → is_like_key label ≡ false → bytes_eq label (codes "interface-" ++ decimal id) ≡ false
other_label label id fits unlike = by (bytes_eq label (codes "interface-" ++ decimal id)) refl
  where
    by : (b : Bool) → bytes_eq label (codes "interface-" ++ decimal id) ≡ b → b ≡ false
    by true same =
        let is : label ≡ codes "interface-" ++ decimal id = (bytes_eq-Decides label (codes "interface-" ++ decimal id)).0 same in
        let clash : true ≡ false = sym (ap is_like_key is ∙ is_key id fits) ∙ unlike in
        absurd (cc clash)
    by false other = refl

reads_plain : (label : List ℕ) (it : WorldItem) → IsWritableItem it → is_like_key label ≡ false → plain_key label it ≡ key.Name label
reads_plain label (item.Interface id stability docs span external_id) fits unlike =
    ap (λ (b : Bool). if b then key.Interface id else key.Name label) (other_label label id fits.0 unlike)
reads_plain label (item.Function f) fits unlike = refl
reads_plain label (item.Type_ id span) fits unlike = refl

reads_label : (label : List ℕ) (it : WorldItem) → IsWritableItem it → read_key (entry_name (key.Name label)) it ≡ key.Name label
reads_label label it fits = by (wants_mark label) refl
  where
    by : (b : Bool) → wants_mark label ≡ b → read_key (if b then codes "%" ++ label else label) it ≡ key.Name label
    by true marked = refl
    by false plain =
        let parts = neither (starts_with nat_eq label (codes "%")) (is_like_key label) plain in
        unmarked label it parts.0 ∙ reads_plain label it fits parts.1

-- a key is told by its name
pub reads_key : (k : WorldKey) (it : WorldItem) → FitsKey k it → IsWritableItem it → read_key (entry_name k) it ≡ k
reads_key (key.Name label) it fits writable = reads_label label it writable
reads_key (key.Interface id) (item.Interface other stability docs span external_id) fits writable =
    ap (λ (b : Bool). if b then key.Interface other else key.Name (codes "interface-" ++ decimal id))
    ((bytes_eq-Decides (codes "interface-" ++ decimal id) (codes "interface-" ++ decimal other)).1 (ap (λ (n : ℕ). codes "interface-" ++ decimal n) fits)) ∙ ap key.Interface (sym fits)
reads_key (key.Interface id) (item.Function f) fits writable = absurd fits
reads_key (key.Interface id) (item.Type_ other span) fits writable = absurd fits

-- ---- two names

abbrev an_interface : ℕ → WorldItem
an_interface id = item.Interface id Unknown (record { contents = None }) None None

abbrev a_type : WorldItem
a_type = item.Type_ 0 None

-- what fits both keys tells that they are the same
told_by : (k l : WorldKey) (it : WorldItem) → FitsKey k it → FitsKey l it → IsWritableItem it → entry_name k ≡ entry_name l → k ≡ l
told_by k l it fits other writable same =
    sym (reads_key k it fits writable) ∙ ap (λ (name : List ℕ). read_key name it) same ∙ reads_key l it other writable

pub entry_names_differ : EntryNamesDiffer
entry_names_differ (key.Name a) (key.Name b) fits other same = told_by (key.Name a) (key.Name b) a_type tt tt (omega arith, tt) same
entry_names_differ (key.Name a) (key.Interface j) fits other same = told_by (key.Name a) (key.Interface j) (an_interface j) tt refl (other, tt, tt) same
entry_names_differ (key.Interface i) (key.Name b) fits other same = told_by (key.Interface i) (key.Name b) (an_interface i) refl tt (fits, tt, tt) same
entry_names_differ (key.Interface i) (key.Interface j) fits other same =
    ap key.Interface (decimal_injective i j fits other (ap (λ (name : List ℕ). drop 10 name) same))

-- ---- the names of entries

-- what is written under a key has a key that can be written
pub writable_key : (k : WorldKey) (it : WorldItem) → FitsKey k it → IsWritableItem it → IsWritableKey k
writable_key (key.Name label) it fits writable = tt
writable_key (key.Interface id) (item.Interface other stability docs span external_id) fits writable =
    subst (λ (n : ℕ). n < 2 ^ 64) (sym fits) writable.0
writable_key (key.Interface id) (item.Function f) fits writable = absurd fits
writable_key (key.Interface id) (item.Type_ other span) fits writable = absurd fits

abbrev Entry : Type 0
Entry = WorldKey × WorldItem

abbrev name_of : Entry → List ℕ
name_of e = entry_name e.0

none_there : (names : List (List ℕ)) (name : List ℕ) → ((i : ℕ) (other : List ℕ) → slice_get names i ≡ Some other → name ≡ other → ⊥)
    → list_any (bytes_eq name) names ≡ false
none_there [] name none = refl
none_there (other ∷ names) name none = by (bytes_eq name other) refl (none_there names name (λ i it at. none (suc i) it at))
  where
    by : (b : Bool) → bytes_eq name other ≡ b → list_any (bytes_eq name) names ≡ false → (b || list_any (bytes_eq name) names) ≡ false
    by true same others = absurd (none 0 other refl ((bytes_eq-Decides name other).0 same))
    by false differs others = others

module _ (written : WorldItem → Json) where
  abbrev member_of : Entry → List ℕ × Json
  member_of e = (entry_name e.0, written e.1)

  pub reads_differ : (before es : List Entry) → HasDistinctKeys (before ++ es) → Each (λ (e : Entry). IsWritableKey e.0) (before ++ es)
      → names_differ (map name_of before) (members_of (map member_of es)) ≡ Ok tt
  reads_differ before [] distinct keys = refl
  reads_differ before (e ∷ es) distinct keys =
      let there = slice_get-behind before es e in
      let new : list_any (bytes_eq (name_of e)) (map name_of before) ≡ false =
      none_there (map name_of before) (name_of e) (λ i other at same.
      let d = mapped before i other at in
      let behind = slice_get-append before (e ∷ es) i d.0 d.1 in
      let one : e.0 ≡ d.0.0 = entry_names_differ e.0 d.0.0 (keys (length before) e there) (keys i d.0 behind) (same ∙ d.2) in
      let index : i ≡ length before = distinct i (length before) d.0 e behind there (sym one) in
      omega (arith, slice_get_within before i d.0 d.1, index)) in
      let longer : (before ++ e ∷ []) ++ es ≡ before ++ e ∷ es = append_assoc before (e ∷ []) es in
      ap (λ (b : Bool). if b then under (step.Member (name_of e)) (instead_of expected.NoSecondMember) else names_differ (map name_of before ++ name_of e ∷ []) (members_of (map member_of es))) new
      ∙ ap (λ (names : List (List ℕ)). names_differ names (members_of (map member_of es))) (sym (map-append name_of before (e ∷ [])))
      ∙ reads_differ (before ++ e ∷ []) es (subst (λ (all : List Entry). HasDistinctKeys all) (sym longer) distinct) (subst (λ (all : List Entry). Each (λ (it : Entry). IsWritableKey it.0) all) (sym longer) keys)
    where
      mapped : (xs : List Entry) (i : ℕ) (other : List ℕ) → slice_get (map name_of xs) i ≡ Some other → (d : Entry) × (slice_get xs i ≡ Some d) × (other ≡ name_of d)
      mapped [] i other at = cc
      mapped (x ∷ xs) zero other at = (x, refl, cc)
      mapped (x ∷ xs) (suc i) other at = mapped xs i other at
