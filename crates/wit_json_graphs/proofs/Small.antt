-- Numbers, versions, spans, docs and gates read back.
use Rattle.std.proofs.Common.{◌≡◌, ◌∙◌, ℕ, ◌+◌, ◌-◌, ◌*◌, ◌/◌, ◌%◌, ◌<◌, ◌≤◌, ◌^◌, Bool, true, false, List, [], ◌∷◌, ◌++◌, Option, Some, None, Ok, refl, ap, codes, decimal, if◌then◌else◌, nat_le, nat_lt, arith}
use Rattle.wit_json_reading.proofs.Digits.{number_below}
use Rattle.std.specs.Char.{is_ascii_digit}
use Rattle.std.specs.Option.{option_map, option_map_or}
use Rattle.std.specs.Prelude.{IfSome}
use Rattle.std.proofs.lemmas.Fmt.{decimal_by_steps}
use Rattle.json.specs.Find.{get}
use Rattle.json.specs.Json.{Json}
use Rattle.json.specs.Json as json
use Rattle.semver.specs.Grammar.{IsValid}
use Rattle.semver.proofs.Grammar.{version_parts-complete}
use Rattle.wit_values.specs.Version.{Parts}
use Rattle.wit_data.specs.declared.stability.Docs.{Docs}
use Rattle.wit_data.specs.declared.stability.Stability.{Stability}
use Rattle.wit_data.specs.declared.stability.Stability.TheVariants.{Unknown, Stable, Unstable}
use Rattle.wit_json.specs.Details.{json_of_range, json_of_span}
use Rattle.wit_json.specs.Gates.{json_of_stability}
use Rattle.wit_json.specs.Unresolved.{json_of_gate}
use Rattle.wit_json.specs.Values.{json_of_number, json_of_text, json_of_version, pair, tagged}
use Rattle.wit_json_graphs.specs.Writable.{IsWritableGate, IsWritableSpan}
use Rattle.wit_json_reading.specs.Gates.{read_contents, read_docs, read_any_gate, read_gate_by, read_place, read_range, read_span, read_stability, read_stable, read_unstable}
use Rattle.wit_json_reading.specs.Reading.{instead_of, read_optional, read_or}
use Rattle.wit_json_reading.specs.Values.{decimal_after, decimal_of, read_number, read_small_number, read_text, version_in, read_version}
use Rattle.wit_json_reading.specs.declared.fault.Expected.TheVariants as expected
use Rattle.wit_json_graphs.proofs.Slots.{Slot, get_slot, only_slots, slots, json_of_docs}
use Rattle.wit_json_graphs.proofs.Steps.{all_1, all_3, reads_alone, reads_optional, reads_pair, reads_required, reads_variant, followed}

-- ---- numbers

digit_is : (d : ℕ) → d < 10 → is_ascii_digit (48 + d) ≡ true
digit_is d small = grind arith

-- one digit more behind what is read
digit_behind : (k : ℕ) (ds : List ℕ) (d m : ℕ) → d < 10 → decimal_after k ds ≡ Some m → decimal_after k (ds ++ (48 + d) ∷ []) ≡ Some (m * 10 + d)
digit_behind k [] d m small read =
    let same : k ≡ m = cc in
    let digit : (48 + d) - 48 ≡ d = omega arith in
    rw (digit_is d small) (ap (λ (n : ℕ). Some (k * 10 + n)) digit ∙ ap (λ (n : ℕ). Some (n * 10 + d)) same)
digit_behind k (c ∷ cs) d m small read = by (is_ascii_digit c) read (λ rest. digit_behind (k * 10 + (c - 48)) cs d m small rest)
  where
    by : (b : Bool) → (if b then decimal_after (k * 10 + (c - 48)) cs else None) ≡ Some m
        → (decimal_after (k * 10 + (c - 48)) cs ≡ Some m → decimal_after (k * 10 + (c - 48)) (cs ++ (48 + d) ∷ []) ≡ Some (m * 10 + d))
        → (if b then decimal_after (k * 10 + (c - 48)) (cs ++ (48 + d) ∷ []) else None) ≡ Some (m * 10 + d)
    by true h others = others h
    by false h others = cc

one_digit : (n : ℕ) → n < 10 → decimal_after 0 ((48 + n) ∷ []) ≡ Some n
one_digit n small = digit_behind 0 [] n 0 small refl ∙ ap Some (omega arith)

next_digit : (n : ℕ) (ds : List ℕ) → 10 ≤ n → decimal_after 0 ds ≡ Some (n / 10) → decimal_after 0 (ds ++ (48 + n % 10) ∷ []) ≡ Some n
next_digit n ds large read = digit_behind 0 ds (n % 10) (n / 10) (omega arith) read ∙ ap Some (omega arith)

-- a number reads back
pub number_read : (n : ℕ) → n < 2 ^ 64 → decimal_after 0 (decimal n) ≡ Some n
number_read n fits = decimal_by_steps (λ m ds. decimal_after 0 ds ≡ Some m) one_digit next_digit n fits

is_below : (n limit : ℕ) → n < limit → nat_lt n limit ≡ true
is_below n limit small = grind arith

pub reads_number : (n : ℕ) → n < 2 ^ 64 → read_number (json_of_number n) ≡ Ok n
unfolding decimal_of
reads_number n fits = ap (λ it. option_map_or (λ n. Ok n) it (instead_of expected.Number)) (ap (number_below (2 ^ 64)) (number_read n fits) ∙ ap (λ (b : Bool). if b then Some n else None) (is_below n (2 ^ 64) fits))

pub reads_small : (n : ℕ) → n < 2 ^ 32 → read_small_number (json_of_number n) ≡ Ok n
unfolding read_small_number
reads_small n fits =
    followed (read_number (json_of_number n)) _ n (Ok n) (reads_number n (omega arith)) (ap (λ (b : Bool). if b then Ok n else instead_of expected.SmallNumber) (is_below n (2 ^ 32) fits))

-- ---- versions

pub reads_version : (version : Parts) → IsValid version → read_version (json_of_version version) ≡ Ok version
unfolding read_version
reads_version version valid = ap version_in (version_parts-complete version valid)

pub reads_versions : (version : Option Parts) → IfSome version IsValid → IfSome version (λ v. read_version (json_of_version v) ≡ Ok v)
reads_versions None valid = tt
reads_versions (Some version) valid = reads_version version valid

-- ---- texts

pub reads_texts : (text : Option (List ℕ)) → IfSome text (λ t. read_text (json_of_text t) ≡ Ok t)
reads_texts None = tt
reads_texts (Some text) = refl

-- ---- spans

reads_range : (a b : ℕ) → a ≤ b → b < 2 ^ 32 → read_range (pair (json_of_number a) (json_of_number b)) ≡ Ok (Some (a, b))
unfolding read_range
reads_range a b ordered fits =
    let in_order : nat_le a b ≡ true = grind arith in
    followed _ (λ (r : ℕ × ℕ). if nat_le r.0 r.1 then Ok (Some r) else instead_of expected.Span) (a, b) (Ok (Some (a, b))) (reads_pair read_small_number read_small_number (json_of_number a) (json_of_number b) a b (reads_small a (omega arith)) (reads_small b fits))
    (ap (λ (o : Bool). if o then Ok (Some (a, b)) else instead_of expected.Span) in_order)

pub reads_span : (span : Option (ℕ × ℕ)) → IsWritableSpan span → read_place (json_of_span span) ≡ Ok span
unfolding read_place
reads_span None fits = refl
reads_span (Some range) fits = reads_range range.0 range.1 fits.0 fits.1

reads_ranges : (span : Option (ℕ × ℕ)) → IsWritableSpan span → IfSome span (λ range. read_place (json_of_range range) ≡ Ok (Some range))
unfolding read_place
reads_ranges None fits = tt
reads_ranges (Some range) fits = reads_range range.0 range.1 fits.0 fits.1

-- the span of an item, which may be left out
pub reads_span_member : (span : Option (ℕ × ℕ)) (j : Json) → IsWritableSpan span → get (codes "span") j ≡ option_map json_of_range span → read_span j ≡ Ok span
unfolding read_span read_place read_or
reads_span_member None j fits there =
    followed (read_optional read_place (codes "span") j) _ None (Ok None) (reads_optional read_place json_of_span (codes "span") j None there tt) refl
reads_span_member (Some range) j fits there =
    followed (read_optional read_place (codes "span") j) _ (Some (Some range)) (Ok (Some range))
    (reads_optional read_place json_of_span (codes "span") j (Some (Some range)) there (reads_range range.0 range.1 fits.0 fits.1)) refl

-- ---- docs

abbrev docs_from : Option (List ℕ) → Docs
docs_from contents = record { contents = contents }

reads_contents : (text : List ℕ) → read_contents (tagged (codes "contents") (json_of_text text)) ≡ Ok (docs_from (Some text))
unfolding read_contents
reads_contents text =
    all_1 (λ (text : List ℕ). docs_from (Some text)) (reads_alone read_text (codes "contents") (json_of_text text) text refl refl refl)

reads_docs_from : (contents : Option (List ℕ)) (j : Json) → get (codes "docs") j ≡ json_of_docs (docs_from contents) → read_docs j ≡ Ok (docs_from contents)
unfolding read_docs read_or
reads_docs_from None j there =
    followed (read_optional read_contents (codes "docs") j) _ None (Ok (docs_from None)) (reads_optional read_contents (λ (d : Docs). json.null) (codes "docs") j None there tt) refl
reads_docs_from (Some text) j there =
    followed (read_optional read_contents (codes "docs") j) _ (Some (docs_from (Some text))) (Ok (docs_from (Some text)))
    (reads_optional read_contents (λ (d : Docs). tagged (codes "contents") (json_of_text text)) (codes "docs") j (Some (docs_from (Some text))) there (reads_contents text)) refl

-- the docs of an item, which may be left out
pub reads_docs : (docs : Docs) (j : Json) → get (codes "docs") j ≡ json_of_docs docs → read_docs j ≡ Ok docs
reads_docs docs j there = reads_docs_from docs.contents j there

-- ---- gates

reads_stable : (since : Parts) (deprecated : Option Parts) → IsValid since → IfSome deprecated IsValid
    → read_stable (slots ((codes "since", Some (json_of_version since)) ∷ (codes "deprecated", option_map json_of_version deprecated) ∷ [])) ≡ Ok (Stable since deprecated)
unfolding read_stable
reads_stable since deprecated valid valid_too =
    let ss : List Slot = (codes "since", Some (json_of_version since)) ∷ (codes "deprecated", option_map json_of_version deprecated) ∷ [] in
    let j = slots ss in
    all_3 (λ (_ : Unit {0}) (since : Parts) (deprecated : Option Parts). Stable since deprecated)
    (only_slots (codes "since" ∷ codes "deprecated" ∷ []) ss refl)
    (reads_required read_version (codes "since") j (json_of_version since) since (get_slot (codes "since") ss) (reads_version since valid))
    (reads_optional read_version json_of_version (codes "deprecated") j deprecated (get_slot (codes "deprecated") ss) (reads_versions deprecated valid_too))

reads_unstable : (feature : List ℕ) (deprecated : Option Parts) → IfSome deprecated IsValid
    → read_unstable (slots ((codes "feature", Some (json_of_text feature)) ∷ (codes "deprecated", option_map json_of_version deprecated) ∷ [])) ≡ Ok (Unstable feature deprecated)
unfolding read_unstable
reads_unstable feature deprecated valid =
    let ss : List Slot = (codes "feature", Some (json_of_text feature)) ∷ (codes "deprecated", option_map json_of_version deprecated) ∷ [] in
    let j = slots ss in
    all_3 (λ (_ : Unit {0}) (feature : List ℕ) (deprecated : Option Parts). Unstable feature deprecated)
    (only_slots (codes "feature" ∷ codes "deprecated" ∷ []) ss refl)
    (reads_required read_text (codes "feature") j (json_of_text feature) feature (get_slot (codes "feature") ss) refl)
    (reads_optional read_version json_of_version (codes "deprecated") j deprecated (get_slot (codes "deprecated") ss) (reads_versions deprecated valid))

-- a gate, `null` where there is none
pub reads_gate : (gate : Stability) → IsWritableGate gate → read_any_gate (json_of_gate gate) ≡ Ok gate
unfolding read_any_gate
reads_gate Unknown fits = refl
reads_gate (Stable since deprecated) fits = reads_variant read_gate_by expected.Gate (codes "stable")
    (slots ((codes "since", Some (json_of_version since)) ∷ (codes "deprecated", option_map json_of_version deprecated) ∷ [])) (Stable since deprecated) (reads_stable since deprecated fits.0 fits.1)
reads_gate (Unstable feature deprecated) fits = reads_variant read_gate_by expected.Gate (codes "unstable")
    (slots ((codes "feature", Some (json_of_text feature)) ∷ (codes "deprecated", option_map json_of_version deprecated) ∷ [])) (Unstable feature deprecated) (reads_unstable feature deprecated fits)

-- the gate of an item, which may be left out
pub reads_stability : (gate : Stability) (j : Json) → IsWritableGate gate → get (codes "stability") j ≡ json_of_stability gate → read_stability j ≡ Ok gate
unfolding read_stability read_or
reads_stability Unknown j fits there =
    followed (read_optional read_any_gate (codes "stability") j) _ None (Ok Unknown) (reads_optional read_any_gate json_of_gate (codes "stability") j None there tt) refl
reads_stability (Stable since deprecated) j fits there =
    let gate = Stable since deprecated in
    followed (read_optional read_any_gate (codes "stability") j) _ (Some gate) (Ok gate) (reads_optional read_any_gate json_of_gate (codes "stability") j (Some gate) there (reads_gate gate fits)) refl
reads_stability (Unstable feature deprecated) j fits there =
    let gate = Unstable feature deprecated in
    followed (read_optional read_any_gate (codes "stability") j) _ (Some gate) (Ok gate) (reads_optional read_any_gate json_of_gate (codes "stability") j (Some gate) there (reads_gate gate fits)) refl
