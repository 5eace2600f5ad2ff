-- The members of an object, and the items of a list, one by one.
use Rattle.std.proofs.Common.{◌≡◌, ◌≢◌, ◌<◌, ◌+◌, ℕ, suc, Bool, true, false, List, [], ◌∷◌, ◌++◌, length, get_or, take, drop, map, Result, Some, None, refl, sym, ap, ◌∙◌, subst, drop-cons, arith, if◌then◌else◌, bytes_eq}
use Rattle.std.specs.Borrow.{Bor}
use Rattle.std.specs.List.{list_any}
use Rattle.std.proofs.lemmas.List.{take_more, map-append}
use Rattle.json.specs.Json.{Json, Members}
use Rattle.json.specs.Json as json
use Rattle.json.specs.Value.{items_view, members_view, value_view}
use Rattle.json.specs.declared.value.Value.{Value}
use Rattle.wit_json_reading.specs.Objects.{one_member, two_items}
use Rattle.wit_json_reading.specs.Reading.{Reading, Reads, instead_of, names_from, under}
use Rattle.wit_json_reading.specs.declared.fault.Expected.TheVariants as expected
use Rattle.wit_json_reading.specs.declared.fault.ReadError.{ReadError}
use Rattle.wit_json_reading.specs.declared.fault.Step.TheVariants as step
use Rattle.wit_json_reading.proofs.Steps.{any_map}

-- the names of some members
abbrev pub names_in : {A : Type 0} → List (Bor (List ℕ) × Value A) → List (List ℕ)
names_in ms = map (λ m. m.0.now) ms

-- what is read of one reading is read of another that is the same
pub reads_same : {A : Type 0} (r : Result A ReadError) {x y : Reading A} → x ≡ y → Reads r y → Reads r x
reads_same r same reads = subst (λ z. Reads r z) (sym same) reads

-- the members from an index on begin with the one there
pub next_member : {A : Type 0} (ms : List (Bor (List ℕ) × Value A)) (i : ℕ) (m : Bor (List ℕ) × Value A) → i < length ms → m ≡ get_or ms i m
    → members_view (drop i ms) ≡ json.member m.0.now (value_view m.1) (members_view (drop (suc i) ms))
next_member ms i m small is = ap members_view (drop-cons ms i m small ∙ ap (λ x. x ∷ drop (suc i) ms) (sym is))

-- the names up to an index and of the member there
next_name : {A : Type 0} (ms : List (Bor (List ℕ) × Value A)) (i : ℕ) (m : Bor (List ℕ) × Value A) → i < length ms → m ≡ get_or ms i m
    → names_in (take i ms) ++ m.0.now ∷ [] ≡ names_in (take (i + 1) ms)
next_name ms i m small is =
    sym (ap names_in (take_more ms i m small ∙ ap (λ x. take i ms ++ x ∷ []) (sym is)) ∙ map-append (λ it. it.0.now) (take i ms) (m ∷ []))

-- the name of the member at an index stands before it
pub is_second : {A : Type 0} (known : List (List ℕ)) (ms : List (Bor (List ℕ) × Value A)) (i : ℕ) (m : Bor (List ℕ) × Value A) → i < length ms → m ≡ get_or ms i m
    → list_any (λ e. bytes_eq m.0.now e.0.now) (take i ms) ≡ true
    → names_from known (names_in (take i ms)) (members_view (drop i ms)) ≡ under (step.Member m.0.now) (instead_of expected.NoSecondMember)
is_second known ms i m small is second =
    ap (names_from known (names_in (take i ms))) (next_member ms i m small is)
    ∙ ap (λ (b : Bool). if b then under (step.Member m.0.now) (instead_of expected.NoSecondMember)
    else if list_any (bytes_eq m.0.now) known then names_from known (names_in (take i ms) ++ m.0.now ∷ []) (members_view (drop (suc i) ms))
    else under (step.Member m.0.now) (instead_of expected.NoMember)) (any_map (bytes_eq m.0.now) (λ it. it.0.now) (take i ms) ∙ second)

-- it doesn't stand before it
first_there : {A : Type 0} (known : List (List ℕ)) (ms : List (Bor (List ℕ) × Value A)) (i : ℕ) (m : Bor (List ℕ) × Value A) → i < length ms → m ≡ get_or ms i m
    → list_any (λ e. bytes_eq m.0.now e.0.now) (take i ms) ≡ false
    → names_from known (names_in (take i ms)) (members_view (drop i ms))
    ≡ (if list_any (bytes_eq m.0.now) known then names_from known (names_in (take i ms) ++ m.0.now ∷ []) (members_view (drop (suc i) ms))
    else under (step.Member m.0.now) (instead_of expected.NoMember))
first_there known ms i m small is first =
    ap (names_from known (names_in (take i ms))) (next_member ms i m small is)
    ∙ ap (λ (b : Bool). if b then under (step.Member m.0.now) (instead_of expected.NoSecondMember)
    else if list_any (bytes_eq m.0.now) known then names_from known (names_in (take i ms) ++ m.0.now ∷ []) (members_view (drop (suc i) ms))
    else under (step.Member m.0.now) (instead_of expected.NoMember)) (any_map (bytes_eq m.0.now) (λ it. it.0.now) (take i ms) ∙ first)

-- the name of the member at an index isn't known
pub is_unknown : {A : Type 0} (known : List (Bor (List ℕ))) (ms : List (Bor (List ℕ) × Value A)) (i : ℕ) (m : Bor (List ℕ) × Value A) → i < length ms → m ≡ get_or ms i m
    → list_any (λ e. bytes_eq m.0.now e.0.now) (take i ms) ≡ false → list_any (λ it. bytes_eq m.0.now it.now) known ≡ false
    → names_from (map (λ it. it.now) known) (names_in (take i ms)) (members_view (drop i ms)) ≡ under (step.Member m.0.now) (instead_of expected.NoMember)
is_unknown known ms i m small is first unknown =
    first_there (map (λ it. it.now) known) ms i m small is first
    ∙ ap (λ (b : Bool). if b then names_from (map (λ it. it.now) known) (names_in (take i ms) ++ m.0.now ∷ []) (members_view (drop (suc i) ms))
    else under (step.Member m.0.now) (instead_of expected.NoMember)) (any_map (bytes_eq m.0.now) (λ it. it.now) known ∙ unknown)

-- it is known
pub is_known : {A : Type 0} (known : List (Bor (List ℕ))) (ms : List (Bor (List ℕ) × Value A)) (i : ℕ) (m : Bor (List ℕ) × Value A) → i < length ms → m ≡ get_or ms i m
    → list_any (λ e. bytes_eq m.0.now e.0.now) (take i ms) ≡ false → list_any (λ it. bytes_eq m.0.now it.now) known ≡ true
    → names_from (map (λ it. it.now) known) (names_in (take i ms)) (members_view (drop i ms)) ≡ names_from (map (λ it. it.now) known) (names_in (take (i + 1) ms)) (members_view (drop (i + 1) ms))
is_known known ms i m small is first there =
    let next : suc i ≡ i + 1 = omega arith in
    first_there (map (λ it. it.now) known) ms i m small is first
    ∙ ap (λ (b : Bool). if b then names_from (map (λ it. it.now) known) (names_in (take i ms) ++ m.0.now ∷ []) (members_view (drop (suc i) ms))
    else under (step.Member m.0.now) (instead_of expected.NoMember)) (any_map (bytes_eq m.0.now) (λ it. it.now) known ∙ there)
    ∙ ap (λ names. names_from (map (λ it. it.now) known) names (members_view (drop (suc i) ms))) (next_name ms i m small is)
    ∙ ap (λ n. names_from (map (λ it. it.now) known) (names_in (take (i + 1) ms)) (members_view (drop n ms))) next

-- ---- one member, two items

pub not_one : {A : Type 0} (ms : List (Bor (List ℕ) × Value A)) → length ms ≢ 1 → None ≡ one_member (json.object (members_view ms))
not_one [] more = refl
not_one (m ∷ []) more = absurd (more refl)
not_one (m ∷ n ∷ ms) more = refl

pub one : {A : Type 0} (ms : List (Bor (List ℕ) × Value A)) (m : Bor (List ℕ) × Value A) → length ms ≡ 1 → m ≡ get_or ms 0 m
    → Some (m.0.now, value_view m.1) ≡ one_member (json.object (members_view ms))
one [] m count is = absurd (omega (arith, count))
one (n ∷ []) m count is = ap (λ it. Some (it.0.now, value_view it.1)) is
one (n ∷ o ∷ ms) m count is = absurd (omega (arith, count))

pub not_two : {A : Type 0} (vs : List (Value A)) → length vs ≢ 2 → None ≡ two_items (json.array (items_view vs))
not_two [] more = refl
not_two (v ∷ []) more = refl
not_two (v ∷ w ∷ []) more = absurd (more refl)
not_two (v ∷ w ∷ x ∷ vs) more = refl

pub two : {A : Type 0} (vs : List (Value A)) (v w : Value A) → length vs ≡ 2 → v ≡ get_or vs 0 v → w ≡ get_or vs 1 w
    → Some (value_view v, value_view w) ≡ two_items (json.array (items_view vs))
two [] v w count is-v is-w = absurd (omega (arith, count))
two (x ∷ []) v w count is-v is-w = absurd (omega (arith, count))
two (x ∷ y ∷ []) v w count is-v is-w = ap (λ it. Some (value_view it, value_view w)) is-v ∙ ap (λ it. Some (value_view x, value_view it)) is-w
two (x ∷ y ∷ z ∷ vs) v w count is-v is-w = absurd (omega (arith, count))
