-- Things in a row that the parts of a value complete, one after another.
use Rattle.std.specs.Prelude.{ℕ, zero, suc, List, [], ◌∷◌, Option, Some, None, Ok, if◌then◌else◌, bytes_eq, slice_get, slice_set}
use Rattle.std.specs.Borrow.{Bor}
use Rattle.indexmap.specs.IndexMap.{set_value_at}
use Rattle.json.specs.Json.{Json}
use Rattle.json.specs.Value.{value_view}
use Rattle.json.specs.declared.value.Value.{Value}
use Rattle.wit_data.specs.declared.world.WorldItem.{WorldItem}
use Rattle.wit_data.specs.declared.world.WorldKey.{WorldKey}
use Rattle.wit_json.specs.Worlds.{entry_name}
use Rattle.wit_json_reading.specs.Reading.{Reading, ◌>>=◌, instead_of, under}
use Rattle.wit_json_reading.specs.declared.fault.Expected.TheVariants as expected
use Rattle.wit_json_reading.specs.declared.fault.Step.TheVariants as step
use Rattle.wit_json_graphs.specs.Details.{item_with}

-- from an index on, so many things of a row, each with what its part says of it; there are as many parts
abbrev pub with_parts : {R P : Type 0} → (R → ℕ → P → Reading R) → ℕ → ℕ → R → List P → Reading R
with_parts f zero i row [] = Ok row
with_parts f (suc n) i row (part ∷ parts) =
    f row i part >>= λ next. with_parts f n (suc i) next parts
with_parts f _ i row _ = instead_of expected.Details

-- a list with what a value says of the item at an index
abbrev pub with_item_at : {A X : Type 0} → (A → Json → Reading A) → List A → ℕ → Value X → Option A
    → Reading (List A)
with_item_at f xs i v None = Ok xs
with_item_at f xs i v (Some x) =
    under (step.Item i) (f x (value_view v)) >>= λ y. Ok (slice_set xs i y)

abbrev pub with_item : {A X : Type 0} → (A → Json → Reading A) → List A → ℕ → Value X
    → Reading (List A)
with_item f xs i v = with_item_at f xs i v (slice_get xs i)

-- a table with what a member says of the entry at an index, under whose name it stands
abbrev pub with_entry_at : {K A X : Type 0} → (K → List ℕ) → (A → Json → Reading A) → List (K × A)
    → ℕ → Bor (List ℕ) × Value X → Option (K × A) → Reading (List (K × A))
with_entry_at name f es i member None = Ok es
with_entry_at name f es i member (Some e) =
    if bytes_eq member.0.now (name e.0)
    then (under (step.Member member.0.now) (f e.1 (value_view member.1))
    >>= λ y. Ok (set_value_at es i y))
    else instead_of expected.Details

abbrev pub with_member : {K A X : Type 0} → (K → List ℕ) → (A → Json → Reading A) → List (K × A) → ℕ
    → Bor (List ℕ) × Value X → Reading (List (K × A))
with_member name f es i member = with_entry_at name f es i member (slice_get es i)

abbrev pub with_named : {A X : Type 0} → (A → Json → Reading A) → List (List ℕ × A) → ℕ
    → Bor (List ℕ) × Value X → Reading (List (List ℕ × A))
with_named f es i member = with_member (λ (name : List ℕ). name) f es i member

abbrev pub with_entry : {X : Type 0} → List (WorldKey × WorldItem) → ℕ → Bor (List ℕ) × Value X
    → Reading (List (WorldKey × WorldItem))
with_entry es i member = with_member entry_name item_with es i member
