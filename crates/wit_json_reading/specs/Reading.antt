-- What a JSON value reads as: the thing that it says, or the first fault in it.
use Rattle.std.specs.Prelude.{◌≡◌, ℕ, suc, List, [], ◌∷◌, ◌++◌, Option, Some, None, Result, Ok, Err, if◌then◌else◌, bytes_eq, is_some, unwrap_or}
use Rattle.std.specs.Option.{option_map_or}
use Rattle.std.specs.List.{list_any}
use Rattle.json.specs.Json.{Json, Items, Members}
use Rattle.json.specs.Json as json
use Rattle.json.specs.Find.{get}
use Rattle.wit_json_reading.specs.declared.fault.Expected.{Expected}
use Rattle.wit_json_reading.specs.declared.fault.Expected.TheVariants as expected
use Rattle.wit_json_reading.specs.declared.fault.Fault.{Fault}
use Rattle.wit_json_reading.specs.declared.fault.ReadError.{ReadError}
use Rattle.wit_json_reading.specs.declared.fault.ReadError.TheVariants as error
use Rattle.wit_json_reading.specs.declared.fault.Step.{Step}
use Rattle.wit_json_reading.specs.declared.fault.Step.TheVariants as step

-- what is read, or the fault
abbrev pub Reading : Type 0 → Type 0
Reading A = Result A Fault

-- one reading and then another, up to the first fault
infixl 10 ◌>>=◌
abbrev pub ◌>>=◌ : {A B : Type 0} → Reading A → (A → Reading B) → Reading B
Ok x >>= f = f x
Err fault >>= f = Err fault

-- something else stands there
abbrev pub instead_of : {A : Type 0} → Expected → Reading A
instead_of e = Err (record { path = []; expected = e })

-- a fault in a part is one in the whole, one step further on
abbrev pub under : {A : Type 0} → Step → Reading A → Reading A
under s (Ok x) = Ok x
under s (Err fault) = Err (record fault { path = fault.path ++ s ∷ [] })

-- a call answers what is read; want of memory may always be answered
abbrev pub Reads : {A : Type 0} → Result A ReadError → Reading A → Type 0
Reads (Ok x) reading = reading ≡ Ok x
Reads (Err (error.Fault fault)) reading = reading ≡ Err fault
Reads (Err error.OutOfMemory) reading = Unit {0}

-- ---- objects

-- each name is one of the known ones, and stands once
abbrev pub names_from : List (List ℕ) → List (List ℕ) → Members → Reading (Unit {0})
names_from known earlier json.no_members = Ok tt
names_from known earlier (json.member name j ms) =
    if list_any (bytes_eq name) earlier then under (step.Member name)
    (instead_of expected.NoSecondMember)
    else if list_any (bytes_eq name) known then names_from known (earlier ++ name ∷ []) ms
    else under (step.Member name) (instead_of expected.NoMember)

-- an object with members of these names alone, each once at the most
abbrev pub only : List (List ℕ) → Json → Reading (Unit {0})
only known (json.object ms) = names_from known [] ms
only known _ = instead_of expected.Object

-- the member of a name, which may be left out
abbrev pub read_optional : {A : Type 0} → (Json → Reading A) → List ℕ → Json → Reading (Option A)
read_optional f name j =
    option_map_or (λ it. under (step.Member name) (f it) >>= λ x. Ok (Some x)) (get name j)
    (Ok None)

-- the member of a name, or this where it is left out
unfoldable pub read_or : {A : Type 0} → (Json → Reading A) → A → List ℕ → Json → Reading A
read_or f default name j = read_optional f name j >>= λ it. Ok (unwrap_or it default)

-- the member of a name, which has to be there
abbrev pub read_required : {A : Type 0} → (Json → Reading A) → List ℕ → Json → Reading A
read_required f name j =
    under (step.Member name) (option_map_or f (get name j) (instead_of expected.Member))

-- a value that has no member of this name
abbrev pub read_leaving_out : {A : Type 0} → List ℕ → (Json → Reading A) → Json → Reading A
read_leaving_out name f j =
    if is_some (get name j) then under (step.Member name) (instead_of expected.NoMember) else f j

-- ---- lists

-- the items from an index on
abbrev pub items_from : {A : Type 0} → (Json → Reading A) → ℕ → Items → Reading (List A)
items_from f n json.no_items = Ok []
items_from f n (json.item j js) = do
  x ← under (step.Item n) (f j)
  xs ← items_from f (suc n) js
  Ok (x ∷ xs)

-- a list
abbrev pub read_list : {A : Type 0} → (Json → Reading A) → Json → Reading (List A)
read_list f (json.array js) = items_from f 0 js
read_list f _ = instead_of expected.List
