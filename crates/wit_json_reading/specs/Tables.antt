-- Objects with a member for each entry of a table under names.
use Rattle.std.specs.Prelude.{ℕ, List, [], ◌∷◌, ◌++◌, Result, Ok, Err, if◌then◌else◌, bytes_eq, is_some}
use Rattle.std.specs.Map.{lookup}
use Rattle.json.specs.Json.{Json, Members}
use Rattle.json.specs.Json as json
use Rattle.wit_json_reading.specs.Reading.{Reading, ◌>>=◌, instead_of, under}
use Rattle.wit_json_reading.specs.declared.fault.Expected.TheVariants as expected
use Rattle.wit_json_reading.specs.declared.fault.Step.TheVariants as step

-- the entries of members, behind those that are there; no name stands twice
abbrev pub named_from : {A : Type 0} → (Json → Reading A) → List (List ℕ × A) → Members
    → Reading (List (List ℕ × A))
named_from f entries json.no_members = Ok entries
named_from f entries (json.member name j ms) =
    if is_some (lookup (bytes_eq name) entries) then under (step.Member name)
    (instead_of expected.NoSecondMember)
    else (under (step.Member name) (f j) >>= λ x. named_from f (entries ++ (name, x) ∷ []) ms)

-- a table under names, in the order of the members
abbrev pub read_named : {A : Type 0} → (Json → Reading A) → Json → Reading (List (List ℕ × A))
read_named f (json.object ms) = named_from f [] ms
read_named f _ = instead_of expected.Object
