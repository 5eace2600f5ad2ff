-- Values with a name or with parts: variants, pairs, objects of one member.
use Rattle.std.specs.Prelude.{ℕ, List, [], ◌∷◌, Option, Some, None, Ok}
use Rattle.std.specs.Option.{option_map_or}
use Rattle.json.specs.Json.{Json}
use Rattle.json.specs.Json as json
use Rattle.wit_json_reading.specs.Reading.{Reading, ◌>>=◌, instead_of, only, read_required, under}
use Rattle.wit_json_reading.specs.declared.fault.Expected.{Expected}
use Rattle.wit_json_reading.specs.declared.fault.Expected.TheVariants as expected
use Rattle.wit_json_reading.specs.declared.fault.Step.TheVariants as step

-- the one member of an object that has no other
abbrev pub one_member : Json → Option (List ℕ × Json)
one_member (json.object (json.member name j json.no_members)) = Some (name, j)
one_member _ = None

-- an object of one member, which says of what variant its value is
abbrev pub read_variant : {A : Type 0} → (List ℕ → Json → Reading A) → Expected → Json → Reading A
read_variant f e j =
    option_map_or (λ (m : List ℕ × Json). under (step.Member m.0) (f m.0 m.1)) (one_member j)
    (instead_of e)

-- an object of this member alone
abbrev pub alone : {A : Type 0} → (Json → Reading A) → List ℕ → Json → Reading A
alone f name j = do
  _ ← only (name ∷ []) j
  read_required f name j

-- the two items of a list that has no other
abbrev pub two_items : Json → Option (Json × Json)
two_items (json.array (json.item a (json.item b json.no_items))) = Some (a, b)
two_items _ = None

-- a list of two values
abbrev pub read_pair : {A B : Type 0} → (Json → Reading A) → (Json → Reading B) → Json
    → Reading (A × B)
read_pair f g j =
    option_map_or (λ (p : Json × Json).
    under (step.Item 0) (f p.0) >>= λ x. under (step.Item 1) (g p.1) >>= λ y. Ok (x, y))
    (two_items j) (instead_of expected.Pair)
