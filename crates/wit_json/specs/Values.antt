-- How JSON values are put together: objects of members, lists, and the values that everything else is made of.
use Rattle.std.specs.Prelude.{ℕ, List, [], ◌∷◌, Option, Some, None, decimal, map, ◌++◌, codes}
use Rattle.semver.specs.Identifiers.{parts_text}
use Rattle.json.specs.Json.{Json, Members}
use Rattle.json.specs.Json as json
use Rattle.json.specs.Value.{items_of}
use Rattle.wit_values.specs.Version.{Parts}

-- ---- objects and lists

-- a name with its value
abbrev pub Member : Type 0
Member = List ℕ × Json

abbrev pub members_of : List Member → Members
members_of [] = json.no_members
members_of (m ∷ ms) = json.member m.0 m.1 (members_of ms)

-- the object of some members, in order
abbrev pub object : List Member → Json
object ms = json.object (members_of ms)

-- the list of what a function makes of each thing, in order
abbrev pub list_of : {A : Type 0} → (A → Json) → List A → Json
list_of f xs = json.array (items_of (map f xs))

-- a list of two values
abbrev pub pair : Json → Json → Json
pair a b = json.array (items_of (a ∷ b ∷ []))

-- a member that is always there
abbrev pub member : List ℕ → Json → List Member
member name j = (name, j) ∷ []

-- a member that is left out where there is nothing to say
abbrev pub optional : List ℕ → Option Json → List Member
optional name None = []
optional name (Some j) = (name, j) ∷ []

-- the object of one member, which says of what variant its value is
abbrev pub tagged : List ℕ → Json → Json
tagged name j = object (member name j)

-- the object of what stands under keys, each of which has a name
abbrev pub object_by : {K A : Type 0} → (K → List ℕ) → (A → Json) → List (K × A) → Json
object_by {K} {A} name f es = object (map (λ (e : K × A). (name e.0, f e.1)) es)

-- the object under names
abbrev pub object_under_names : {A : Type 0} → (A → Json) → List (List ℕ × A) → Json
object_under_names f es = object_by (λ (name : List ℕ). name) f es

-- ---- small values

-- `null` for what isn't there
abbrev pub null_or : {A : Type 0} → (A → Json) → Option A → Json
null_or f None = json.null
null_or f (Some x) = f x

abbrev pub json_of_text : List ℕ → Json
json_of_text text = json.string text

-- a number, as an id
abbrev pub json_of_number : ℕ → Json
json_of_number n = json.number (decimal n)

abbrev pub json_of_version : Parts → Json
json_of_version version = json.string (parts_text version)
