-- Where two types first differ in structure. The structure of a type is a list of features, each of what stands at a
-- path within it: the variant of its kind, then the names of its parts, then its length if that is fixed, then its
-- parts in order: nothing, a primitive, a type that has a name, or a type without one by its own features. Two types
-- differ where their lists first do. What a type with a name is doesn't matter, only with which one it is matched.
-- Source: a rule of this project; wit-parser 0.263.0 compares no structures.
use Rattle.std.specs.Prelude.{◌≡◌, ◌≢◌, ℕ, zero, suc, Bool, false, List, [], ◌∷◌, ◌++◌, map, length, codes, is_some, slice_get, Option, None, Some, if◌then◌else◌, flat_map}
use Rattle.std.specs.Option.{option_map_or}
use Rattle.wit_data.specs.Kind.{KindPart, fixed_length, kind_parts, variant_of}
use Rattle.wit_data.specs.declared.types.TypeDef.{TypeDef}
use Rattle.wit_data.specs.declared.types.TypeDefKind.{TypeDefKind}
use Rattle.wit_data.specs.declared.types.Type_.{Type_}
use Rattle.wit_data.specs.declared.kind.Variant.{Variant}
use Rattle.wit_data.specs.declared.types.Type_.TheVariants as type

-- ---- features

-- what stands at a path
pub data Content : Type 0 where
  -- a kind, by its variant, the names of its parts and its length
  variant : Variant → Content
  names : List (List ℕ) → Content
  fixed : ℕ → Content
  -- no type
  absent : Content
  primitive : Type_ → Content
  -- a type with a name, by the type with which it is matched
  named : Option ℕ → Content

-- a path within a type, by its steps, and what stands there
pub record Feature : Type 0 where
  pub path : List (List ℕ)
  pub content : Content

-- a feature of the type itself, and one of a part, one step further in
abbrev pub here : Content → Feature
here content = record { path = []; content = content }

abbrev pub within : List ℕ → Feature → Feature
within step f = record { path = step ∷ f.path; content = f.content }

-- the features of a kind itself, without its parts
abbrev pub head_features : TypeDefKind → List Feature
head_features k =
    here (variant (variant_of k)) ∷ here (names (map (λ (p : KindPart). p.step) (kind_parts k)))
    ∷ option_map_or (λ len. here (fixed len) ∷ []) (fixed_length k) []

-- has type t a name?
abbrev pub is_named : List TypeDef → ℕ → Bool
is_named types t = option_map_or (λ (def : TypeDef). is_some def.name) (slice_get types t) false

-- the features of what a part holds: a type with a name alone, of one without a name those that `inner` has
abbrev pub held_features : List TypeDef → (ℕ → Option ℕ) → (ℕ → List Feature) → Option Type_
    → List Feature
held_features types matched inner None = here absent ∷ []
held_features types matched inner (Some (type.Id t)) =
    if is_named types t then here (named (matched t)) ∷ [] else inner t
held_features types matched inner (Some ty) = here (primitive ty) ∷ []

-- the features of a kind with those of its parts, each one step further in
abbrev pub kind_features : List TypeDef → (ℕ → Option ℕ) → (ℕ → List Feature) → TypeDefKind
    → List Feature
kind_features types matched inner k =
    head_features k
    ++ flat_map (λ (p : KindPart). map (within p.step) (held_features types matched inner p.ty))
    (kind_parts k)

-- the structure of type t along paths of at most `members` types
unfoldable pub structure_within : List TypeDef → (ℕ → Option ℕ) → ℕ → ℕ → List Feature
structure_within types matched zero t = []
structure_within types matched (suc members) t =
    option_map_or (λ (def : TypeDef).
    kind_features types matched (structure_within types matched members) def.kind)
    (slice_get types t) []

-- the structure of type t, where `matched` tells with which type one with a name is matched. No path has more members
-- than there are types where none refers to itself, so nothing is cut off
unfoldable pub structure : List TypeDef → (ℕ → Option ℕ) → ℕ → List Feature
structure types matched t = structure_within types matched (length types) t

-- ---- differences

-- the first place where two lists differ has x in the one and y in the other
pub record FirstDifference {X : Type 0} (xs ys : List X) (x y : X) : Type 0 where
  pub before : List X
  pub after : List X
  pub after' : List X
  pub xs_are : xs ≡ before ++ (x ∷ after)
  pub ys_are : ys ≡ before ++ (y ∷ after')
  pub apart : x ≢ y

-- how they differ
abbrev pub difference_text : Content → Content → List ℕ
difference_text (names steps) (names steps') = codes "different names or number of parts"
difference_text (fixed len) (fixed len') = codes "different lengths"
difference_text (named t) (named t') = codes "different types"
difference_text there there' = codes "different kinds of types"

-- the steps of a path, with points between them
abbrev pub dotted : List (List ℕ) → List ℕ
dotted [] = []
dotted (step ∷ []) = step
dotted (step ∷ (next ∷ steps)) = step ++ (codes "." ++ dotted (next ∷ steps))

-- where a difference is, in front of how; nothing of the type itself
abbrev pub path_text : List (List ℕ) → List ℕ
path_text [] = []
path_text (step ∷ steps) = codes "at " ++ (dotted (step ∷ steps) ++ codes ": ")

-- type t of a graph differs in structure from type t' of another with which it is matched, as a text tells: what types
-- of the first are matched with is given, and types of the other are what they are matched with
pub record DifferInStructure (others ours : List TypeDef) (matched : ℕ → Option ℕ) (t t' : ℕ)
    (text : List ℕ) : Type 0 where
  pub x : Feature
  pub y : Feature
  pub first : FirstDifference (structure others matched t) (structure ours Some t') x y
  pub text_is : text ≡ path_text x.path ++ difference_text x.content y.content
