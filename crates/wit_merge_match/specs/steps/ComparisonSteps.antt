-- The types of two graphs as a comparison sees them.
use Rattle.std.specs.Prelude.{◌≡◌, ◌<◌, ◌≤◌, ◌+◌, ◌-◌, ◌^◌, ℕ, List, [], ◌∷◌, map, length, get_or, nat_lt, slice_get, Contains, Option, None, Some, if◌then◌else◌}
use Rattle.std.specs.Option.{option_map_or}
use Rattle.wit_digraph.specs.Relation.{IsAcyclic}
use Rattle.wit_data.specs.Kind.{named_option, type_references, kind_parts}
use Rattle.wit_data.specs.declared.types.TypeDef.{TypeDef}
use Rattle.wit_data.specs.declared.types.TypeDefKind.{TypeDefKind}
use Rattle.wit_data.specs.declared.types.Type_.{Type_}
use Rattle.wit_data.specs.declared.types.TypeDefKind.TheVariants as kind
use Rattle.wit_data.specs.declared.types.Type_.TheVariants as type
use Rattle.wit_merge_match.specs.steps.Classes.{AreSame, IsDescending}
use Rattle.wit_merge_match.specs.steps.Kinds.{ending_text, step_at}
use Rattle.wit_merge_spec.specs.Structure.{Content, Feature, FirstDifference, difference_text, head_features, held_features, here, structure}
use Rattle.wit_merge_match.specs.declared.comparison.Comparison.{Comparison}
use Rattle.wit_merge_match.specs.declared.comparison.Held.{Held}
use Rattle.wit_merge_match.specs.declared.comparison.Held.TheVariants as held
use Rattle.wit_merge_match.specs.declared.comparison.Sides.{Sides}
use Rattle.wit_merge_match.specs.declared.frames.Frame.{Frame}
use Rattle.wit_merge_match.specs.declared.heads.Ending.{Ending}

-- the kind of type t
abbrev pub kind_at : List TypeDef → ℕ → TypeDefKind
kind_at types t = option_map_or (λ (def : TypeDef). def.kind) (slice_get types t) kind.Unknown

-- with which type of the second graph one of the first is matched
abbrev pub matched_by : Sides → ℕ → Option ℕ
matched_by s t = get_or s.matches.now t None

-- the structures of types of the two graphs
abbrev pub from_structure : Sides → ℕ → List Feature
from_structure s = structure s.from.now (matched_by s)

abbrev pub into_structure : Sides → ℕ → List Feature
into_structure s = structure s.into.now Some

-- and of both, those of the second behind those of the first
abbrev pub structure_of : Sides → ℕ → List Feature
structure_of s i =
    if nat_lt i (length s.from.now) then from_structure s i
    else into_structure s (i - length s.from.now)

-- what parts hold
abbrev pub from_held : Sides → Option Type_ → List Feature
from_held s = held_features s.from.now (matched_by s) (from_structure s)

abbrev pub into_held : Sides → Option Type_ → List Feature
into_held s = held_features s.into.now Some (into_structure s)

-- no type of either graph refers to itself
pub record AreSides (s : Sides) : Type 0 where
  pub from : IsAcyclic (type_references s.from.now)
  pub into : IsAcyclic (type_references s.into.now)

-- what is in one class is the same
pub record HasClasses (s : Sides) (leaders : List ℕ) : Type 0 where
  pub long : length leaders ≡ length s.from.now + length s.into.now
  pub small : length leaders < 2 ^ 64
  pub descending : IsDescending leaders
  pub same : AreSame (structure_of s) leaders

pub record IsSound (c : Comparison) : Type 0 where
  pub sides : AreSides c.sides
  pub classes : HasClasses c.sides c.leaders

-- two lists of features first differ at their paths' beginning
pub record DifferHere (xs ys : List Feature) (e : Ending) : Type 0 where
  pub a : Content
  pub b : Content
  pub first : FirstDifference xs ys (here a) (here b)
  pub text_is : ending_text e ≡ difference_text a b

-- the type that is named, none by a primitive
abbrev pub id_of : Type_ → Option ℕ
id_of (type.Id t) = Some t
id_of ty = None

-- how what two parts hold compares
abbrev pub Compares : Sides → Option Type_ → Option Type_ → Held → Type 0
Compares s one other held.Same = from_held s one ≡ into_held s other
Compares s one other (held.Apart e) = DifferHere (from_held s one) (into_held s other) e
Compares s one other (held.Unnamed t t') =
    (t < length s.from.now) × (t' < length s.into.now) × (from_held s one ≡ from_structure s t)
    × (into_held s other ≡ into_structure s t')
    × (head_features (kind_at s.from.now t) ≡ head_features (kind_at s.into.now t'))

-- what a part names is there
abbrev pub AreThere : List TypeDef → Option Type_ → Type 0
AreThere types ty = (t : ℕ) → Contains (named_option ty) t → t < length types

-- a frame is at a part of its types
pub record IsAtPart (s : Sides) (f : Frame) : Type 0 where
  pub from : f.from < length s.from.now
  pub into : f.into < length s.into.now
  pub begun : 0 < f.next
  pub within : f.next ≤ length (kind_parts (kind_at s.from.now f.from))

abbrev pub AreAtParts : Sides → List Frame → Type 0
AreAtParts s stack = (i : ℕ) (f : Frame) → slice_get stack i ≡ Some f → IsAtPart s f

-- the path along the parts at which frames are
abbrev pub frame_step : Sides → Frame → List ℕ
frame_step s f = step_at (kind_at s.from.now f.from) (f.next - 1)

abbrev pub path_of : Sides → List Frame → List (List ℕ)
path_of s stack = map (frame_step s) stack
