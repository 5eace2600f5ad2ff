-- The parts of kinds, as the code reads them: by the variant of the kind, and by their names where they have some.
use Rattle.std.specs.Prelude.{◌≡◌, ◌↔◌, ℕ, Bool, true, false, List, [], ◌∷◌, map, length, codes, slice_get, Option, option_and_then, unwrap_or}
use Rattle.wit_data.specs.declared.types.TypeDefKind.{TypeDefKind}
use Rattle.wit_data.specs.declared.kind.Variant.{Variant}
use Rattle.wit_data.specs.Kind.{KindPart, kind_parts}
use Rattle.wit_data.specs.steps.Kind.{part_name}
use Rattle.wit_merge_spec.specs.Structure.{Content, FirstDifference, difference_text, head_features, here}
use Rattle.wit_merge_match.specs.declared.heads.Ending.{Ending}
use Rattle.wit_merge_match.specs.declared.heads.Ending.TheVariants.{Kinds, Lengths, Names, Types}
use Rattle.wit_data.specs.declared.kind.Variant.TheVariants as variants

-- what the parts of a kind are called, and one of them
abbrev pub steps_of : TypeDefKind → List (List ℕ)
steps_of k = map (λ (p : KindPart). p.step) (kind_parts k)

abbrev pub step_at : TypeDefKind → ℕ → List ℕ
step_at k i = unwrap_or (slice_get (steps_of k) i) []

-- its name, where it has one
abbrev pub name_at : TypeDefKind → ℕ → Option (List ℕ)
name_at k i = option_and_then part_name (slice_get (kind_parts k) i)

-- ---- how two kinds differ, but for their parts

abbrev pub ending_text : Ending → List ℕ
ending_text Kinds = codes "different kinds of types"
ending_text Names = codes "different names or number of parts"
ending_text Lengths = codes "different lengths"
ending_text Types = codes "different types"

-- they first differ in their heads
pub record HeadsDiffer (k k' : TypeDefKind) (e : Ending) : Type 0 where
  pub a : Content
  pub b : Content
  pub first : FirstDifference (head_features k) (head_features k') (here a) (here b)
  pub text_is : ending_text e ≡ difference_text a b
