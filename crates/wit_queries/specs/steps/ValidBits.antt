-- Words of inner contracts and proofs, beside `ValidBits`.
use Rattle.std.specs.Prelude.{◌≡◌, ◌<◌, ℕ, suc, Bool, true, false, List, [], ◌∷◌, ◌&&◌, Some, slice_get, if◌then◌else◌}
use Rattle.std.specs.List.{list_all}
use Rattle.std.specs.Option.{option_map_or}
use Rattle.wit_data.specs.Each.{SomeAt}
use Rattle.wit_data.specs.Kind.{KindPart, kind_parts, variant_of}
use Rattle.wit_data.specs.declared.types.TypeDef.{TypeDef}
use Rattle.wit_data.specs.declared.types.TypeDefKind.{TypeDefKind}
use Rattle.wit_data.specs.declared.types.Type_.TheVariants as type
use Rattle.wit_graph_data.specs.Queries.{HasAllBitsValid, has_fixed_layout, is_held}
use Rattle.wit_queries.specs.ValidBits.{is_valid_by}

-- by the flags, all bits of a part that values hold are valid
abbrev pub is_valid_part : List Bool → KindPart → Bool
is_valid_part flags p =
    if is_held p.role then option_map_or (is_valid_by flags) p.ty false else true

-- a kind has parts at fixed places, of all of which they are
abbrev pub has_valid_parts : List Bool → TypeDefKind → Bool
has_valid_parts flags k =
    has_fixed_layout (variant_of k) && list_all (is_valid_part flags) (kind_parts k)

-- while flags are being set, too many may be on: each flag that is off is right, as not all bits of its type are
-- valid
abbrev pub AreRightOff : List TypeDef → List Bool → Type 0
AreRightOff types flags =
    (t : ℕ) → slice_get flags t ≡ Some false → HasAllBitsValid types (type.Id t) → ⊥

-- each of the first `first` flags that is on is right: all bits of its type are valid
abbrev pub AreRightBelow : ℕ → List TypeDef → List Bool → Type 0
AreRightBelow first types flags =
    (t : ℕ) → t < first → slice_get flags t ≡ Some true → HasAllBitsValid types (type.Id t)

-- flag t is off, or the parts of its type agree with it
abbrev pub Agrees : List TypeDef → List Bool → ℕ → Type 0
Agrees types flags t =
    slice_get flags t ≡ Some true
    → SomeAt types t (λ (def : TypeDef). has_valid_parts flags def.kind ≡ true)

-- how many flags are on
abbrev pub on_count : List Bool → ℕ
on_count [] = 0
on_count (true ∷ flags) = suc (on_count flags)
on_count (false ∷ flags) = on_count flags
