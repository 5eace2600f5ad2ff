-- Flags that are kept beside a graph, one for each type: whether all bits are valid. With them the question takes
-- no walk and no memory.
use Rattle.std.specs.Prelude.{◌≡◌, ◌↔◌, ℕ, Bool, false, List, Some, IsTrue, length, slice_get, unwrap_or}
use Rattle.wit_data.specs.declared.types.TypeDef.{TypeDef}
use Rattle.wit_data.specs.declared.types.Type_.{Type_}
use Rattle.wit_data.specs.declared.types.Type_.TheVariants as type
use Rattle.wit_graph_data.specs.Queries.{HasAllBitsValid, is_number}

-- each flag that is there says whether all bits of its type are valid
abbrev pub AreValidBits : List TypeDef → List Bool → Type 0
AreValidBits types flags =
    (t : ℕ) (flag : Bool) → slice_get flags t ≡ Some flag
    → IsTrue flag ↔ HasAllBitsValid types (type.Id t)

-- and each type has one
pub record AreValidBitsOf (types : List TypeDef) (flags : List Bool) : Type 0 where
  pub each : length flags ≡ length types
  pub exact : AreValidBits types flags

-- by the flags, all bits of a type are valid
abbrev pub is_valid_by : List Bool → Type_ → Bool
is_valid_by flags (type.Id t) = unwrap_or (slice_get flags t) false
is_valid_by flags other = is_number other
