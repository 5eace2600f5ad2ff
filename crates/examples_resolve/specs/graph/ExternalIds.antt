-- External ids of entries of worlds.
use Rattle.std.specs.Prelude.{◌≡◌, ◌≢◌, ℕ, List, [], ◌∷◌, Option, Some, None, codes}
use Rattle.wit_data.specs.declared.stability.Stability.TheVariants.{Unknown}
use Rattle.wit_data.specs.declared.types.TypeDef.{TypeDef}
use Rattle.wit_data.specs.declared.world.WorldItem.{WorldItem}
use Rattle.wit_data.specs.declared.types.TypeDefKind.TheVariants as kind
use Rattle.wit_data.specs.declared.types.TypeOwner.TheVariants as owner
use Rattle.wit_data.specs.declared.types.Type_.TheVariants as type
use Rattle.wit_data.specs.declared.world.WorldItem.TheVariants as item
use Rattle.wit_graph_data.specs.Queries.{external_id_value}
use Rattle.wit_graph_data.specs.examples.Samples.{function_of, no_docs, type_of}

-- a number of a world with this external id
abbrev pub number_with : List ℕ → Option (List ℕ) → TypeDef
number_with name id =
    record (type_of (Some name) (kind.Type_ type.U32) (owner.World 0)) { external_id = id }

-- types with an external id, with another one, and with none
abbrev pub three_types : List TypeDef
three_types =
    number_with (codes "t") (Some (codes "one")) ∷ number_with (codes "u") (Some (codes "two"))
    ∷ number_with (codes "v") None ∷ []

-- interface 0, and a function f, with this external id
abbrev pub interface_with : Option (List ℕ) → WorldItem
interface_with id = item.Interface 0 Unknown no_docs None id

abbrev pub function_with : Option (List ℕ) → WorldItem
function_with id = item.Function (record (function_of (codes "f") [] None) { external_id = id })

-- the external id of an entry
abbrev pub id_of : WorldItem → Option (List ℕ)
id_of held = external_id_value three_types held

pub record ExamplesOfExternalIds : Type 0 where
  -- of an interface that of its entry; where it has none, not that of a type at the place of its number
  pub interface : id_of (interface_with (Some (codes "x"))) ≡ Some (codes "x")
  pub not_of_a_type : id_of (interface_with (Some (codes "x"))) ≢ Some (codes "one")
  pub interface_without : id_of (interface_with None) ≡ None
  pub still_not_of_a_type : id_of (interface_with None) ≢ Some (codes "one")
  -- of a function its own, and not its name
  pub function : id_of (function_with (Some (codes "x"))) ≡ Some (codes "x")
  pub not_left_out : id_of (function_with (Some (codes "x"))) ≢ None
  pub not_its_name : id_of (function_with (Some (codes "x"))) ≢ Some (codes "f")
  pub function_without : id_of (function_with None) ≡ None
  -- of a type that of the type, and of no other one
  pub of_type : id_of (item.Type_ 1 None) ≡ Some (codes "two")
  pub not_of_the_first : id_of (item.Type_ 1 None) ≢ Some (codes "one")
  pub not_missing : id_of (item.Type_ 1 None) ≢ None
  pub type_without : id_of (item.Type_ 2 None) ≡ None
  pub no_type : id_of (item.Type_ 3 None) ≡ None
