-- Items of which nothing is said yet but what stands here: they have no docs, no gate, no external id and no package, their
-- spans are unknown and their lists are empty. What is made anew is one of these with some fields changed, so a field has
-- its first value here alone.
use Rattle.std.specs.Prelude.{ℕ, List, [], Option, None}
use Rattle.wit_data.specs.declared.function.Function.{Function}
use Rattle.wit_data.specs.declared.function.FunctionKind.{FunctionKind}
use Rattle.wit_data.specs.declared.interface.Interface.{Interface}
use Rattle.wit_data.specs.declared.function.Param.{Param}
use Rattle.wit_data.specs.declared.types.TypeDef.{TypeDef}
use Rattle.wit_data.specs.declared.types.TypeDefKind.{TypeDefKind}
use Rattle.wit_data.specs.declared.types.TypeOwner.{TypeOwner}
use Rattle.wit_data.specs.declared.types.Type_.{Type_}
use Rattle.wit_data.specs.declared.world.World.{World}
use Rattle.wit_data.specs.declared.world.WorldItem.{WorldItem}
use Rattle.wit_data.specs.declared.stability.Stability.TheVariants.{Unknown}
use Rattle.wit_data.specs.declared.world.WorldItem.TheVariants as item

-- a type of this name, of this kind, of this owner
abbrev pub new_type : Option (List ℕ) → TypeDefKind → TypeOwner → TypeDef
new_type name kind owner =
    record {
      name = name;
      kind = kind;
      owner = owner;
      docs = record { contents = None };
      stability = Unknown;
      span = None;
      external_id = None;
    }

-- a function of this name and of this kind, with these parameters and this result
abbrev pub new_function : List ℕ → FunctionKind → List Param → Option Type_ → Function
new_function name kind params result =
    record {
      name = name;
      kind = kind;
      params = params;
      result_ = result;
      docs = record { contents = None };
      stability = Unknown;
      span = None;
      external_id = None;
    }

-- an interface of this name, without types and functions
abbrev pub new_interface : Option (List ℕ) → Interface
new_interface name =
    record {
      name = name;
      types = [];
      functions = [];
      docs = record { contents = None };
      stability = Unknown;
      «package» = None;
      span = None;
    }

-- a world of this name, without entries and includes
abbrev pub new_world : List ℕ → World
new_world name =
    record {
      name = name;
      imports = [];
      exports = [];
      docs = record { contents = None };
      stability = Unknown;
      «package» = None;
      includes = [];
      span = None;
    }

-- the entry of an interface
abbrev pub new_interface_entry : ℕ → WorldItem
new_interface_entry i = item.Interface i Unknown (record { contents = None }) None None
