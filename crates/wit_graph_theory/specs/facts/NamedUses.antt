-- The interfaces that things use have names.
use Rattle.std.proofs.Common.{◌≡◌, inl, inr, ℕ, List, Option, None, Some, Contains}
use Rattle.wit_data.specs.Each.{Each}
use Rattle.wit_data.specs.Entries.{Entry}
use Rattle.wit_data.specs.Function.{resource_of}
use Rattle.wit_data.specs.Ownership.{AliasesNamed, IsNamed}
use Rattle.wit_data.specs.Uses.{interface_uses, type_interface_dep, uses_of}
use Rattle.wit_data.specs.declared.interface.Interface.{Interface}
use Rattle.wit_data.specs.declared.types.TypeDef.{TypeDef}
use Rattle.wit_data.specs.declared.world.WorldItem.{WorldItem}
use Rattle.wit_data.specs.declared.world.WorldItem.TheVariants as item
use Rattle.wit_digraph.specs.Relation.{direct}
use Rattle.wit_elaboration.specs.Entries.{role_of}
use Rattle.wit_elaboration.specs.laws.KeptByElaboration.{IsUsed}
use Rattle.wit_elaboration.specs.facts.SoundFacts.{dep_is_named}
use Rattle.wit_elaboration.specs.declared.role.Role.TheVariants.{TypeUse}
use Rattle.wit_graph_theory.specs.facts.DependencyFacts.{filter_map_from}
use Rattle.wit_graph_theory.specs.facts.ListFacts.{from_row}
use Rattle.wit_elaboration.specs.steps.Parts.{type_role, function_role}

-- the type whose use an item is
used_type : (types : List TypeDef) (held : WorldItem) (j : ℕ) → role_of types held ≡ TypeUse j → (t : ℕ) × (type_interface_dep types t ≡ Some j)
used_type types (item.Interface i stability docs span external_id) j is = cc
used_type types (item.Function f) j is = by (resource_of f.kind) is
  where
    by : (o : Option ℕ) → function_role o ≡ TypeUse j → (t : ℕ) × (type_interface_dep types t ≡ Some j)
    by None same = cc
    by (Some r) same = cc
used_type types (item.Type_ t span) j is = (t, by (type_interface_dep types t) is)
  where
    by : (o : Option ℕ) → type_role o ≡ TypeUse j → o ≡ Some j
    by None same = cc
    by (Some i) same = cc

module _ (types : List TypeDef) (interfaces : List Interface) (aliases : Each (AliasesNamed types interfaces) types) where
  -- an interface that another uses has a name
  pub used_is_named : (i j : ℕ) → Contains (direct (uses_of types interfaces) i) j → IsNamed interfaces j
  used_is_named i j has =
      let from = from_row (interface_uses types) interfaces i j has in
      let entry = filter_map_from (λ (e : List ℕ × ℕ). type_interface_dep types e.1) from.0.types j from.2 in
      dep_is_named types interfaces entry.0.1 j aliases entry.2

  -- and so has each that elaboration adds for its use
  pub IsUsed_named : (imports : List Entry) (j : ℕ) → IsUsed types (uses_of types interfaces) imports j → IsNamed interfaces j
  IsUsed_named imports j used =
      elim used [ inl by ↦ used_is_named by.0 j by.1 | inr by ↦ let needed = used_type types by.0.1 j by.2 in dep_is_named types interfaces needed.0 j aliases needed.1 ]
