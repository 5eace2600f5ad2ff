-- Why a graph can't be checked for cycles and elaborated, and what is asked of it before: that what it names is there,
-- and that what is told of a cycle has a name. The errors that tell of what is on a cycle, and the table of causes, in
-- the order of their numbers: a graph with such a cause is refused, and one that is refused, but for want of memory,
-- has the cause that it tells. Where several hold any may be told.
use Rattle.std.specs.Prelude.{◌≡◌, ℕ, List, None, Some, slice_get, Contains, Option, ◌∷◌, IsSome, length, [], ◌++◌}
use Rattle.wit_digraph.specs.Relation.{IsInRange, IsPath, direct}
use Rattle.wit_data.specs.Each.{Each}
use Rattle.wit_data.specs.Kind.{type_references}
use Rattle.wit_names.specs.declared.package_name.PackageName.{PackageName}
use Rattle.wit_data.specs.declared.types.TypeDef.{TypeDef}
use Rattle.wit_data.specs.declared.world.World.{World}
use Rattle.wit_graph_data.specs.IdText.{interface_id_at}
use Rattle.wit_graph_data.specs.declared.cause.Cause.TheVariants as cause
use Rattle.wit_graph_data.specs.declared.graph.Graph.{Graph}
use Rattle.wit_graph_data.specs.declared.error_kind.ResolveErrorKind.{ResolveErrorKind}
use Rattle.wit_graph_data.specs.declared.error_kind.ResolveErrorKind.TheVariants.{InvalidTransitiveDependency, PackageCycle, Semantic}
use Rattle.wit_elaboration.specs.Elaboration.{graph_uses}
use Rattle.wit_elaboration.specs.Sound.{HasSoundEntries}
use Rattle.wit_elaboration.specs.AllElaborated.{DependsOnItself, HasWorldInConflict, RefersToItself, UsesItself}
use Rattle.wit_elaboration.specs.steps.Parts.{graph_package_uses, interface_cycle_text, type_cycle_text}

-- this interface uses itself
pub record IsInterfaceCycleError (g : Graph) (interface : ℕ) (error : ResolveErrorKind) : Type 0
  where
    pub id : List ℕ
    pub id_is : interface_id_at g.packages g.interfaces interface ≡ Some id
    pub error_is : error ≡ Semantic None (interface_cycle_text id) cause.InterfaceCycle

-- one of these types, which has a name, refers to itself
pub record IsTypeCycleError (types : List TypeDef) (ids : List ℕ) (error : ResolveErrorKind) : Type
    0 where
  pub id : ℕ
  pub def : TypeDef
  pub name : List ℕ
  pub among : Contains ids id
  pub is : slice_get types id ≡ Some def
  pub name_is : def.name ≡ Some name
  pub error_is : error ≡ Semantic None (type_cycle_text name) cause.TypeCycle

-- why a graph can't be checked for cycles and elaborated
pub data ElaborationCause (g : Graph) : ResolveErrorKind → Type 0 where
  conflict_4 : (span : Option (ℕ × ℕ)) (name : List ℕ) → HasWorldInConflict g span name
      → ElaborationCause g (InvalidTransitiveDependency span name)
  package_cycle_6 : (home : PackageName) → DependsOnItself g home
      → ElaborationCause g (PackageCycle None home)
  interface_cycle_22 : (message : List ℕ) → UsesItself g message
      → ElaborationCause g (Semantic None message cause.InterfaceCycle)
  type_cycle_23 : (message : List ℕ) → RefersToItself g message
      → ElaborationCause g (Semantic None message cause.TypeCycle)

-- each interface that another uses, or that uses itself, has an id text
abbrev pub UsedHaveNames : Graph → Type 0
UsedHaveNames g =
    (i j : ℕ) → Contains (direct (graph_uses g) i) j
    → IsSome (interface_id_at g.packages g.interfaces j)

-- some of these types has a name
pub record IsSomeNamed (types : List TypeDef) (ids : List ℕ) : Type 0 where
  pub id : ℕ
  pub def : TypeDef
  pub among : Contains ids id
  pub is : slice_get types id ≡ Some def
  pub named : IsSome def.name

-- each cycle of types has one with a name on it
abbrev pub CyclesHaveNames : List TypeDef → Type 0
CyclesHaveNames types =
    (t k : ℕ) (path : List ℕ) → IsPath (type_references types) t (k ∷ path) t
    → IsSomeNamed types (t ∷ k ∷ path)

-- a graph, whose worlds have their new entries, can be checked for cycles and elaborated
pub record CanBeElaborated (g : Graph) : Type 0 where
  pub types_there : IsInRange (type_references g.types)
  pub interfaces_there : IsInRange (graph_uses g)
  pub packages_there : IsInRange (graph_package_uses g)
  pub used_named : UsedHaveNames g
  pub cycles_named : CyclesHaveNames g.types
  pub listed : Each (λ (world : World).
      HasSoundEntries g.types (length g.interfaces) world.imports world.exports) g.worlds

-- each node uses the next one, and the last one the first
pub record IsRound (uses : List (List ℕ)) (nodes : List ℕ) : Type 0 where
  pub first : ℕ
  pub others : List ℕ
  pub nodes_are : nodes ≡ first ∷ others
  pub leads_back : IsPath uses first (others ++ first ∷ []) first
