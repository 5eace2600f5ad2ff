-- What is known at each stage of an addition, so that a contract can say it: of the graph before an include, where all
-- before it is accepted, and of the graph and the lists before a world is finished.
use Rattle.std.specs.Prelude.{◌≡◌, ℕ, true, false, length, slice_get, Some, IsSome, Contains}
use Rattle.wit_digraph.specs.Relation.{IsAcyclic, Reaches}
use Rattle.wit_data.specs.Each.{EachAt}
use Rattle.wit_data.specs.Kind.{type_references}
use Rattle.wit_data.specs.Shape.{IsShaped}
use Rattle.wit_data.specs.declared.types.TypeDef.{TypeDef}
use Rattle.wit_data.specs.declared.world.World.{World}
use Rattle.wit_data.specs.declared.world.WorldInclude.{WorldInclude}
use Rattle.wit_elaboration.specs.Elaboration.{graph_uses}
use Rattle.wit_elaboration.specs.Sound.{HasSoundEntries}
use Rattle.wit_elaboration.specs.Valid.{IsValid}
use Rattle.wit_graph_data.specs.declared.graph.Graph.{Graph}
use Rattle.wit_graph_theory.specs.facts.Good.{IsGoodInterface, IsGoodWorld}
use Rattle.wit_link_spec.specs.Addition.{Addition, own_worlds, updated_includes}
use Rattle.wit_link_spec.specs.facts.Linked.{IncludeIsReached}
use Rattle.wit_link_spec.specs.Include.{PartiallyLinked, is_owned_within, named_types}
use Rattle.wit_link_spec.specs.Added.{added}
use Rattle.wit_link_spec.specs.Reasons.{HasPackage, IsResolved}
use Rattle.wit_labels.specs.Setters.{setters_placed}
use Rattle.wit_link_spec.specs.steps.Parts.{begun, begun_whole, AtWorld, IncludeIsAccepted, IsReached}

-- a partially linked graph: no interface uses itself, no type refers to itself, ids are in range, and interfaces list and use
-- types of their own
pub record IsPartiallyLinked (g : Graph) : Type 0 where
  pub uses : IsAcyclic (graph_uses g)
  pub references : IsAcyclic (type_references g.types)
  pub interfaces : EachAt (IsGoodInterface g.types) g.interfaces

-- world `old`, which stands at place `from` of such a graph, can be included: it is good, so its ids are in range and no
-- key comes twice; a type with a name that doesn't belong to it refers to none that does, through whatever others; and
-- its entries name what belongs to it
pub record CanInclude (g : Graph) (from : ℕ) (old : World) : Type 0 where
  pub graph : IsPartiallyLinked g
  pub world : IsGoodWorld g.types g.interfaces from old
  pub apart : (t r : ℕ) (def : TypeDef) → slice_get g.types t ≡ Some def → IsSome def.name
      → is_owned_within g from old t ≡ false
      → Reaches (type_references g.types) t r → is_owned_within g from old r ≡ false
  pub belonging : (t : ℕ) → is_owned_within g from old t ≡ true → Contains (named_types g old) t

-- before each include that is reached
abbrev pub IncludesCanBe : Type 0
IncludesCanBe =
    (a : Addition) (k j : ℕ) → IsValid a.graph → IsShaped a.unresolved → IncludeIsReached a k j
    → (at : AtWorld a k) (include : WorldInclude)
    → slice_get (updated_includes a at.world) j ≡ Some include
    → (old : World) → slice_get (begun a k j at).graph.worlds include.id ≡ Some old
    → CanInclude (begun a k j at).graph include.id old

-- the world that it names is there: one of the graph, or one of the package that is finished
abbrev pub IncludedAreThere : Type 0
IncludedAreThere =
    (a : Addition) (k j : ℕ) → IsValid a.graph → IsShaped a.unresolved → IncludeIsReached a k j
    → (at : AtWorld a k) (include : WorldInclude)
    → slice_get (updated_includes a at.world) j ≡ Some include
    → (old : World) × (slice_get (begun a k j at).graph.worlds include.id ≡ Some old)

-- what is begun of a world can be finished: the graph is partially linked, and the keys and ids of the lists are in order
pub record CanBeLinked (b : PartiallyLinked) : Type 0 where
  pub graph : IsPartiallyLinked b.graph
  pub listed : HasSoundEntries b.graph.types (length b.graph.interfaces)
      (setters_placed b.lists.imports) (setters_placed b.lists.exports)

-- before each world that is reached is finished, where its includes are accepted
abbrev pub WorldsCanBe : Type 0
WorldsCanBe =
    (a : Addition) (k : ℕ) → IsValid a.graph → IsShaped a.unresolved → IsResolved a → IsReached a k
    → ((j : ℕ) → IncludeIsAccepted a k j) → (at : AtWorld a k)
    → CanBeLinked (begun_whole a k at)

-- a valid graph to which a package is added is valid, where the package has its shape and an image in the graph, the
-- graph doesn't have it yet, and each of its worlds is accepted
abbrev pub PushesStayValid : Type 0
PushesStayValid =
    (a : Addition) → IsValid a.graph → IsShaped a.unresolved → IsResolved a
    → (HasPackage a.graph a.unresolved.name → ⊥) → IsReached a (length (own_worlds a))
    → IsValid (added a)
