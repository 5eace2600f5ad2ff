-- Words of inner contracts and proofs, beside `Transformed`.
use Rattle.std.specs.Prelude.{ℕ, ◌≡◌, List, Some, slice_get, take, Contains, ◌<◌, length, IsSomeAnd}
use Rattle.std.specs.Map.{keys_of}
use Rattle.wit_data.specs.declared.world.World.{World}
use Rattle.wit_data.specs.declared.world.WorldItem.{WorldItem}
use Rattle.wit_data.specs.declared.world.WorldKey.{WorldKey}
use Rattle.wit_data.specs.declared.world.WorldKey.TheVariants as key
use Rattle.wit_elaboration.specs.Elaboration.{graph_uses}
use Rattle.wit_elaboration.specs.Entries.{Entry}
use Rattle.wit_graph_data.specs.declared.graph.Graph.{Graph}
use Rattle.wit_graph_data.specs.declared.graph.Package.{Package}
use Rattle.wit_data.specs.Each.{SomeAt}
use Rattle.wit_graph_data.specs.declared.error_kind.ResolveErrorKind.{ResolveErrorKind}
use Rattle.wit_graph_data.specs.declared.error_kind.ResolveErrorKind.TheVariants.{InvalidTransitiveDependency}
use Rattle.wit_elaboration.specs.Imported.{HasTransitiveConflict, IsRefusedName}
use Rattle.wit_transform.specs.Transformed.{HasNameTaken}

-- no entry stands under the key of an interface
abbrev pub AreUnderLabels : List Entry → Type 0
AreUnderLabels entries =
    (k : WorldKey) → Contains (keys_of entries) k → (label : List ℕ) × (k ≡ key.Name label)

-- the first label of some exports that other entries have too
pub record IsFirstCommon (entries exports : List Entry) (label : List ℕ) : Type 0 where
  pub index : ℕ
  pub item : WorldItem
  pub here : slice_get exports index ≡ Some (key.Name label, item)
  pub common : Contains (keys_of entries) (key.Name label)
  pub first : (earlier : List ℕ) → Contains (keys_of (take index exports)) (key.Name earlier)
      → Contains (keys_of entries) (key.Name earlier) → ⊥

-- world w has a package that is there
abbrev pub HasPackageAt : Graph → ℕ → Type 0
HasPackageAt g w =
    SomeAt g.worlds w (λ (world : World). IsSomeAnd world.package (λ p. p < length g.packages))

-- no other world of world w's package has this name
abbrev pub NameIsFreeAt : Graph → ℕ → List ℕ → Type 0
NameIsFreeAt g w name =
    (world : World) (home : Package) → slice_get g.worlds w ≡ Some world
    → HasNameTaken g w world name home → ⊥

-- these exports of world w are in conflict, and the error says so
abbrev pub ExportsAreInConflict : Graph → ℕ → List Entry → ResolveErrorKind → Type 0
ExportsAreInConflict g w exports error =
    (world : World) × (name : List ℕ) × (slice_get g.worlds w ≡ Some world)
    × HasTransitiveConflict (graph_uses g) exports
    × IsRefusedName g.packages g.interfaces (graph_uses g) exports name
    × (error ≡ InvalidTransitiveDependency world.span name)
