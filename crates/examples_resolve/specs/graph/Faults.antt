-- First faults of packages that differ from the shaped one in a place or two, and faults that aren't their first.
use Rattle.std.specs.Prelude.{◌≡◌, ◌≢◌, ℕ, List, [], ◌∷◌, Some, codes, length, slice_get}
use Rattle.wit_data.specs.Shape.{IsShaped}
use Rattle.wit_data.specs.declared.interface.Interface.{Interface}
use Rattle.wit_data.specs.declared.unresolved.UnresolvedPackage.{UnresolvedPackage}
use Rattle.wit_data.specs.declared.world.World.{World}
use Rattle.wit_shape.specs.FaultText.{fault_text}
use Rattle.wit_shape.specs.Faults.{IsBefore, IsFirstFault, IsFirstOnCycle, clauses}
use Rattle.wit_shape.specs.declared.clause.ShapeClause.{ShapeClause}
use Rattle.wit_shape.specs.declared.fault.ShapeFault.{ShapeFault}
use Rattle.wit_shape.specs.declared.place.ShapePlace.{ShapePlace}
use Rattle.wit_shape.specs.declared.clause.ShapeClause.TheVariants as clause
use Rattle.wit_shape.specs.declared.place.ShapePlace.TheVariants as place
use Rattle.examples_resolve.specs.graph.Shape.{entry_of, foreign_i, shaped_package, world_of, x_of}

-- a clause that is broken at a place
abbrev pub fault_of : ShapeClause → ShapePlace → ShapeFault
fault_of c at = record { clause = c; place = at }

-- i and x, which say that they belong to these packages
abbrev pub placed : List Interface → UnresolvedPackage
placed interfaces = record shaped_package { interfaces = interfaces }

abbrev pub placed_i : Interface
placed_i = record foreign_i { «package» = Some 0 }

abbrev pub x : Interface
x = x_of ((codes "t", 1) ∷ (codes "r", 2) ∷ [])

abbrev pub placed_x : Interface
placed_x = record x { «package» = Some 0 }

-- w, which says that it belongs to a package
abbrev pub placed_w : World
placed_w = record (world_of (codes "w") (entry_of 0 ∷ entry_of 1 ∷ [])) { «package» = Some 0 }

-- the package with that world, and without a span for the other package
abbrev pub with_placed_w : UnresolvedPackage
with_placed_w = record shaped_package { worlds = placed_w ∷ [] }

abbrev pub without_span : UnresolvedPackage
without_span = record shaped_package { foreign_dep_spans = [] }

-- three nodes, of which the second uses the others, and the third the second
abbrev pub round : List (List ℕ)
round = [] ∷ (0 ∷ 2 ∷ []) ∷ (1 ∷ []) ∷ []

pub record ExamplesOfFaults : Type 0 where
  -- an interface that says to which package it belongs
  pub first_interface : IsFirstFault (placed (placed_i ∷ x ∷ []))
      (fault_of clause.UnplacedInterfaces (place.Interface 0))
  pub second_interface : IsFirstFault (placed (foreign_i ∷ placed_x ∷ []))
      (fault_of clause.UnplacedInterfaces (place.Interface 1))
  -- both: the first is told
  pub first_of_two : IsFirstFault (placed (placed_i ∷ placed_x ∷ []))
      (fault_of clause.UnplacedInterfaces (place.Interface 0))
  -- a world that does
  pub world : IsFirstFault with_placed_w (fault_of clause.UnplacedWorlds (place.World 0))
  -- there is no span for the other package
  pub no_span : IsFirstFault without_span (fault_of clause.ForeignSpans place.ForeignDepSpans)
  -- the node that closes the round is its last one
  pub closes : IsFirstOnCycle round 2
  -- the first clause and the last, of 32
  pub first_clause : slice_get clauses 0 ≡ Some clause.UnplacedInterfaces
  pub last_clause : slice_get clauses 31 ≡ Some clause.Uses
  pub count : length clauses ≡ 32
  pub in_order : IsBefore clause.UnplacedWorlds clause.ForeignSpans
  pub text : fault_text (fault_of clause.OwnersFunctions (place.Function 1 0))
      ≡ codes "interfaces[1].functions[0] breaks owners.functions: a function stands under its name"

pub record NearMissesOfFaults : Type 0 where
  -- the package that has its shape has none
  pub none : (f : ShapeFault) → IsFirstFault shaped_package f → ⊥
  -- of two things the second
  pub second_of_two : IsFirstFault (placed (placed_i ∷ placed_x ∷ []))
      (fault_of clause.UnplacedInterfaces (place.Interface 1)) → ⊥
  -- a thing that breaks nothing
  pub other_interface : IsFirstFault (placed (foreign_i ∷ placed_x ∷ []))
      (fault_of clause.UnplacedInterfaces (place.Interface 0)) → ⊥
  pub other_list : IsFirstFault (placed (placed_i ∷ x ∷ []))
      (fault_of clause.UnplacedInterfaces (place.World 0)) → ⊥
  -- a clause that the package keeps
  pub kept : IsFirstFault (placed (placed_i ∷ x ∷ []))
      (fault_of clause.ForeignSpans place.ForeignDepSpans) → ⊥
  -- of two clauses the later
  pub later_clause : IsFirstFault (record (placed (placed_i ∷ x ∷ [])) { worlds = placed_w ∷ [] })
      (fault_of clause.UnplacedWorlds (place.World 0)) → ⊥
  pub out_of_order : IsBefore clause.ForeignSpans clause.UnplacedWorlds → ⊥
  pub itself : IsBefore clause.Uses clause.Uses → ⊥
  -- such packages don't have their shape
  pub not_shaped : IsShaped (placed (placed_i ∷ x ∷ [])) → ⊥
  -- a node that is on no round yet
  pub not_yet : IsFirstOnCycle round 1 → ⊥
  -- an index from 1
  pub not_from_one : fault_text (fault_of clause.OwnersFunctions (place.Function 1 0))
      ≢ codes "interfaces[2].functions[1] breaks owners.functions: a function stands under its name"
