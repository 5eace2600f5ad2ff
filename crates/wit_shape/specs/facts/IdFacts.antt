-- Ids that name the first things of a list, each once; and numbers that stand once.
use Rattle.std.proofs.Common.{◌≡◌, ◌∙◌, ℕ, ◌<◌, Bool, List, Option, take, eqb, length, slice_get, Some, ap, arith}
use Rattle.std.specs.Prelude.{◌↔◌, Contains, IsTrue, is_some, not}
use Rattle.std.specs.List.{IsDistinct}
use Rattle.std.proofs.lemmas.Bool.Decides.{Decides-eqb}
use Rattle.std.proofs.lemmas.Map.Steps.{length-le_from_distinct_below}
use Rattle.std.proofs.lemmas.Option.{slice_get-get_or}
use Rattle.wit_digraph.specs.facts.FreshFacts.{contains_from_any}
use Rattle.wit_data.specs.Each.{EachAt}
use Rattle.wit_data.specs.Entries.{StandOnce}
use Rattle.wit_data.specs.Foreign.{AreFirst}
use Rattle.wit_data.specs.declared.interface.Interface.{Interface}
use Rattle.wit_data.specs.declared.world.World.{World}
use Rattle.wit_shape.specs.facts.FirstFacts.{id_fails, none_is}
use Rattle.wit_shape.specs.facts.DistinctFacts.{met_twice}
use Rattle.wit_shape.specs.Faults.{FindsAgain, IsNewFirst, unnamed_in_worlds}
use Rattle.wit_shape.specs.First.{AtFirstId}
use Rattle.wit_shape.specs.declared.place.ShapePlace.{ShapePlace}
use Rattle.wit_shape.specs.declared.place.ShapePlace.TheVariants as place

place_of : (xs : List ℕ) (x : ℕ) → Contains xs x → (i : ℕ) × (slice_get xs i ≡ Some x)
place_of xs x has = (has.0, slice_get-get_or xs has.0 x has.1 ∙ ap (λ (y : ℕ). Some y) has.2)

-- where each is new and below both bounds, they are the first ones
pub are_first : (ids : List ℕ) (count : ℕ) → IsDistinct eqb ids → EachAt (IsNewFirst ids count) ids → AreFirst ids count
are_first ids count apart each = record {
  once = apart;
  first = λ i id at. (each i id at).0;
  there = length-le_from_distinct_below ids count apart (λ q has. let there = place_of ids q (contains_from_any q ids has) in (each there.0 q there.1).1);
}

-- none stands again among those that differ
pub none_again : (ids : List ℕ) → IsDistinct eqb ids → EachAt (λ i id. Contains (take i ids) id → ⊥) ids
none_again ids apart i id at has = met_twice Decides-eqb ids i id at has apart

-- and of the first ones each is new and below both bounds
pub are_new : (ids : List ℕ) (count : ℕ) → AreFirst ids count → EachAt (IsNewFirst ids count) ids
are_new ids count first i id at =
    let below : id < length ids = first.first i id at in
    (below, omega (arith, first.there), none_again ids first.once i id at)

-- a test of what a search for one that stands again finds says whether each stands once
pub again_none : (interfaces : List Interface) (worlds : List World) (found : Option ShapePlace) (none : Bool)
    → is_some found ≡ not none → FindsAgain interfaces worlds found → IsTrue none ↔ StandOnce interfaces worlds
again_none interfaces worlds =
    let ids = unnamed_in_worlds interfaces worlds in
    none_is (StandOnce interfaces worlds) (AtFirstId place.Interface (λ i id. Contains (take i ids) id → ⊥) ids) (λ at broken once. id_fails broken (none_again ids once))
