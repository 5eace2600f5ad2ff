-- What is known before each include, and before each world is finished, of any addition whose worlds are accepted so far.
use Rattle.std.proofs.Common.{◌≡◌, ℕ, suc, List, drop, length, take, Some, slice_get, subst, arith}
use Rattle.std.proofs.lemmas.Option.{slice_get_within}
use Rattle.wit_values.specs.facts.Lists.{slice_get-append, slice_get-behind}
use Rattle.wit_data.specs.declared.world.World.{World}
use Rattle.wit_graph_theory.specs.facts.LawsOfElaboration.{LawsOfElaboration}
use Rattle.wit_link_spec.specs.Addition.{Addition, own_worlds, updated_includes}
use Rattle.wit_link_spec.specs.Include.{PartiallyLinked}
use Rattle.wit_link_spec.specs.Added.{with_worlds}
use Rattle.wit_link_spec.specs.facts.Linked.{unfinished_world}
use Rattle.wit_link_spec.specs.facts.CopiedPart.{belonging_mentioned}
use Rattle.wit_link_spec.specs.facts.ListedStage.{listed_images}
use Rattle.wit_link_spec.specs.laws.StageFacts.{CanBeLinked, CanInclude, IncludesCanBe, IsPartiallyLinked, WorldsCanBe}
use Rattle.wit_link_spec.specs.facts.StageGrows.{begun_more}
use Rattle.wit_link_spec.specs.facts.StageSteps.{staged}
use Rattle.wit_link_spec.specs.facts.Stages.{begun_stands, whole_stands}
use Rattle.wit_link_spec.specs.facts.ValidFacts.{stage_stands}
use Rattle.wit_link_spec.specs.facts.Mentioned.{apart}
use Rattle.wit_link_spec.specs.facts.PartiallyLinked.{IsSoundSoFar}
use Rattle.wit_link_spec.specs.facts.PlacedWorlds.{placed_listed}
use Rattle.wit_link_spec.specs.steps.Parts.{begun, begun_whole, image_at}

module _ (a : Addition) (before : List World) (k : ℕ) (e : ℕ × World) (b : PartiallyLinked) (stands : IsSoundSoFar (staged a before k e b)) where
  on_its_way : IsPartiallyLinked b.graph
  on_its_way = record { uses = stands.uses; references = stands.references; interfaces = stands.items.interfaces }

  -- it can be finished
  can_finish : CanBeLinked b
  can_finish = record {
    graph = on_its_way;
    listed = placed_listed (staged a before k e b) stands (length before) (unfinished_world a e.0 e.1 b.lists) (slice_get-behind before (drop (suc k) (listed_images a)) (unfinished_world a e.0 e.1 b.lists));
  }

  -- a finished world of it can be included
  can_include : (from : ℕ) (old : World) → slice_get before from ≡ Some old → CanInclude b.graph from old
  can_include from old at = record {
    graph = on_its_way;
    world = stands.items.worlds from old (slice_get-append before _ from old at);
    apart = λ t r def there named left reaches. apart (staged a before k e b) stands from old t r def there named left reaches;
    belonging = λ t owned. belonging_mentioned (staged a before k e b) stands from old (slice_get-append before _ from old at) t owned;
  }

pub worlds_can_be : LawsOfElaboration → WorldsCanBe
worlds_can_be laws a k valid shaped image reached fine at =
    let e : ℕ × World = (at.id, at.world) in
    let below = slice_get_within (own_worlds a) k e at.is in
    can_finish a (with_worlds a k).worlds k e (begun_whole a k at) (whole_stands a k e at.is (stage_stands laws a valid shaped image k (omega arith) reached) fine)

pub includes_can_be : LawsOfElaboration → IncludesCanBe
includes_can_be laws a k j valid shaped reached at include is old there =
    let e : ℕ × World = (at.id, at.world) in
    let below = slice_get_within (own_worlds a) k e at.is in
    let more = begun_more (length a.graph.packages) (with_worlds a k) (image_at a at.id at.world) (take j (updated_includes a at.world)) in
    let in_front : slice_get (with_worlds a k).worlds include.id ≡ Some old = subst (λ (worlds : List World). slice_get worlds include.id ≡ Some old) more.worlds_are there in
    can_include a (with_worlds a k).worlds k e (begun a k j at) (begun_stands a k e at.is (stage_stands laws a valid shaped reached.has_image k (omega arith) reached.worlds) j reached.includes) include.id old in_front
