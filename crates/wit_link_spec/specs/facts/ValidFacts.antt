-- A valid graph to which a package is added is valid: each stage is partially linked, and the last is the whole.
use Rattle.std.proofs.Common.{◌≡◌, ◌∙◌, ℕ, zero, suc, ◌≤◌, List, [], ◌++◌, drop, fold, map, length, ap, subst, arith}
use Rattle.std.proofs.Math.ListN.{drop_of_length-le}
use Rattle.std.proofs.lemmas.List.{append-nil, length-map, take_all}
use Rattle.wit_data.specs.Each.{Each}
use Rattle.wit_data.specs.Shape.{IsShaped}
use Rattle.wit_data.specs.declared.world.World.{World}
use Rattle.wit_elaboration.specs.Elaborated.{Elaborated}
use Rattle.wit_elaboration.specs.Elaboration.{graph_uses}
use Rattle.wit_elaboration.specs.Valid.{IsValid}
use Rattle.wit_graph_data.specs.declared.graph.Graph.{Graph}
use Rattle.wit_graph_theory.specs.facts.Good.{HasGoodThings, IsGoodAsAWhole}
use Rattle.wit_graph_theory.specs.facts.GoodIsValid.{IsValid-from_good, good_things}
use Rattle.wit_graph_theory.specs.facts.GraphSource.{good_items}
use Rattle.wit_remap_spec.specs.Image.{interface_image, type_image, world_image}
use Rattle.wit_graph_theory.specs.facts.LawsOfElaboration.{LawsOfElaboration}
use Rattle.wit_graph_theory.specs.facts.ListFacts.{get_at}
use Rattle.wit_graph_theory.specs.facts.UnnamedOnceFacts.{StandOnce-from_entries}
use Rattle.wit_link_spec.specs.Addition.{Addition, addition_maps, own_interfaces, own_worlds, remap_of_addition}
use Rattle.wit_link_spec.specs.Added.{added, with_parts, with_world, with_worlds}
use Rattle.wit_link_spec.specs.Reasons.{HasPackage, IsResolved}
use Rattle.wit_link_spec.specs.facts.Grown.{IsGrown, grown}
use Rattle.wit_link_spec.specs.facts.ListedOnce.{listed_stands}
use Rattle.wit_link_spec.specs.facts.ListedStage.{listed_images}
use Rattle.wit_link_spec.specs.facts.NameFacts.{added_names}
use Rattle.wit_link_spec.specs.facts.PackageFacts.{added_packages_acyclic}
use Rattle.wit_link_spec.specs.facts.Stages.{next_canonical, next_stands, stage}
use Rattle.wit_link_spec.specs.facts.TableFacts.{good_tables}
use Rattle.wit_link_spec.specs.facts.WorldTables.{new_table, new_worlds_distinct, worlds_in_tables}
use Rattle.wit_link_spec.specs.facts.CanonicalStays.{canonical_longer}
use Rattle.wit_link_spec.specs.facts.PartiallyLinked.{IsSoundSoFar}
use Rattle.wit_remap_spec.specs.steps.Parts.{owns}
use Rattle.wit_link_spec.specs.steps.Parts.{own_types, IsReached}

module _ (laws : LawsOfElaboration) (a : Addition) (valid : IsValid a.graph) (shaped : IsShaped a.unresolved) (image : IsResolved a) where
  -- ---- each stage is partially linked

  pub stage_stands : (k : ℕ) → k ≤ length (own_worlds a) → IsReached a k → IsSoundSoFar (stage a k)
  stage_stands zero within reached = listed_stands a valid shaped image
  stage_stands (suc k) within reached =
      let e = get_at (own_worlds a) k (omega arith) in
      next_stands a k e.0 e.1 laws image (stage_stands k (omega arith) (λ i below. reached i (omega arith))) (reached k (omega arith))

  -- and its finished worlds are canonical
  stage_canonical : (k : ℕ) → k ≤ length (own_worlds a) → IsReached a k → Each (λ (world : World). Elaborated (with_worlds a k).types (graph_uses (with_worlds a k)) world world) (with_worlds a k).worlds
  stage_canonical zero within reached = λ w world at.
      canonical_longer a.graph (good_items a.graph (good_things a.graph valid)) (map (type_image (addition_maps a)) (own_types a) ++ owns (remap_of_addition a)) (map (interface_image (addition_maps a)) (own_interfaces a)) laws.local valid.no_cycles.uses
      (listed_stands a valid shaped image).uses w world at (valid.canonical w world at)
  stage_canonical (suc k) within reached =
      let e = get_at (own_worlds a) k (omega arith) in
      next_canonical a k e.0 e.1 laws image (stage_stands k (omega arith) (λ i below. reached i (omega arith))) (reached k (omega arith)) (stage_canonical k (omega arith) (λ i below. reached i (omega arith)))

  -- ---- the last is the whole

  all_worlds : with_worlds a (length (own_worlds a)) ≡ added a
  all_worlds = ap (fold (with_world a) (with_parts a)) (take_all (length (own_worlds a)) (own_worlds a) (omega arith))

  last_stage : stage a (length (own_worlds a)) ≡ added a
  last_stage =
      let past : length (listed_images a) ≤ length (own_worlds a) = let long = length-map (own_worlds a) (λ (e : ℕ × World). world_image (addition_maps a) e.0 e.1) in omega arith in
      let none : drop (length (own_worlds a)) (listed_images a) ≡ [] = drop_of_length-le (listed_images a) past in
      let g = with_worlds a (length (own_worlds a)) in
      ap (λ (later : List World). let r : Graph = record g { worlds = g.worlds ++ later } in r) none ∙ ap (λ (ws : List World). let r : Graph = record g { worlds = ws } in r) (append-nil g.worlds) ∙ all_worlds

  module _ (reached : IsReached a (length (own_worlds a))) where
    pub pushed_stands : IsSoundSoFar (added a)
    pushed_stands = subst IsSoundSoFar last_stage (stage_stands (length (own_worlds a)) (omega arith) reached)

    pushed_canonical : Each (λ (world : World). Elaborated (added a).types (graph_uses (added a)) world world) (added a).worlds
    pushed_canonical = subst (λ (g : Graph). Each (λ (world : World). Elaborated g.types (graph_uses g) world world) g.worlds) all_worlds (stage_canonical (length (own_worlds a)) (omega arith) reached)

    pushed_grown : IsGrown a (length (own_worlds a)) (added a)
    pushed_grown = subst (IsGrown a (length (own_worlds a))) all_worlds (grown a (length (own_worlds a)) (omega arith))

    things : HasGoodThings (added a)
    things =
        let tables = good_tables a valid shaped image (length (own_worlds a)) (added a) pushed_grown (new_table a valid shaped (added a) pushed_grown) (new_worlds_distinct a shaped) (worlds_in_tables a valid shaped (added a) pushed_grown) in
        record {
          types = pushed_stands.items.types;
          known = pushed_stands.items.known;
          interfaces = pushed_stands.items.interfaces;
          worlds = pushed_stands.items.worlds;
          packages = tables.packages;
          interfaces_in_tables = tables.interfaces;
          worlds_in_tables = tables.worlds;
        }

    module _ (absent : HasPackage a.graph a.unresolved.name → ⊥) where
      whole : IsGoodAsAWhole (added a)
      whole = record {
        package_names = added_names a valid absent (length (own_worlds a)) (added a) pushed_grown;
        once = StandOnce-from_entries (added a).interfaces (added a).worlds pushed_stands.once;
        no_cycles = record { uses = pushed_stands.uses; types = pushed_stands.references; packages = added_packages_acyclic a valid shaped image (length (own_worlds a)) (added a) pushed_grown };
        canonical = pushed_canonical;
      }

      -- a valid graph to which a package is added is valid
      pub valid_pushes : IsValid (added a)
      valid_pushes = IsValid-from_good (added a) things whole
