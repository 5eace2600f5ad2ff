-- The stages of an addition, one after another: before each world, before each of its includes, and before it is
-- finished, what is there is partially linked.
use Rattle.std.proofs.Common.{◌≡◌, ◌∙◌, inl, inr, ℕ, zero, suc, ◌<◌, ◌≤◌, List, [], ◌∷◌, ◌++◌, drop, fold, take, length, Some, slice_get, refl, sym, ap, subst, arith}
use Rattle.std.proofs.Math.Numerals.{add-one}
use Rattle.std.proofs.lemmas.Bool.{cases_lt}
use Rattle.std.proofs.lemmas.List.{append_assoc, take_all}
use Rattle.std.proofs.lemmas.List.Sums.{fold-append}
use Rattle.wit_values.specs.facts.Lists.{push-cases, slice_get-append, slice_get-behind, take-next_at}
use Rattle.wit_digraph.specs.Relation.{IsAcyclic}
use Rattle.wit_data.specs.Each.{Each}
use Rattle.wit_data.specs.Uses.{uses_of}
use Rattle.wit_data.specs.declared.interface.Interface.{Interface}
use Rattle.wit_data.specs.declared.types.TypeDef.{TypeDef}
use Rattle.wit_data.specs.declared.world.World.{World}
use Rattle.wit_data.specs.declared.world.WorldInclude.{WorldInclude}
use Rattle.wit_elaboration.specs.Elaborated.{Elaborated}
use Rattle.wit_elaboration.specs.Elaboration.{graph_uses}
use Rattle.wit_elaboration.specs.Imported.{HasTransitiveConflict}
use Rattle.wit_graph_data.specs.IdText.{key_text}
use Rattle.wit_graph_data.specs.declared.graph.Graph.{Graph}
use Rattle.wit_remap_spec.specs.Image.{world_image}
use Rattle.wit_graph_theory.specs.facts.LawsOfElaboration.{LawsOfElaboration}
use Rattle.wit_graph_theory.specs.facts.ListFacts.{at_map, get_at}
use Rattle.wit_link_spec.specs.Addition.{Addition, addition_maps, own_worlds, updated_includes}
use Rattle.wit_link_spec.specs.Include.{PartiallyLinked, with_several}
use Rattle.wit_link_spec.specs.Added.{with_parts, with_world, with_worlds}
use Rattle.wit_link_spec.specs.facts.Linked.{linked_world, unfinished_world}
use Rattle.wit_link_spec.specs.Reasons.{IsResolved}
use Rattle.wit_link_spec.specs.WorldReasons.{as_finished, conflict_4, of_exports, of_image, of_imports, shadowing_7}
use Rattle.wit_link_spec.specs.facts.WorldCauseFacts.{includes_accepted}
use Rattle.wit_labels.specs.Setters.{setters_placed}
use Rattle.wit_link_spec.specs.facts.ListedStage.{listed_images}
use Rattle.wit_link_spec.specs.facts.StageGrows.{HasMore, begun_more}
use Rattle.wit_link_spec.specs.facts.StageSteps.{IsFree, finish_step, finished_is, include_step, staged}
use Rattle.wit_link_spec.specs.facts.CanonicalStays.{canonical_longer}
use Rattle.wit_link_spec.specs.facts.PartiallyLinked.{IsSoundSoFar}
use Rattle.wit_link_spec.specs.facts.PlacedWorlds.{placed_in_order}
use Rattle.wit_link_spec.specs.facts.DropFacts.{drop_at}
use Rattle.wit_link_spec.specs.steps.Parts.{before_includes, image_at, with_one, with_setters_placed, AtWorld, IncludeIsAccepted, WorldIsAccepted}

-- the stage before world k
abbrev pub stage : Addition → ℕ → Graph
stage a k =
    record (with_worlds a k) { worlds = (with_worlds a k).worlds ++ drop k (listed_images a) }

-- ---- one more

-- folded over the first elements and one more
fold_next : {A B : Type 0} (f : B → A → B) (b : B) (xs : List A) (k : ℕ) (x : A) → slice_get xs k ≡ Some x → fold f b (take (suc k) xs) ≡ f (fold f b (take k xs)) x
fold_next f b xs k x at = ap (λ (n : ℕ). fold f b (take n xs)) (sym (add-one k)) ∙ ap (fold f b) (take-next_at xs k x at) ∙ fold-append f b (take k xs) (x ∷ [])

-- over all of them, where there are no more
fold_past : {A B : Type 0} (f : B → A → B) (b : B) (xs : List A) (k : ℕ) → length xs ≤ k → fold f b (take k xs) ≡ fold f b xs
fold_past f b xs k past = ap (fold f b) (take_all k xs past)

module _ (a : Addition) where
  -- world k more
  pub with_worlds_next : (k : ℕ) (e : ℕ × World) → slice_get (own_worlds a) k ≡ Some e → with_worlds a (suc k) ≡ with_world a (with_worlds a k) e
  with_worlds_next k e at = fold_next (with_world a) (with_parts a) (own_worlds a) k e at

  -- ---- one world

  module _ (k : ℕ) (e : ℕ × World) (at : slice_get (own_worlds a) k ≡ Some e) where
    abbrev before : List World
    before = (with_worlds a k).worlds

    abbrev includes : List WorldInclude
    includes = updated_includes a e.1

    abbrev home : ℕ
    home = length a.graph.packages

    -- it with all its includes
    abbrev whole : PartiallyLinked
    whole = with_several home (with_worlds a k) (image_at a e.0 e.1) includes

    -- and with so many
    abbrev pub begun_at : ℕ → PartiallyLinked
    begun_at j = with_several home (with_worlds a k) (image_at a e.0 e.1) (take j includes)

    pub more_at : (j : ℕ) → HasMore (length a.graph.packages) (with_worlds a k) (begun_at j).graph
    more_at j = begun_more home (with_worlds a k) (image_at a e.0 e.1) (take j includes)

    pub begun_is : whole ≡ begun_at (length includes)
    begun_is = sym (fold_past (with_one home) (before_includes (with_worlds a k) (image_at a e.0 e.1)) includes (length includes) (omega arith))

    -- before the first include it is as listed
    first_staged : staged a before k e (begun_at zero) ≡ stage a k
    first_staged =
        let next = drop_at (listed_images a) k (world_image (addition_maps a) e.0 e.1) (at_map (λ (d : ℕ × World). world_image (addition_maps a) d.0 d.1) (own_worlds a) k e at) in
        ap (λ (later : List World). let r : Graph = record (with_worlds a k) { worlds = before ++ later } in r) (sym next)

    -- nothing is shadowed by an include that is accepted
    free_at : (j : ℕ) (include : WorldInclude) (old : World) → slice_get includes j ≡ Some include → IncludeIsAccepted a k j → slice_get (begun_at j).graph.worlds include.id ≡ Some old → IsFree (begun_at j) include old
    free_at j include old is fine there = record {
      imports = λ n shadowed. fine here include is _ (old, there, of_imports _ (shadowing_7 n shadowed));
      exports = λ n shadowed. fine here include is _ (old, there, of_exports _ (shadowing_7 n shadowed));
    }
      where
        here : AtWorld a k
        here = record { id = e.0; world = e.1; is = at }

    -- before each include what is begun is partially linked
    pub begun_stands : IsSoundSoFar (stage a k) → (j : ℕ) → ((i : ℕ) → i < j → IncludeIsAccepted a k i) → IsSoundSoFar (staged a before k e (begun_at j))
    begun_stands stands zero fine = subst IsSoundSoFar (sym first_staged) stands
    begun_stands stands (suc j) fine = next (begun_stands stands j (λ i below. fine i (omega arith)))
      where
        next : IsSoundSoFar (staged a before k e (begun_at j)) → IsSoundSoFar (staged a before k e (begun_at (suc j)))
        next so_far = elim (cases_lt j (length includes)) [
          | inl below ↦
              let x = get_at includes j below in
              let one_more : begun_at (suc j) ≡ with_one home (begun_at j) x.0 = fold_next (with_one home) (before_includes (with_worlds a k) (image_at a e.0 e.1)) includes j x.0 x.1 in
              subst (λ (b : PartiallyLinked). IsSoundSoFar (staged a before k e b)) (sym one_more)
              (include_step a before k e (begun_at j) x.0 (more_at j).worlds_are so_far (λ old there. free_at j x.0 old x.1 (fine j (omega arith)) there))
          | inr past ↦
              let same : begun_at (suc j) ≡ begun_at j = fold_past (with_one home) (before_includes (with_worlds a k) (image_at a e.0 e.1)) includes (suc j) (omega arith) ∙ sym (fold_past (with_one home) (before_includes (with_worlds a k) (image_at a e.0 e.1)) includes j past) in
              subst (λ (b : PartiallyLinked). IsSoundSoFar (staged a before k e b)) (sym same) so_far
        ]

    -- and before it is finished
    pub whole_stands : IsSoundSoFar (stage a k) → ((j : ℕ) → IncludeIsAccepted a k j) → IsSoundSoFar (staged a before k e whole)
    whole_stands stands fine = subst (λ (b : PartiallyLinked). IsSoundSoFar (staged a before k e b)) (sym begun_is) (begun_stands stands (length includes) (λ i below. fine i))

    pub whole_more : HasMore (length a.graph.packages) (with_worlds a k) whole.graph
    whole_more = begun_more home (with_worlds a k) (image_at a e.0 e.1) includes

    -- the next stage
    stage_next : stage a (suc k) ≡ record whole.graph { worlds = before ++ linked_world a e.0 e.1 whole ∷ drop (suc k) (listed_images a) }
    stage_next =
        let done = linked_world a e.0 e.1 whole in
        let later = drop (suc k) (listed_images a) in
        ap (λ (g : Graph). let r : Graph = record g { worlds = g.worlds ++ later } in r) (with_worlds_next k e at)
        ∙ ap (λ (ws : List World). let r : Graph = record whole.graph { worlds = (ws ++ done ∷ []) ++ later } in r) whole_more.worlds_are
        ∙ ap (λ (ws : List World). let r : Graph = record whole.graph { worlds = ws } in r) (append_assoc before (done ∷ []) later)

    -- ---- it is finished

    module _ (laws : LawsOfElaboration) (image : IsResolved a) (stands : IsSoundSoFar (stage a k)) (fine : WorldIsAccepted a k) where
      includes_fine : (j : ℕ) → IncludeIsAccepted a k j
      includes_fine = includes_accepted a k image fine

      no_conflict : HasTransitiveConflict (graph_uses whole.graph) (setters_placed whole.lists.exports) → ⊥
      no_conflict conflict =
          let so_far = whole_stands stands includes_fine in
          let there = slice_get-behind before (drop (suc k) (listed_images a)) (unfinished_world a e.0 e.1 whole.lists) in
          let refused = (laws.refused whole.graph.types (graph_uses whole.graph) (setters_placed whole.lists.imports) (setters_placed whole.lists.exports) so_far.uses
          (placed_in_order (staged a before k e whole) so_far (length before) (unfinished_world a e.0 e.1 whole.lists) there)).0 conflict in
          fine _ (of_image e.0 e.1 at image (as_finished (λ j. includes_fine j (record { id = e.0; world = e.1; is = at }))
          (conflict_4 (key_text whole.graph.packages whole.graph.interfaces refused.0) conflict (refused.0, refused.1, refl))))

      pub next_stands : IsSoundSoFar (stage a (suc k))
      next_stands = subst IsSoundSoFar (sym stage_next) (finish_step laws a before k e whole (whole_stands stands includes_fine) no_conflict)

      -- worlds stay canonical, and the new one is
      pub next_canonical : Each (λ (world : World). Elaborated (with_worlds a k).types (graph_uses (with_worlds a k)) world world) before
          → Each (λ (world : World). Elaborated (with_worlds a (suc k)).types (graph_uses (with_worlds a (suc k))) world world) (with_worlds a (suc k)).worlds
      next_canonical canonical =
          subst (λ (g : Graph). Each (λ (world : World). Elaborated g.types (graph_uses g) world world) g.worlds) (sym (with_worlds_next k e at))
          (subst (λ (ws : List World). Each (λ (world : World). Elaborated whole.graph.types (graph_uses whole.graph) world world) (ws ++ linked_world a e.0 e.1 whole ∷ [])) (sym whole_more.worlds_are) all)
        where
          so_far : IsSoundSoFar (staged a before k e whole)
          so_far = whole_stands stands includes_fine

          old_one : (w : ℕ) (world : World) → slice_get before w ≡ Some world → Elaborated whole.graph.types (graph_uses whole.graph) world world
          old_one w world there =
              let acyclic : IsAcyclic (uses_of ((with_worlds a k).types ++ whole_more.types) ((with_worlds a k).interfaces ++ whole_more.interfaces)) =
              subst (λ (types : List TypeDef). IsAcyclic (uses_of types ((with_worlds a k).interfaces ++ whole_more.interfaces))) whole_more.types_are
              (subst (λ (interfaces : List Interface). IsAcyclic (uses_of whole.graph.types interfaces)) whole_more.interfaces_are so_far.uses) in
              subst (λ (types : List TypeDef). Elaborated types (uses_of types whole.graph.interfaces) world world) (sym whole_more.types_are)
              (subst (λ (interfaces : List Interface). Elaborated ((with_worlds a k).types ++ whole_more.types) (uses_of ((with_worlds a k).types ++ whole_more.types) interfaces) world world) (sym whole_more.interfaces_are)
              (canonical_longer (stage a k) stands.items whole_more.types whole_more.interfaces laws.local stands.uses acyclic w world (slice_get-append before (drop k (listed_images a)) w world there) (canonical w world there)))

          new_one : Elaborated whole.graph.types (graph_uses whole.graph) (linked_world a e.0 e.1 whole) (linked_world a e.0 e.1 whole)
          new_one =
              let there = slice_get-behind before (drop (suc k) (listed_images a)) (unfinished_world a e.0 e.1 whole.lists) in
              laws.once whole.graph.types (graph_uses whole.graph) (with_setters_placed (unfinished_world a e.0 e.1 whole.lists)) (linked_world a e.0 e.1 whole) so_far.uses
              (placed_in_order (staged a before k e whole) so_far (length before) (unfinished_world a e.0 e.1 whole.lists) there) (finished_is laws a before k e whole no_conflict)

          all : Each (λ (world : World). Elaborated whole.graph.types (graph_uses whole.graph) world world) (before ++ linked_world a e.0 e.1 whole ∷ [])
          all w world there = elim (push-cases before (linked_world a e.0 e.1 whole) w world there) [
            | inl old ↦ old_one w world old
            | inr new ↦ subst (λ (x : World). Elaborated whole.graph.types (graph_uses whole.graph) x x) (sym new.1) new_one
          ]
