-- The stages of an addition, one after another: the partially linked graph, with the world whose turn it is as it is begun, and
-- behind it those to come as they are listed. An include more, or a world that is finished, leads from a stage that
-- stands to one that stands.
use Rattle.std.proofs.Common.{◌≡◌, ℕ, zero, suc, List, [], ◌∷◌, ◌++◌, drop, map, length, Option, None, Some, slice_get, refl, sym, ap, subst, arith}
use Rattle.std.specs.Option.{option_map_or}
use Rattle.std.proofs.lemmas.Option.{slice_get_within}
use Rattle.wit_values.specs.facts.Lists.{slice_get-append, slice_get-behind}
use Rattle.wit_data.specs.Entries.{Entry}
use Rattle.wit_data.specs.declared.world.World.{World}
use Rattle.wit_data.specs.declared.world.WorldInclude.{WorldInclude}
use Rattle.wit_elaboration.specs.Elaborated.{Elaborated}
use Rattle.wit_elaboration.specs.Elaboration.{graph_uses}
use Rattle.wit_elaboration.specs.Imported.{HasTransitiveConflict}
use Rattle.wit_graph_data.specs.declared.graph.Graph.{Graph}
use Rattle.wit_graph_theory.specs.facts.LawsOfElaboration.{LawsOfElaboration}
use Rattle.wit_link_spec.specs.Addition.{Addition}
use Rattle.wit_link_spec.specs.Include.{PartiallyLinked, with_world_included}
use Rattle.wit_link_spec.specs.facts.Linked.{linked_world, unfinished_world}
use Rattle.wit_link_spec.specs.WorldReasons.{IsShadowed, renamed_key}
use Rattle.wit_labels.specs.Setters.{setters_placed}
use Rattle.wit_link_spec.specs.facts.ListedStage.{listed_images}
use Rattle.wit_link_spec.specs.facts.CopiesCarried.{IsUnshadowed}
use Rattle.wit_link_spec.specs.facts.FinishedStands.{finished_stands}
use Rattle.wit_link_spec.specs.facts.IncludedOnce.{included_stands}
use Rattle.wit_link_spec.specs.facts.IncludedWorld.{Including, IsIncluded}
use Rattle.wit_link_spec.specs.facts.PartiallyLinked.{IsSoundSoFar}
use Rattle.wit_link_spec.specs.steps.Parts.{with_include_of, with_one, with_setters_placed}

-- ---- lists

-- another thing at a place leaves the others
pub others_stay : {X : Type 0} (xs ys : List X) (x y : X) (w : ℕ) → (w ≡ length xs → ⊥) → slice_get (xs ++ x ∷ ys) w ≡ slice_get (xs ++ y ∷ ys) w
others_stay [] ys x y zero apart = absurd (apart refl)
others_stay [] ys x y (suc w) apart = refl
others_stay (z ∷ xs) ys x y zero apart = refl
others_stay (z ∷ xs) ys x y (suc w) apart = others_stay xs ys x y w (λ same. apart (ap suc same))

-- ---- a world that is begun

-- the stage: `before` stand finished, the world is begun, and behind it stand those to come
abbrev pub staged : Addition → List World → ℕ → ℕ × World → PartiallyLinked → Graph
staged a before k e b =
    record b.graph
    { worlds = before ++ unfinished_world a e.0 e.1 b.lists ∷ drop (suc k) (listed_images a) }

-- nothing is shadowed where a world comes into what is begun
pub record IsFree (b : PartiallyLinked) (include : WorldInclude) (old : World) : Type 0 where
  pub imports : (n : List ℕ)
      → IsShadowed b.lists.imports (map (λ (e : Entry). renamed_key include.names e.0) old.imports)
      n → ⊥
  pub exports : (n : List ℕ)
      → IsShadowed b.lists.exports (map (λ (e : Entry). renamed_key include.names e.0) old.exports)
      n → ⊥

module _ (a : Addition) (before : List World) (k : ℕ) (e : ℕ × World) (b : PartiallyLinked) (include : WorldInclude) where
  abbrev from : ℕ
  from = include.id

  abbrev later : List World
  later = drop (suc k) (listed_images a)

  -- a finished world that is included
  abbrev pub including : (old : World) → slice_get before from ≡ Some old
      → Including (staged a before k e b)
  including old at = record {
    from = from;
    old = old;
    old_at = slice_get-append before (unfinished_world a e.0 e.1 b.lists ∷ later) from old at;
    into = length before;
    host = unfinished_world a e.0 e.1 b.lists;
    host_at = slice_get-behind before later (unfinished_world a e.0 e.1 b.lists);
    apart = λ same. let within = slice_get_within before from old at in omega (arith, same, within);
    home = length a.graph.packages;
    host_home = refl;
    names = include.names;
  }

  pub is_included : (old : World) (at : slice_get before from ≡ Some old)
      → IsIncluded (staged a before k e b) (including old at) (staged a before k e (with_world_included (length a.graph.packages) (length before) include.names from old b))
  is_included old at =
      let b' = with_world_included (length a.graph.packages) (length before) include.names from old b in
      record {
        types_are = refl;
        interfaces_are = refl;
        joined_at = slice_get-behind before later (unfinished_world a e.0 e.1 b'.lists);
        others = λ w apart. others_stay before later (unfinished_world a e.0 e.1 b'.lists) (unfinished_world a e.0 e.1 b.lists) w apart;
      }

  -- an include more
  pub include_step : b.graph.worlds ≡ before → IsSoundSoFar (staged a before k e b) → ((old : World) → slice_get b.graph.worlds from ≡ Some old → IsFree b include old)
      → IsSoundSoFar (staged a before k e (with_one (length a.graph.packages) b include))
  include_step are stands free =
      subst (λ (worlds : List World). IsSoundSoFar (staged a before k e (with_include_of (length a.graph.packages) (length worlds) include.names from b))) (sym are) (by (slice_get b.graph.worlds from) refl)
    where
      by : (o : Option World) → slice_get b.graph.worlds from ≡ o
          → IsSoundSoFar (staged a before k e (option_map_or (λ (old : World). with_world_included (length a.graph.packages) (length before) include.names from old b) o b))
      by None at = stands
      by (Some old) at =
          let there : slice_get before from ≡ Some old = subst (λ (worlds : List World). slice_get worlds from ≡ Some old) are at in
          let unshadowed : IsUnshadowed (staged a before k e b) (including old there) = let is = free old at in record { imports = is.imports; exports = is.exports } in
          included_stands (staged a before k e b) stands (including old there) (staged a before k e (with_world_included (length a.graph.packages) (length before) include.names from old b)) (is_included old there) unshadowed

-- ---- a world that is finished

module _ (laws : LawsOfElaboration) (a : Addition) (before : List World) (k : ℕ) (e : ℕ × World) (b : PartiallyLinked) where
  -- it is the elaboration of what is begun
  pub finished_is : (HasTransitiveConflict (graph_uses b.graph) (setters_placed b.lists.exports) → ⊥) → Elaborated b.graph.types (graph_uses b.graph) (with_setters_placed (unfinished_world a e.0 e.1 b.lists)) (linked_world a e.0 e.1 b)
  finished_is none = record { no_conflict = none; world_is = refl }

  -- and the next stage stands
  pub finish_step : IsSoundSoFar (staged a before k e b) → (HasTransitiveConflict (graph_uses b.graph) (setters_placed b.lists.exports) → ⊥)
      → IsSoundSoFar (record b.graph { worlds = before ++ linked_world a e.0 e.1 b ∷ drop (suc k) (listed_images a) })
  finish_step stands none =
      let later = drop (suc k) (listed_images a) in
      finished_stands laws (staged a before k e b) stands (length before) (unfinished_world a e.0 e.1 b.lists) (slice_get-behind before later (unfinished_world a e.0 e.1 b.lists)) (linked_world a e.0 e.1 b) (finished_is none)
      (before ++ linked_world a e.0 e.1 b ∷ later) (slice_get-behind before later (linked_world a e.0 e.1 b)) (λ w apart. others_stay before later (linked_world a e.0 e.1 b) (unfinished_world a e.0 e.1 b.lists) w apart)
