-- A world of an addition that is reached can be added with its includes, as the laws of stages have it. For the proofs of
-- the crates above.
use Rattle.std.proofs.Common.{◌≡◌, ℕ, ◌<◌, List, [], ◌∷◌, length, take, Some, slice_get, refl, ap, subst, suc, arith, Contains}
use Rattle.std.proofs.lemmas.Option.{slice_get_within}
use Rattle.std.specs.List.{AllByRecursion}
use Rattle.wit_values.specs.facts.Lists.{AllByRecursion-at}
use Rattle.wit_data.specs.Entries.{Entry}
use Rattle.wit_data.specs.Shape.{IsShaped}
use Rattle.wit_data.specs.declared.world.World.{World}
use Rattle.wit_data.specs.declared.world.WorldInclude.{WorldInclude}
use Rattle.wit_elaboration.specs.Sound.{HasSoundEntries, IsUnderOwnKey}
use Rattle.wit_elaboration.specs.Valid.{IsValid}
use Rattle.wit_graph_data.specs.declared.graph.Graph.{Graph}
use Rattle.wit_graph_theory.specs.facts.ListFacts.{contained_at, place_of}
use Rattle.wit_labels.specs.Setters.{setters_placed}
use Rattle.wit_labels.specs.facts.PlacedFacts.{placed_into}
use Rattle.wit_link_spec.specs.Addition.{Addition, updated_includes}
use Rattle.wit_link_spec.specs.facts.Linked.{IncludeIsReached}
use Rattle.wit_link_spec.specs.Include.{with_several}
use Rattle.wit_link_spec.specs.Added.{with_parts, with_worlds}
use Rattle.wit_link_spec.specs.Reasons.{IsResolved}
use Rattle.wit_link_spec.specs.WorldReasons.{IsAcceptedAt}
use Rattle.wit_link_spec.specs.facts.ListedWorlds.{listed_worlds}
use Rattle.wit_link_spec.specs.laws.StageFacts.{CanBeLinked, IncludedAreThere, IncludesCanBe, IsPartiallyLinked, WorldsCanBe}
use Rattle.wit_link_include.specs.steps.Included as local
use Rattle.wit_link_include.specs.facts.AdditionFacts.{include_reached}
use Rattle.wit_link_include.specs.facts.SeveralFacts.{several_worlds}
use Rattle.wit_link_spec.specs.steps.Parts.{before_includes, begun, begun_whole, home_of, image_at, AtWorld, IsReached}

-- where setters stand says nothing of keys of interfaces
each_of : (P : Entry → Type 0) (xs : List Entry) → ((i : ℕ) (x : Entry) → slice_get xs i ≡ Some x → P x) → AllByRecursion P xs
each_of P [] each = tt
each_of P (x ∷ xs) each = (each 0 x refl, each_of P xs (λ i. each (suc i)))

own_from_placed : (es : List Entry) → AllByRecursion (λ (e : Entry). IsUnderOwnKey e.0 e.1) (setters_placed es) → AllByRecursion (λ (e : Entry). IsUnderOwnKey e.0 e.1) es
own_from_placed es own =
    each_of (λ (e : Entry). IsUnderOwnKey e.0 e.1) es (λ i e at.
    let place = place_of (setters_placed es) e (placed_into es e (contained_at es i e at)) in
    AllByRecursion-at (λ (e : Entry). IsUnderOwnKey e.0 e.1) (setters_placed es) place.0 e own place.1)

module _ (there : IncludedAreThere) (includes : IncludesCanBe) (worlds : WorldsCanBe) (a : Addition) (valid : IsValid a.graph) (shaped : IsShaped a.unresolved) (image : IsResolved a) (k : ℕ) (reached : IsReached a k) (at : AtWorld a k) where
  abbrev here : Graph
  here = with_worlds a k

  abbrev its : List WorldInclude
  its = updated_includes a at.world

  abbrev Fine : ℕ → Type 0
  Fine j = IsAcceptedAt (home_of a) here (image_at a at.id at.world) its j

  is_reached : (j : ℕ) → ((i : ℕ) → i < j → Fine i) → IncludeIsReached a k j
  is_reached j fine = record { has_image = image; worlds = reached; includes = λ i before. include_reached a k i at (fine i before) }

  -- the world that an include names is there
  old_of : (j : ℕ) (include : WorldInclude) → slice_get its j ≡ Some include → ((i : ℕ) → i < j → Fine i) → (old : World) × local.IsIncluded (begun a k j at) include old
  old_of j include is fine = there a k j valid shaped (is_reached j fine) at include is

  can_include : (j : ℕ) (include : WorldInclude) → slice_get its j ≡ Some include → ((i : ℕ) → i < j → Fine i) → local.CanBeIncluded (begun a k j at) include
  can_include j include is fine old found = includes a k j valid shaped (is_reached j fine) at include is old found

  can_finish : ((j : ℕ) → Fine j) → CanBeLinked (begun_whole a k at)
  can_finish fine = worlds a k valid shaped image reached (λ j. include_reached a k j at (fine j)) at

  -- its lists are in order before its includes
  listed : HasSoundEntries (with_parts a).types (length (with_parts a).interfaces) (setters_placed (image_at a at.id at.world).imports) (setters_placed (image_at a at.id at.world).exports)
  listed = listed_worlds a valid shaped image (with_parts a).types (with_parts a).interfaces (record { types_are = refl; interfaces_are = refl }) k (at.id, at.world) at.is

  none_before : (i : ℕ) → i < 0 → Fine i
  none_before i before = absurd (omega (arith, before))

  on_its_way : (l : List WorldInclude) → its ≡ l → IsPartiallyLinked here
  on_its_way [] none =
      let fine : (j : ℕ) → Fine j = λ j include found. absurd (nowhere j include (subst (λ (l : List WorldInclude). slice_get l j ≡ Some include) none found)) in
      subst (λ (l : List WorldInclude). IsPartiallyLinked (with_several (home_of a) here (image_at a at.id at.world) l).graph) none (can_finish fine).graph
    where
      nowhere : (j : ℕ) (include : WorldInclude) → slice_get [] j ≡ Some include → ⊥
      nowhere j include found = cc
  on_its_way (x ∷ xs) are =
      let is : slice_get its 0 ≡ Some x = ap (λ (l : List WorldInclude). slice_get l 0) are in
      let old = old_of 0 x is none_before in
      (can_include 0 x is none_before old.0 old.1).graph

  pub can_be_added : local.CanBeAdded (home_of a) here (image_at a at.id at.world) its
  can_be_added = record {
    graph = on_its_way its refl;
    begins = record {
      there = λ j include is fine.
          let old = old_of j include is fine in
          let front : slice_get here.worlds include.id ≡ Some old.0 =
          subst (λ (ws : List World). slice_get ws include.id ≡ Some old.0) (several_worlds (home_of a) (take j its) (before_includes here (image_at a at.id at.world))) old.1 in
          slice_get_within here.worlds include.id old.0 front;
      own_keys = record {
        imports = own_from_placed (image_at a at.id at.world).imports listed.of_imports.own_keys;
        exports = own_from_placed (image_at a at.id at.world).exports listed.of_exports.own_keys;
      };
      each = can_include;
    };
    finishes = can_finish;
  }
