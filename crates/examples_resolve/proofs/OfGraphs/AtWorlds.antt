-- A world whose turn it is, and an include of it, are determined by their places; what refuses them there.
use Rattle.std.proofs.Common.{◌≡◌, ◌∙◌, ℕ, ◌<◌, zero, suc, List, [], filter, map, take, Some, None, slice_get, refl, sym, ap, subst}
use Rattle.wit_data.specs.declared.world.World.{World}
use Rattle.wit_data.specs.declared.world.WorldInclude.{WorldInclude}
use Rattle.wit_graph_data.specs.declared.error_kind.ResolveErrorKind.{ResolveErrorKind}
use Rattle.wit_graph_theory.specs.facts.OptionFacts.{some_same}
use Rattle.wit_graph_theory.specs.examples.TestFacts.{none_some}
use Rattle.wit_link_spec.specs.Addition.{Addition, own_worlds, updated_includes}
use Rattle.wit_link_spec.specs.Include.{EntryLists, PartiallyLinked, lists_of, with_entry_lists, with_several}
use Rattle.wit_link_spec.specs.Added.{with_worlds}
use Rattle.wit_link_spec.specs.Reasons.{IsResolved}
use Rattle.wit_link_spec.specs.WorldReasons.{IsAcceptedAt, IsCauseAtWorld, IsCauseOfInclude, IsFinishCause, IsIncludeCause, IsLabelCause, as_finished, at_include, of_image, of_labels_alone}
use Rattle.wit_link_spec.specs.steps.Parts.{AtWorld, IncludeIsAccepted, begun, begun_whole, home_of, image_at, include_is_active, updated_include}

-- include j of world k, as it is when its turn comes: what is begun, and the world that is included
pub record AtInclude (a : Addition) (k j : ℕ) : Type 0 where
  pub at : AtWorld a k
  pub include : WorldInclude
  pub is : slice_get (updated_includes a at.world) j ≡ Some include
  pub before : PartiallyLinked
  pub before_is : before ≡ begun a k j at
  pub old : World
  pub old_is : slice_get before.graph.worlds include.id ≡ Some old

-- a cause of it
pub record IsCauseAtInclude (a : Addition) (k j : ℕ) (error : ResolveErrorKind) : Type 0 where
  pub at : AtInclude a k j
  pub cause : IsIncludeCause (home_of a) at.before at.include at.old error

-- a cause of world k with all its includes
pub record IsCauseAtFinish (a : Addition) (k : ℕ) (error : ResolveErrorKind) : Type 0 where
  pub at : AtWorld a k
  pub whole : PartiallyLinked
  pub whole_is : whole ≡ begun_whole a k at
  pub cause : IsFinishCause whole.graph (with_entry_lists (image_at a at.id at.world) whole.lists) error

-- a cause of world k as it is met: at an include, as it is finished, or of its labels alone
pub data IsMet (a : Addition) (k : ℕ) (error : ResolveErrorKind) : Type 0 where
  of_include : (j : ℕ) → IsResolved a → ((i : ℕ) → i < j → IncludeIsAccepted a k i) → IsCauseAtInclude a k j error → IsMet a k error
  of_finish : IsResolved a → ((j : ℕ) → IncludeIsAccepted a k j) → IsCauseAtFinish a k error → IsMet a k error
  of_labels : (at : AtWorld a k) → at.world.includes ≡ [] → IsLabelCause (image_at a at.id at.world) error → IsMet a k error

-- the lists of world k by which its labels are told: with all its includes, or as it comes where it lists none
pub data HaveLists (a : Addition) (k : ℕ) : EntryLists → Type 0 where
  made : (at : AtWorld a k) → IsResolved a → ((j : ℕ) → IncludeIsAccepted a k j) → HaveLists a k (begun_whole a k at).lists
  written : (at : AtWorld a k) → at.world.includes ≡ [] → HaveLists a k (lists_of (image_at a at.id at.world))

module _ (a : Addition) (k : ℕ) where
  pub world_same : (x y : AtWorld a k) → (x.id ≡ y.id) × (x.world ≡ y.world)
  world_same x y =
      let one : ℕ × World = (x.id, x.world) in
      let other : ℕ × World = (y.id, y.world) in
      let both : one ≡ other = some_same one other (sym x.is ∙ y.is) in
      (ap (λ (e : ℕ × World). e.0) both, ap (λ (e : ℕ × World). e.1) both)

  -- what is made of the world is the same at each sight of it
  same_of : {X : Type 0} (f : ℕ → World → X) (x y : AtWorld a k) → f x.id x.world ≡ f y.id y.world
  same_of f x y = let same = world_same x y in ap (λ (w : ℕ). f w x.world) same.0 ∙ ap (f y.id) same.1

  pub whole_same : (x y : AtWorld a k) → begun_whole a k x ≡ begun_whole a k y
  whole_same x y = same_of (λ (w : ℕ) (world : World). with_several (home_of a) (with_worlds a k) (image_at a w world) (updated_includes a world)) x y

  -- an include that is accepted at one sight of the world is accepted
  accepted_of : (j : ℕ) (x : AtWorld a k) → IsAcceptedAt (home_of a) (with_worlds a k) (image_at a x.id x.world) (updated_includes a x.world) j → IncludeIsAccepted a k j
  accepted_of j x fine y = subst (λ (e : ℕ × World). IsAcceptedAt (home_of a) (with_worlds a k) (image_at a e.0 e.1) (updated_includes a e.1) j) (same_of (λ (w : ℕ) (world : World). let e : ℕ × World = (w, world) in e) x y) fine

  -- a cause of the world is met, and what is met is a cause
  pub met : (error : ResolveErrorKind) → IsCauseAtWorld a k error → IsMet a k error
  met error (of_image w world is image (at_include j include found earlier why)) =
      of_include j image (λ i below. accepted_of i (record { id = w; world = world; is = is }) (earlier i below)) (record {
        at = record { at = record { id = w; world = world; is = is }; include = include; is = found; before = _; before_is = refl; old = why.0; old_is = why.1 };
        cause = why.2;
      })
  met error (of_image w world is image (as_finished fine why)) =
      of_finish image (λ j. accepted_of j (record { id = w; world = world; is = is }) (fine j)) (record { at = record { id = w; world = world; is = is }; whole = _; whole_is = refl; cause = why })
  met error (of_labels_alone w world is none why) = of_labels (record { id = w; world = world; is = is }) none why

  pub at_world : (error : ResolveErrorKind) → IsMet a k error → IsCauseAtWorld a k error
  at_world error (of_include j image earlier c) =
      of_image c.at.at.id c.at.at.world c.at.at.is image (at_include j c.at.include c.at.is (λ i below. earlier i below c.at.at)
      (subst (λ (b : PartiallyLinked). IsCauseOfInclude (home_of a) b c.at.include error) c.at.before_is (c.at.old, c.at.old_is, c.cause)))
  at_world error (of_finish image fine c) =
      of_image c.at.id c.at.world c.at.is image (as_finished (λ j. fine j c.at)
      (subst (λ (b : PartiallyLinked). IsFinishCause b.graph (with_entry_lists (image_at a c.at.id c.at.world) b.lists) error) c.whole_is c.cause))
  at_world error (of_labels at none why) = of_labels_alone at.id at.world at.is none why

  -- two sights of one include
  pub record AreSame (j : ℕ) (x y : AtInclude a k j) : Type 0 where
    pub include_is : x.include ≡ y.include
    pub lists_are : x.before.lists ≡ y.before.lists
    pub old_is : x.old ≡ y.old

  pub include_same : (j : ℕ) (x y : AtInclude a k j) → AreSame j x y
  include_same j x y =
      let includes : updated_includes a x.at.world ≡ updated_includes a y.at.world = same_of (λ (w : ℕ) (world : World). updated_includes a world) x.at y.at in
      let include : x.include ≡ y.include = some_same _ _ (sym x.is ∙ (ap (λ (l : List WorldInclude). slice_get l j) includes ∙ y.is)) in
      let before : x.before ≡ y.before =
      x.before_is ∙ (same_of (λ (w : ℕ) (world : World). with_several (home_of a) (with_worlds a k) (image_at a w world) (take j (updated_includes a world))) x.at y.at ∙ sym y.before_is) in
      let old : x.old ≡ y.old =
      some_same _ _
      (sym x.old_is ∙ (ap (λ (b : PartiallyLinked). slice_get b.graph.worlds x.include.id) before ∙ (ap (λ (i : WorldInclude). slice_get y.before.graph.worlds i.id) include ∙ y.old_is))) in
      record { include_is = include; lists_are = ap (λ (b : PartiallyLinked). b.lists) before; old_is = old }

  -- an include is accepted where no cause is met
  pub fine_where : (j : ℕ) → ((error : ResolveErrorKind) → IsCauseAtInclude a k j error → ⊥) → IncludeIsAccepted a k j
  fine_where j none at include is error why = none error (record { at = record { at = at; include = include; is = is; before = _; before_is = refl; old = why.0; old_is = why.1 }; cause = why.2 })

  pub refused_where : (j : ℕ) (error : ResolveErrorKind) → IsCauseAtInclude a k j error → IncludeIsAccepted a k j → ⊥
  refused_where j error c fine = fine c.at.at c.at.include c.at.is error (subst (λ (b : PartiallyLinked). IsCauseOfInclude (home_of a) b c.at.include error) c.at.before_is (c.at.old, c.at.old_is, c.cause))

  -- where there is no include, nothing is wrong with it
  pub no_include : (y : AtWorld a k) (j : ℕ) → slice_get (updated_includes a y.world) j ≡ None → AtInclude a k j → ⊥
  no_include y j none x =
      let includes : updated_includes a x.at.world ≡ updated_includes a y.world = same_of (λ (w : ℕ) (world : World). updated_includes a world) x.at y in
      let is : Some x.include ≡ None = sym x.is ∙ (ap (λ (l : List WorldInclude). slice_get l j) includes ∙ none) in
      cc

  pub fine_without : (j : ℕ) → (AtInclude a k j → ⊥) → IncludeIsAccepted a k j
  fine_without j none = fine_where j (λ error c. none c.at)

  -- the lists by which labels are told are those with all includes
  pub lists_are : (y : AtWorld a k) (lists : EntryLists) → HaveLists a k lists → lists ≡ (begun_whole a k y).lists
  lists_are y _ (made at image fine) = ap (λ (b : PartiallyLinked). b.lists) (whole_same at y)
  lists_are y _ (written at none) =
      let nothing : [] ≡ updated_includes a at.world = sym (ap (λ (l : List WorldInclude). map (updated_include a) (filter (include_is_active a.features) l)) none) in
      ap (λ (l : List WorldInclude). (with_several (home_of a) (with_worlds a k) (image_at a at.id at.world) l).lists) nothing
      ∙ ap (λ (b : PartiallyLinked). b.lists) (whole_same at y)

  pub list_world : (lists : EntryLists) → HaveLists a k lists → AtWorld a k
  list_world _ (made at image fine) = at
  list_world _ (written at none) = at

-- ---- where there is one world, and one include of it

module _ (a : Addition) (later : (k : ℕ) → slice_get (own_worlds a) (suc k) ≡ None) where
  -- what holds of a world holds of the first
  pub of_first : (P : ℕ → Type 0) → ((k : ℕ) → P k → AtWorld a k) → (P 0 → ⊥) → (k : ℕ) → P k → ⊥
  of_first P at not zero p = not p
  of_first P at not (suc k) p =
      let x = at (suc k) p in
      let found : ℕ × World = (x.id, x.world) in
      none_some found (sym (later k) ∙ x.is)

  -- what holds of an include holds of the first
  pub of_first_include : (y : AtWorld a 0) → ((j : ℕ) → slice_get (updated_includes a y.world) (suc j) ≡ None) → (P : ℕ → ℕ → Type 0) → ((k j : ℕ) → P k j → AtInclude a k j) → (P 0 0 → ⊥) → (k j : ℕ) → P k j → ⊥
  of_first_include y none P at not zero zero p = not p
  of_first_include y none P at not zero (suc j) p = no_include a 0 y (suc j) (none j) (at 0 (suc j) p)
  of_first_include y none P at not (suc k) j p =
      let x : AtInclude a (suc k) j = at (suc k) j p in
      let found : ℕ × World = (x.at.id, x.at.world) in
      none_some found (sym (later k) ∙ x.at.is)

-- all includes of a world with one are accepted where that is
pub all_fine : (a : Addition) (y : AtInclude a 0 0) → ((j : ℕ) → slice_get (updated_includes a y.at.world) (suc j) ≡ None) → IncludeIsAccepted a 0 0 → (j : ℕ) → IncludeIsAccepted a 0 j
all_fine a y none fine zero = fine
all_fine a y none fine (suc j) = fine_without a 0 (suc j) (no_include a 0 y.at (suc j) (none j))
