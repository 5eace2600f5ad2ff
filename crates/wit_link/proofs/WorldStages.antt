-- The worlds of an addition, one after another: each is ready when its turn comes, and leads to the next stage.
use Rattle.std.proofs.Common.{◌≡◌, ◌∙◌, ◌⊎◌, inl, inr, ℕ, ◌+◌, ◌<◌, ◌≤◌, zero, suc, List, [], ◌∷◌, ◌++◌, fold, length, take, Some, slice_get, refl, sym, ap, subst, arith, below_more}
use Rattle.std.proofs.lemmas.Bool.{cases_lt}
use Rattle.std.proofs.lemmas.List.{length-map, length_push}
use Rattle.std.proofs.lemmas.Option.{slice_get_within}
use Rattle.wit_values.specs.facts.Lists.{slice_get-behind}
use Rattle.wit_data.specs.Shape.{IsShaped}
use Rattle.wit_data.specs.declared.world.World.{World}
use Rattle.wit_data.specs.declared.world.WorldInclude.{WorldInclude}
use Rattle.wit_elaboration.specs.Valid.{IsValid}
use Rattle.wit_graph_data.specs.Error.{NoCause}
use Rattle.wit_graph_data.specs.declared.graph.Graph.{Graph}
use Rattle.wit_graph_data.specs.declared.error_kind.ResolveErrorKind.{ResolveErrorKind}
use Rattle.wit_graph_data.specs.declared.error_kind.ResolveErrorKind.TheVariants.{OutOfMemory}
use Rattle.wit_graph_theory.specs.facts.ListFacts.{from_map}
use Rattle.wit_link_spec.specs.Addition.{Addition, own_worlds, updated_includes}
use Rattle.wit_link_spec.specs.Cause.{IsAdditionCause}
use Rattle.wit_link_spec.specs.Added.{added, with_parts, with_world, with_worlds}
use Rattle.wit_link_spec.specs.Reasons.{IsResolved}
use Rattle.wit_link_spec.specs.WorldReasons.{IsWorldCause}
use Rattle.wit_link_spec.specs.facts.WorldCauseFacts.{cause_world}
use Rattle.wit_link_spec.specs.laws.StageFacts.{IncludedAreThere, IncludesCanBe, WorldsCanBe}
use Rattle.wit_link_include.specs.facts.AdditionFacts.{next_stage, reached_accepted, world_cause}
use Rattle.wit_link_include.specs.steps.Included as local
use Rattle.wit_link_include.specs.facts.ReadyFacts.{can_be_added}
use Rattle.wit_remap.specs.declared.worlds.UpdatedWorld.{UpdatedWorld}
use Rattle.wit_link.specs.steps.Including.{ready_world, ready_worlds}
use Rattle.wit_link_spec.specs.steps.Parts.{AtWorld, WorldIsAccepted, IsReached, home_of, image_at, with_including}

-- so many worlds are added, and no cause holds against them
pub record IsAdding (a : Addition) (done : List UpdatedWorld) (g : Graph) : Type 0 where
  pub graph : g ≡ with_worlds a (length done)
  pub fine : IsReached a (length done)

pub adding-none : (a : Addition) (g : Graph) → g ≡ with_parts a → IsAdding a [] g
adding-none a g is = record { graph = is; fine = λ i before. absurd (omega (arith, before)) }

module _ (a : Addition) (done rest : List UpdatedWorld) (updated : UpdatedWorld) (g : Graph) (is : IsAdding a done g) (are : done ++ updated ∷ rest ≡ ready_worlds a) where
  -- the world whose turn it is
  abbrev from : (e : ℕ × World) × (slice_get (own_worlds a) (length done) ≡ Some e) × (ready_world a e ≡ updated)
  from = from_map (ready_world a) (own_worlds a) (length done) updated (subst (λ (l : List UpdatedWorld). slice_get l (length done) ≡ Some updated) are (slice_get-behind done rest updated))

  abbrev turn : AtWorld a (length done)
  turn = record { id = from.0.0; world = from.0.1; is = from.1 }

  -- what is told of the stage is told of the graph and the world
  told : (P : Graph → World → List WorldInclude → Type 0) → P (with_worlds a (length done)) (image_at a turn.id turn.world) (updated_includes a turn.world) → P g updated.world updated.includes
  told P p = subst (λ (x : UpdatedWorld). P g x.world x.includes) from.2 (subst (λ (h : Graph). P h (image_at a turn.id turn.world) (updated_includes a turn.world)) (sym is.graph) p)

  back : (P : Graph → World → List WorldInclude → Type 0) → P g updated.world updated.includes → P (with_worlds a (length done)) (image_at a turn.id turn.world) (updated_includes a turn.world)
  back P p = subst (λ (h : Graph). P h (image_at a turn.id turn.world) (updated_includes a turn.world)) is.graph (subst (λ (x : UpdatedWorld). P g x.world x.includes) (sym from.2) p)

  pub is_ready : IncludedAreThere → IncludesCanBe → WorldsCanBe → IsValid a.graph → IsShaped a.unresolved → IsResolved a → local.CanBeAdded (home_of a) g updated.world updated.includes
  is_ready there includes worlds valid shaped image = told (local.CanBeAdded (home_of a)) (can_be_added there includes worlds a valid shaped image (length done) is.fine turn)

  pub adding-next : (new : Graph) → new ≡ with_including (home_of a) g updated.world updated.includes → NoCause (IsWorldCause (home_of a) g updated.world updated.includes) → IsAdding a (done ++ updated ∷ []) new
  adding-next new new_is fine =
      let long : length (done ++ updated ∷ []) ≡ length done + 1 = length_push done updated in
      let one : WorldIsAccepted a (length done) = reached_accepted a (length done) turn (back (λ (h : Graph) (w : World) (l : List WorldInclude). NoCause (IsWorldCause (home_of a) h w l)) fine) in
      record {
        graph = back (λ (h : Graph) (w : World) (l : List WorldInclude). new ≡ with_including (home_of a) h w l) new_is ∙ sym (next_stage a (length done) turn) ∙ ap (with_worlds a) (sym long);
        fine = subst (IsReached a) (sym long) (below_more (WorldIsAccepted a) (length done) is.fine one);
      }

  pub refused_here : IsResolved a → (kind : ResolveErrorKind) → (kind ≡ OutOfMemory) ⊎ IsWorldCause (home_of a) g updated.world updated.includes kind → (kind ≡ OutOfMemory) ⊎ IsAdditionCause a kind
  refused_here image kind (inl memory) = inl memory
  refused_here image kind (inr why) =
      inr (world_cause a (length done) turn image is.fine kind (back (λ (h : Graph) (w : World) (l : List WorldInclude). IsWorldCause (home_of a) h w l kind) why))

-- ---- all of them

module _ (a : Addition) (k : ℕ) (past : length (own_worlds a) ≤ k) where
  no_world : AtWorld a k → ⊥
  no_world at = let within : k < length (own_worlds a) = slice_get_within (own_worlds a) k (at.id, at.world) at.is in omega arith

  -- where there is no world no cause holds against it
  pub none_fine : WorldIsAccepted a k
  none_fine error is = no_world (cause_world a k error is)

pub each_fine : (a : Addition) → IsReached a (length (own_worlds a)) → (k : ℕ) → WorldIsAccepted a k
each_fine a fine k = elim (below_or_not k (length (own_worlds a))) [ inl below ↦ fine k below | inr past ↦ none_fine a k past ]
  where
    below_or_not : (i n : ℕ) → (i < n) ⊎ (n ≤ i)
    below_or_not i n = cases_lt i n

take-all : (xs : List (ℕ × World)) (n : ℕ) → length xs ≤ n → take n xs ≡ xs
take-all [] zero within = refl
take-all [] (suc n) within = refl
take-all (x ∷ xs) zero within = absurd (omega arith)
take-all (x ∷ xs) (suc n) within = ap (λ (l : List (ℕ × World)). x ∷ l) (take-all xs n (omega arith))

module _ (a : Addition) (done : List UpdatedWorld) (g : Graph) (is : IsAdding a done g) (are : done ≡ ready_worlds a) where
  all_long : length done ≡ length (own_worlds a)
  all_long = ap length are ∙ length-map (own_worlds a) (ready_world a)

  pub all_pushed : g ≡ added a
  all_pushed = is.graph ∙ ap (with_worlds a) all_long ∙ ap (fold (with_world a) (with_parts a)) (take-all (own_worlds a) (length (own_worlds a)) (omega arith))

  pub all_reached : IsReached a (length (own_worlds a))
  all_reached = subst (IsReached a) all_long is.fine
