-- Includes of a world, one after another, and the world finished.
use Rattle.std.proofs.Common.{◌≡◌, ◌∙◌, ◌⊎◌, inl, inr, ℕ, ◌+◌, ◌<◌, ◌≤◌, zero, suc, List, [], ◌∷◌, fold, length, take, Some, slice_get, refl, sym, ap, subst, arith, below_more}
use Rattle.std.proofs.lemmas.List.Sums.{fold-append}
use Rattle.std.proofs.lemmas.Option.{slice_get_within}
use Rattle.wit_values.specs.facts.Lists.{take-next_at}
use Rattle.wit_data.specs.declared.world.World.{World}
use Rattle.wit_data.specs.declared.world.WorldInclude.{WorldInclude}
use Rattle.wit_digraph.specs.Relation.{IsAcyclic}
use Rattle.wit_elaboration.specs.Elaboration.{graph_uses}
use Rattle.wit_elaboration.specs.Sound.{HasSoundEntries}
use Rattle.wit_labels.specs.Setters.{setters_placed}
use Rattle.wit_graph_data.specs.Error.{NoCause}
use Rattle.wit_graph_data.specs.declared.graph.Graph.{Graph}
use Rattle.wit_graph_data.specs.declared.error_kind.ResolveErrorKind.{ResolveErrorKind}
use Rattle.wit_graph_data.specs.declared.error_kind.ResolveErrorKind.TheVariants.{OutOfMemory}
use Rattle.wit_graph_theory.specs.facts.ListFacts.{same_at}
use Rattle.wit_link_spec.specs.Include.{PartiallyLinked, lists_of, with_entry_lists, with_several}
use Rattle.wit_link_spec.specs.WorldReasons.{IsAcceptedAt, IsCauseOfInclude, IsFinishCause, IsWorldCause, as_finished, at_include}
use Rattle.wit_remap.specs.Grown.{Grown}
use Rattle.wit_remap.specs.facts.GrownFacts.{Begins-more, Begins-same, Grown-same, Grown-then}
use Rattle.wit_link_include.specs.steps.Included.{CanBeAdded, CanBeIncluded, CanIncludeAll, HaveOwnKeys, StopsAtInclude}
use Rattle.wit_link_include.specs.facts.SeveralFacts.{several_worlds}
use Rattle.wit_link_include.proofs.OwnKeys.{one_own}
use Rattle.wit_link_spec.specs.steps.Parts.{before_includes, with_finished, with_including, with_one}

-- ---- the state of including

-- so many includes are made, and no cause holds against them
pub record IsBeginning (home : ℕ) (g : Graph) (world : World) (includes : List WorldInclude) (n : ℕ) (g' : Graph) (world' : World) : Type 0 where
  pub graph : g' ≡ (with_several home g world (take n includes)).graph
  pub world_is : world' ≡ with_entry_lists world (with_several home g world (take n includes)).lists
  pub fine : (i : ℕ) → i < n → IsAcceptedAt home g world includes i
  pub own_keys : HaveOwnKeys (with_several home g world (take n includes)).lists
  pub grown : Grown g g'

pub beginning-none : (home : ℕ) (g : Graph) (world : World) (includes : List WorldInclude) → HaveOwnKeys (lists_of world) → IsBeginning home g world includes 0 g world
beginning-none home g world includes own = record {
  graph = refl;
  world_is = refl;
  fine = λ i before. absurd (omega (arith, before));
  own_keys = own;
  grown = Grown-same g;
}

module _ (home : ℕ) (g : Graph) (world : World) (includes : List WorldInclude) (n : ℕ) (g' : Graph) (world' : World) (is : IsBeginning home g world includes n g' world') where
  -- what is begun, as the graph and the world show it
  begun_is : before_includes g' world' ≡ with_several home g world (take n includes)
  begun_is =
      ap (λ (h : Graph). let b : PartiallyLinked = record { graph = h; lists = lists_of world' } in b) is.graph
      ∙ ap (λ (w : World). let b : PartiallyLinked = record { graph = (with_several home g world (take n includes)).graph; lists = lists_of w } in b) is.world_is

  module _ (can : CanIncludeAll home g world includes) (include : WorldInclude) (at : slice_get includes n ≡ Some include) where
    pub include_there : include.id < length g'.worlds
    include_there =
        let same : g'.worlds ≡ g.worlds = ap (λ (h : Graph). h.worlds) is.graph ∙ several_worlds home (take n includes) (before_includes g world) in
        subst (λ (ws : List World). include.id < length ws) (sym same) (can.there n include at is.fine)

    begun_can : CanBeIncluded (with_several home g world (take n includes)) include
    begun_can = can.each n include at is.fine

    pub include_can : CanBeIncluded (before_includes g' world') include
    include_can = subst (λ (b : PartiallyLinked). CanBeIncluded b include) (sym begun_is) begun_can

    pub include_own : HaveOwnKeys (lists_of world')
    include_own = subst (λ (b : PartiallyLinked). HaveOwnKeys b.lists) (sym begun_is) is.own_keys

    -- one include more
    more_is : with_several home g world (take (n + 1) includes) ≡ with_one home (with_several home g world (take n includes)) include
    more_is =
        ap (fold (with_one home) (before_includes g world)) (take-next_at includes n include at) ∙ fold-append (with_one home) (before_includes g world) (take n includes) (include ∷ [])

    pub beginning-next : (g'' : Graph) (world'' : World) → g'' ≡ (with_one home (before_includes g' world') include).graph → world'' ≡ with_entry_lists world' (with_one home (before_includes g' world') include).lists
        → NoCause (IsCauseOfInclude home (before_includes g' world') include) → Grown g' g'' → IsBeginning home g world includes (n + 1) g'' world''
    beginning-next g'' world'' graph_is new_is fine grown =
        let one : with_one home (before_includes g' world') include ≡ with_several home g world (take (n + 1) includes) = ap (λ (b : PartiallyLinked). with_one home b include) begun_is ∙ sym more_is in
        record {
          graph = graph_is ∙ ap (λ (b : PartiallyLinked). b.graph) one;
          world_is = new_is ∙ ap (λ (b : PartiallyLinked). with_entry_lists world' b.lists) one ∙ ap (λ (w : World). with_entry_lists w (with_several home g world (take (n + 1) includes)).lists) is.world_is;
          fine = below_more (λ i. IsAcceptedAt home g world includes i) n is.fine
              (λ other there. subst (λ (x : WorldInclude). NoCause (IsCauseOfInclude home (with_several home g world (take n includes)) x)) (same_at includes n n include other refl at there)
              (subst (λ (b : PartiallyLinked). NoCause (IsCauseOfInclude home b include)) begun_is fine));
          own_keys = subst (λ (b : PartiallyLinked). HaveOwnKeys b.lists) (sym more_is) (one_own home (with_several home g world (take n includes)) include begun_can is.own_keys);
          grown = Grown-then g g' g'' is.grown grown;
        }

    -- a refusal of this one
    pub stops_here : (kind : ResolveErrorKind) → (kind ≡ OutOfMemory) ⊎ IsCauseOfInclude home (before_includes g' world') include kind
        → (kind ≡ OutOfMemory) ⊎ ((j : ℕ) × StopsAtInclude home g world includes j kind)
    stops_here kind (inl memory) = inl memory
    stops_here kind (inr stop) =
        inr (
          n,
          record {
            include = include;
            is = at;
            earlier = is.fine;
            cause = subst (λ (b : PartiallyLinked). IsCauseOfInclude home b include kind) begun_is stop;
          },
        )

  -- all of them
  take-all : length includes ≤ n → take n includes ≡ includes
  take-all = every includes n
    where
      every : (xs : List WorldInclude) (m : ℕ) → length xs ≤ m → take m xs ≡ xs
      every [] zero within = refl
      every [] (suc m) within = refl
      every (x ∷ xs) zero within = absurd (omega arith)
      every (x ∷ xs) (suc m) within = ap (λ (l : List WorldInclude). x ∷ l) (every xs m (omega arith))

  pub all_graph : length includes ≤ n → g' ≡ (with_several home g world includes).graph
  all_graph reached = is.graph ∙ ap (λ (l : List WorldInclude). (with_several home g world l).graph) (take-all reached)

  pub all_world : length includes ≤ n → world' ≡ with_entry_lists world (with_several home g world includes).lists
  all_world reached = is.world_is ∙ ap (λ (l : List WorldInclude). with_entry_lists world (with_several home g world l).lists) (take-all reached)

  pub all_fine : length includes ≤ n → (j : ℕ) → IsAcceptedAt home g world includes j
  all_fine reached j include at =
      let within : j < length includes = slice_get_within includes j include at in
      is.fine j (omega arith) include at

-- ---- the world, finished

pub world_added : (home : ℕ) (g : Graph) (world : World) (includes : List WorldInclude) (g' new : Graph) (world' : World) → g' ≡ (with_several home g world includes).graph
    → world' ≡ with_entry_lists world (with_several home g world includes).lists → new ≡ with_finished g' world' → new ≡ with_including home g world includes
world_added home g world includes g' new world' graph_is world_is is =
    is ∙ ap (λ (h : Graph). with_finished h world') graph_is ∙ ap (with_finished (with_several home g world includes).graph) world_is

pub world_fine : (home : ℕ) (g : Graph) (world : World) (includes : List WorldInclude) (g' : Graph) (world' : World) → g' ≡ (with_several home g world includes).graph
    → world' ≡ with_entry_lists world (with_several home g world includes).lists → ((j : ℕ) → IsAcceptedAt home g world includes j) → NoCause (IsFinishCause g' world') → NoCause (IsWorldCause home g world includes)
world_fine home g world includes g' world' graph_is world_is fine can kind (at_include j include is earlier why) = fine j include is kind why
world_fine home g world includes g' world' graph_is world_is fine can kind (as_finished accepted is) =
    can kind
    (subst (λ (h : Graph). IsFinishCause h world' kind) (sym graph_is) (subst (λ (w : World). IsFinishCause (with_several home g world includes).graph w kind) (sym world_is) is))

pub include_stops : (home : ℕ) (g : Graph) (world : World) (includes : List WorldInclude) (kind : ResolveErrorKind) → (kind ≡ OutOfMemory) ⊎ ((j : ℕ) × StopsAtInclude home g world includes j kind)
    → (kind ≡ OutOfMemory) ⊎ IsWorldCause home g world includes kind
include_stops home g world includes kind (inl memory) = inl memory
include_stops home g world includes kind (inr stop) = inr (at_include stop.0 stop.1.include stop.1.is stop.1.earlier stop.1.cause)

pub finishing_stops : (home : ℕ) (g : Graph) (world : World) (includes : List WorldInclude) (g' : Graph) (world' : World) (kind : ResolveErrorKind) → g' ≡ (with_several home g world includes).graph
    → world' ≡ with_entry_lists world (with_several home g world includes).lists → ((j : ℕ) → IsAcceptedAt home g world includes j) → (kind ≡ OutOfMemory) ⊎ IsFinishCause g' world' kind
    → (kind ≡ OutOfMemory) ⊎ IsWorldCause home g world includes kind
finishing_stops home g world includes g' world' kind graph_is world_is fine (inl memory) = inl memory
finishing_stops home g world includes g' world' kind graph_is world_is fine (inr is) =
    inr (as_finished fine (subst (λ (w : World). IsFinishCause (with_several home g world includes).graph w kind) world_is (subst (λ (h : Graph). IsFinishCause h world' kind) graph_is is)))

-- a graph with a finished world more has grown
pub finished_grown : (g : Graph) (world : World) → Grown g (with_finished g world)
finished_grown g world = record {
  types = Begins-same g.types;
  interfaces = Begins-same g.interfaces;
  worlds = Begins-more g.worlds _;
  packages = Begins-same g.packages;
  package_names = Begins-same g.package_names;
}

-- what can be finished, as the graph and the world show it
pub begun_acyclic : (home : ℕ) (g : Graph) (world : World) (includes : List WorldInclude) (g' : Graph) → CanBeAdded home g world includes → g' ≡ (with_several home g world includes).graph → ((j : ℕ) → IsAcceptedAt home g world includes j)
    → IsAcyclic (graph_uses g')
begun_acyclic home g world includes g' can graph_is fine = subst (λ (h : Graph). IsAcyclic (graph_uses h)) (sym graph_is) (can.finishes fine).graph.uses

pub begun_listed : (home : ℕ) (g : Graph) (world : World) (includes : List WorldInclude) (g' : Graph) (world' : World) → CanBeAdded home g world includes → g' ≡ (with_several home g world includes).graph
    → world' ≡ with_entry_lists world (with_several home g world includes).lists → ((j : ℕ) → IsAcceptedAt home g world includes j) → HasSoundEntries g'.types (length g'.interfaces) (setters_placed world'.imports) (setters_placed world'.exports)
begun_listed home g world includes g' world' can graph_is world_is fine =
    subst (λ (h : Graph). HasSoundEntries h.types (length h.interfaces) (setters_placed world'.imports) (setters_placed world'.exports)) (sym graph_is)
    (subst (λ (w : World). HasSoundEntries (with_several home g world includes).graph.types (length (with_several home g world includes).graph.interfaces) (setters_placed w.imports) (setters_placed w.exports)) (sym world_is) (can.finishes fine).listed)
