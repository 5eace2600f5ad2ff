-- Worlds that are elaborated one after another.
use Rattle.std.proofs.Common.{◌≡◌, ◌⊎◌, inl, inr, ℕ, List, [], ◌∷◌, ◌++◌, Option, refl, ap, subst, Contains}
use Rattle.std.proofs.lemmas.List.Elements.{Contains-append_cases}
use Rattle.wit_digraph.specs.facts.MemberFacts.{Contains-cons_cases, Contains-nil}
use Rattle.wit_data.specs.declared.world.World.{World}
use Rattle.wit_elaboration.specs.Elaboration.{IsConflictError, graph_uses}
use Rattle.wit_elaboration.specs.steps.Elaboration.{IsRefusedWorld}
use Rattle.wit_elaboration.specs.Imported.{HasTransitiveConflict}
use Rattle.wit_graph_data.specs.declared.graph.Graph.{Graph}
use Rattle.wit_graph_data.specs.declared.error_kind.ResolveErrorKind.{ResolveErrorKind}
use Rattle.wit_graph_data.specs.declared.error_kind.ResolveErrorKind.TheVariants.{PackageNotFound, WorldNotFound, InterfaceNotFound, InvalidTransitiveDependency, DuplicatePackage, PackageCycle, ItemShadowing, StabilityMismatch, Semantic, OffsetOverflow, OutOfMemory}
use Rattle.wit_merge.specs.steps.Behind.{AreClear}

-- none of them is in conflict, nor is one more
pub clear_more : (g : Graph) (worlds : List World) (world : World) → AreClear g worlds → (HasTransitiveConflict (graph_uses g) world.exports → ⊥) → AreClear g (worlds ++ world ∷ [])
clear_more g worlds world clear here w has =
    elim (Contains-append_cases worlds (world ∷ []) w has) [
      | inl before ↦ clear w before
      | inr last ↦
          elim (Contains-cons_cases world w [] last) [ inl same ↦ subst (λ (x : World). HasTransitiveConflict (graph_uses g) x.exports → ⊥) same here | inr none ↦ absurd (Contains-nil none) ]
    ]

-- the error of one of them is theirs
pub refused_one : (g : Graph) (worlds : List World) (world : World) (e : ResolveErrorKind) → Contains worlds world → (e ≡ OutOfMemory) ⊎ IsConflictError g world e → (e ≡ OutOfMemory) ⊎ IsRefusedWorld (record g { worlds = worlds }) e
refused_one g worlds world e there (inl none) = inl none
refused_one g worlds world e there (inr cause) = inr (record {
  world = world;
  there = there;
  conflict = cause.2;
  name = cause.0;
  name_is = cause.3;
  error_is = cause.1;
})
