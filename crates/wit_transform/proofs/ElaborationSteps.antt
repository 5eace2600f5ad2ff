-- A graph in which nothing depends on itself: its reasons are those of its worlds.
use Rattle.std.proofs.Common.{◌≡◌, ◌⊎◌, inl, inr, ℕ, List, Result, Ok, Err, refl, sym, subst}
use Rattle.std.specs.Prelude.{IfErr, OnOk}
use Rattle.std.proofs.lemmas.Option.{slice_get_read}
use Rattle.wit_digraph.specs.Cycles.{IsOnCycle}
use Rattle.wit_digraph.specs.Relation.{IsAcyclic}
use Rattle.wit_data.specs.Each.{Each}
use Rattle.wit_data.specs.Kind.{type_references}
use Rattle.wit_data.specs.declared.world.World.{World}
use Rattle.wit_elaboration.specs.Elaboration.{graph_uses}
use Rattle.wit_elaboration.specs.steps.Elaboration.{IsRefusedWorld}
use Rattle.wit_elaboration.specs.Imported.{HasTransitiveConflict}
use Rattle.wit_graph_data.specs.declared.graph.Graph.{Graph}
use Rattle.wit_graph_data.specs.declared.error_kind.ResolveErrorKind.{ResolveErrorKind}
use Rattle.wit_graph_data.specs.declared.error_kind.ResolveErrorKind.TheVariants.{OutOfMemory}
use Rattle.wit_transform.specs.steps.Reasons.{ElaborationCause, conflict_4, interface_cycle_22, package_cycle_6, type_cycle_23}
use Rattle.wit_elaboration.specs.steps.Parts.{graph_package_uses}

-- nothing depends on itself
pub record HasNoCycle (g : Graph) : Type 0 where
  pub types : IsAcyclic (type_references g.types)
  pub interfaces : IsAcyclic (graph_uses g)
  pub packages : IsAcyclic (graph_package_uses g)

on_none : (uses : List (List ℕ)) → IsAcyclic uses → (i j : ℕ) → IsOnCycle uses i j → ⊥
on_none uses acyclic i j on = acyclic.no_cycle i j on.leads_back.0 (on.is_used, on.leads_back.1)

module _ (g : Graph) (none : HasNoCycle g) where
  -- the error of a world in conflict is a reason
  world_told : (e : ResolveErrorKind) → IsRefusedWorld g e → ElaborationCause g e
  world_told e is = subst (ElaborationCause g) (sym is.error_is) (conflict_4 is.world.span is.name (record {
    interfaces = λ message uses. on_none (graph_uses g) none.interfaces uses.i uses.j uses.on_cycle;
    types = λ message refers. on_none (type_references g.types) none.types refers.t refers.u refers.on_cycle;
    world = is.world;
    there = is.there;
    conflict = is.conflict;
    name_is = is.name_is;
    span_is = refl;
  }))

  pub refusal_told : {T : Type 0} (r : Result T ResolveErrorKind) → IfErr r (λ e. (e ≡ OutOfMemory) ⊎ IsRefusedWorld g e) → IfErr r (λ e. (e ≡ OutOfMemory) ⊎ ElaborationCause g e)
  refusal_told (Ok x) is = tt
  refusal_told (Err e) is = elim is [ inl memory ↦ inl memory | inr world ↦ inr (world_told e world) ]

  -- where no world is in conflict no reason holds
  no_reason : Each (λ (world : World). HasTransitiveConflict (graph_uses g) world.exports → ⊥) g.worlds → (e : ResolveErrorKind) → ElaborationCause g e → ⊥
  no_reason fine _ (conflict_4 span name is) = fine is.there.0 is.world (slice_get_read g.worlds _ is.there.0 is.world refl is.there.1 (sym is.there.2)) is.conflict
  no_reason fine _ (package_cycle_6 home is) = on_none (graph_package_uses g) none.packages is.p is.q is.on_cycle
  no_reason fine _ (interface_cycle_22 message is) = on_none (graph_uses g) none.interfaces is.i is.j is.on_cycle
  no_reason fine _ (type_cycle_23 message is) = on_none (type_references g.types) none.types is.t is.u is.on_cycle

  pub reason_refuses : {T : Type 0} (r : Result T ResolveErrorKind) → OnOk r (Each (λ (world : World). HasTransitiveConflict (graph_uses g) world.exports → ⊥) g.worlds) → (e : ResolveErrorKind) → ElaborationCause g e → OnOk r ⊥
  reason_refuses (Ok x) fine e reason = no_reason fine e reason
  reason_refuses (Err e') fine e reason = tt
