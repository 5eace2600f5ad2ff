-- Two graphs as one can be checked for cycles and elaborated, and what holds against that holds against the merge.
use Rattle.std.proofs.Common.{◌≡◌, ℕ, List, IsSome, Contains, get_or, length, refl, sym, subst, arith}
use Rattle.std.proofs.lemmas.List.{length-map}
use Rattle.std.proofs.lemmas.List.Elements.{Contains-get_or}
use Rattle.wit_digraph.specs.Relation.{direct}
use Rattle.wit_data.specs.Ownership.{IsNamed}
use Rattle.wit_data.specs.Uses.{interface_uses}
use Rattle.wit_elaboration.specs.Elaboration.{graph_uses}
use Rattle.wit_elaboration.specs.Sound.{HasSoundEntries}
use Rattle.wit_elaboration.specs.facts.SoundFacts.{named_within}
use Rattle.wit_elaboration.specs.Valid.{IsValid}
use Rattle.wit_graph_data.specs.declared.graph.Graph.{Graph}
use Rattle.wit_graph_data.specs.declared.error_kind.ResolveErrorKind.{ResolveErrorKind}
use Rattle.wit_graph_theory.specs.facts.NamedUses.{used_is_named}
use Rattle.wit_graph_theory.specs.facts.PackageCycleFacts.{used_package}
use Rattle.wit_merge_spec.specs.Cause.{HasNoMismatch, IsMergeCause, MergeIsAccepted, MergeReturnsBorrow, borrow_in_result_15, conflict_4, interface_cycle_22, merge_mismatch_24, mismatch_8, offset_overflow_27, package_cycle_6}
use Rattle.wit_merge_spec.specs.Matches.{GraphMerge}
use Rattle.wit_merge_spec.specs.Merged.{joined_graph}
use Rattle.wit_merge_laws.specs.facts.JoinedGood.{aliases, in_order}
use Rattle.wit_merge_laws.specs.facts.NoCycles.{joined_types_acyclic}
use Rattle.wit_merge_laws.specs.facts.PackagesStand.{interfaces_in_tables}
use Rattle.wit_transform.specs.steps.Reasons.{CanBeElaborated, ElaborationCause}
use Rattle.wit_transform.specs.steps.Reasons as settles
use Rattle.wit_merge.specs.steps.MergeSteps.{DoAgree}
use Rattle.wit_merge.proofs.IdTexts.{id_of_named}
use Rattle.wit_elaboration.specs.steps.Parts.{graph_package_uses}

module _ (m : GraphMerge) (valid : IsValid m.graph) (valid_other : IsValid m.other) (one : HasNoMismatch m) where
  abbrev g : Graph
  g = joined_graph m

  uses_long : length (graph_uses g) ≡ length g.interfaces
  uses_long = length-map g.interfaces (interface_uses g.types)

  named : (i j : ℕ) → Contains (direct (graph_uses g) i) j → IsNamed g.interfaces j
  named i j has = used_is_named g.types g.interfaces (aliases m valid valid_other one) i j has

  pub can_settle : CanBeElaborated g
  can_settle = record {
    types_there = (joined_types_acyclic m valid valid_other one).in_range;
    interfaces_there = λ i k d inside.
        let has = Contains-get_or (direct (graph_uses g) i) k d inside in
        let within = named_within g.interfaces (get_or (direct (graph_uses g) i) k d) (named i (get_or (direct (graph_uses g) i) k d) has) in
        omega (arith, within, uses_long);
    packages_there = λ p k d inside.
        used_package g.types g.interfaces g.packages (interfaces_in_tables m valid valid_other) g.worlds p (get_or (direct (graph_package_uses g) p) k d) (Contains-get_or (direct (graph_package_uses g) p) k d inside);
    used_named = λ i j has.
        let id = id_of_named g.packages g.interfaces (interfaces_in_tables m valid valid_other) j (named i j has) in
        subst IsSome (sym id.1) refl;
    cycles_named = λ t k path leads. absurd ((joined_types_acyclic m valid valid_other one).no_cycle t k path leads);
    listed = λ v world at. subst (λ (n : ℕ). HasSoundEntries g.types n world.imports world.exports) uses_long (in_order m valid valid_other one v world at);
  }

  -- ---- reasons

  pub cause_from : (e : ResolveErrorKind) → ElaborationCause g e → IsMergeCause m e
  cause_from e (settles.conflict_4 span name is) = conflict_4 span name one is
  cause_from e (settles.package_cycle_6 home is) = package_cycle_6 home one is
  cause_from e (settles.interface_cycle_22 message is) = interface_cycle_22 message one is
  cause_from e (settles.type_cycle_23 message is) = absurd ((joined_types_acyclic m valid valid_other one).no_cycle is.t is.u is.on_cycle.leads_back.0 (is.on_cycle.is_used, is.on_cycle.leads_back.1))

-- where no cause holds against the steps, no cause holds against the merge
pub can_merge : (m : GraphMerge) → DoAgree m → ((message : List ℕ) → MergeReturnsBorrow m message → ⊥) → ((e : ResolveErrorKind) → ElaborationCause (joined_graph m) e → ⊥) → MergeIsAccepted m
can_merge m agree none settled e (conflict_4 span name whole is) = settled e (settles.conflict_4 span name is)
can_merge m agree none settled e (package_cycle_6 home whole is) = settled e (settles.package_cycle_6 home is)
can_merge m agree none settled e (mismatch_8 from into joined apart) = agree.stabilities from into (record { joined = joined; apart = apart })
can_merge m agree none settled e (borrow_in_result_15 message whole is) = none message is
can_merge m agree none settled e (interface_cycle_22 message whole is) = settled e (settles.interface_cycle_22 message is)
can_merge m agree none settled e (merge_mismatch_24 message is) = agree.one message is
can_merge m agree none settled e (offset_overflow_27 from to known past) = agree.spans (record { from = from; to = to; known = known; past = past })
