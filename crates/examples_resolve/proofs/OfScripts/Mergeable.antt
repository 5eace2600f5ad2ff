-- Small merges against which no cause holds, and one that is refused for what its interfaces are under.
use Rattle.std.proofs.Common.{◌≡◌, ◌∙◌, ℕ, zero, suc, true, List, [], ◌∷◌, ◌++◌, Option, Some, None, slice_get, refl, sym, ap, subst, Contains}
use Rattle.wit_digraph.specs.facts.MemberFacts.{Contains-nil}
use Rattle.wit_sources.specs.Span.{OptionalSpan}
use Rattle.wit_data.specs.declared.interface.Interface.{Interface}
use Rattle.wit_names.specs.declared.package_name.PackageName.{PackageName}
use Rattle.wit_data.specs.declared.stability.Stability.{Stability}
use Rattle.wit_elaboration.specs.Elaboration.{graph_uses}
use Rattle.wit_graph_data.specs.declared.error_kind.ResolveErrorKind.TheVariants.{StabilityMismatch}
use Rattle.wit_graph_data.specs.declared.graph.Package.{Package}
use Rattle.wit_remap_spec.specs.FunctionMismatch.{HaveFunctionMismatch}
use Rattle.wit_graph_theory.specs.examples.TestFacts.{all_uses, falls, no_cycle, none_some, only_one}
use Rattle.wit_merge_spec.specs.Cause.{GraphsDiffer, AreJoined, IsMergeCause, MergeIsAccepted}
use Rattle.wit_merge_spec.specs.Cause as merging
use Rattle.wit_merge_spec.specs.Matches.{GraphMerge, Pair, counterpart_interface, counterpart_type, counterpart_world}
use Rattle.wit_merge_spec.specs.Merged.{joined_graph}
use Rattle.wit_merge_spec.specs.Structure.{DifferInStructure, Feature, structure, structure_within}
use Rattle.examples_resolve.specs.script.SmallGraphs.{bare, gate, gated}
use Rattle.wit_elaboration.specs.steps.Parts.{graph_package_uses}
use Rattle.wit_merge_spec.specs.steps.Parts.{StabilitiesMismatch}

no_pair : {X : Type 0} (found : ℕ → Option ℕ) (ours : List X) → Pair found [] ours → ⊥
no_pair found ours p = let is = p.from_is in cc

pub the_one : {X : Type 0} (first x : X) (k : ℕ) → slice_get (first ∷ []) k ≡ Some x → first ≡ x
the_one first x zero at = cc
the_one first x (suc k) at = cc

-- where there are no types none differ
in_front : (before after : List Feature) (x : Feature) → [] ≡ before ++ (x ∷ after) → ⊥
in_front [] after x same = cc
in_front (y ∷ before) after x same = cc

no_types : (found : ℕ → Option ℕ) (t t' : ℕ) (text : List ℕ) → DifferInStructure [] [] found t t' text → ⊥
unfolding structure structure_within
no_types found t t' text d = in_front d.first.before d.first.after d.x d.first.xs_are

-- ---- packages alone

module _ (ps : List Package) (ns : List (PackageName × ℕ)) (qs : List Package) (ms : List (PackageName × ℕ)) (offset : ℕ) where
  abbrev of_packages : GraphMerge
  of_packages = record { graph = bare ps ns; other = bare qs ms; offset = offset }

  none_joined : (from into : Stability) → AreJoined of_packages from into → ⊥
  none_joined from into (merging.types p) = no_pair (counterpart_type of_packages) [] p
  none_joined from into (merging.interfaces p) = no_pair (counterpart_interface of_packages) [] p
  none_joined from into (merging.worlds p) = no_pair (counterpart_world of_packages) [] p
  none_joined from into (merging.entries p exported i i' _ _ matched comes there) = no_pair (counterpart_world of_packages) [] p

  none_differ : (message : List ℕ) → GraphsDiffer of_packages message → ⊥
  none_differ _ (merging.interfaces p home there name text named of is told) = no_pair (counterpart_interface of_packages) [] p
  none_differ _ (merging.worlds p home there exported text of is told) = no_pair (counterpart_world of_packages) [] p
  none_differ _ (merging.types message first) = no_types (counterpart_type of_packages) first.pair.from first.pair.into first.first.is.0 first.first.is.1

  module _ (falling : all_uses (falls (λ p. p)) (graph_package_uses (joined_graph of_packages)) ≡ true) where
    pub packages_merge : MergeIsAccepted of_packages
    packages_merge _ (merging.conflict_4 span name one c) = Contains-nil c.there
    packages_merge _ (merging.package_cycle_6 home one c) = no_cycle (λ p. p) (graph_package_uses (joined_graph of_packages)) falling c.p c.q c.on_cycle
    packages_merge _ (merging.mismatch_8 from into joined apart) = none_joined from into joined
    packages_merge _ (merging.borrow_in_result_15 message one c) = Contains-nil c.moved
    packages_merge _ (merging.interface_cycle_22 message one c) = no_cycle (λ i. i) (graph_uses (joined_graph of_packages)) refl c.i c.j c.on_cycle
    packages_merge _ (merging.merge_mismatch_24 message c) = none_differ message c
    packages_merge _ (merging.offset_overflow_27 from to known past) = Contains-nil known

-- ---- one interface under a gate

module _ (f g : List ℕ) (offset : ℕ) where
  abbrev of_gates : GraphMerge
  of_gates = record { graph = gated f; other = gated g; offset = offset }

  -- the two gates alone are joined
  gates_joined : (from into : Stability) → AreJoined of_gates from into → (gate g ≡ from) × (gate f ≡ into)
  gates_joined _ _ (merging.types p) = absurd (no_pair (counterpart_type of_gates) [] p)
  gates_joined _ _ (merging.interfaces p) = (ap (λ (i : Interface). i.stability) (the_one _ p.from p.x p.from_is), ap (λ (i : Interface). i.stability) (the_one _ p.into p.x' p.into_is))
  gates_joined _ _ (merging.worlds p) = absurd (no_pair (counterpart_world of_gates) [] p)
  gates_joined _ _ (merging.entries p exported i i' from into matched comes there) = absurd (no_pair (counterpart_world of_gates) [] p)

  of_mismatch : (span : OptionalSpan) (from into : Stability) → IsMergeCause of_gates (StabilityMismatch span from into) → StabilitiesMismatch of_gates from into
  of_mismatch _ _ _ (merging.mismatch_8 from into joined apart) = record { joined = joined; apart = apart }

  -- 8 is told of these, in this order
  pub told_gates : (span : OptionalSpan) (from into : Stability) → IsMergeCause of_gates (StabilityMismatch span from into) → (gate g ≡ from) × (gate f ≡ into)
  told_gates span from into c = gates_joined from into (of_mismatch span from into c).joined

  -- where they differ it is told
  pub gates_apart : (gate g ≡ gate f → ⊥) → IsMergeCause of_gates (StabilityMismatch None (gate g) (gate f))
  gates_apart apart =
      merging.mismatch_8 (gate g) (gate f) (merging.interfaces (record { x = 0; from = _; x' = 0; into = _; from_is = refl; matched = refl; into_is = refl }))
      (record { from_known = λ same. cc; into_known = λ same. cc; differ = apart })

  no_function : (from into : Interface) (k : ℕ) (text : List ℕ) → slice_get (gated g).interfaces k ≡ Some from → HaveFunctionMismatch from into text → ⊥
  no_function from into k text at have = Contains-nil (subst (λ (i : Interface). Contains i.functions (have.name, have.function)) (sym (the_one _ from k at)) have.has)

  agree : (message : List ℕ) → GraphsDiffer of_gates message → ⊥
  agree _ (merging.interfaces p home there name text named of is told) = no_function p.from p.into p.x text p.from_is told
  agree _ (merging.worlds p home there exported text of is told) = no_pair (counterpart_world of_gates) [] p
  agree _ (merging.types message first) = no_types (counterpart_type of_gates) first.pair.from first.pair.into first.first.is.0 first.first.is.1

  module _ (same : gate g ≡ gate f) where
    join : (from into : Stability) → StabilitiesMismatch of_gates from into → ⊥
    join from into c = let gates = gates_joined from into c.joined in c.apart.differ (sym gates.0 ∙ (same ∙ gates.1))

    pub gates_merge : MergeIsAccepted of_gates
    gates_merge _ (merging.conflict_4 span name one c) = Contains-nil c.there
    gates_merge _ (merging.package_cycle_6 home one c) = no_cycle (λ p. p) (graph_package_uses (joined_graph of_gates)) refl c.p c.q c.on_cycle
    gates_merge _ (merging.mismatch_8 from into joined apart) = join from into (record { joined = joined; apart = apart })
    gates_merge _ (merging.borrow_in_result_15 message one c) = Contains-nil c.moved
    gates_merge _ (merging.interface_cycle_22 message one c) = no_cycle (λ i. i) (graph_uses (joined_graph of_gates)) refl c.i c.j c.on_cycle
    gates_merge _ (merging.merge_mismatch_24 message c) = agree message c
    gates_merge _ (merging.offset_overflow_27 from to known past) = none_some _ (only_one _ _ known)
