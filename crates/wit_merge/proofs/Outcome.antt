-- What is handed to the last steps of a merge, and what its refusals and its end tell.
use Rattle.std.proofs.Common.{◌≡◌, ◌∙◌, ◌⊎◌, inl, inr, ℕ, ◌<◌, ◌^◌, List, sym, ap, subst}
use Rattle.wit_remap.specs.steps.Fits.{PartsFit}
use Rattle.wit_remap.specs.facts.FittingFacts.{fit_or_pass, parts_fit}
use Rattle.wit_elaboration.specs.Valid.{IsValid}
use Rattle.wit_graph_data.specs.declared.graph.Graph.{Graph}
use Rattle.wit_graph_data.specs.declared.error_kind.ResolveErrorKind.{ResolveErrorKind}
use Rattle.wit_graph_data.specs.declared.error_kind.ResolveErrorKind.TheVariants.{OutOfMemory}
use Rattle.wit_elaboration.specs.AllElaborated.{all_elaborated}
use Rattle.wit_merge_spec.specs.Cause.{HasNoMismatch, IsMergeCause, MergeIsAccepted, MergeReturnsBorrow, borrow_in_result_15}
use Rattle.wit_merge_spec.specs.Matches.{GraphMerge}
use Rattle.wit_merge_spec.specs.Merged.{joined_graph, merged}
use Rattle.wit_transform.specs.steps.Reasons.{CanBeElaborated, ElaborationCause}
use Rattle.wit_merge.specs.steps.MergeSteps.{DoAgree, IsBorrowError}
use Rattle.wit_merge.proofs.Elaborates.{can_merge, can_settle, cause_from}
use Rattle.wit_merge_spec.specs.steps.Parts.{graph_spans, MergeOverflows}

-- where no span passes the end all fit
pub all_fit : (m : GraphMerge) → m.offset < 2 ^ 32 → (MergeOverflows m → ⊥) → PartsFit m.offset m.other.types m.other.interfaces m.other.worlds
all_fit m small none =
    elim (fit_or_pass m.offset small (graph_spans m.other)) [
      | inl all ↦ parts_fit m.offset m.other.types m.other.interfaces m.other.worlds all
      | inr passes ↦ absurd (none (record { from = passes.0; to = passes.1; known = passes.2; past = passes.3 }))
    ]

module _ (m : GraphMerge) where
  -- a refusal of a merge: for want of memory, or for a written cause
  abbrev IsRefusal : ResolveErrorKind → Type 0
  IsRefusal e = (e ≡ OutOfMemory) ⊎ IsMergeCause m e

  pub borrow_told : HasNoMismatch m → (e : ResolveErrorKind) → (e ≡ OutOfMemory) ⊎ IsBorrowError m e → IsRefusal e
  borrow_told one e (inl memory) = inl memory
  borrow_told one e (inr told) = inr (subst (IsMergeCause m) (sym told.is) (borrow_in_result_15 told.message one told.returns))

  module _ (valid : IsValid m.graph) (valid_other : IsValid m.other) (one : HasNoMismatch m) (joined : Graph) (is : joined ≡ joined_graph m) where
    pub settles : CanBeElaborated joined
    settles = subst CanBeElaborated (sym is) (can_settle m valid valid_other one)

    pub settle_told : (e : ResolveErrorKind) → (e ≡ OutOfMemory) ⊎ ElaborationCause joined e → IsRefusal e
    settle_told e (inl memory) = inl memory
    settle_told e (inr cause) = inr (cause_from m valid valid_other one e (subst (λ (g : Graph). ElaborationCause g e) is cause))

    -- no cause holds against what came to its end
    pub nothing_speaks : DoAgree m → ((message : List ℕ) → MergeReturnsBorrow m message → ⊥) → ((e : ResolveErrorKind) → ElaborationCause joined e → ⊥) → MergeIsAccepted m
    nothing_speaks agree none settled = can_merge m agree none (λ e cause. settled e (subst (λ (g : Graph). ElaborationCause g e) (sym is) cause))

  -- it is the graph with the other one
  pub is_merged : (joined made : Graph) → joined ≡ joined_graph m → made ≡ all_elaborated joined → made ≡ merged m
  is_merged joined made is settled = settled ∙ ap all_elaborated is
