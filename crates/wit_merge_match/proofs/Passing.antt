-- A graph fits exactly where no span of it passes the end.
use Rattle.std.proofs.Common.{inl, inr, ℕ, ◌+◌, ◌<◌, ◌≤◌, ◌^◌, Some, arith}
use Rattle.wit_graph_data.specs.declared.graph.Graph.{Graph}
use Rattle.wit_graph_theory.specs.facts.ListFacts.{place_of}
use Rattle.wit_remap.specs.steps.Fits.{Fits, PartsFit}
use Rattle.wit_remap.specs.facts.FittingFacts.{all_parts, fit_or_pass, parts_fit}
use Rattle.wit_merge_match.specs.Differing.{merge_of_graphs_by}
use Rattle.wit_merge_spec.specs.steps.Parts.{graph_spans, MergeOverflows}

module _ (offset : ℕ) (g : Graph) where
  -- where it fits, none does
  pub none_passes : PartsFit offset g.types g.interfaces g.worlds → (ours : Graph) → MergeOverflows (merge_of_graphs_by ours g offset) → ⊥
  none_passes fits ours passes =
      let place = place_of (graph_spans g) (Some (passes.from, passes.to)) passes.known in
      let below : Fits offset (Some (passes.from, passes.to)) = all_parts offset g.types g.interfaces g.worlds fits place.0 (Some (passes.from, passes.to)) place.1 in
      let above : 2 ^ 32 ≤ passes.to + offset = passes.past in
      omega (arith, below, above)

  -- where it doesn't, one does
  pub one_passes : offset < 2 ^ 32 → (PartsFit offset g.types g.interfaces g.worlds → ⊥) → (ours : Graph) → MergeOverflows (merge_of_graphs_by ours g offset)
  one_passes small fits_not ours =
      elim (fit_or_pass offset small (graph_spans g)) [
        | inl all ↦ absurd (fits_not (parts_fit offset g.types g.interfaces g.worlds all))
        | inr passes ↦ record { from = passes.0; to = passes.1; known = passes.2; past = passes.3 }
      ]
