use Rattle.std.proofs.Common.{◌≡◌, ◌++◌, filter}
use Rattle.std.specs.List.{enumerate_from}
use Rattle.std.specs.Vec.Iter.{into_iter_items}
use Rattle.wit_remap_spec.specs.Selected.{selected_with_index}
use Rattle.wit_link_spec.specs.steps.NewThings.{is_new}
use Rattle.wit_remap.proofs.part.selected_with_index.Given as goal

-- those so far, and those to come
abbrev pub invariant-loop-index : goal.invariant-loop-index
invariant-loop-index g l =
    l.selected ++ filter (λ e. is_new l.first l.new_ids e.0) (enumerate_from l.index-iterator.count (into_iter_items l.index-iterator.iter))
    ≡ selected_with_index (is_new l.first l.new_ids) l.fn.items
