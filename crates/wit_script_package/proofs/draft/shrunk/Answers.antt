use Rattle.std.proofs.Common.{List, ap, ◌∙◌}
use Rattle.indexmap.specs.IndexMap.{set_value_at}
use Rattle.wit_data.specs.Foreign.{ForeignItem}
use Rattle.wit_script_package.proofs.Changing.{set-value-same}
use Rattle.wit_script_package.proofs.draft.shrunk.Goals as goal

pub loop-at-preserved : goal.loop-at-preserved
loop-at-preserved c = record {
  same =
      ap (λ (items : List ForeignItem). set_value_at c.loop-at.deps c.loop-at.at items) c.shrink.ensures
      ∙ set-value-same c.loop-at.deps c.loop-at.at c.value_at_mut.result.now c.value_at_mut.ensures.value
      ∙ c.loop-at.invariant.same;
  end = c.loop-at.invariant.end;
}
