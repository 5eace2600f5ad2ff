use Rattle.std.proofs.Common.{◌∙◌, ap, refl, slice_get, sym}
use Rattle.std.specs.Map.{values_of}
use Rattle.indexmap.specs.IndexMap.{set_value_at}
use Rattle.wit_values.proofs.PairsLemmas.{pairs-with_value, apart-with_value}
use Rattle.wit_values.proofs.table.Table.value_at_mut.Goals as goal

pub invariant_of-self-lent : goal.invariant_of-self-lent
invariant_of-self-lent g c w = apart-with_value g.K.PartialEq.eq c.self.inside.pairs c.args.index w c.self.invariant

pub returns : goal.returns
returns g c =
    let es = c.self.inside.pairs in (
      (refl, λ w. pairs-with_value es c.args.index w ∙ ap (λ l. set_value_at l c.args.index w) c.self.view_is),
      record { writes_back = tt; value = ap (λ l. slice_get (values_of l) c.args.index) (sym c.self.view_is) ∙ c.value_at_mut.ensures.value },
    )
