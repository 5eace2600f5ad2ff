use Rattle.std.proofs.Common.{◌∙◌, ap, arith, length, refl, slice_get, sym}
use Rattle.std.specs.Map.{values_of}
use Rattle.indexmap.specs.IndexMap.{set_value_at}
use Rattle.wit_values.proofs.NamesLemmas.{length-named, set_value-named, values-named}
use Rattle.wit_values.proofs.names.Names.value_at_mut.Goals as goal

pub value_at_mut-requires : goal.value_at_mut-requires
value_at_mut-requires g c = omega (arith, c.requires, ap length c.self.view_is, length-named c.self.inside.inner)

pub returns : goal.returns
returns g c =
    let es = c.self.inside.inner in (
      (refl, λ w. set_value-named es c.args.index w ∙ ap (λ l. set_value_at l c.args.index w) c.self.view_is),
      record {
        writes_back = tt;
        value = ap (λ l. slice_get (values_of l) c.args.index) (sym c.self.view_is) ∙ ap (λ l. slice_get l c.args.index) (values-named es) ∙ c.value_at_mut.ensures.value;
      },
    )
