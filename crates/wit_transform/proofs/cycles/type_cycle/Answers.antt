use Rattle.std.proofs.Common.{◌∙◌, ◌<◌, ap, get_or, length, refl, arith}
use Rattle.std.proofs.lemmas.List.Elements.{Contains-get_or}
use Rattle.std.proofs.lemmas.Option.{slice_get_read}
use Rattle.wit_data.specs.declared.types.TypeDef.{TypeDef}
use Rattle.wit_transform.proofs.OnCycles.{none_named, unnamed_next}
use Rattle.wit_transform.proofs.cycles.type_cycle.Goals as goal

pub returns-in-Some : goal.returns-in-Some
returns-in-Some c =
    let within : get_or c.args.ids.now c.loop-id.id-index 0 < length c.args.types.now = c.requires.in_range c.loop-id.id-index 0 c.loop-id-test.true in
    record {
      id = get_or c.args.ids.now c.loop-id.id-index 0;
      def = c.index-types-id.result;
      name = c.in-Some.name;
      among = Contains-get_or c.args.ids.now c.loop-id.id-index 0 c.loop-id-test.true;
      is = slice_get_read c.args.types.now _ (get_or c.args.ids.now c.loop-id.id-index 0) c.index-types-id.result refl within c.index-types-id.is;
      name_is = ap (λ (def : TypeDef). def.name) c.index-types-id.is ∙ c.in-Some.is;
      error_is = c.in_ok-error.ensures;
    }

pub loop-id-preserved : goal.loop-id-preserved
loop-id-preserved c =
    let within : get_or c.args.ids.now c.loop-id.id-index 0 < length c.args.types.now = c.requires.in_range c.loop-id.id-index 0 c.loop-id-test.true in
    unnamed_next c.args.types.now c.args.ids.now c.loop-id.id-index (get_or c.args.ids.now c.loop-id.id-index 0) c.index-types-id.result c.loop-id.invariant refl
    (slice_get_read c.args.types.now _ (get_or c.args.ids.now c.loop-id.id-index 0) c.index-types-id.result refl within c.index-types-id.is)
    (ap (λ (def : TypeDef). def.name) c.index-types-id.is ∙ c.in_default.is)

pub unreachable-requires : goal.unreachable-requires
unreachable-requires c = none_named c.args.types.now c.args.ids.now c.loop-id.id-index c.loop-id.invariant (omega arith) c.requires.named
