use Rattle.std.proofs.Common.{◌∷◌, [], ap, sym}
use Rattle.wit_json_reading.specs.Reading.{instead_of, under}
use Rattle.std.specs.Option.{option_map_or}
use Rattle.wit_json_reading.specs.declared.fault.Expected.TheVariants as expected
use Rattle.wit_json_reading.specs.declared.fault.Step.TheVariants.{Member}
use Rattle.wit_json_graphs.proofs.Completed.{fails}
use Rattle.wit_json_graphs.proofs.details.required_details.Goals as goal

pub returns-in-None : goal.returns-in-None
returns-in-None g c =
    fails c.in_member.result (record { path = Member c.args.name.now ∷ []; expected = expected.Member }) _ c.args.thing.now
    (ap (λ it. under (Member c.args.name.now) (option_map_or (g.T.ReadDetails.detailed c.args.thing.now) it (instead_of expected.Member))) (sym c.in-None.ensures)) (c.in_member.ensures _ c.instead_of.ensures)
