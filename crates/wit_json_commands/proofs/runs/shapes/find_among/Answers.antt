use Rattle.std.proofs.Common.{refl}
use Rattle.std.proofs.lemmas.Option.{slice_get_read}
use Rattle.wit_data.specs.facts.EachFacts.{all_of}
use Rattle.wit_json_commands.proofs.FirstUnshaped.{nested_told, one_package}
use Rattle.wit_json_commands.proofs.runs.shapes.find_among.Goals as goal

pub returns-in-Some : goal.returns-in-Some
returns-in-Some c =
    let packages = c.args.packages.now in
    nested_told packages c.loop-index.index c.index-packages-index.result c.in-Some.fault c.loop-index.invariant
    (slice_get_read packages _ c.loop-index.index c.index-packages-index.result refl c.loop-index-test.true c.index-packages-index.is) c.in_ok-fault.ensures.none c.in_ok-fault.ensures.some c.in-Some.is

pub loop-index-preserved : goal.loop-index-preserved
loop-index-preserved c =
    let packages = c.args.packages.now in
    one_package packages c.loop-index.index c.index-packages-index.result c.loop-index.invariant
    (slice_get_read packages _ c.loop-index.index c.index-packages-index.result refl c.loop-index-test.true c.index-packages-index.is) c.in_ok-fault.ensures.none c.in_default.is

pub returns : goal.returns
returns c = all_of c.loop-index.invariant c.loop-index-test.false
