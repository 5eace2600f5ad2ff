use Rattle.std.proofs.Common.{refl}
use Rattle.std.proofs.lemmas.Option.{slice_get_read}
use Rattle.wit_data.specs.facts.EachFacts.{all_of}
use Rattle.wit_json_commands.proofs.FirstUnshaped.{deps_told, one_group}
use Rattle.wit_json_commands.proofs.runs.shapes.find_in_deps.Goals as goal

pub returns-in-Some : goal.returns-in-Some
returns-in-Some c =
    let deps = c.args.deps.now in
    deps_told deps c.loop-index.index c.index-deps-index.result _ c.in-Some.«package» c.in-Some.fault c.loop-index.invariant
    (slice_get_read deps _ c.loop-index.index c.index-deps-index.result refl c.loop-index-test.true c.index-deps-index.is) c.in_ok-package.ensures c.in-Some.is

pub loop-index-preserved : goal.loop-index-preserved
loop-index-preserved c =
    let deps = c.args.deps.now in
    one_group deps c.loop-index.index c.index-deps-index.result _ c.loop-index.invariant
    (slice_get_read deps _ c.loop-index.index c.index-deps-index.result refl c.loop-index-test.true c.index-deps-index.is) c.in_ok-package.ensures c.in_default.is

pub returns : goal.returns
returns c = all_of c.loop-index.invariant c.loop-index-test.false
