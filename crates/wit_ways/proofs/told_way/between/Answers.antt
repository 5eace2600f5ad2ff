use Rattle.wit_ways.proofs.CycleNames.{front_is, named_before}
use Rattle.wit_ways.proofs.told_way.between.Goals as goal

pub returns : goal.returns
returns c =
    let text = c.args.text.now in
    let front = c.args.front.now in
    named_before text front c.args.end.now c.in_ok-rest.rest.now c.strip_suffix.result (front_is text front c.in_ok-rest.rest.now c.in_ok-rest.ensures.cases) c.strip_suffix.ensures.cases
