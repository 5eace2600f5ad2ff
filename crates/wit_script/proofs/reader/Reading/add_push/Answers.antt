use Rattle.std.proofs.Common.{◌≡◌, Some, rules}
use Rattle.wit_script.proofs.BuiltLines.{pushed-built}
use Rattle.wit_script.proofs.reader.Reading.add_push.Goals as goal

pub into_groups-requires : goal.into_groups-requires
into_groups-requires c =
    let current : c.args.self.now.current ≡ Some c.in-Some.last = search rules in
    rw (c.in_ok-push.ensures.ok, c.replace-packages.ensures.value) (pushed-built c.args.self.now c.in-Some.last c.requires.built current)
