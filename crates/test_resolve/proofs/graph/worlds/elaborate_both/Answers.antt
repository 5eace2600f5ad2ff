use Rattle.std.proofs.Common.{◌≡◌, length, rules}
use Rattle.wit_data.specs.declared.world.World.{World}
use Rattle.wit_elaboration.specs.Elaboration.{HasSoundEntriesAt}
use Rattle.wit_elaboration.specs.Sound.{HasSoundEntries}
use Rattle.test_resolve.proofs.TwoOf.{each_of_two}
use Rattle.test_resolve.proofs.graph.worlds.elaborate_both.Goals as goal

pub elaborate_all-requires-clause-listed : goal.elaborate_all-requires-clause-listed
elaborate_all-requires-clause-listed g c =
    let all = c.args.graph.now in
    let two : length all.worlds ≡ 2 = search rules in
    let first : HasSoundEntriesAt all 0 = search rules in
    let second : HasSoundEntriesAt all 1 = search rules in
    each_of_two (λ (world : World). HasSoundEntries all.types (length all.interfaces) world.imports world.exports) all.worlds two first second
