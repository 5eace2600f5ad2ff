use Rattle.std.proofs.Common.{◌∙◌, cond, Option, Some, sym, ap}
use Rattle.std.specs.Map.{lookup}
use Rattle.wit_semver.specs.steps.Replacing.{is_newer, same_track, told}
use Rattle.wit_semver.specs.declared.tracks.TrackKey.{TrackKey}
use Rattle.wit_semver.proofs.NewestTold.{tells_newer, tells_smaller, tells_unversioned}
use Rattle.wit_semver.proofs.newest.note.Goals as goal

pub returns-in_ok-insert : goal.returns-in_ok-insert
returns-in_ok-insert c ids tells =
    let g = c.args.graph.now in
    let old = c.args.newest.now.entries in
    let v = told c.in-Some.interface in
    let key_is = c.in_ok-key.ensures in
    tells_newer c.args.rule g ids c.args.id old c.insert.new.self.entries tells v (sym c.in-Some.ensures)
    (ap (λ (k : TrackKey). is_newer g (lookup (same_track k) old) v) (sym key_is) ∙ ap (λ (o : Option _). is_newer g o v) (sym c.get.ensures.value) ∙ sym c.is_newer.ensures ∙ c.if-is_newer.true)
    (λ q. c.in_ok-insert.ensures.updates.0 q ∙ ap (λ (k : TrackKey). cond (same_track k q) (Some c.args.id) (lookup (same_track q) old)) key_is)

pub returns-else-is_newer : goal.returns-else-is_newer
returns-else-is_newer c ids tells =
    let g = c.args.graph.now in
    let old = c.args.newest.now.entries in
    let v = told c.in-Some.interface in
    let key_is = c.in_ok-key.ensures in
    tells_smaller c.args.rule g ids c.args.id old old tells v (sym c.in-Some.ensures)
    (ap (λ (k : TrackKey). is_newer g (lookup (same_track k) old) v) (sym key_is) ∙ ap (λ (o : Option _). is_newer g o v) (sym c.get.ensures.value) ∙ sym c.is_newer.ensures ∙ c.if-is_newer.false)

pub returns-in_default : goal.returns-in_default
returns-in_default c ids tells = tells_unversioned c.args.rule c.args.graph.now ids c.args.id c.args.newest.now.entries c.args.newest.now.entries tells (sym c.in_default.ensures)
