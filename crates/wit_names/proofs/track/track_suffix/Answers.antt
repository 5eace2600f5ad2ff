use Rattle.std.proofs.Common.{◌≡◌, List, ℕ, length, subst, sym, rules}
use Rattle.std.specs.Str.{IsCharBoundary, IsUtf8}
use Rattle.semver.specs.Identifiers.{parts_text}
use Rattle.wit_names.proofs.Tracks.{whole_after_track}
use Rattle.wit_names.proofs.track.track_suffix.Goals as goal

pub range_from-suffix-requires : goal.range_from-suffix-requires
range_from-suffix-requires c = λ more.
    let version = c.args.version.now in
    let text : c.as_str-text.result.now ≡ parts_text version = search rules in
    let boundary = whole_after_track version (subst IsUtf8 text c.as_str-text.utf8) (subst IsUtf8 c.requires c.utf8.track) in
    let at_track : IsCharBoundary (parts_text version) (length c.args.track.now) = subst (λ (us : List ℕ). IsCharBoundary (parts_text version) (length us)) (sym c.requires) boundary in
    subst (λ (bs : List ℕ). IsCharBoundary bs (length c.args.track.now)) (sym text) at_track
