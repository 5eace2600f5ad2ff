-- The track of a version: the versions of one track can stand for each other, the greater for the less.
-- Source: SemVer 2.0.0, in which releases of one major version other than 0 are compatible, and Cargo's
-- reading of it for version 0; `version_compat_track` of wit-parser 0.263.0. What the suffix is, is a rule
-- of this project.
use Rattle.std.specs.Prelude.{ℕ, ◌==◌, List, [], ◌∷◌, drop, length, Option, None, Some, decimal, if◌then◌else◌}
use Rattle.semver.specs.Identifiers.{parts_text}
use Rattle.wit_values.specs.Version.{Parts}
use Rattle.wit_names.specs.declared.track.TrackRule.{TrackRule}
use Rattle.wit_names.specs.declared.track.TrackRule.TheVariants.{Published, WithPrereleases}

-- the track of a release, by its numbers: the major one, or the minor one where the major one is 0, or the whole
abbrev pub release_track : ℕ → ℕ → ℕ → Parts
release_track major minor patch =
    if major == 0 then (if minor == 0 then (0, 0, patch, [], []) else (0, minor, 0, [], []))
    else (major, 0, 0, [], [])

-- the track; of a pre-release it is the pre-release itself, and the build metadata never counts
abbrev pub track_of : Parts → Parts
track_of v = if length v.3 == 0 then release_track v.0 v.1 v.2 else (v.0, v.1, v.2, v.3, [])

-- the track by a rule: that of above, or the one by which a pre-release stands on the track of its release
abbrev pub track_by : TrackRule → Parts → Parts
track_by Published v = track_of v
track_by WithPrereleases v = release_track v.0 v.1 v.2

-- the text of the track of a release
abbrev pub release_track_text : ℕ → ℕ → ℕ → List ℕ
release_track_text major minor patch =
    if major == 0
    then (if minor == 0 then parts_text (0, 0, patch, [], []) else 48 ∷ 46 ∷ decimal minor)
    else decimal major

-- the text of a track: `MAJOR`, `0.MINOR`, or the whole
abbrev pub track_text : Parts → List ℕ
track_text v =
    if length v.3 == 0 then release_track_text v.0 v.1 v.2 else parts_text (v.0, v.1, v.2, v.3, [])

-- a text, None where it is empty
abbrev pub some_text : List ℕ → Option (List ℕ)
some_text [] = None
some_text (b ∷ bs) = Some (b ∷ bs)

-- what remains of the version's text after it, None where nothing does
abbrev pub track_suffix : Parts → Option (List ℕ)
track_suffix v = some_text (drop (length (track_text v)) (parts_text v))
