-- Versions that are on one track and versions that aren't, and what their texts aren't.
use Rattle.std.specs.Prelude.{◌≡◌, ◌≢◌, ℕ, [], None, Some, codes}
use Rattle.wit_values.specs.Version.{Parts}
use Rattle.wit_names.specs.Track.{track_by, track_of, track_suffix, track_text}
use Rattle.wit_names.specs.declared.track.TrackRule.TheVariants.{Published, WithPrereleases}

-- a release
abbrev pub release : ℕ → ℕ → ℕ → Parts
release major minor patch = (major, minor, patch, [], [])

-- 1.2.0-rc.1, with this build
abbrev pub candidate : Parts
candidate = (1, 2, 0, codes "rc.1", [])

pub record NearMissesOfTracks : Type 0 where
  -- from 1.0.0 on the major number is the track
  pub one_major : track_of (release 1 2 3) ≡ track_of (release 1 9 0)
  pub other_major : track_of (release 1 2 3) ≢ track_of (release 2 2 3)
  pub not_minor_kept : track_of (release 1 2 3) ≢ release 1 2 0
  -- below it the minor one
  pub one_minor : track_of (release 0 2 1) ≡ track_of (release 0 2 9)
  pub other_minor : track_of (release 0 2 1) ≢ track_of (release 0 3 0)
  pub not_major_alone : track_of (release 0 2 1) ≢ release 0 0 0
  pub not_whole : track_of (release 0 2 1) ≢ release 0 2 1
  -- and below 0.1.0 each is alone
  pub other_patch : track_of (release 0 0 3) ≢ track_of (release 0 0 4)
  pub not_minor_alone : track_of (release 0 0 3) ≢ release 0 0 0
  -- the same minor number under another major one is no link
  pub across_one : track_of (release 0 2 0) ≢ track_of (release 1 2 0)
  -- a pre-release is on a track of its own, not on that of its release, nor on that of another pre-release
  pub own_release : track_of (release 1 2 0) ≢ track_of candidate
  pub other_candidate : track_of candidate ≢ track_of (1, 2, 0, codes "rc.2", [])
  pub other_numbers : track_of candidate ≢ track_of (1, 3, 0, codes "rc.1", [])
  -- whatever was built
  pub other_build : track_of candidate ≡ track_of (1, 2, 0, codes "rc.1", codes "b")
  pub not_built : track_of (1, 2, 0, codes "rc.1", codes "b") ≢ (1, 2, 0, codes "rc.1", codes "b")
  -- by the other rule it is on the track of its release, and on no other one
  pub by_each_rule : (track_by Published (1, 2, 3, codes "rc.1", codes "b")
      ≡ (1, 2, 3, codes "rc.1", []))
      × (track_by WithPrereleases (1, 2, 3, codes "rc.1", codes "b") ≡ release 1 0 0)
  pub with_release : track_by WithPrereleases candidate ≡ track_by WithPrereleases (release 1 9 0)
  pub not_alone : track_by WithPrereleases candidate ≢ track_by Published candidate
  pub still_other_major : track_by WithPrereleases candidate
      ≢ track_by WithPrereleases (release 2 0 0)

pub record NearMissesOfTrackTexts : Type 0 where
  -- the text of a track is shorter than that of a version, by just what doesn't count
  pub not_zeros : track_text (release 1 2 3) ≢ codes "1.0.0"
  pub not_two : track_text (release 1 2 3) ≢ codes "1.2"
  pub not_zero_behind : track_text (release 0 2 1) ≢ codes "0.2.0"
  pub not_zero_alone : track_text (release 0 2 1) ≢ codes "0"
  pub not_zeros_alone : track_text (release 0 0 3) ≢ codes "0.0"
  pub not_of_release : track_text candidate ≢ codes "1"
  pub not_with_build : track_text (1, 2, 0, codes "rc.1", codes "b") ≢ codes "1.2.0-rc.1+b"
  -- what remains of the version begins with its point, goes to its end, and is none where it would be empty
  pub not_numbers_alone : track_suffix (release 1 2 3) ≢ Some (codes "2.3")
  pub not_last_alone : track_suffix (release 1 2 3) ≢ Some (codes ".3")
  pub not_without_build : track_suffix (0, 2, 1, [], codes "b") ≢ Some (codes ".1")
  pub not_empty : track_suffix (release 0 0 3) ≢ Some []
  pub not_pre_release : track_suffix (1, 2, 0, codes "rc.1", codes "b") ≢ Some (codes "-rc.1+b")
  pub not_none : track_suffix (1, 2, 0, codes "rc.1", codes "b") ≢ None
