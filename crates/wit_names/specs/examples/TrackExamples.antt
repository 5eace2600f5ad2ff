-- Tracks of some versions.
use Rattle.std.specs.Prelude.{◌≡◌, [], None, Some, codes}
use Rattle.wit_names.specs.Track.{track_of, track_suffix, track_text}

-- tracks, their texts and what remains of a version
pub record ExamplesOfTracks : Type 0 where
  pub major : track_of (1, 2, 3, [], []) ≡ (1, 0, 0, [], [])
  pub major_text : track_text (1, 2, 3, [], []) ≡ codes "1"
  pub major_suffix : track_suffix (1, 2, 3, [], []) ≡ Some (codes ".2.3")
  pub minor : track_of (0, 2, 1, [], codes "b") ≡ (0, 2, 0, [], [])
  pub minor_text : track_text (0, 2, 1, [], codes "b") ≡ codes "0.2"
  pub minor_suffix : track_suffix (0, 2, 1, [], codes "b") ≡ Some (codes ".1+b")
  pub patch : track_of (0, 0, 3, [], []) ≡ (0, 0, 3, [], [])
  pub patch_text : track_text (0, 0, 3, [], []) ≡ codes "0.0.3"
  pub no_suffix : track_suffix (0, 0, 3, [], []) ≡ None
  pub pre_release : track_of (1, 2, 3, codes "rc.1", codes "b") ≡ (1, 2, 3, codes "rc.1", [])
  pub pre_release_text : track_text (1, 2, 3, codes "rc.1", codes "b") ≡ codes "1.2.3-rc.1"
  pub pre_release_suffix : track_suffix (1, 2, 3, codes "rc.1", codes "b") ≡ Some (codes "+b")
