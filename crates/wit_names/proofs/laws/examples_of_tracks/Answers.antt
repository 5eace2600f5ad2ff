use Rattle.std.proofs.Common.{refl}
use Rattle.std.specs.Fmt.{digits}
use Rattle.wit_names.proofs.laws.examples_of_tracks.Goals as goal

pub returns : goal.returns
unfolding digits
returns c = record {
  major = refl;
  major_text = refl;
  major_suffix = refl;
  minor = refl;
  minor_text = refl;
  minor_suffix = refl;
  patch = refl;
  patch_text = refl;
  no_suffix = refl;
  pre_release = refl;
  pre_release_text = refl;
  pre_release_suffix = refl;
}
