-- Merges by tracks against which no cause holds: all of which it is told what they make, but the three that stand among
-- the reasons, as what lacks them.
use Rattle.std.specs.Prelude.{[], ◌∷◌, ◌++◌, None, codes}
use Rattle.wit_names.specs.declared.track.TrackRule.TheVariants.{Published, WithPrereleases}
use Rattle.wit_semver.specs.SemverMerged.{SemverMergeIsAccepted}
use Rattle.examples_resolve.specs.merge.Releases.{foo_x, keyed, release}
use Rattle.examples_resolve.specs.merge.SemverMergeExamples.{major_release, of_three, old_x, patch_release, three, with_release, with_second_name, with_worlds}
use Rattle.examples_resolve.specs.merge.TrackExamples.{beside_x, nameless_at_l, new_x, of_one_track, using_type, y_at_l}

pub record ExamplesOfAccepted : Type 0 where
  -- three versions in another order, and a second time
  pub newest_first : SemverMergeIsAccepted Published (three 0 (1 ∷ 0 ∷ 3 ∷ 2 ∷ [])) 0
  pub again : SemverMergeIsAccepted Published (three 1 (1 ∷ 3 ∷ 2 ∷ [])) 0
  -- an export of a replaced interface, with another name of its own type too
  pub exported : SemverMergeIsAccepted Published
      (with_worlds 0 (keyed (0 ∷ 1 ∷ [])) (keyed (0 ∷ 2 ∷ [])) []) 0
  pub own_alias : SemverMergeIsAccepted Published
      (with_second_name 0 0 (keyed (0 ∷ 1 ∷ [])) (keyed (0 ∷ 2 ∷ []))) 0
  -- a replaced interface under a label
  pub labelled : SemverMergeIsAccepted Published
      (with_worlds 0 (keyed (0 ∷ 1 ∷ []) ++ old_x ∷ []) [] []) 0
  -- another world beside it, and a second time
  pub other_world : SemverMergeIsAccepted Published
      (with_worlds 0 (keyed (0 ∷ 2 ∷ 1 ∷ [])) [] (keyed (0 ∷ 2 ∷ []))) 0
  pub other_world_again : SemverMergeIsAccepted Published
      (with_worlds 1 (keyed (1 ∷ 2 ∷ [])) [] (keyed (0 ∷ 1 ∷ 2 ∷ []))) 0
  -- a pre-release beside its release and an older one, a second time, beside one of another major, beside its release alone, by either rule
  pub apart_from_release : SemverMergeIsAccepted Published (with_release (0 ∷ 1 ∷ 2 ∷ [])) 0
  pub below_release : SemverMergeIsAccepted WithPrereleases (with_release (0 ∷ 1 ∷ 2 ∷ [])) 0
  pub apart_again : SemverMergeIsAccepted Published (with_release (1 ∷ 2 ∷ [])) 0
  pub apart_from_major : SemverMergeIsAccepted Published (major_release (0 ∷ 1 ∷ [])) 0
  pub other_major : SemverMergeIsAccepted WithPrereleases (major_release (0 ∷ 1 ∷ [])) 0
  pub apart_from_patch : SemverMergeIsAccepted Published (patch_release (0 ∷ 1 ∷ [])) 0
  pub below_patch : SemverMergeIsAccepted WithPrereleases (patch_release (0 ∷ 1 ∷ [])) 0
  -- two versions alone, three of one track, and uses by the world and under labels
  pub one_name : SemverMergeIsAccepted Published
      (beside_x (foo_x (release 0 2 1)) (codes "x") (0 ∷ 1 ∷ [])) 0
  pub greatest_of_three : SemverMergeIsAccepted Published (of_one_track 0 (0 ∷ 3 ∷ 1 ∷ 2 ∷ [])) 0
  pub type_use : SemverMergeIsAccepted Published (using_type 0 (0 ∷ 1 ∷ [])) 0
  pub label_use : SemverMergeIsAccepted Published
      (with_worlds 0 (keyed (0 ∷ 1 ∷ []) ++ y_at_l ∷ []) [] []) 0
  pub nameless_use : SemverMergeIsAccepted Published (nameless_at_l 0 (0 ∷ 1 ∷ [])) 0
  -- where nothing is replaced, and where there is no world
  pub alone : SemverMergeIsAccepted Published (with_worlds 0 (keyed (0 ∷ 2 ∷ [])) [] []) 0
  pub nowhere : SemverMergeIsAccepted Published of_three 1
  pub other_interface : SemverMergeIsAccepted Published
      (beside_x (foo_x (release 0 2 1)) (codes "z") (0 ∷ 1 ∷ [])) 0
  pub other_package : SemverMergeIsAccepted Published
      (beside_x (record (foo_x (release 0 2 1)) { name = codes "z" }) (codes "x") (0 ∷ 1 ∷ [])) 0
  pub other_namespace : SemverMergeIsAccepted Published (beside_x
      (record (foo_x (release 0 2 1)) { namespace = codes "z" }) (codes "x") (0 ∷ 1 ∷ [])) 0
  pub without_version : SemverMergeIsAccepted Published
      (beside_x (record (foo_x (release 0 2 1)) { version = None }) (codes "x") (0 ∷ 1 ∷ [])) 0
  pub labelled_newer : SemverMergeIsAccepted Published
      (with_worlds 0 (keyed (0 ∷ []) ++ new_x ∷ []) [] []) 0
  -- and where another world alone imports what uses a replaced interface
  pub of_another_world : SemverMergeIsAccepted Published
      (with_worlds 0 (keyed (0 ∷ 1 ∷ [])) [] (keyed (0 ∷ 2 ∷ []))) 0
