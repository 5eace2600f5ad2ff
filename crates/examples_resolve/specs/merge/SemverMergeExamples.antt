-- Worked merges of imports by tracks, and what they aren't.
use Rattle.std.specs.Prelude.{ℕ, ◌≡◌, List, [], ◌∷◌, ◌++◌, None, Some, codes}
use Rattle.wit_values.specs.Version.{Parts}
use Rattle.wit_names.specs.declared.track.TrackRule.TheVariants.{Published, WithPrereleases}
use Rattle.wit_data.specs.declared.world.World.{World}
use Rattle.wit_elaboration.specs.Entries.{Entry}
use Rattle.wit_graph_data.specs.examples.Samples.{labelled_entry}
use Rattle.wit_graph_data.specs.declared.graph.Graph.{Graph}
use Rattle.wit_semver.specs.SemverMerged.{SemverMerge, semver_merged, semver_merge}
use Rattle.examples_resolve.specs.merge.Releases.{alias_in, called, graph_of, importing, interface_in, keyed, number_in, prerelease, release, two, world_in}
use Rattle.wit_semver.specs.steps.Parts.{new_target}

-- ---- three versions, and an interface that uses one

-- three versions of foo:x; y of foo:main has another name t of a type of theirs, and world w imports these
abbrev pub with_versions : List Parts → ℕ → List ℕ → Graph
with_versions versions target imports =
    graph_of versions
    (number_in 0 (codes "t") ∷ number_in 1 (codes "t") ∷ number_in 2 (codes "t")
    ∷ alias_in 3 (codes "t") target ∷ [])
    (interface_in 0 (codes "x") (called (codes "t") 0 ∷ [])
    ∷ interface_in 1 (codes "x") (called (codes "t") 1 ∷ [])
    ∷ interface_in 2 (codes "x") (called (codes "t") 2 ∷ [])
    ∷ interface_in 3 (codes "y") (called (codes "t") 3 ∷ []) ∷ [])
    (world_in 3 (codes "w") (keyed imports) [] ∷ []) (called (codes "y") 3 ∷ [])
    (called (codes "w") 0 ∷ [])

-- 0.2.0, 0.2.1 and 0.3.0
abbrev pub three : ℕ → List ℕ → Graph
three target imports =
    with_versions (release 0 2 0 ∷ release 0 2 1 ∷ release 0 3 0 ∷ []) target imports

-- y uses x@0.2.0
abbrev pub of_three : Graph
of_three = three 0 (0 ∷ 3 ∷ 1 ∷ 2 ∷ [])

-- ---- two versions and y, with whatever worlds of foo:main

abbrev pub with_worlds : ℕ → List Entry → List Entry → List Entry → Graph
with_worlds target imports exports others =
    graph_of two
    (number_in 0 (codes "t") ∷ number_in 1 (codes "t") ∷ alias_in 2 (codes "t") target ∷ [])
    (interface_in 0 (codes "x") (called (codes "t") 0 ∷ [])
    ∷ interface_in 1 (codes "x") (called (codes "t") 1 ∷ [])
    ∷ interface_in 2 (codes "y") (called (codes "t") 2 ∷ []) ∷ [])
    (world_in 2 (codes "w") imports exports ∷ world_in 2 (codes "v") others [] ∷ [])
    (called (codes "y") 2 ∷ []) (called (codes "w") 0 ∷ called (codes "v") 1 ∷ [])

-- the same where the older version has another name s of its own t
abbrev pub with_second_name : ℕ → ℕ → List Entry → List Entry → Graph
with_second_name target second imports exports =
    graph_of two
    (number_in 0 (codes "t") ∷ number_in 1 (codes "t") ∷ alias_in 2 (codes "t") target
    ∷ alias_in 0 (codes "s") second ∷ [])
    (interface_in 0 (codes "x") (called (codes "t") 0 ∷ called (codes "s") 3 ∷ [])
    ∷ interface_in 1 (codes "x") (called (codes "t") 1 ∷ [])
    ∷ interface_in 2 (codes "y") (called (codes "t") 2 ∷ []) ∷ [])
    (world_in 2 (codes "w") imports exports ∷ []) (called (codes "y") 2 ∷ [])
    (called (codes "w") 0 ∷ [])

-- x@0.2.0 under a label
abbrev pub old_x : Entry
old_x = labelled_entry (codes "old") 0

-- a world of a graph, whose imports are merged by the published rule
abbrev pub published : Graph → World → SemverMerge
published = semver_merge Published

pub record ExamplesOfSemverMerges : Type 0 where
  -- y's t names t of x@0.2.0, and comes to name t of x@0.2.1, the type of that name
  pub of_alias : new_target
      (published of_three (world_in 3 (codes "w") (keyed (0 ∷ 3 ∷ 1 ∷ 2 ∷ [])) [])) 3 ≡ Some 1
  -- another name that x@0.2.0 has of its own t stays
  pub of_own_alias : new_target
      (published (with_second_name 0 0 (keyed (0 ∷ 1 ∷ [])) (keyed (0 ∷ 2 ∷ [])))
      (world_in 2 (codes "w") (keyed (0 ∷ 1 ∷ [])) (keyed (0 ∷ 2 ∷ [])))) 3 ≡ None
  -- 0.2.1 stands for 0.2.0, and y uses it; 0.3.0 is on a track of its own
  pub merged : semver_merged Published of_three 0 ≡ three 1 (1 ∷ 3 ∷ 2 ∷ [])
  -- a second time nothing changes
  pub again : semver_merged Published (three 1 (1 ∷ 3 ∷ 2 ∷ [])) 0 ≡ three 1 (1 ∷ 3 ∷ 2 ∷ [])
  -- it isn't kept because y uses it, y doesn't use it still, and the first that is met doesn't stay
  pub not_kept : semver_merged Published of_three 0 ≡ of_three → ⊥
  pub not_unused : semver_merged Published of_three 0 ≡ three 0 (1 ∷ 3 ∷ 2 ∷ []) → ⊥
  pub not_the_first : semver_merged Published of_three 0 ≡ three 0 (0 ∷ 3 ∷ 2 ∷ []) → ⊥
  -- and 0.3.0 doesn't stand for the others
  pub not_the_greatest : semver_merged Published of_three 0 ≡ three 2 (2 ∷ 3 ∷ []) → ⊥
  -- the order in which the versions stand makes no difference to which stays
  pub newest_first : semver_merged Published (three 0 (1 ∷ 0 ∷ 3 ∷ 2 ∷ [])) 0
      ≡ three 1 (1 ∷ 3 ∷ 2 ∷ [])
  -- exports stay, be they of a replaced interface; what they use follows
  pub exported : semver_merged Published
      (with_worlds 0 (keyed (0 ∷ 1 ∷ [])) (keyed (0 ∷ 2 ∷ [])) []) 0
      ≡ with_worlds 1 (keyed (1 ∷ [])) (keyed (0 ∷ 2 ∷ [])) []
  pub not_dropped : semver_merged Published
      (with_worlds 0 (keyed (0 ∷ 1 ∷ [])) (keyed (0 ∷ 2 ∷ [])) []) 0
      ≡ with_worlds 1 (keyed (1 ∷ [])) (keyed (2 ∷ [])) [] → ⊥
  -- but an alias of a type of its own interface names it still
  pub own_alias : semver_merged Published
      (with_second_name 0 0 (keyed (0 ∷ 1 ∷ [])) (keyed (0 ∷ 2 ∷ []))) 0
      ≡ with_second_name 1 0 (keyed (1 ∷ [])) (keyed (0 ∷ 2 ∷ []))
  pub not_transformed : semver_merged Published
      (with_second_name 0 0 (keyed (0 ∷ 1 ∷ [])) (keyed (0 ∷ 2 ∷ []))) 0
      ≡ with_second_name 1 1 (keyed (1 ∷ [])) (keyed (0 ∷ 2 ∷ [])) → ⊥
  -- under a label a replaced interface stays
  pub labelled : semver_merged Published (with_worlds 0 (keyed (0 ∷ 1 ∷ []) ++ old_x ∷ []) [] []) 0
      ≡ with_worlds 0 (keyed (1 ∷ []) ++ old_x ∷ []) [] []
  pub not_relabelled : semver_merged Published
      (with_worlds 0 (keyed (0 ∷ 1 ∷ []) ++ old_x ∷ []) [] []) 0
      ≡ with_worlds 0 (keyed (1 ∷ []) ++ labelled_entry (codes "old") 1 ∷ []) [] [] → ⊥
  -- another world lists what it listed, and is elaborated anew
  pub other_world : semver_merged Published
      (with_worlds 0 (keyed (0 ∷ 2 ∷ 1 ∷ [])) [] (keyed (0 ∷ 2 ∷ []))) 0
      ≡ with_worlds 1 (keyed (1 ∷ 2 ∷ [])) [] (keyed (0 ∷ 1 ∷ 2 ∷ []))
  pub not_as_it_was : semver_merged Published
      (with_worlds 0 (keyed (0 ∷ 2 ∷ 1 ∷ [])) [] (keyed (0 ∷ 2 ∷ []))) 0
      ≡ with_worlds 1 (keyed (1 ∷ 2 ∷ [])) [] (keyed (0 ∷ 2 ∷ [])) → ⊥
  pub not_merged_too : semver_merged Published
      (with_worlds 0 (keyed (0 ∷ 2 ∷ 1 ∷ [])) [] (keyed (0 ∷ 2 ∷ []))) 0
      ≡ with_worlds 1 (keyed (1 ∷ 2 ∷ [])) [] (keyed (1 ∷ 2 ∷ [])) → ⊥
  -- a second time nothing changes, of neither world
  pub other_world_again : semver_merged Published
      (with_worlds 1 (keyed (1 ∷ 2 ∷ [])) [] (keyed (0 ∷ 1 ∷ 2 ∷ []))) 0
      ≡ with_worlds 1 (keyed (1 ∷ 2 ∷ [])) [] (keyed (0 ∷ 1 ∷ 2 ∷ []))
  -- where the newer one isn't imported nothing is replaced, nor where there is no world
  pub alone : semver_merged Published (with_worlds 0 (keyed (0 ∷ 2 ∷ [])) [] []) 0
      ≡ with_worlds 0 (keyed (0 ∷ 2 ∷ [])) [] []
  pub nowhere : semver_merged Published of_three 1 ≡ of_three

-- ---- rules of tracks

-- which of some versions of foo:x a world that imports them all imports after its imports are merged
abbrev pub first_release : List ℕ → Graph
first_release imports = importing (release 0 2 0 ∷ prerelease 0 2 1 (codes "rc.1") ∷ []) imports

abbrev pub with_release : List ℕ → Graph
with_release imports =
    importing (release 0 2 0 ∷ prerelease 0 2 1 (codes "rc.1") ∷ release 0 2 1 ∷ []) imports

abbrev pub major_release : List ℕ → Graph
major_release imports = importing (release 0 9 0 ∷ prerelease 1 0 0 (codes "rc.1") ∷ []) imports

abbrev pub patch_release : List ℕ → Graph
patch_release imports = importing (prerelease 0 0 3 (codes "a") ∷ release 0 0 3 ∷ []) imports

pub record ExamplesOfRules : Type 0 where
  -- by the published rule a pre-release is on a track of its own
  pub apart : semver_merged Published (first_release (0 ∷ 1 ∷ [])) 0 ≡ first_release (0 ∷ 1 ∷ [])
  pub apart_from_release : semver_merged Published (with_release (0 ∷ 1 ∷ 2 ∷ [])) 0
      ≡ with_release (1 ∷ 2 ∷ [])
  pub apart_from_major : semver_merged Published (major_release (0 ∷ 1 ∷ [])) 0
      ≡ major_release (0 ∷ 1 ∷ [])
  pub apart_from_patch : semver_merged Published (patch_release (0 ∷ 1 ∷ [])) 0
      ≡ patch_release (0 ∷ 1 ∷ [])
  -- by the other rule it is on the track of its release, below it
  pub together : semver_merged WithPrereleases (first_release (0 ∷ 1 ∷ [])) 0
      ≡ first_release (1 ∷ [])
  pub below_release : semver_merged WithPrereleases (with_release (0 ∷ 1 ∷ 2 ∷ [])) 0
      ≡ with_release (2 ∷ [])
  pub other_major : semver_merged WithPrereleases (major_release (0 ∷ 1 ∷ [])) 0
      ≡ major_release (0 ∷ 1 ∷ [])
  pub below_patch : semver_merged WithPrereleases (patch_release (0 ∷ 1 ∷ [])) 0
      ≡ patch_release (1 ∷ [])
  -- by the published rule a release stands for no pre-release and a pre-release for none; a release does for an older one
  pub not_with_release : semver_merged Published (with_release (0 ∷ 1 ∷ 2 ∷ [])) 0
      ≡ with_release (2 ∷ []) → ⊥
  pub not_all_apart : semver_merged Published (with_release (0 ∷ 1 ∷ 2 ∷ [])) 0
      ≡ with_release (0 ∷ 1 ∷ 2 ∷ []) → ⊥
  pub not_with_major : semver_merged Published (major_release (0 ∷ 1 ∷ [])) 0
      ≡ major_release (1 ∷ []) → ⊥
  pub not_with_patch : semver_merged Published (patch_release (0 ∷ 1 ∷ [])) 0
      ≡ patch_release (1 ∷ []) → ⊥
  -- by the other rule a pre-release doesn't stay beside its release, doesn't stand for it, nor for one of another major
  pub not_beside_release : semver_merged WithPrereleases (with_release (0 ∷ 1 ∷ 2 ∷ [])) 0
      ≡ with_release (1 ∷ 2 ∷ []) → ⊥
  pub not_above_release : semver_merged WithPrereleases (with_release (0 ∷ 1 ∷ 2 ∷ [])) 0
      ≡ with_release (1 ∷ []) → ⊥
  pub not_one_major : semver_merged WithPrereleases (major_release (0 ∷ 1 ∷ [])) 0
      ≡ major_release (1 ∷ []) → ⊥
  pub not_beside_patch : semver_merged WithPrereleases (patch_release (0 ∷ 1 ∷ [])) 0
      ≡ patch_release (0 ∷ 1 ∷ []) → ⊥
  pub not_above_patch : semver_merged WithPrereleases (patch_release (0 ∷ 1 ∷ [])) 0
      ≡ patch_release (0 ∷ []) → ⊥
  -- a second time by the published rule nothing changes, but by the other rule something does
  pub again : semver_merged Published (with_release (1 ∷ 2 ∷ [])) 0 ≡ with_release (1 ∷ 2 ∷ [])
  pub not_by_the_other : semver_merged WithPrereleases (with_release (1 ∷ 2 ∷ [])) 0
      ≡ with_release (1 ∷ 2 ∷ []) → ⊥
  -- the rule isn't ignored
  pub not_ignored : semver_merged WithPrereleases (first_release (0 ∷ 1 ∷ [])) 0
      ≡ semver_merged Published (first_release (0 ∷ 1 ∷ [])) 0 → ⊥
