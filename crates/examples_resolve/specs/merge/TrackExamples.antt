-- What is on one track and what isn't, and which uses follow.
use Rattle.std.specs.Prelude.{◌≡◌, ℕ, List, [], ◌∷◌, ◌++◌, Some, None, codes}
use Rattle.wit_names.specs.declared.package_name.PackageName.{PackageName}
use Rattle.wit_names.specs.declared.track.TrackRule.TheVariants.{Published}
use Rattle.wit_data.specs.declared.types.TypeDefKind.TheVariants as kind
use Rattle.wit_data.specs.declared.types.TypeOwner.TheVariants as owner
use Rattle.wit_data.specs.declared.types.Type_.TheVariants as type
use Rattle.wit_data.specs.declared.world.WorldItem.TheVariants as item
use Rattle.wit_data.specs.declared.world.WorldKey.TheVariants as key
use Rattle.wit_elaboration.specs.Entries.{Entry}
use Rattle.wit_graph_data.specs.examples.Samples.{labelled_entry, type_of}
use Rattle.wit_graph_data.specs.declared.graph.Graph.{Graph}
use Rattle.wit_semver.specs.SemverMerged.{semver_merged}
use Rattle.examples_resolve.specs.merge.Releases.{alias_in, called, foo_main, foo_x, graph_of, interface_in, keyed, number_in, package_of, release, two, world_in}
use Rattle.examples_resolve.specs.merge.SemverMergeExamples.{with_versions, with_worlds}

-- ---- names

-- interface x of foo:x@0.2.0, an interface of this name of that package, and world w of foo:main, which imports these
abbrev pub beside_x : PackageName → List ℕ → List ℕ → Graph
beside_x home name imports = record {
  types = [];
  interfaces = interface_in 0 (codes "x") [] ∷ interface_in 1 name [] ∷ [];
  worlds = world_in 2 (codes "w") (keyed imports) [] ∷ [];
  packages =
      package_of (foo_x (release 0 2 0)) (called (codes "x") 0 ∷ []) []
      ∷ package_of home (called name 1 ∷ []) [] ∷ package_of foo_main [] (called (codes "w") 0 ∷ [])
      ∷ [];
  package_names = (foo_x (release 0 2 0), 0) ∷ (home, 1) ∷ (foo_main, 2) ∷ [];
}

-- nothing of it is replaced
abbrev pub StandsApart : PackageName → List ℕ → Type 0
StandsApart home name =
    semver_merged Published (beside_x home name (0 ∷ 1 ∷ [])) 0 ≡ beside_x home name (0 ∷ 1 ∷ [])

-- ---- a world that uses a type

-- two versions of x with a number t; world w imports these, and then a type u, another name of this one
abbrev pub using_type : ℕ → List ℕ → Graph
using_type target imports =
    graph_of two (number_in 0 (codes "t") ∷ number_in 1 (codes "t")
    ∷ type_of (Some (codes "u")) (kind.Type_ (type.Id target)) (owner.World 0) ∷ [])
    (interface_in 0 (codes "x") (called (codes "t") 0 ∷ [])
    ∷ interface_in 1 (codes "x") (called (codes "t") 1 ∷ []) ∷ [])
    (world_in 2 (codes "w") (keyed imports ++ (key.Name (codes "u"), item.Type_ 2 None) ∷ []) []
    ∷ []) [] (called (codes "w") 0 ∷ [])

-- ---- an interface under a label

-- y under a label
abbrev pub y_at_l : Entry
y_at_l = labelled_entry (codes "l") 2

-- the same of an interface without a name, with another name of this type; world w imports these before it
abbrev pub nameless_at_l : ℕ → List ℕ → Graph
nameless_at_l target imports =
    graph_of two
    (number_in 0 (codes "t") ∷ number_in 1 (codes "t") ∷ alias_in 2 (codes "t") target ∷ [])
    (interface_in 0 (codes "x") (called (codes "t") 0 ∷ [])
    ∷ interface_in 1 (codes "x") (called (codes "t") 1 ∷ [])
    ∷ record (interface_in 2 (codes "y") (called (codes "t") 2 ∷ [])) { name = None } ∷ [])
    (world_in 2 (codes "w") (keyed imports ++ y_at_l ∷ []) [] ∷ []) [] (called (codes "w") 0 ∷ [])

-- ---- versions of one track

abbrev pub of_one_track : ℕ → List ℕ → Graph
of_one_track target imports =
    with_versions (release 0 2 0 ∷ release 0 2 1 ∷ release 0 2 2 ∷ []) target imports

-- x@0.2.1 under a label
abbrev pub new_x : Entry
new_x = labelled_entry (codes "new") 1

pub record ExamplesOfTracks : Type 0 where
  -- x of foo:x@0.2.1 stands for that of foo:x@0.2.0; an interface of another name, or of a package of another name, of
  -- another namespace or without a version, is on no track with it
  pub one_name : semver_merged Published (beside_x (foo_x (release 0 2 1)) (codes "x") (0 ∷ 1 ∷ []))
      0 ≡ beside_x (foo_x (release 0 2 1)) (codes "x") (1 ∷ [])
  pub other_interface : StandsApart (foo_x (release 0 2 1)) (codes "z")
  pub other_package : StandsApart (record (foo_x (release 0 2 1)) { name = codes "z" }) (codes "x")
  pub other_namespace : StandsApart (record (foo_x (release 0 2 1)) { namespace = codes "z" })
      (codes "x")
  pub without_version : StandsApart (record (foo_x (release 0 2 1)) { version = None }) (codes "x")
  -- of three on one track the greatest stands for both others, and y uses it, not the next one
  pub greatest_of_three : semver_merged Published (of_one_track 0 (0 ∷ 3 ∷ 1 ∷ 2 ∷ [])) 0
      ≡ of_one_track 2 (2 ∷ 3 ∷ [])
  pub not_the_next : semver_merged Published (of_one_track 0 (0 ∷ 3 ∷ 1 ∷ 2 ∷ [])) 0
      ≡ of_one_track 1 (2 ∷ 3 ∷ []) → ⊥
  -- what is imported under a label alone stands for nothing
  pub labelled_newer : semver_merged Published (with_worlds 0 (keyed (0 ∷ []) ++ new_x ∷ []) [] [])
      0 ≡ with_worlds 0 (keyed (0 ∷ []) ++ new_x ∷ []) [] []
  -- a type that the world itself uses follows
  pub type_use : semver_merged Published (using_type 0 (0 ∷ 1 ∷ [])) 0 ≡ using_type 1 (1 ∷ [])
  pub not_left : semver_merged Published (using_type 0 (0 ∷ 1 ∷ [])) 0 ≡ using_type 0 (1 ∷ []) → ⊥
  -- so does y under a label, and an interface without a name
  pub label_use : semver_merged Published (with_worlds 0 (keyed (0 ∷ 1 ∷ []) ++ y_at_l ∷ []) [] [])
      0 ≡ with_worlds 1 (keyed (1 ∷ []) ++ y_at_l ∷ []) [] []
  pub label_not_left : semver_merged Published
      (with_worlds 0 (keyed (0 ∷ 1 ∷ []) ++ y_at_l ∷ []) [] []) 0
      ≡ with_worlds 0 (keyed (1 ∷ []) ++ y_at_l ∷ []) [] [] → ⊥
  pub nameless_use : semver_merged Published (nameless_at_l 0 (0 ∷ 1 ∷ [])) 0
      ≡ nameless_at_l 1 (1 ∷ [])
  pub nameless_not_left : semver_merged Published (nameless_at_l 0 (0 ∷ 1 ∷ [])) 0
      ≡ nameless_at_l 0 (1 ∷ []) → ⊥
  -- y, which another world alone imports, doesn't
  pub of_another_world : semver_merged Published
      (with_worlds 0 (keyed (0 ∷ 1 ∷ [])) [] (keyed (0 ∷ 2 ∷ []))) 0
      ≡ with_worlds 0 (keyed (1 ∷ [])) [] (keyed (0 ∷ 2 ∷ []))
  pub not_of_new_entries : semver_merged Published
      (with_worlds 0 (keyed (0 ∷ 1 ∷ [])) [] (keyed (0 ∷ 2 ∷ []))) 0
      ≡ with_worlds 1 (keyed (1 ∷ [])) [] (keyed (0 ∷ 1 ∷ 2 ∷ [])) → ⊥
