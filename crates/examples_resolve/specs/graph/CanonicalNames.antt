-- Canonical names, and what they leave out of versions.
use Rattle.std.specs.Prelude.{◌≡◌, ◌≢◌, ℕ, List, [], ◌∷◌, ◌++◌, Option, Some, None, codes}
use Rattle.wit_values.specs.Version.{Parts}
use Rattle.wit_data.specs.declared.interface.Interface.{Interface}
use Rattle.wit_names.specs.PackageName.{HasValidVersion}
use Rattle.wit_names.specs.declared.package_name.PackageName.{PackageName}
use Rattle.wit_data.specs.declared.world.WorldKey.TheVariants as key
use Rattle.wit_graph_data.specs.Queries.{canonical_id_text, canonical_interface_id_at, canonical_key_text, version_suffix_of}
use Rattle.wit_graph_data.specs.examples.Samples.{foo_bar, foo_bar_of, interface_of, no_docs}
use Rattle.wit_graph_data.specs.declared.graph.Package.{Package}
use Rattle.wit_graph_data.specs.steps.Parts.{canonical_id_text_in, id_text_in}

-- the name foo:x with a version, or without one
abbrev pub foo_x : Option Parts → PackageName
foo_x version = record { namespace = codes "foo"; name = codes "x"; version = version }

-- a release
abbrev pub release : ℕ → ℕ → ℕ → Option Parts
release major minor patch = Some (major, minor, patch, [], [])

-- a package of this name
abbrev pub package_of : PackageName → Package
package_of name = record { name = name; docs = no_docs; interfaces = []; worlds = [] }

-- foo:x@0.2.1 and foo:bar
abbrev pub two_packages : List Package
two_packages = package_of (foo_x (release 0 2 1)) ∷ foo_bar_of [] [] ∷ []

-- interface x of the first, a of the second, one without a name, and one without a package
abbrev pub their_interfaces : List Interface
their_interfaces =
    interface_of (Some (codes "x")) []
    ∷ record (interface_of (Some (codes "a")) []) { «package» = Some 1 } ∷ interface_of None []
    ∷ record (interface_of (Some (codes "n")) []) { «package» = None } ∷ []

-- a pre-release with build metadata, and the same text as a pre-release alone, which SemVer has not
abbrev pub pre_and_build : Option Parts
pre_and_build = Some (1, 0, 0, codes "a", codes "b")

abbrev pub pre_with_plus : Option Parts
pre_with_plus = Some (1, 0, 0, codes "a+b", [])

pub record ExamplesOfCanonicalNames : Type 0 where
  -- in the place of the version stands its track, not the version, nor the track as a version, nor nothing
  pub not_whole : canonical_id_text_in (foo_x (release 0 2 1)) (codes "x") ≢ codes "foo:x/x@0.2.1"
  pub not_as_version : canonical_id_text_in (foo_x (release 0 2 1)) (codes "x")
      ≢ codes "foo:x/x@0.2.0"
  pub not_without : canonical_id_text_in (foo_x (release 0 2 1)) (codes "x") ≢ codes "foo:x/x"
  -- of a release from 1.0.0 on the major number; of a pre-release the whole
  pub major : canonical_id_text_in (foo_x (release 1 2 3)) (codes "x") ≡ codes "foo:x/x@1"
  pub not_minor : canonical_id_text_in (foo_x (release 1 2 3)) (codes "x") ≢ codes "foo:x/x@1.2"
  pub pre_release : canonical_id_text_in (foo_x (Some (0, 2, 1, codes "rc.1", codes "b")))
      (codes "x") ≡ codes "foo:x/x@0.2.1-rc.1"
  pub not_release : canonical_id_text_in (foo_x (Some (0, 2, 1, codes "rc.1", codes "b")))
      (codes "x") ≢ codes "foo:x/x@0.2"
  pub not_build : canonical_id_text_in (foo_x (Some (0, 2, 1, codes "rc.1", codes "b"))) (codes "x")
      ≢ codes "foo:x/x@0.2.1-rc.1+b"
  -- without a version there is no `@`
  pub unversioned : canonical_id_text_in foo_bar (codes "a") ≡ codes "foo:bar/a"
  pub no_mark : canonical_id_text_in foo_bar (codes "a") ≢ codes "foo:bar/a@"
  -- of a package by its place, and of one that isn't there
  pub by_place : canonical_id_text two_packages 0 (codes "y") ≡ codes "foo:x/y@0.2"
  pub not_the_next : canonical_id_text two_packages 0 (codes "y") ≢ codes "foo:bar/y"
  pub no_package : canonical_id_text two_packages 2 (codes "y") ≡ []
  -- of an interface by its place: with its own name, of its own package
  pub interface : canonical_interface_id_at two_packages their_interfaces 0
      ≡ Some (codes "foo:x/x@0.2")
  pub second : canonical_interface_id_at two_packages their_interfaces 1 ≡ Some (codes "foo:bar/a")
  pub not_id : canonical_interface_id_at two_packages their_interfaces 0
      ≢ Some (codes "foo:x/x@0.2.1")
  pub not_of_first : canonical_interface_id_at two_packages their_interfaces 1
      ≢ Some (codes "foo:x/a@0.2")
  -- one without a name, without a package, or that isn't there has none
  pub unnamed : canonical_interface_id_at two_packages their_interfaces 2 ≡ None
  pub not_empty : canonical_interface_id_at two_packages their_interfaces 2
      ≢ Some (codes "foo:x/@0.2")
  pub unplaced : canonical_interface_id_at two_packages their_interfaces 3 ≡ None
  pub no_interface : canonical_interface_id_at two_packages their_interfaces 4 ≡ None
  -- a label is named as it stands, be it that of an interface; the key of an interface by its canonical id
  pub label : canonical_key_text two_packages their_interfaces (key.Name (codes "x")) ≡ codes "x"
  pub not_of_interface : canonical_key_text two_packages their_interfaces (key.Name (codes "x"))
      ≢ codes "foo:x/x@0.2"
  pub own_key : canonical_key_text two_packages their_interfaces (key.Interface 0)
      ≡ codes "foo:x/x@0.2"
  pub not_name_alone : canonical_key_text two_packages their_interfaces (key.Interface 0)
      ≢ codes "x"
  pub not_id_text : canonical_key_text two_packages their_interfaces (key.Interface 0)
      ≢ codes "foo:x/x@0.2.1"
  -- two versions would have one text, were one of them not refused
  pub one_text : id_text_in (foo_x pre_and_build) (codes "x")
      ≡ id_text_in (foo_x pre_with_plus) (codes "x")
  pub valid : HasValidVersion (foo_x pre_and_build)
  pub no_version : HasValidVersion (foo_x None)
  pub not_valid : HasValidVersion (foo_x pre_with_plus) → ⊥

-- what is left out of the version of the package of an interface
abbrev pub suffix_of : Option Parts → Option (List ℕ)
suffix_of version =
    version_suffix_of (package_of (foo_x version) ∷ []) (interface_of (Some (codes "x")) [] ∷ []) 0

pub record ExamplesOfSuffixes : Type 0 where
  -- the canonical id and the suffix together are the id
  pub together : canonical_id_text_in (foo_x (release 0 2 1)) (codes "x") ++ codes ".1"
      ≡ id_text_in (foo_x (release 0 2 1)) (codes "x")
  -- it begins with the point, it isn't the whole version, and it is there
  pub not_number_alone : suffix_of (release 0 2 1) ≢ Some (codes "1")
  pub not_whole : suffix_of (release 0 2 1) ≢ Some (codes "0.2.1")
  pub not_none : suffix_of (release 0 2 1) ≢ None
  -- of a release from 1.0.0 on both other numbers
  pub both : suffix_of (release 1 2 3) ≡ Some (codes ".2.3")
  pub not_last_alone : suffix_of (release 1 2 3) ≢ Some (codes ".3")
  -- where the track is the whole version nothing is left out, not an empty text, and neither where there is no version
  pub whole : suffix_of (release 0 0 3) ≡ None
  pub not_empty : suffix_of (release 0 0 3) ≢ Some []
  pub unversioned : suffix_of None ≡ None
  -- it is that of the interface's own package; one without a package, or that isn't there, has none
  pub own : version_suffix_of two_packages their_interfaces 0 ≡ Some (codes ".1")
  pub not_of_another : version_suffix_of two_packages their_interfaces 1 ≢ Some (codes ".1")
  pub unplaced : version_suffix_of two_packages their_interfaces 3 ≡ None
  pub no_interface : version_suffix_of two_packages their_interfaces 4 ≡ None
