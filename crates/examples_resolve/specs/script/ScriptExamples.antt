-- What the definition of scripts says of small scripts.
use Rattle.std.specs.Prelude.{ℕ, List, [], ◌∷◌, ◌++◌, Some, None, codes, true}
use Rattle.wit_names.specs.declared.package_name.PackageName.{PackageName}
use Rattle.wit_data.specs.declared.types.TypeDef.{TypeDef}
use Rattle.wit_data.specs.declared.types.Type_.{Type_}
use Rattle.wit_data.specs.declared.unresolved.UnresolvedPackageGroup.{UnresolvedPackageGroup}
use Rattle.wit_names.specs.declared.track.TrackRule.TheVariants.{Published, WithPrereleases}
use Rattle.wit_data.specs.declared.types.Type_.TheVariants as type
use Rattle.wit_data.specs.declared.types.TypeDefKind.TheVariants as kind
use Rattle.wit_data.specs.declared.types.TypeOwner.TheVariants as owner
use Rattle.wit_data.specs.declared.world.WorldKey.TheVariants as key
use Rattle.wit_commands.specs.declared.change.Change.TheVariants as change
use Rattle.wit_script_lines.specs.declared.request.Request.TheVariants as request
use Rattle.wit_script_package.specs.Adding.{empty_interface, empty_world}
use Rattle.wit_script_package.specs.Lines.{interface_entry}
use Rattle.wit_script.specs.Script.{IsNotUnderstood, IsUnderstood}
use Rattle.examples_resolve.specs.script.LineExamples.{package_of}
use Rattle.examples_resolve.specs.script.PackageExamples.{Asks, at, group_of, here, named}

-- the lines of foo:bar
abbrev pub first_package : List ℕ
first_package =
    codes "package foo:bar\ninterface a\ntype t u32\ninterface b\n"
    ++ codes "use a t\ninterface c\nuse a t\nuse b t t2\nworld w\nimport c\n"

-- foo:bar
abbrev pub foo_bar : PackageName
foo_bar = package_of (codes "foo") (codes "bar")

-- a name of a type of interface i, by a line that stands here
abbrev pub name_in : ℕ → List ℕ → Type_ → ℕ → ℕ → TypeDef
name_in i name target start end =
    named name (kind.Type_ target) (owner.Interface i) (here start end)

-- what the lines of foo:bar make
abbrev pub first_group : UnresolvedPackageGroup
first_group = group_of (record {
  name = foo_bar;
  package_name_span = at 0 15;
  docs = record { contents = None };
  worlds =
      record (empty_world (codes "w") (here 90 97))
      { imports = (key.Interface 2, interface_entry 2 (here 98 106)) ∷ [] } ∷ [];
  interfaces =
      record (empty_interface (codes "a") (here 16 27)) { types = (codes "t", 0) ∷ [] }
      ∷ record (empty_interface (codes "b") (here 39 50)) { types = (codes "t", 1) ∷ [] }
      ∷ record (empty_interface (codes "c") (here 59 70))
      { types = (codes "t", 2) ∷ (codes "t2", 3) ∷ [] }
      ∷ [];
  types =
      name_in 0 (codes "t") type.U32 28 38
      ∷ name_in 1 (codes "t") (type.Id 0) 51 58
      ∷ name_in 2 (codes "t") (type.Id 0) 71 78
      ∷ name_in 2 (codes "t2") (type.Id 1) 79 89
      ∷ [];
  foreign_deps = [];
  foreign_dep_spans = [];
  unknown_type_spans = [];
  required_resource_types = [];
}) (codes "foo:bar") first_package 108

-- scripts and what they ask, and scripts that aren't understood
pub record ExamplesOfScripts : Type 0 where
  pub first_package : Asks (first_package ++ codes "push\nprint foo:bar w\nselect foo:bar")
      (request.Change (change.PushGroups first_group []) ∷ request.Print foo_bar (codes "w")
      ∷ request.Select foo_bar None ∷ [])
  pub features : Asks (codes "feature f\nall-features\n") (request.Change
      (change.AddFeature (codes "f")) ∷ request.Change (change.SetAllFeatures true) ∷ [])
  pub tracks : Asks (codes "tracks with-prereleases\ntracks published\nsemver foo:bar w\n")
      (request.Change (change.SetTrackRule WithPrereleases)
      ∷ request.Change (change.SetTrackRule Published)
      ∷ request.Change (change.Semver foo_bar (codes "w")) ∷ [])
  -- `-` is no name for `exportize` alone, and no key asks for no filter
  pub turns : Asks (codes "exportize foo:bar w - k\nexportize foo:bar w x\n"
      ++ codes "importize foo:bar w -\nimportize foo:bar w")
      (request.Change (change.Exportize foo_bar (codes "w") None (Some (codes "k" ∷ [])))
      ∷ request.Change (change.Exportize foo_bar (codes "w") (Some (codes "x")) None)
      ∷ request.Change (change.Importize foo_bar (codes "w") (Some (codes "-")))
      ∷ request.Change (change.Importize foo_bar (codes "w") None)
      ∷ [])
  pub spaces : Asks (codes "  select   foo:bar  w ")
      (request.Select foo_bar (Some (codes "w")) ∷ [])
  pub nothing : IsUnderstood [] []
  pub comments : IsUnderstood (codes "# only\n\n   \n") []
  -- there is no package to push
  pub push_alone : IsNotUnderstood (codes "# c\npush\n") 2
  -- a second interface of that name
  pub name_twice : IsNotUnderstood (codes "package a:b\ninterface i\ninterface i\npush\n") 3
  -- no interface of that name stands before
  pub name_later : IsNotUnderstood (codes "package a:b\nworld w\nimport i\ninterface i\npush\n") 3
  -- a command among the lines of a package
  pub among_lines : IsNotUnderstood (codes "package a:b\nprint a:b w\npush\n") 2
  -- nothing pushes the package
  pub unended : IsNotUnderstood (codes "package a:b\ninterface i\n\n# end\n") 2
  -- the key of an interface of another package twice
  pub foreign_twice : IsNotUnderstood (codes "package a:b\nworld w\nimport c:d/e\nimport c:d/e\n") 4
  -- one thing of another package as an interface and as a world
  pub foreign_twofold : IsNotUnderstood
      (codes "package a:b\nworld w\nimport c:d/e\ninclude c:d/e\n") 4
  -- another graph that isn't remapped, a third one, one that is not there
  pub unmerged : IsNotUnderstood (codes "other\nfeature f\n\n# end\n") 2
  pub other_twice : IsNotUnderstood (codes "feature f\nother\nother\nmerge\n") 3
  pub merge_twice : IsNotUnderstood (codes "other\nmerge\nmerge\n") 3
  -- one among the lines of a package
  pub other_among_lines : IsNotUnderstood (codes "package a:b\nother\n") 2
