-- Packages that lines build: a first line begins one, and others are added to it.
use Rattle.std.specs.Prelude.{◌≡◌, ℕ, List, Some}
use Rattle.wit_names.specs.PackageName.{HasValidVersion}
use Rattle.wit_names.specs.declared.package_name.PackageName.{PackageName}
use Rattle.wit_data.specs.declared.stability.Stability.{Stability}
use Rattle.wit_script_lines.specs.declared.package_line.PackageLine.{PackageLine}
use Rattle.wit_script_package.specs.Draft.{new_draft}
use Rattle.wit_script_package.specs.Lines.{with_line}
use Rattle.wit_script_package.specs.declared.draft.Draft.{Draft}
use Rattle.wit_script_package.specs.declared.mention.Mention.{Mention}

-- the package is one that lines build
pub data IsBuilt : Draft → Type 0 where
  -- by its first line, whose name is read with a version of SemVer 2.0.0, where it has one
  first_line : {p : Draft} (name : PackageName) (line : List ℕ) (ms : List Mention)
      → HasValidVersion name → new_draft name line ms ≡ Some p → IsBuilt p
  -- by one more
  next_line : {q : Draft} (p : Draft) (said : PackageLine) (gate : Stability) (line : List ℕ)
      → IsBuilt p → with_line p said gate line ≡ Some q → IsBuilt q
