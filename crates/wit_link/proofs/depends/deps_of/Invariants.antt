use Rattle.std.proofs.Common.{◌≡◌, ◌++◌, List}
use Rattle.std.specs.List.{filter_map}
use Rattle.std.specs.Map.{lookup}
use Rattle.wit_data.specs.Foreign.{ForeignItem}
use Rattle.wit_names.specs.PackageName.{same_package}
use Rattle.wit_names.specs.declared.package_name.PackageName.{PackageName}
use Rattle.wit_link.specs.steps.GroupOrderSteps.{found_deps}
use Rattle.wit_link.proofs.depends.deps_of.Given as goal

-- those so far, and those that are left
abbrev pub invariant-loop-name : goal.invariant-loop-name
invariant-loop-name l = l.deps ++ filter_map (λ (e : PackageName × List ForeignItem). lookup (same_package e.0) l.places) l.name-iterator ≡ found_deps l.places l.«package»
