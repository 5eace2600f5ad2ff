use Rattle.std.proofs.Common.{◌≡◌, ◌++◌}
use Rattle.wit_names.specs.PackageName.{package_name_text}
use Rattle.wit_ways.specs.Packages.{dependencies_by, package_dependencies}
use Rattle.wit_ways.proofs.package_arrow.package_dependencies.Given as goal

-- those so far, and those that are left
abbrev pub invariant-loop-other : goal.invariant-loop-other
invariant-loop-other l = l.arrows ++ dependencies_by l.offset (package_name_text l.«package».name) l.other-iterator l.spans ≡ package_dependencies l.offset l.«package»
