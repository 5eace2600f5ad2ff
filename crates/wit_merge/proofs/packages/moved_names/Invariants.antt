use Rattle.std.proofs.Common.{◌≡◌, ◌++◌, ◌<◌, ℕ, length, Contains}
use Rattle.wit_names.specs.declared.package_name.PackageName.{PackageName}
use Rattle.wit_merge.specs.steps.MergeSteps.{merging_of}
use Rattle.wit_merge.proofs.BroughtNames.{brought_names}
use Rattle.wit_merge.proofs.packages.moved_names.Given as goal

-- what has been added, and what those will add that are left, whose packages are there
abbrev pub invariant-loop-name : goal.invariant-loop-name
invariant-loop-name l = record {
  all : l.names ++ brought_names (merging_of l.plan) l.name-iterator ≡ brought_names (merging_of l.plan) l.plan.other.now.package_names;
  there : (e : PackageName × ℕ) → Contains l.name-iterator e → e.1 < length l.plan.other.now.packages;
}
