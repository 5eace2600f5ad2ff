use Rattle.std.proofs.Common.{◌≡◌, ◌++◌, Some}
use Rattle.std.specs.Vec.Iter.{into_iter_items}
use Rattle.wit_script_package.specs.Draft.{as_group}
use Rattle.wit_script_lines.specs.PackageLine.{each_of}
use Rattle.wit_script.specs.steps.BuiltReading.{AreShapedIfPushable}
use Rattle.wit_script.proofs.reader.into_groups.Given as goal

-- the packages so far are groups, which lack nothing of their shape but what lines may break
abbrev pub invariant-loop-package : goal.invariant-loop-package
invariant-loop-package l = record {
  read : each_of as_group l.yielded ≡ Some l.groups;
  all : l.yielded ++ into_iter_items l.package-iterator ≡ l.fn.packages;
  shaped : AreShapedIfPushable l.groups;
}
