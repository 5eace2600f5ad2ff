use Rattle.std.proofs.Common.{length, take}
use Rattle.wit_elaboration.specs.Entries.{keyed_interfaces}
use Rattle.wit_semver.specs.SemverMerged.{semver_merge}
use Rattle.wit_semver.specs.steps.Replacing.{IsFilled, replacement}
use Rattle.wit_semver.proofs.replaced.replacements.Given as goal

-- it is told what replaces the first ones
abbrev pub invariant-loop-key : goal.invariant-loop-key
invariant-loop-key l = IsFilled (replacement (semver_merge l.rule l.graph l.world)) (keyed_interfaces (take (length l.yielded) l.world.imports)) l.found
