use Rattle.std.proofs.Common.{◌≡◌}
use Rattle.wit_transform.specs.Transformed.{export_refusal}
use Rattle.wit_transform.proofs.new_lists.export_refusal.Given as goal

-- what is refused of all is refused of those that are left
abbrev pub invariant-loop-key : goal.invariant-loop-key
invariant-loop-key l = export_refusal l.key-iterator ≡ export_refusal l.exports
