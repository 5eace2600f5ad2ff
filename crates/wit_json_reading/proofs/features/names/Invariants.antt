use Rattle.std.proofs.Common.{◌≡◌, [], drop, fold}
use Rattle.wit_json_reading.specs.Features.{names_with}
use Rattle.wit_json_reading.proofs.features.names.Given as goal

-- the names so far, and the texts that are left
abbrev pub invariant-loop-text : goal.invariant-loop-text
invariant-loop-text l = fold names_with [] l.texts ≡ fold names_with l.names (drop l.text-index l.text-items)
