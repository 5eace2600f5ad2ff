-- Keys of worlds that are the same.
use Rattle.std.specs.Prelude.{Bool}
use Rattle.wit_data.specs.contracts.world.WorldKeyPartialEq.TheImpl.{eq-value}
use Rattle.wit_data.specs.declared.world.WorldKey.{WorldKey}

-- the same label, or the same interface: what `==` of two keys says (`facts/WorldKeyFacts` has its cases)
abbrev pub same_key : WorldKey → WorldKey → Bool
same_key = eq-value.it
