use Rattle.std.proofs.Common.{◌≡◌}
use Rattle.std.specs.Str.{IsUtf8, chars}
use Rattle.std.specs.Str.Iter.{chars_rest}
use Rattle.wit_text.specs.Name.{fault_from, name_fault}
use Rattle.wit_text.proofs.reading.name.name_fault.Given as goal

-- what is left to be looked at
abbrev pub invariant-loop-character : goal.invariant-loop-character
invariant-loop-character l = record {
  utf8 : IsUtf8 (chars_rest l.character-iterator);
  left : fault_from l.word (chars (chars_rest l.character-iterator)) ≡ name_fault l.name;
}
