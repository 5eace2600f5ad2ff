use Rattle.std.proofs.Common.{◌≡◌, ◌+◌, length}
use Rattle.std.specs.Str.{IsUtf8, chars}
use Rattle.std.specs.Str.Iter.{char_indices_offset, char_indices_rest}
use Rattle.wit_text.specs.Character.{first_refused, refused_among}
use Rattle.wit_text.proofs.character.first_refused.Given as goal

-- what is left to be asked
abbrev pub invariant-loop-at : goal.invariant-loop-at
invariant-loop-at l = record {
  utf8 : IsUtf8 (char_indices_rest l.at-iterator);
  length : char_indices_offset l.at-iterator + length (char_indices_rest l.at-iterator) ≡ length l.text;
  left : refused_among (char_indices_offset l.at-iterator) (chars (char_indices_rest l.at-iterator)) ≡ first_refused l.text;
}
