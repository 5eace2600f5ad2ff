use Rattle.std.proofs.Common.{◌≡◌, ◌+◌, drop, length}
use Rattle.std.specs.Str.{IsUtf8, chars}
use Rattle.std.specs.Str.Iter.{char_indices_offset, char_indices_rest}
use Rattle.wit_text.specs.Character.{run_len, word_len}
use Rattle.wit_text.proofs.character.word_len.Given as goal

-- the word so far, and what may go on with it
abbrev pub invariant-loop-at : goal.invariant-loop-at
invariant-loop-at l = record {
  utf8 : IsUtf8 (char_indices_rest l.at-iterator);
  rest : drop (char_indices_offset l.at-iterator) l.text ≡ char_indices_rest l.at-iterator;
  length : char_indices_offset l.at-iterator + length (char_indices_rest l.at-iterator) ≡ length l.text;
  left : char_indices_offset l.at-iterator + run_len (chars (char_indices_rest l.at-iterator)) ≡ word_len l.text;
}
