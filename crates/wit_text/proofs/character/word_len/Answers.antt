use Rattle.std.proofs.Common.{◌≡◌, ◌∙◌, ◌+◌, ◌++◌, length, drop, true, false, ap, length-append, arith}
use Rattle.std.proofs.lemmas.Str.{IsUtf8-past_char, drop_past_char, length-encode}
use Rattle.std.specs.Char.{encode_utf8, len_utf8}
use Rattle.std.specs.Str.{chars}
use Rattle.std.specs.Str.Iter.{char_indices_offset, char_indices_rest}
use Rattle.wit_text.specs.Character.{continues_word, run_len, word_len}
use Rattle.wit_text.proofs.Characters.{run_end, word_goes_on, word_stops}
use Rattle.wit_text.proofs.character.word_len.Goals as goal

pub returns-then-not-continues_word-clause-value : goal.returns-then-not-continues_word-clause-value
returns-then-not-continues_word-clause-value c =
    let stops : continues_word c.in-Some.character ≡ false = cc in
    c.in-Some.ensures.steps.0
    ∙ word_stops (char_indices_rest c.loop-at.at-iterator) (char_indices_rest c.next.new.self) c.in-Some.character c.loop-at.invariant.utf8 c.in-Some.ensures.steps.1
    (char_indices_offset c.loop-at.at-iterator) (word_len c.args.text.now) stops c.loop-at.invariant.left

pub loop-at-preserved : goal.loop-at-preserved
loop-at-preserved c =
    let on : continues_word c.in-Some.character ≡ true = cc in
    let step : char_indices_rest c.loop-at.at-iterator ≡ encode_utf8 c.in-Some.character ++ char_indices_rest c.next.new.self = c.in-Some.ensures.steps.1 in
    let moved : char_indices_offset c.next.new.self ≡ char_indices_offset c.loop-at.at-iterator + length (encode_utf8 c.in-Some.character) = c.in-Some.ensures.steps.2 in
    let width : length (encode_utf8 c.in-Some.character) ≡ len_utf8 c.in-Some.character = length-encode c.in-Some.character in
    let all : length (char_indices_rest c.loop-at.at-iterator) ≡ length (encode_utf8 c.in-Some.character) + length (char_indices_rest c.next.new.self) =
    ap length step ∙ length-append (encode_utf8 c.in-Some.character) (char_indices_rest c.next.new.self) in
    let next : char_indices_offset c.next.new.self ≡ char_indices_offset c.loop-at.at-iterator + len_utf8 c.in-Some.character = omega arith in
    record {
      utf8 = IsUtf8-past_char (char_indices_rest c.loop-at.at-iterator) (char_indices_rest c.next.new.self) c.in-Some.character c.loop-at.invariant.utf8 step;
      rest = ap (λ n. drop n c.args.text.now) next
          ∙ drop_past_char c.args.text.now (char_indices_rest c.next.new.self) (char_indices_offset c.loop-at.at-iterator) c.in-Some.character (c.loop-at.invariant.rest ∙ step);
      length = omega (arith, c.loop-at.invariant.length);
      left = word_goes_on (char_indices_rest c.loop-at.at-iterator) (char_indices_rest c.next.new.self) c.in-Some.character c.loop-at.invariant.utf8 step
          (char_indices_offset c.loop-at.at-iterator) (char_indices_offset c.next.new.self) (word_len c.args.text.now) on moved c.loop-at.invariant.left;
    }

pub returns-clause-value : goal.returns-clause-value
returns-clause-value c =
    let none : length (char_indices_rest c.loop-at.at-iterator) ≡ 0 = c.in-None.ensures.steps.0 in
    let end : run_len (chars (char_indices_rest c.loop-at.at-iterator)) ≡ 0 = run_end (char_indices_rest c.loop-at.at-iterator) none in
    omega (arith, c.loop-at.invariant.length, c.loop-at.invariant.left)
