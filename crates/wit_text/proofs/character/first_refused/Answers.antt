use Rattle.std.proofs.Common.{◌≡◌, ◌∙◌, ◌+◌, Some, None, length, length-append, ap, sym, arith}
use Rattle.std.specs.Char.{encode_utf8}
use Rattle.std.proofs.lemmas.Str.{IsUtf8-past_char}
use Rattle.std.specs.Str.Iter.{char_indices_offset, char_indices_rest}
use Rattle.wit_text.specs.Character.{first_refused, refusal_of}
use Rattle.wit_text.proofs.Characters.{refused_end, refused_here, refused_later}
use Rattle.wit_text.proofs.character.first_refused.Goals as goal

pub returns-in-Some-refusal-clause-value : goal.returns-in-Some-refusal-clause-value
returns-in-Some-refusal-clause-value c =
    ap (λ n. Some (n, c.in-Some-refusal.kind)) c.in-Some.ensures.steps.0
    ∙ refused_here (char_indices_rest c.loop-at.at-iterator) (char_indices_rest c.next.new.self) c.in-Some.character c.loop-at.invariant.utf8 c.in-Some.ensures.steps.1
    (char_indices_offset c.loop-at.at-iterator) c.in-Some-refusal.kind (first_refused c.args.text.now) (sym c.in-Some-refusal.ensures) c.loop-at.invariant.left

pub loop-at-preserved : goal.loop-at-preserved
loop-at-preserved c =
    let none : refusal_of c.in-Some.character ≡ None = cc in
    let moved : char_indices_offset c.next.new.self ≡ char_indices_offset c.loop-at.at-iterator + length (encode_utf8 c.in-Some.character) = c.in-Some.ensures.steps.2 in
    let all : length (char_indices_rest c.loop-at.at-iterator) ≡ length (encode_utf8 c.in-Some.character) + length (char_indices_rest c.next.new.self) =
    ap length c.in-Some.ensures.steps.1 ∙ length-append (encode_utf8 c.in-Some.character) (char_indices_rest c.next.new.self) in
    record {
      length = omega (arith, c.loop-at.invariant.length);
      utf8 = IsUtf8-past_char (char_indices_rest c.loop-at.at-iterator) (char_indices_rest c.next.new.self) c.in-Some.character c.loop-at.invariant.utf8 c.in-Some.ensures.steps.1;
      left = refused_later (char_indices_rest c.loop-at.at-iterator) (char_indices_rest c.next.new.self) c.in-Some.character c.loop-at.invariant.utf8 c.in-Some.ensures.steps.1
          (char_indices_offset c.loop-at.at-iterator) (char_indices_offset c.next.new.self) (first_refused c.args.text.now) none c.in-Some.ensures.steps.2 c.loop-at.invariant.left;
    }

pub returns-clause-value : goal.returns-clause-value
returns-clause-value c =
    refused_end (char_indices_rest c.loop-at.at-iterator) (char_indices_offset c.loop-at.at-iterator) (first_refused c.args.text.now) c.in-None.ensures.steps.0 c.loop-at.invariant.left
