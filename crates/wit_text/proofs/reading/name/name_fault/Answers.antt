use Rattle.std.proofs.Common.{◌≡◌, ◌∙◌, ◌++◌, sym}
use Rattle.std.proofs.lemmas.Str.{IsUtf8-past_char}
use Rattle.std.specs.Char.{encode_utf8}
use Rattle.std.specs.Str.Iter.{chars_rest}
use Rattle.wit_text.specs.Name.{name_fault}
use Rattle.wit_text.proofs.NameFaults.{ended, goes_on, stops}
use Rattle.wit_text.proofs.reading.name.name_fault.Goals as goal

pub loop-character-preserved : goal.loop-character-preserved
loop-character-preserved c =
    record {
      utf8 = IsUtf8-past_char (chars_rest c.loop-character.character-iterator) (chars_rest c.next.new.self) c.in-Some.character c.loop-character.invariant.utf8 c.in-Some.ensures.steps.0;
      left = goes_on (chars_rest c.loop-character.character-iterator) (chars_rest c.next.new.self) c.in-Some.character c.loop-character.word (name_fault c.args.name.now)
          c.loop-character.invariant.utf8 c.in-Some.ensures.steps.0 c.loop-character.invariant.left c.in-Ok.next (sym c.in-Ok.ensures);
    }

pub returns-in-Err : goal.returns-in-Err
returns-in-Err c =
    stops (chars_rest c.loop-character.character-iterator) (chars_rest c.next.new.self) c.in-Some.character c.loop-character.word (name_fault c.args.name.now)
    c.loop-character.invariant.utf8 c.in-Some.ensures.steps.0 c.loop-character.invariant.left c.in-Err.fault (sym c.in-Err.ensures)

pub returns : goal.returns
returns c =
    c.at_end.ensures ∙ ended (chars_rest c.loop-character.character-iterator) c.loop-character.word (name_fault c.args.name.now) c.in-None.ensures.steps.0.0 c.loop-character.invariant.left
