-- What is read of small texts.
use Rattle.std.proofs.Common.{ℕ, List, Option, Some, None}
use Rattle.wit_script_lines.specs.Line.{lines_of}
use Rattle.wit_script.specs.Script.{new_reading, reading_before, reading_of}
use Rattle.wit_script.specs.declared.reader.Reading.{Reading}

-- a reading, or an empty one
abbrev pub or_nothing : Option Reading → Reading
or_nothing None = new_reading
or_nothing (Some reading) = reading

-- what the lines of a text say
abbrev pub after : List ℕ → Reading
after text = or_nothing (reading_of (lines_of text))

-- what the first so many lines of a text say, where the others are known
abbrev pub before : ℕ → List ℕ → Reading
before k text = or_nothing (reading_before k (lines_of text))
