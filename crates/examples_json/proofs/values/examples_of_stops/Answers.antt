use Rattle.std.proofs.Common.{refl}
use Rattle.wit_json_reading.specs.Stops.{stop_from}
use Rattle.wit_json_reading.specs.Syntax.{begin_value, letter}
use Rattle.examples_json.proofs.values.examples_of_stops.Goals as goal

pub returns : goal.returns
unfolding stop_from begin_value letter
returns c = record {
  whole = refl;
  two = refl;
  nothing = refl;
  items = refl;
  no_item = refl;
  no_comma = refl;
  no_end = refl;
  other_end = refl;
  members = refl;
  no_member = refl;
  no_name = refl;
  no_colon = refl;
  empty = refl;
  string = refl;
  control = refl;
  unclosed = refl;
  escapes = refl;
  no_escape = refl;
  pair = refl;
  first_half = refl;
  second_half = refl;
  no_half = refl;
  number = refl;
  octal = refl;
  no_fraction = refl;
  no_exponent = refl;
  no_word = refl;
  longer_word = refl;
}
