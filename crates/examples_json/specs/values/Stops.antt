-- Where texts stop being JSON, and what was expected there.
use Rattle.std.specs.Prelude.{◌≡◌, Some, None, codes}
use Rattle.wit_json_reading.specs.Stops.{stop_in}
use Rattle.wit_json_reading.specs.declared.fault.Expected.TheVariants as expected
use Rattle.wit_json_reading.specs.declared.syntax.JsonPart.TheVariants as part

pub record ExamplesOfStops : Type 0 where
  -- white space may stand around values, and nothing else
  pub whole : stop_in (codes " {\"a\" : [1 ,\ttrue]}\n") ≡ None
  pub two : stop_in (codes "{} {}") ≡ Some (3, expected.Json part.TextEnd)
  pub nothing : stop_in (codes " ") ≡ Some (1, expected.UnfinishedJson part.Value)
  -- commas and colons
  pub items : stop_in (codes "[1,2]") ≡ None
  pub no_item : stop_in (codes "[1,]") ≡ Some (3, expected.Json part.Value)
  pub no_comma : stop_in (codes "[1 2]") ≡ Some (3, expected.Json part.CommaOrListEnd)
  pub no_end : stop_in (codes "[1") ≡ Some (2, expected.UnfinishedJson part.CommaOrListEnd)
  pub other_end : stop_in (codes "[1}") ≡ Some (2, expected.Json part.CommaOrListEnd)
  pub members : stop_in (codes "{\"a\":1,\"b\":2}") ≡ None
  pub no_member : stop_in (codes "{\"a\":1,}") ≡ Some (7, expected.Json part.Name)
  pub no_name : stop_in (codes "{1}") ≡ Some (1, expected.Json part.NameOrObjectEnd)
  pub no_colon : stop_in (codes "{\"a\"}") ≡ Some (4, expected.Json part.Colon)
  pub empty : stop_in (codes "[{},[]]") ≡ None
  -- strings: no control character; escapes; a half of a pair of surrogates isn't alone
  pub string : stop_in (codes "\"a b\"") ≡ None
  pub control : stop_in (codes "\"a\nb\"") ≡ Some (2, expected.Json part.Character)
  pub unclosed : stop_in (codes "\"a") ≡ Some (2, expected.UnfinishedJson part.Character)
  pub escapes : stop_in (codes "\"\\n\\\"\\u00e9\"") ≡ None
  pub no_escape : stop_in (codes "\"\\x\"") ≡ Some (2, expected.Json part.Escape)
  pub pair : stop_in (codes "\"\\ud83d\\ude00\"") ≡ None
  pub first_half : stop_in (codes "\"\\ud83d\"") ≡ Some (7, expected.Json part.SecondHalf)
  pub second_half : stop_in (codes "\"\\ude00\"") ≡ Some (4, expected.Json part.HexDigitBelowC)
  pub no_half : stop_in (codes "\"\\ud7ff\"") ≡ None
  -- numbers and words
  pub number : stop_in (codes "-10.25E+3") ≡ None
  pub octal : stop_in (codes "01") ≡ Some (1, expected.Json part.TextEnd)
  pub no_fraction : stop_in (codes "1.") ≡ Some (2, expected.UnfinishedJson part.Digit)
  pub no_exponent : stop_in (codes "1ex") ≡ Some (2, expected.Json part.DigitOrSign)
  pub no_word : stop_in (codes "nul1") ≡ Some (3, expected.Json part.Null)
  pub longer_word : stop_in (codes "nulll") ≡ Some (4, expected.Json part.TextEnd)
