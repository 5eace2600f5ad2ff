-- Faults as texts.
use Rattle.std.specs.Prelude.{ℕ, List, ◌++◌, codes, decimal}
use Rattle.wit_json_reading.specs.declared.fault.Expected.{Expected}
use Rattle.wit_json_reading.specs.declared.fault.Expected.TheVariants as expected
use Rattle.wit_json_reading.specs.declared.fault.Step.{Step}
use Rattle.wit_json_reading.specs.declared.syntax.JsonPart.{JsonPart}
use Rattle.wit_json_reading.specs.declared.syntax.JsonPart.TheVariants as part
use Rattle.wit_json_reading.specs.declared.fault.Step.TheVariants as step

-- a part of a JSON text
abbrev pub json_part_text : JsonPart → List ℕ
json_part_text part.Value = codes "a value"
json_part_text part.ValueOrListEnd = codes "a value or `]`"
json_part_text part.NameOrObjectEnd = codes "a name in quotes or `}`"
json_part_text part.Name = codes "a name in quotes"
json_part_text part.Colon = codes "`:`"
json_part_text part.CommaOrListEnd = codes "`,` or `]`"
json_part_text part.CommaOrObjectEnd = codes "`,` or `}`"
json_part_text part.TextEnd = codes "the end of the text"
json_part_text part.Character =
    codes "a closing quote, or a character that isn't a control character"
json_part_text part.Escape = codes "an escape"
json_part_text part.HexDigit = codes "a hexadecimal digit"
json_part_text part.HexDigitBelowC = codes "a hexadecimal digit below `c`"
json_part_text part.SecondHalf = codes "the second half of a surrogate pair"
json_part_text part.Digit = codes "a digit"
json_part_text part.DigitOrSign = codes "a digit or a sign"
json_part_text part.True = codes "`true`"
json_part_text part.False = codes "`false`"
json_part_text part.Null = codes "`null`"

-- what was to stand there
abbrev pub expected_text : Expected → List ℕ
expected_text expected.Document = codes "a JSON value and nothing else"
expected_text (expected.Json p) = json_part_text p
expected_text (expected.UnfinishedJson p) = json_part_text p ++ codes " before the text ends"
expected_text expected.Nesting = codes "at most 128 lists and objects in one another"
expected_text expected.Object = codes "an object"
expected_text expected.List = codes "a list"
expected_text expected.Text = codes "a text"
expected_text expected.Number = codes "a number in digits alone, below 18446744073709551616"
expected_text expected.SmallNumber = codes "a number below 4294967296"
expected_text expected.Version = codes "a version"
expected_text expected.Pair = codes "a list of two values"
expected_text expected.Span = codes "a start that isn't after its end"
expected_text expected.Member = codes "a member of this name"
expected_text expected.NoMember = codes "no member of this name"
expected_text expected.NoSecondMember = codes "no second member of this name"
expected_text expected.Type = codes "the name of a primitive type, or the index of a type"
expected_text expected.TypeKind = codes "a kind of type"
expected_text expected.FunctionKind = codes "a kind of function"
expected_text expected.Gate = codes "a gate"
expected_text expected.Owner = codes "an owner of a type"
expected_text expected.Handle = codes "a handle"
expected_text expected.Entry = codes "an entry of a world"
expected_text expected.PackageName = codes "the name of a package"
expected_text expected.ForeignItem = codes "an interface or a world of another package"
expected_text expected.Source = codes "a file that ends before position 4294967296"
expected_text expected.Boolean = codes "true or false"
expected_text expected.Command = codes "a command"
expected_text expected.TrackRule = codes "a rule of tracks"
expected_text expected.Mangling = codes "a mangling"
expected_text expected.FunctionPlace = codes "where a function stands"
expected_text expected.NewName = codes "a name that no package before it has"
expected_text expected.Details = codes "details of the same things in the same order"
expected_text (expected.ValidGraph why) = codes "a valid graph"

-- a step of a path
abbrev pub path_step_text : Step → List ℕ
path_step_text (step.Member name) = codes "." ++ name
path_step_text (step.Item index) = codes "[" ++ (decimal index ++ codes "]")
