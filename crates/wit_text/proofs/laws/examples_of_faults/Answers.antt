use Rattle.std.proofs.Common.{refl}
use Rattle.std.specs.Str.{chars}
use Rattle.wit_text.proofs.laws.examples_of_faults.Goals as goal

pub returns : goal.returns
unfolding chars
returns c = record {
  unexpected = refl;
  lone_return = refl;
  second_line = refl;
  open_comment = refl;
  short_comment = refl;
  inner_open = refl;
  open_string = refl;
  string_of_two_lines = refl;
  string_with_escape = refl;
  control = refl;
  override_in_comment = refl;
  discouraged = refl;
}
