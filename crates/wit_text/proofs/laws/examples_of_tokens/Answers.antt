use Rattle.std.proofs.Common.{refl}
use Rattle.std.specs.Str.{chars}
use Rattle.wit_text.proofs.laws.examples_of_tokens.Goals as goal

pub returns : goal.returns
unfolding chars
returns c = record {
  nothing = refl;
  use_line = refl;
  longer_word = refl;
  word_with_dash = refl;
  large_word = refl;
  explicit = refl;
  explicit_alone = refl;
  explicit_dash = refl;
  dash = refl;
  underscore = refl;
  two_underscores = refl;
  arrow = refl;
  parted_arrow = refl;
  version = refl;
  digits_first = refl;
  digits_last = refl;
  blanks = refl;
  line_comment = refl;
  last_comment = refl;
  slash = refl;
  block_comment = refl;
  inner_comment = refl;
  string = refl;
  with_mark = refl;
}
