use Rattle.std.proofs.Common.{refl}
use Rattle.wit_json_reading.specs.Reading.{read_or}
use Rattle.std.specs.Fmt.{digits}
use Rattle.json.proofs.OnLiterals.{json_on_literals}
use Rattle.semver.proofs.OnLiterals.{semver_on_literals}
use Rattle.wit_json_reading.specs.Gates.{read_contents, read_docs, read_any_gate, read_place, read_range, read_span, read_stability, read_stable, read_unstable}
use Rattle.wit_json_reading.specs.Stops.{stop_from}
use Rattle.wit_json_reading.specs.Syntax.{begin_value}
use Rattle.wit_json_reading.specs.Values.{decimal_of, read_small_number, read_version}
use Rattle.examples_json.proofs.values.examples_of_read_values.Goals as goal

pub returns : goal.returns
unfolding json_on_literals semver_on_literals digits read_contents read_docs read_any_gate read_place read_range read_span read_stability read_stable read_unstable decimal_of read_small_number read_version read_or stop_from begin_value
returns c = record {
  alone = refl;
  in_spaces = refl;
  not_two = refl;
  not_empty = refl;
  not_cut = refl;
  zero = refl;
  largest = refl;
  past_largest = refl;
  no_fraction = refl;
  no_exponent = refl;
  no_sign = refl;
  no_text = refl;
  largest_small = refl;
  past_small = refl;
  past_both = refl;
  text = refl;
  not_text = refl;
  true_ = refl;
  not_one = refl;
  version_ = refl;
  not_shorter = refl;
  no_number = refl;
  nothing = refl;
  something = refl;
  items = refl;
  first_fault = refl;
  not_list = refl;
}
