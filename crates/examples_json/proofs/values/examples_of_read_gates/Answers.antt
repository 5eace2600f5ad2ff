use Rattle.std.proofs.Common.{refl}
use Rattle.wit_json_reading.specs.Reading.{read_or}
use Rattle.std.specs.Fmt.{digits}
use Rattle.json.proofs.OnLiterals.{json_on_literals}
use Rattle.semver.proofs.OnLiterals.{semver_on_literals}
use Rattle.wit_json_reading.specs.Gates.{read_contents, read_docs, read_any_gate, read_place, read_range, read_span, read_stability, read_stable, read_unstable}
use Rattle.wit_json_reading.specs.Values.{decimal_of, read_small_number, read_version}
use Rattle.examples_json.proofs.values.examples_of_read_gates.Goals as goal

pub returns : goal.returns
unfolding json_on_literals semver_on_literals digits read_contents read_docs read_any_gate read_place read_range read_span read_stability read_stable read_unstable decimal_of read_small_number read_version read_or
returns c = record {
  placed = refl;
  empty = refl;
  not_backwards = refl;
  not_one = refl;
  not_past = refl;
  unknown = refl;
  null_ = refl;
  docs_ = refl;
  no_docs = refl;
  not_bare = refl;
  no_more = refl;
  ungated = refl;
  stable = refl;
  unstable = refl;
  no_feature = refl;
  no_version = refl;
  not_twice = refl;
  other_gate = refl;
  two_gates = refl;
}
