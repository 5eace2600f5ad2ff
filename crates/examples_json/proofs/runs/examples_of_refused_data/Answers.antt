use Rattle.std.proofs.Common.{◌≡◌, ◌<◌, ℕ, Option, None, Some, ap, arith, get_or, refl}
use Rattle.std.specs.Fmt.{digits}
use Rattle.std.specs.Str.{chars}
use Rattle.strsim.specs.Edits.{cost_at, next_row, rows}
use Rattle.json.specs.Print.{escape_byte, print_from}
use Rattle.wit_values.specs.facts.Lists.{differ}
use Rattle.wit_names.specs.declared.package_name.PackageName.{PackageName}
use Rattle.wit_json_commands.specs.declared.replies.file_places.FilePlace.{FilePlace}
use Rattle.examples_json.proofs.runs.examples_of_refused_data.Goals as goal

abbrev line_of : Option FilePlace → ℕ
line_of None = 0
line_of (Some place) = place.line

-- the first byte of a name
abbrev space_of : Option PackageName → ℕ
space_of None = 0
space_of (Some p) = get_or p.namespace 0 0

apart : (a b : ℕ) → b < a → a ≡ b → ⊥
apart a b more same = omega arith

pub returns : goal.returns
unfolding digits escape_byte print_from rows chars next_row cost_at
returns c = record {
  known = refl;
  not_sorted = differ _ _ refl;
  world = refl;
  no_span = differ _ _ refl;
  interface = refl;
  conflict = refl;
  twice = refl;
  cycle = refl;
  shadowing = refl;
  gates = refl;
  not_turned = differ _ _ refl;
  message = refl;
  no_field = refl;
  near = refl;
  none_near = refl;
  version_last = refl;
  first_of_two = refl;
  not_the_last = λ same. apart 98 97 (omega arith) (ap space_of same);
  not_of_a_cycle = refl;
  there = refl;
  in_the_other = refl;
  not_from_zero = λ same. apart 1 0 (omega arith) (ap line_of same);
  at_the_end = refl;
  past_the_end = refl;
  nowhere = refl;
  both = refl;
  one = refl;
  none = refl;
  step = refl;
  unplaced = refl;
  place_text = refl;
  step_text = refl;
  no_null = differ _ _ refl;
  whole = refl;
}
