use Rattle.std.proofs.Common.{[], ◌∷◌, arith, codes, refl, true}
use Rattle.std.specs.Fmt.{digits}
use Rattle.wit_ways.specs.Ways.{IsWay}
use Rattle.examples_json.specs.runs.Ways.{arrow, circle}
use Rattle.examples_json.proofs.runs.examples_of_ways.Goals as goal

goes_back : IsWay circle (codes "p" ∷ []) (codes "p") true circle (codes "p") true
goes_back = ((0, omega arith, refl), refl, ((1, omega arith, refl), refl, ((2, omega arith, refl), refl, (refl, refl))))

pub returns : goal.returns
unfolding digits
returns c = record {
  moved = refl;
  past_the_end = refl;
  named = refl;
  used = refl;
  not_used = refl;
  depends = refl;
  there = refl;
  elsewhere = refl;
  nowhere = refl;
  label = refl;
  included = refl;
  round = (codes "p", goes_back, refl);
  past = (codes "r", ((0, omega arith, refl), refl, ((1, omega arith, refl), refl, (refl, refl))), refl);
  not_past = λ is. cc;
  not_none = λ none. none (arrow (codes "p") (codes "q")) (arrow (codes "q") (codes "r") ∷ arrow (codes "r") (codes "p") ∷ []) (codes "p") goes_back refl;
  shown = refl;
  no_way = refl;
  no_other = λ same. cc;
}
