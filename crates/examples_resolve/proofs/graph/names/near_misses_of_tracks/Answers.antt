use Rattle.std.proofs.Common.{◌≡◌, [], codes, refl, ap, arith}
use Rattle.wit_values.specs.facts.Lists.{differ}
use Rattle.wit_values.specs.Version.{Parts}
use Rattle.examples_resolve.proofs.graph.names.near_misses_of_tracks.Goals as goal

pub returns : goal.returns
returns c = record {
  one_major = refl;
  other_major = λ same. let apart : 1 ≡ 2 = ap (λ (v : Parts). v.0) same in absurd (omega (arith, apart));
  not_minor_kept = λ same. let apart : 0 ≡ 2 = ap (λ (v : Parts). v.1) same in absurd (omega (arith, apart));
  one_minor = refl;
  other_minor = λ same. let apart : 2 ≡ 3 = ap (λ (v : Parts). v.1) same in absurd (omega (arith, apart));
  not_major_alone = λ same. let apart : 2 ≡ 0 = ap (λ (v : Parts). v.1) same in absurd (omega (arith, apart));
  not_whole = λ same. let apart : 0 ≡ 1 = ap (λ (v : Parts). v.2) same in absurd (omega (arith, apart));
  other_patch = λ same. let apart : 3 ≡ 4 = ap (λ (v : Parts). v.2) same in absurd (omega (arith, apart));
  not_minor_alone = λ same. let apart : 3 ≡ 0 = ap (λ (v : Parts). v.2) same in absurd (omega (arith, apart));
  across_one = λ same. let apart : 0 ≡ 1 = ap (λ (v : Parts). v.0) same in absurd (omega (arith, apart));
  own_release = λ same. let apart : 0 ≡ 2 = ap (λ (v : Parts). v.1) same in absurd (omega (arith, apart));
  other_candidate = λ same. differ (codes "rc.1") (codes "rc.2") refl (ap (λ (v : Parts). v.3) same);
  other_numbers = λ same. let apart : 2 ≡ 3 = ap (λ (v : Parts). v.1) same in absurd (omega (arith, apart));
  other_build = refl;
  not_built = λ same. differ [] (codes "b") refl (ap (λ (v : Parts). v.4) same);
  by_each_rule = (refl, refl);
  with_release = refl;
  not_alone = λ same. let apart : 0 ≡ 2 = ap (λ (v : Parts). v.1) same in absurd (omega (arith, apart));
  still_other_major = λ same. let apart : 1 ≡ 2 = ap (λ (v : Parts). v.0) same in absurd (omega (arith, apart));
}
