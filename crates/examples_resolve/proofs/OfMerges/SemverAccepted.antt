-- No cause holds against the merges that are worked.
use Rattle.std.proofs.Common.{refl}
use Rattle.semver.specs.Order.{strip_zeros}
use Rattle.wit_graph_theory.specs.examples.TestFacts.{none_some}
use Rattle.examples_resolve.proofs.OfMerges.SemverFine.{passing}
use Rattle.examples_resolve.specs.merge.AcceptedExamples.{ExamplesOfAccepted}

pub accepted : ExamplesOfAccepted
unfolding strip_zeros
accepted = record {
  newest_first = passing _ (record { there = refl; targets = refl; functions = refl; packages = refl; interfaces = refl; types = refl; exports = refl });
  again = passing _ (record { there = refl; targets = refl; functions = refl; packages = refl; interfaces = refl; types = refl; exports = refl });
  exported = passing _ (record { there = refl; targets = refl; functions = refl; packages = refl; interfaces = refl; types = refl; exports = refl });
  own_alias = passing _ (record { there = refl; targets = refl; functions = refl; packages = refl; interfaces = refl; types = refl; exports = refl });
  labelled = passing _ (record { there = refl; targets = refl; functions = refl; packages = refl; interfaces = refl; types = refl; exports = refl });
  other_world = passing _ (record { there = refl; targets = refl; functions = refl; packages = refl; interfaces = refl; types = refl; exports = refl });
  other_world_again = passing _ (record { there = refl; targets = refl; functions = refl; packages = refl; interfaces = refl; types = refl; exports = refl });
  apart_from_release = passing _ (record { there = refl; targets = refl; functions = refl; packages = refl; interfaces = refl; types = refl; exports = refl });
  below_release = passing _ (record { there = refl; targets = refl; functions = refl; packages = refl; interfaces = refl; types = refl; exports = refl });
  apart_again = passing _ (record { there = refl; targets = refl; functions = refl; packages = refl; interfaces = refl; types = refl; exports = refl });
  apart_from_major = passing _ (record { there = refl; targets = refl; functions = refl; packages = refl; interfaces = refl; types = refl; exports = refl });
  other_major = passing _ (record { there = refl; targets = refl; functions = refl; packages = refl; interfaces = refl; types = refl; exports = refl });
  apart_from_patch = passing _ (record { there = refl; targets = refl; functions = refl; packages = refl; interfaces = refl; types = refl; exports = refl });
  below_patch = passing _ (record { there = refl; targets = refl; functions = refl; packages = refl; interfaces = refl; types = refl; exports = refl });
  one_name = passing _ (record { there = refl; targets = refl; functions = refl; packages = refl; interfaces = refl; types = refl; exports = refl });
  greatest_of_three = passing _ (record { there = refl; targets = refl; functions = refl; packages = refl; interfaces = refl; types = refl; exports = refl });
  type_use = passing _ (record { there = refl; targets = refl; functions = refl; packages = refl; interfaces = refl; types = refl; exports = refl });
  label_use = passing _ (record { there = refl; targets = refl; functions = refl; packages = refl; interfaces = refl; types = refl; exports = refl });
  nameless_use = passing _ (record { there = refl; targets = refl; functions = refl; packages = refl; interfaces = refl; types = refl; exports = refl });
  alone = passing _ (record { there = refl; targets = refl; functions = refl; packages = refl; interfaces = refl; types = refl; exports = refl });
  nowhere = λ error cause. none_some cause.0 cause.1;
  other_interface = passing _ (record { there = refl; targets = refl; functions = refl; packages = refl; interfaces = refl; types = refl; exports = refl });
  other_package = passing _ (record { there = refl; targets = refl; functions = refl; packages = refl; interfaces = refl; types = refl; exports = refl });
  other_namespace = passing _ (record { there = refl; targets = refl; functions = refl; packages = refl; interfaces = refl; types = refl; exports = refl });
  without_version = passing _ (record { there = refl; targets = refl; functions = refl; packages = refl; interfaces = refl; types = refl; exports = refl });
  labelled_newer = passing _ (record { there = refl; targets = refl; functions = refl; packages = refl; interfaces = refl; types = refl; exports = refl });
  of_another_world = passing _ (record { there = refl; targets = refl; functions = refl; packages = refl; interfaces = refl; types = refl; exports = refl });
}
