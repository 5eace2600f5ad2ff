use Rattle.std.proofs.Common.{lit<, refl}
use Rattle.std.proofs.lemmas.Bool.{false≢true}
use Rattle.std.specs.Fmt.{digits}
use Rattle.wit_values.specs.facts.Lists.{differ}
use Rattle.examples_resolve.proofs.OfGraphs.Apart.{not_there, some_differ}
use Rattle.examples_resolve.proofs.graph.names.examples_of_canonical_names.Goals as goal

pub returns : goal.returns
unfolding digits
returns c = record {
  not_whole = differ _ _ refl;
  not_as_version = differ _ _ refl;
  not_without = differ _ _ refl;
  major = refl;
  not_minor = differ _ _ refl;
  pre_release = refl;
  not_release = differ _ _ refl;
  not_build = differ _ _ refl;
  unversioned = refl;
  no_mark = differ _ _ refl;
  by_place = refl;
  not_the_next = differ _ _ refl;
  no_package = refl;
  interface = refl;
  second = refl;
  not_id = some_differ _ _ refl;
  not_of_first = some_differ _ _ refl;
  unnamed = refl;
  not_empty = not_there _;
  unplaced = refl;
  no_interface = refl;
  label = refl;
  not_of_interface = differ _ _ refl;
  own_key = refl;
  not_name_alone = differ _ _ refl;
  not_id_text = differ _ _ refl;
  one_text = refl;
  valid = (lit< tt, lit< tt, lit< tt, refl, refl);
  no_version = tt;
  not_valid = λ is. false≢true is.3;
}
