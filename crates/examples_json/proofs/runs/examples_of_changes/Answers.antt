use Rattle.std.proofs.Common.{◌≡◌, ◌∷◌, [], inl, ap, refl, codes}
use Rattle.std.specs.Fmt.{digits}
use Rattle.wit_values.specs.facts.Lists.{differ}
use Rattle.wit_resolve_graph.specs.State.{State}
use Rattle.wit_resolve_graph.specs.declared.command.Reply.TheVariants as reply
use Rattle.examples_json.specs.runs.Changes.{with_f}
use Rattle.examples_json.proofs.runs.examples_of_changes.Goals as goal

not_empty : codes "f" ∷ [] ≡ [] → ⊥
not_empty same = cc

pub returns : goal.returns
unfolding digits
returns c = record {
  importized = refl;
  not_exportized = λ same. cc;
  asked = refl;
  not_turned = differ _ _ refl;
  done = refl;
  changed = refl;
  pushed = refl;
  no_world = λ same. cc;
  no_package = refl;
  unmatched = refl;
  all_matched = refl;
  without_keys = refl;
  of_semver = refl;
  absent = refl;
  homeless = refl;
  nameless = refl;
  empty = refl;
  given = refl;
  its_rule = refl;
  not_published = λ same. cc;
  two = (
    with_f,
    inl (tt, record { reply = reply.Done; step = refl; answers = refl }),
    (with_f, inl (tt, record { reply = reply.Done; step = refl; answers = refl }), refl),
  );
  not_one = λ each. each.2;
  nothing = refl;
  not_changed = λ same. not_empty (ap (λ (state : State). state.features.names) same);
}
