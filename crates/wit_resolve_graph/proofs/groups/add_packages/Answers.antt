use Rattle.std.proofs.Common.{◌∙◌, ap, subst, sym}
use Rattle.std.specs.Map.{lookup}
use Rattle.wit_names.specs.PackageName.{same_package}
use Rattle.wit_graph_data.specs.declared.graph.Graph.{Graph}
use Rattle.wit_queries.specs.ValidBits.{AreValidBitsOf}
use Rattle.wit_resolve_graph.specs.steps.Grouping.{AreAddedTogether}
use Rattle.wit_resolve_graph.proofs.KeptRows.{flags_known, kept_cut, kept_followed}
use Rattle.std.specs.Option.{option_copied}
use Rattle.wit_resolve_graph.proofs.Grouped.{are_added, never_none, one_refused, sorted_can}
use Rattle.wit_resolve_graph.proofs.groups.add_packages.Goals as goal

pub append_all_with-requires-clause-packages : goal.append_all_with-requires-clause-packages
append_all_with-requires-clause-packages c = sorted_can c.args.packages c.in_ok-sorted.sorted c.requires.packages c.in_ok-sorted.ensures.ok

pub unreachable-requires : goal.unreachable-requires
unreachable-requires c =
    never_none c.args.features.now c.args.graph.now c.args.packages c.in_ok-sorted.sorted c.args.name.now c.requires.named c.in_ok-sorted.ensures.ok c.append_all_with.new.graph c.in_ok-append_all_with.field-0 c.in_ok-append_all_with.ensures.ok
    (ap (λ (g : Graph). lookup (same_package c.args.name.now) g.package_names) (sym c.in_ok-follow.ensures.ok.0) ∙ sym c.get.ensures ∙ ap option_copied c.in-None.is)

pub returns-clause-ok : goal.returns-clause-ok
returns-clause-ok c =
    subst (λ (g : Graph). AreAddedTogether c.args.features.now c.args.graph.now c.args.packages c.args.name.now c.in-Some.id.now g) (sym c.in_ok-follow.ensures.ok.0)
    (are_added c.args.features.now c.args.graph.now c.args.packages c.in_ok-sorted.sorted c.args.name.now c.requires.named c.in_ok-sorted.ensures.ok c.append_all_with.new.graph c.in_ok-append_all_with.field-0 c.in_ok-append_all_with.ensures.ok
    c.in_ok-sorted.ensures.refuses c.in-Some.id.now (ap (λ (g : Graph). lookup (same_package c.args.name.now) g.package_names) (sym c.in_ok-follow.ensures.ok.0) ∙ sym c.get.ensures ∙ ap option_copied c.in-Some.is))

pub returns-clause-refuses : goal.returns-clause-refuses
returns-clause-refuses c = λ kind cause.
    c.in_ok-append_all_with.ensures.refuses kind (one_refused c.args.features.now c.args.graph.now c.args.packages c.in_ok-sorted.sorted c.in_ok-sorted.ensures.refuses c.in_ok-sorted.ensures.ok kind cause)

pub follow-requires-clause-known : goal.follow-requires-clause-known
follow-requires-clause-known c = flags_known c.args.graph.now c.append_all_with.new.graph c.args.kept.now c.requires.kept c.append_all_with.ensures.grown

pub returns-in_err-follow-clause-kept : goal.returns-in_err-follow-clause-kept
returns-in_err-follow-clause-kept c =
    kept_cut c.args.graph.now c.append_all_with.new.graph c.follow.new.graph c.args.kept.now c.follow.new.self c.of-mark.result c.of-known.result c.append_all_with.new.caches c.requires.kept c.append_all_with.ensures.grown c.of-mark.ensures c.append_all_with.ensures.known
    c.of-known.ensures c.in_err-follow.ensures.unchanged

pub returns-clause-kept : goal.returns-clause-kept
returns-clause-kept c =
    kept_followed c.append_all_with.new.graph c.follow.new.graph c.follow.new.self c.append_all_with.new.caches c.append_all_with.ensures.valid c.append_all_with.ensures.caches c.in_ok-follow.ensures.ok

pub returns-in_err-append_all_with-clause-kept : goal.returns-in_err-append_all_with-clause-kept
returns-in_err-append_all_with-clause-kept c = record {
  valid = c.append_all_with.ensures.valid;
  caches = c.append_all_with.ensures.caches;
  bits = subst (λ (g : Graph). AreValidBitsOf g.types c.args.kept.now.valid_bits) (sym c.in_err-append_all_with.ensures.unchanged) c.requires.kept.bits;
}
