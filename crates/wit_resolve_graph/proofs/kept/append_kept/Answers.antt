use Rattle.std.proofs.Common.{subst, sym}
use Rattle.wit_graph_data.specs.declared.graph.Graph.{Graph}
use Rattle.wit_queries.specs.ValidBits.{AreValidBitsOf}
use Rattle.wit_resolve_graph.proofs.KeptRows.{flags_known, kept_cut, kept_followed}
use Rattle.wit_resolve_graph.proofs.kept.append_kept.Goals as goal

pub follow-requires-clause-known : goal.follow-requires-clause-known
follow-requires-clause-known c = flags_known c.args.graph.now c.append_with.new.graph c.args.kept.now c.requires.kept c.append_with.ensures.grown

pub returns-in_err-follow-clause-kept : goal.returns-in_err-follow-clause-kept
returns-in_err-follow-clause-kept c =
    kept_cut c.args.graph.now c.append_with.new.graph c.follow.new.graph c.args.kept.now c.follow.new.self c.of-mark.result c.of-known.result c.append_with.new.caches c.requires.kept c.append_with.ensures.grown c.of-mark.ensures c.append_with.ensures.known
    c.of-known.ensures c.in_err-follow.ensures.unchanged

pub returns-clause-kept : goal.returns-clause-kept
returns-clause-kept c =
    kept_followed c.append_with.new.graph c.follow.new.graph c.follow.new.self c.append_with.new.caches c.append_with.ensures.valid c.append_with.ensures.caches c.in_ok-follow.ensures.ok

pub returns-in_err-id-clause-kept : goal.returns-in_err-id-clause-kept
returns-in_err-id-clause-kept c = record {
  valid = c.append_with.ensures.valid;
  caches = c.append_with.ensures.caches;
  bits = subst (λ (g : Graph). AreValidBitsOf g.types c.args.kept.now.valid_bits) (sym c.in_err-id.ensures.unchanged) c.requires.kept.bits;
}
