use Rattle.std.proofs.Common.{subst, sym}
use Rattle.wit_graph_data.specs.declared.graph.Graph.{Graph}
use Rattle.wit_queries.specs.ValidBits.{AreValidBitsOf}
use Rattle.wit_resolve_graph.proofs.KeptRows.{flags_known, kept_cut, kept_followed}
use Rattle.wit_resolve_graph.proofs.merging.append_merge_kept.Goals as goal

pub follow-requires-clause-known : goal.follow-requires-clause-known
follow-requires-clause-known c = flags_known c.args.graph.now c.append_merge.new.graph c.args.kept.now c.requires.kept c.append_merge.ensures.grown

pub returns-in_err-follow-clause-kept : goal.returns-in_err-follow-clause-kept
returns-in_err-follow-clause-kept c =
    kept_cut c.args.graph.now c.append_merge.new.graph c.follow.new.graph c.args.kept.now c.follow.new.self c.of-mark.result c.of-known.result (record { elaborator = c.append_merge.new.elaborator; met = c.append_merge.new.met }) c.requires.kept c.append_merge.ensures.grown c.of-mark.ensures
    (record { rows = c.append_merge.ensures.rows; met = c.append_merge.ensures.met_before })
    c.of-known.ensures c.in_err-follow.ensures.unchanged

pub returns-clause-kept : goal.returns-clause-kept
returns-clause-kept c =
    kept_followed c.append_merge.new.graph c.follow.new.graph c.follow.new.self (record { elaborator = c.append_merge.new.elaborator; met = c.append_merge.new.met }) c.append_merge.ensures.valid
    (record { uses = c.append_merge.ensures.uses; met = c.append_merge.ensures.met }) c.in_ok-follow.ensures.ok

pub returns-in_err-remap-clause-kept : goal.returns-in_err-remap-clause-kept
returns-in_err-remap-clause-kept c = record {
  valid = c.append_merge.ensures.valid;
  caches = record { uses = c.append_merge.ensures.uses; met = c.append_merge.ensures.met };
  bits = subst (λ (g : Graph). AreValidBitsOf g.types c.args.kept.now.valid_bits) (sym c.in_err-remap.ensures.unchanged) c.requires.kept.bits;
}
