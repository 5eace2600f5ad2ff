use Rattle.wit_link_lookup.proofs.Flags.{activity-is, flagged}
use Rattle.wit_link_lookup.proofs.active_parts.activity.Goals as goal

pub mark_packages-requires : goal.mark_packages-requires
mark_packages-requires c =
    λ i e at k item there.
    flagged c.args.addition.now.features.now c.args.addition.now.unresolved.now c.in_ok-activity.activity item.0 item.1.0 c.in_ok-activity.ensures (c.requires.foreign.bare i e at k item there).0

pub returns : goal.returns
returns c =
    activity-is c.args.addition.now.features.now c.args.addition.now.unresolved.now c.in_ok-activity.activity c.mark_packages.new.activity c.requires c.in_ok-activity.ensures c.mark_packages.ensures
