use Rattle.std.proofs.Common.{◌≡◌}
use Rattle.wit_data.specs.Entries.{Entry}
use Rattle.wit_validity.proofs.LookUps.{next_same}
use Rattle.wit_validity.proofs.same.same_entries.Goals as goal

pub loop-index-preserved : goal.loop-index-preserved
loop-index-preserved c =
    let first : Entry = (c.entry_at.result.0.now, c.entry_at.result.1.now) in
    let second : Entry = (c.entry_at-in-loop-index.result.0.now, c.entry_at-in-loop-index.result.1.now) in
    let equal = c.same_entry.ensures.0 c.if-not-same_entry.false in
    let same : first ≡ second = λ k. (equal.0 k, equal.1 k) in
    next_same c.args.a.now c.args.b.now c.loop-index.index first second c.entry_at.ensures c.entry_at-in-loop-index.ensures same c.loop-index.invariant
