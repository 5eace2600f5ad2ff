use Rattle.std.proofs.Common.{sym, string_bytes}
use Rattle.wit_merge_match.specs.steps.Differing as differing
use Rattle.wit_merge_match.proofs.matched_graphs.MatchedGraphs.entry_mismatch.Goals as goal

pub returns-in_ok-in_entry-in-Some-2-clause-some : goal.returns-in_ok-in_entry-in-Some-2-clause-some
returns-in_ok-in_entry-in-Some-2-clause-some c =
    differing.apart c.in-Some.there.now (string_bytes c.in-Some-2.text) (sym c.in-Some.ensures) (rw c.in-Some-2.is at c.in_ok-text.ensures.some)
    (rw (c.deref-in-Some-2.ensures, c.deref-in-Some-2-2.ensures, c.in_ok-name-in-Some-2.ensures) at c.in_ok-in_entry-in-Some-2.ensures)
