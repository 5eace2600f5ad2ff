use Rattle.std.proofs.Common.{◌≡◌, ◌≤◌, count_by, take}
use Rattle.wit_sources.specs.Lines.{is_line_feed}
use Rattle.wit_sources.proofs.lines.count_feeds.Given as goal

-- those so far
abbrev pub invariant-loop-byte : goal.invariant-loop-byte
invariant-loop-byte l = record {
  so_far : l.feeds ≡ count_by is_line_feed (take l.byte-index l.bytes);
  few : l.feeds ≤ l.byte-index;
}
