use Rattle.std.specs.Fmt.{HasWritten, IsPlainFormatter}
use Rattle.std.specs.List.{flat_map}
use Rattle.witgraph_dot.specs.Texts.{quoted_char}
use Rattle.witgraph_dot.proofs.texts.QuotedDisplay.fmt.Given as goal

-- the characters so far
abbrev pub invariant-loop-char : goal.invariant-loop-char
invariant-loop-char g l = IsPlainFormatter l.initial.f → HasWritten g.W.Write.write_str_gives l.initial.f (flat_map quoted_char l.yielded) l.f
