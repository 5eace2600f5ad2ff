use Rattle.std.proofs.Common.{take}
use Rattle.std.specs.Fmt.{HasWritten, IsPlainFormatter}
use Rattle.std.specs.List.{flat_map}
use Rattle.wit_graph_data.specs.ErrorText.{known_line}
use Rattle.wit_graph_data.proofs.error_kind.KnownPackagesDisplay.fmt.Given as goal

-- the lines so far
abbrev pub invariant-loop-name : goal.invariant-loop-name
invariant-loop-name g l =
    IsPlainFormatter l.initial.f
    → HasWritten g.W.Write.write_str_gives l.initial.f
    (flat_map known_line (take l.name-index l.name-items)) l.f
