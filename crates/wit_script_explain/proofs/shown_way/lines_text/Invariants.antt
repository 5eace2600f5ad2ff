use Rattle.std.proofs.Common.{◌≡◌, take, string_bytes}
use Rattle.std.specs.List.{flat_map}
use Rattle.wit_script_explain.proofs.shown_way.lines_text.Given as goal
use Rattle.wit_script_explain.specs.Ways.{way_line}

abbrev pub invariant-loop-arrow : goal.invariant-loop-arrow
invariant-loop-arrow l = string_bytes l.text ≡ flat_map (way_line l.script l.tracked) (take l.arrow-index l.way)
