use Rattle.std.proofs.Common.{◌≡◌, ℕ, List, Bor, Some, map, take}
use Rattle.wit_script_lines.specs.Line.{last_statement_line}
use Rattle.wit_script.specs.Ready.{AreReady}
use Rattle.wit_script.specs.Script.{reading_before}
use Rattle.wit_script.proofs.reader.add_lines.Given as goal

-- the lines so far are read, and the last of them that says something is known
abbrev pub invariant-loop-index : goal.invariant-loop-index
invariant-loop-index l = record {
  read : reading_before l.index (map (λ (x : Bor (List ℕ)). x.now) l.lines) ≡ Some l.reading;
  ready : AreReady l.reading.commands;
  last : l.last ≡ last_statement_line (map (λ (x : Bor (List ℕ)). x.now) (take l.index l.lines));
}
