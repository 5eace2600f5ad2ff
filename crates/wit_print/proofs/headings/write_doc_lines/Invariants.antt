use Rattle.std.proofs.Common.{◌≡◌, ◌++◌, map, string_bytes}
use Rattle.std.specs.List.{flat_map}
use Rattle.wit_print.specs.Headings.{doc_line}
use Rattle.wit_print.proofs.headings.write_doc_lines.Given as goal

-- the lines so far
abbrev pub invariant-loop-line : goal.invariant-loop-line
invariant-loop-line l = string_bytes l.text ≡ string_bytes l.fn.text ++ flat_map (doc_line l.indent) (map (λ line. line.now) l.yielded)
