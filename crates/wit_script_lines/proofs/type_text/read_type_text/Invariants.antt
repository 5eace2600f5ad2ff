use Rattle.std.proofs.Common.{length}
use denote.Shadow.{shadow}
use denote.Text.{Utf8}
use Rattle.wit_script_lines.specs.TypeText.{type_text_of}
use Rattle.wit_script_lines.proofs.Forms.{Stands}
use Rattle.wit_script_lines.proofs.type_text.read_type_text.Given as goal

-- the forms so far stand around what the rest of the text says
abbrev pub invariant-loop-wrap : goal.invariant-loop-wrap
invariant-loop-wrap l = shadow (Utf8 l.rest) × Stands (type_text_of l.fn.text) l.wraps l.rest

abbrev pub decreases-loop-wrap : goal.decreases-loop-wrap
decreases-loop-wrap l = length l.rest
