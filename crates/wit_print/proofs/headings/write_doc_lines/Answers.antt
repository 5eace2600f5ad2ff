use Rattle.std.proofs.Common.{◌∙◌, ◌++◌, List, ℕ, ap, lit<, string_bytes}
use Rattle.std.proofs.lemmas.Iterator.Consumers.{YieldsList-end}
use Rattle.std.proofs.lemmas.Iterator.Splits.{YieldsList-from_str_split}
use Rattle.std.specs.List.{flat_map}
use Rattle.wit_print.specs.Headings.{doc_line}
use Rattle.wit_print.proofs.headings.write_doc_lines.Goals as goal

pub returns : goal.returns
returns c =
    let end = YieldsList-end (YieldsList-from_str_split 10 c.args.contents.now (lit< tt) (cc) (cc) (cc)) c.loop-line.yielded _ c.loop-line.yielded_by _ _ c.in-None.is c.next.ensures.steps in
    c.loop-line.invariant ∙ ap (λ (parts : List (List ℕ)). string_bytes c.args.text.now ++ flat_map (doc_line c.args.indent.now) parts) end.0
