use Rattle.std.proofs.Common.{◌≡◌, take, drop, rules}
use Rattle.wit_sources.proofs.LineLemmas.{line_begins_whole, line_is}
use Rattle.wit_sources.proofs.lines.line_at.Goals as goal

pub range-requires-clause-start_boundary : goal.range-requires-clause-start_boundary
range-requires-clause-start_boundary c = λ more.
    let before : c.split_at.result.0.now ≡ take c.args.offset c.args.text.now = search rules in
    line_begins_whole c.args.text.now _ c.args.offset _ c.utf8.text before c.requires c.last_line_start-start.ensures.within more (c.last_line_start-start.ensures.begins more)

pub returns : goal.returns
returns c =
    let before : c.split_at.result.0.now ≡ take c.args.offset c.args.text.now = search rules in
    let after : c.split_at.result.1.now ≡ drop c.args.offset c.args.text.now = search rules in
    rw c.range.ensures.value (line_is c.args.text.now _ _ c.args.offset _ _ before after c.last_line_start-start.ensures.value c.first_line_end.ensures.value)
