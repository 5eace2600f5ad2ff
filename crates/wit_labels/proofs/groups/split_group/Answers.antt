use Rattle.std.proofs.Common.{◌∙◌, ◌+◌, length, None, Some, lit<, sym}
use Rattle.std.proofs.lemmas.Slice.{between_from_start}
use Rattle.std.proofs.lemmas.Str.Pattern.{split_once_first, split_parts}
use Rattle.wit_labels.proofs.GroupSteps.{first_group-is, no_closing}
use Rattle.wit_labels.proofs.groups.split_group.Goals as goal

pub returns-in-None-clause-none : goal.returns-in-None-clause-none
returns-in-None-clause-none c = no_closing c.args.text.now (split_once_first 93 c.args.text.now None c.in-None.ensures.cases (lit< tt))

pub returns-in-Some : goal.returns-in-Some
returns-in-Some c =
    let first = split_once_first 93 c.args.text.now (Some (c.in-Some.inside, c.in-Some.rest)) c.in-Some.ensures.cases (lit< tt) in
    let parts = split_parts 93 c.args.text.now (Some (c.in-Some.inside, c.in-Some.rest)) c.in-Some.ensures.cases (lit< tt) in
    let is = first_group-is c.args.text.now c.in-Some.inside.now c.in-Some.rest.now c.range.result.now (sym c.begins_group.ensures ∙ c.if-not-begins_group.false)
    first.0 first.1 first.2 parts.0 (c.range.ensures.value ∙ between_from_start c.args.text.now (length c.in-Some.inside.now + 1)) in
    record { none = tt; groups = is.groups; whole = is.whole; shorter = is.shorter }
