use Rattle.std.proofs.Common.{◌∙◌}
use Rattle.std.proofs.lemmas.Result.{IfOk-weaker}
use Rattle.wit_merge_match.proofs.Steps.{part_text}
use Rattle.wit_merge_match.proofs.messages.in_part.Goals as goal

pub returns : goal.returns
returns c = IfOk-weaker c.format.result _ _ (λ message is. is ∙ part_text c.args.home.now c.args.sort.now c.args.name.now c.args.text.now) c.format.ensures.ok
