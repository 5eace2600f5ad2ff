use Rattle.std.proofs.Common.{◌∙◌}
use Rattle.std.proofs.lemmas.Result.{IfOk-weaker}
use Rattle.wit_merge_match.proofs.Steps.{type_text}
use Rattle.wit_merge_match.proofs.messages.in_type.Goals as goal

pub returns : goal.returns
returns c = IfOk-weaker c.format.result _ _ (λ message is. is ∙ type_text c.args.name.now c.args.text.now) c.format.ensures.ok
