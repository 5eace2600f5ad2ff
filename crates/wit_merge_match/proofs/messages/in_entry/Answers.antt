use Rattle.std.proofs.Common.{◌∙◌}
use Rattle.std.proofs.lemmas.Result.{IfOk-weaker}
use Rattle.wit_merge_match.proofs.Steps.{entry_text}
use Rattle.wit_merge_match.proofs.messages.in_entry.Goals as goal

pub returns : goal.returns
returns c = IfOk-weaker c.format.result _ _ (λ message is. is ∙ entry_text c.args.word.now c.args.key.now c.args.text.now) c.format.ensures.ok
