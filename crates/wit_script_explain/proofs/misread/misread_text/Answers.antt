use Rattle.wit_script_explain.proofs.Reasons.{some_reason}
use Rattle.wit_script_explain.proofs.misread.misread_text.Goals as goal

pub returns : goal.returns
returns c = some_reason c.reason_text.result c.args.script.now c.args.index c.as_str.result.now c.reason_text.ensures
