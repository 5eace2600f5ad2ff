use Rattle.wit_script.specs.facts.Waiting.{understood-come}
use Rattle.wit_script.proofs.script.execute_text.Goals as goal

pub answers_to-requires : goal.answers_to-requires
answers_to-requires c = understood-come c.args.script.now c.in-Ok.commands c.in-Ok.ensures.ok

pub returns-in_ok-answers_to-in-Ok : goal.returns-in_ok-answers_to-in-Ok
returns-in_ok-answers_to-in-Ok c = record {
  utf8 = c.utf8.script;
  commands = c.in-Ok.commands;
  understood = c.in-Ok.ensures.ok;
  after = c.in_ok-answers_to-in-Ok.ensures.0;
  answered = c.in_ok-answers_to-in-Ok.ensures.1;
}

pub returns-in_ok-format-in-Err-NotUnderstood : goal.returns-in_ok-format-in-Err-NotUnderstood
returns-in_ok-format-in-Err-NotUnderstood c = record {
  utf8 = c.utf8.script;
  number = c.in-Err-NotUnderstood.line;
  bad = rw c.in-Err-NotUnderstood.field-0-is at c.in-Err-NotUnderstood.ensures.fault;
  line = c.in_ok-format-in-Err-NotUnderstood.ensures.ok;
}
