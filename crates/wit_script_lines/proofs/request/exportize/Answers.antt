use Rattle.std.proofs.Common.{[], Option, sym, subst}
use Rattle.wit_script_lines.specs.declared.request.Request.{Request}
use Rattle.wit_script_lines.specs.steps.ReadResult.{IsRead}
use Rattle.wit_script_lines.proofs.Arguments.{exportize_of-enough, exportize_of-few}
use Rattle.wit_script_lines.proofs.request.exportize.Goals as goal

pub returns-in_default : goal.returns-in_default
returns-in_default c = exportize_of-few c.args.arguments.now c.in_default.len_below

pub returns-in-len3-up : goal.returns-in-len3-up
returns-in-len3-up c =
    subst (λ (read : Option Request). IsRead read c.exportize_to.result) (sym (exportize_of-enough c.args.arguments.now (record { ref_ptr = (0, 0); now = [] }) c.in-len3-up.len_at_least)) c.exportize_to.ensures
