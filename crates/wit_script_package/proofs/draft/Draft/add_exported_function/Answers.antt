use Rattle.wit_script_package.proofs.Entries.{exported}
use Rattle.wit_script_package.proofs.draft.Draft.add_exported_function.Goals as goal

pub returns : goal.returns
returns c =
    exported c.args.self.now c.make_function.new.self c.add_export.new.self c.args.said c.args.here.now c.in_ok-function.function c.in_ok-try_clone.field-0 c.add_export.result
    c.in_ok-function.ensures c.in_ok-try_clone.ensures c.add_export.ensures
