use Rattle.wit_script_package.proofs.Entries.{imported}
use Rattle.wit_script_package.proofs.draft.Draft.add_imported_function.Goals as goal

pub returns : goal.returns
returns c =
    imported c.args.self.now c.make_function.new.self c.add_import.new.self c.args.said c.args.here.now c.in_ok-function.function c.in_ok-try_clone.field-0 c.add_import.result
    c.in_ok-function.ensures c.in_ok-try_clone.ensures c.add_import.ensures
