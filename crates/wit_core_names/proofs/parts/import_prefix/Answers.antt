use Rattle.std.proofs.Common.{rules}
use Rattle.wit_core_names.proofs.parts.import_prefix.Goals as goal

pub returns-in-AsyncCallback : goal.returns-in-AsyncCallback
returns-in-AsyncCallback c = search rules
