use Rattle.std.proofs.Common.{rules}
use Rattle.wit_link_spec.proofs.gates.is_active.Goals as goal

pub returns-then-features : goal.returns-then-features
returns-then-features c = search rules
