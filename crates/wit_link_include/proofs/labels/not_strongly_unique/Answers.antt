use Rattle.std.proofs.Common.{rules}
use Rattle.wit_link_include.proofs.labels.not_strongly_unique.Goals as goal

pub returns : goal.returns
returns c = search rules
