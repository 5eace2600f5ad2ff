use Rattle.std.proofs.Common.{◌∙◌}
use Rattle.wit_elaboration.specs.facts.Keys.{is_some-lookup_key}
use Rattle.wit_elaboration.proofs.entries.has_key.Goals as goal

pub returns : goal.returns
returns c = c.contains_key.ensures ∙ is_some-lookup_key c.args.key.now c.args.entries.now
