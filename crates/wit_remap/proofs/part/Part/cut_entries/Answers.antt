use Rattle.std.proofs.Common.{rules}
use Rattle.wit_remap.specs.steps.Parts.{kept_of}
use Rattle.wit_remap.proofs.part.Part.cut_entries.Goals as goal

pub returns : goal.returns
returns c = c.retain.ensures (kept_of c.args.self.now).items (λ v says call. search rules)
