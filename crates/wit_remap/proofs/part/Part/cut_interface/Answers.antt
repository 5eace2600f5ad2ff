use Rattle.std.proofs.Common.{refl, rules}
use Rattle.wit_remap.specs.steps.Parts.{kept_of}
use Rattle.wit_remap.proofs.part.Part.cut_interface.Goals as goal

pub returns : goal.returns
returns c =
    let kept = kept_of c.args.self.now in
    rw (c.retain.ensures kept.types (λ v says call. search rules), c.retain-2.ensures kept.functions (λ v says call. search rules)) refl
