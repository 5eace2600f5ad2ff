use Rattle.std.proofs.Common.{◌≡◌, ◌∙◌, List, slice_set, ap}
use Rattle.wit_data.specs.declared.world.World.{World}
use Rattle.wit_script_package.proofs.Changing.{set-same}
use Rattle.wit_script_package.proofs.draft.Draft.shrink_world.Goals as goal

pub returns : goal.returns
returns c =
    let same : record c.at_mut-world.result.now { imports = c.shrink.new.self; exports = c.shrink-2.new.self } ≡ c.at_mut-world.result.now =
    λ i. record c.at_mut-world.result.now { imports = c.shrink.ensures i; exports = c.shrink-2.ensures i } in
    ap (λ (l : List World). record c.args.self.now { worlds = l })
    (ap (slice_set c.args.self.now.worlds c.args.at) same ∙ set-same c.args.self.now.worlds c.args.at c.at_mut-world.result.now c.at_mut-world.ensures.value)
