use Rattle.std.proofs.Common.{◌≡◌, ◌∙◌, List, slice_set, ap}
use Rattle.wit_data.specs.declared.interface.Interface.{Interface}
use Rattle.wit_script_package.proofs.Changing.{set-same}
use Rattle.wit_script_package.proofs.draft.Draft.shrink_interface.Goals as goal

pub returns : goal.returns
returns c =
    let same : record c.at_mut-interface.result.now { types = c.shrink.new.self; functions = c.shrink-2.new.self } ≡ c.at_mut-interface.result.now =
    λ i. record c.at_mut-interface.result.now { types = c.shrink.ensures i; functions = c.shrink-2.ensures i } in
    ap (λ (l : List Interface). record c.args.self.now { interfaces = l })
    (ap (slice_set c.args.self.now.interfaces c.args.at) same ∙ set-same c.args.self.now.interfaces c.args.at c.at_mut-interface.result.now c.at_mut-interface.ensures.value)
