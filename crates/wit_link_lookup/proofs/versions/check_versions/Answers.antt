use Rattle.std.proofs.lemmas.Result.{on_ok_weaker}
use Rattle.wit_link_lookup.specs.declared.checker.Checker.{Checker}
use Rattle.wit_link_lookup.proofs.VersionsMet.{gates-met}
use Rattle.wit_link_lookup.proofs.versions.check_versions.Goals as goal

pub returns-clause-met : goal.returns-clause-met
returns-clause-met c =
    let checker : Checker = record { alloc = c.args.alloc; addition = c.args.addition.now; activity = c.args.activity } in
    on_ok_weaker c.check_parts_of_worlds.result (λ parts. gates-met checker (record { shaped = c.requires.shaped; activity = c.requires.activity }) (record {
      types = c.in_ok-check_types.ensures.met;
      foreign = c.in_ok-check_packages.ensures.met;
      interfaces = c.in_ok-check_interfaces.ensures.met;
      worlds = c.in_ok-check_worlds.ensures.met;
      functions = c.in_ok-check_functions_of_interfaces.ensures.met;
      parts = parts;
    })) c.check_parts_of_worlds.ensures.met
