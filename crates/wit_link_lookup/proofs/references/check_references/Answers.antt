use Rattle.std.proofs.lemmas.Result.{on_ok_weaker}
use Rattle.wit_link_lookup.specs.declared.checker.Checker.{Checker}
use Rattle.wit_link_lookup.proofs.ReferencesStay.{nothing-left-out}
use Rattle.wit_link_lookup.proofs.references.check_references.Goals as goal

pub returns-clause-met : goal.returns-clause-met
returns-clause-met c =
    let checker : Checker = record { alloc = c.args.alloc; addition = c.args.addition.now; activity = c.args.activity } in
    on_ok_weaker c.look_at_worlds.result (λ parts. nothing-left-out checker (record {
      types = c.in_ok-look_at_types.ensures.stay;
      functions = c.in_ok-look_at_interfaces.ensures.stay;
      parts = parts;
    })) c.look_at_worlds.ensures.stay
