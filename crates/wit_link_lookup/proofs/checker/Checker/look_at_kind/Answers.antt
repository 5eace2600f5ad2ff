use Rattle.std.proofs.lemmas.Result.{on_ok_weaker}
use Rattle.wit_link_lookup.proofs.ReferencesStay.{fields-refer, fields-stay, ids-refer, ids-stay}
use Rattle.wit_link_lookup.proofs.checker.Checker.look_at_kind.Goals as goal

pub look_at_fields-requires-clause-refer : goal.look_at_fields-requires-clause-refer
look_at_fields-requires-clause-refer c = fields-refer c.args.self.now c.args.def.now c.in-Record.fields c.in-Record.is c.requires.refers

pub returns-in-Record-clause-stays : goal.returns-in-Record-clause-stays
returns-in-Record-clause-stays c = on_ok_weaker c.look_at_fields.result (fields-stay c.args.self.now c.args.def.now c.in-Record.fields c.in-Record.is) c.look_at_fields.ensures.stay

pub look_at_ids-requires-clause-referred : goal.look_at_ids-requires-clause-referred
look_at_ids-requires-clause-referred c =
    ids-refer c.args.self.now c.args.def.now c.in_ok-referred-in_default.field-0 c.in_default.not-Record c.in_ok-referred-in_default.ensures c.requires.refers

pub returns-in_ok-referred-in_default-clause-stays : goal.returns-in_ok-referred-in_default-clause-stays
returns-in_ok-referred-in_default-clause-stays c =
    on_ok_weaker c.look_at_ids-in_default.result (ids-stay c.args.self.now c.args.def.now c.in_ok-referred-in_default.field-0 c.in_default.not-Record c.in_ok-referred-in_default.ensures) c.look_at_ids-in_default.ensures.stay
