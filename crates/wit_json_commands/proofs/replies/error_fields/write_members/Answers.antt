use Rattle.std.proofs.Common.{OnOk, subst, sym}
use Rattle.wit_graph_data.specs.declared.error_kind.ResolveErrorKind.{ResolveErrorKind}
use Rattle.wit_json.specs.steps.Members.{Adds}
use Rattle.wit_json_commands.specs.RefusalJson.{error_fields}
use Rattle.wit_json_commands.proofs.replies.error_fields.write_members.Goals as goal

pub returns-in-PackageNotFound : goal.returns-in-PackageNotFound
returns-in-PackageNotFound c =
    subst (λ (kind : ResolveErrorKind). OnOk c.write_two.result (Adds c.args.out.now c.write_two.new.out (error_fields kind))) (sym c.in-PackageNotFound.is) c.write_two.ensures

pub returns-in-WorldNotFound : goal.returns-in-WorldNotFound
returns-in-WorldNotFound c =
    subst (λ (kind : ResolveErrorKind). OnOk c.write_two-in-WorldNotFound.result (Adds c.args.out.now c.write_two-in-WorldNotFound.new.out (error_fields kind))) (sym c.in-WorldNotFound.is)
    c.write_two-in-WorldNotFound.ensures

pub returns-in-InterfaceNotFound : goal.returns-in-InterfaceNotFound
returns-in-InterfaceNotFound c =
    subst (λ (kind : ResolveErrorKind). OnOk c.write_two-in-InterfaceNotFound.result (Adds c.args.out.now c.write_two-in-InterfaceNotFound.new.out (error_fields kind))) (sym c.in-InterfaceNotFound.is)
    c.write_two-in-InterfaceNotFound.ensures
