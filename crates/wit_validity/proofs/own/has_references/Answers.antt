use Rattle.wit_validity.proofs.Referring.{by_functions}
use Rattle.wit_validity.proofs.own.has_references.Goals as goal

pub returns : goal.returns
returns c =
    by_functions c.args.types.now c.args.interfaces.now c.in_ok-all_refer_to_own.field-0 c.in_ok-all_refer_to_own.ensures c.if-not-branch.false
    (λ types functions. record { aliases = c.all_alias_named.ensures.0 c.if-not-all_alias_named.false; unnamed = c.are_plain_if_unnamed.ensures.0 c.if-not-are_plain_if_unnamed.false; own_types = types; own_functions = functions })
    c.all_functions_use_own.result c.all_functions_use_own.ensures
