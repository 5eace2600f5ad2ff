use Rattle.std.proofs.Common.{rules, ◌≡◌, Some, slice_get}
use Rattle.wit_data.specs.declared.world.WorldItem.TheVariants as item
use Rattle.wit_data.specs.declared.world.WorldKey.TheVariants as key
use Rattle.wit_graph_data.specs.declared.cause.Cause.TheVariants as cause
use Rattle.wit_graph_data.specs.declared.error_kind.ResolveErrorKind.TheVariants.{Semantic}
use Rattle.wit_link_spec.specs.CauseText.{getter_text}
use Rattle.wit_labels.specs.Setters.{getter_label}
use Rattle.wit_link_include.proofs.Causes.{alone_error}
use Rattle.wit_link_include.proofs.labels.no_getter.Goals as goal

pub returns-in_ok-message-in-Name-Function : goal.returns-in_ok-message-in-Name-Function
returns-in_ok-message-in-Name-Function c =
    let at : slice_get c.args.entries.now c.args.index ≡ Some (key.Name c.in-Name-Function.label, item.Function c.in-Name-Function.function) = search rules in
    let is : c.into.result ≡ Semantic c.in-Name-Function.function.span (getter_text c.args.word.now c.in-Name-Function.label c.args.world.now (getter_label c.in-Name-Function.label)) cause.NoGetter = search rules in
    alone_error c.args.world.now c.args.word.now c.args.entries.now c.args.index c.in-Name-Function.label c.in-Name-Function.function c.requires at c.into.result is
