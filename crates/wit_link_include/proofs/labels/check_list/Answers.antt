use Rattle.std.proofs.Common.{rules, ◌≡◌, None}
use Rattle.std.specs.Map.{keys_of}
use Rattle.wit_graph_data.specs.declared.cause.Cause.TheVariants as cause
use Rattle.wit_graph_data.specs.declared.error_kind.ResolveErrorKind.TheVariants.{Semantic}
use Rattle.wit_link_spec.specs.CauseText.{clash_text}
use Rattle.wit_labels.specs.steps.Setters.{HaveGetters}
use Rattle.wit_labels.specs.Strong.{Clashes}
use Rattle.wit_labels.specs.steps.Strong.{AreStronglyUnique}
use Rattle.wit_link_include.proofs.Causes.{clash_error, list_accepted}
use Rattle.wit_link_include.proofs.labels.check_list.Goals as goal

pub returns-in-Some-clause-cause : goal.returns-in-Some-clause-cause
returns-in-Some-clause-cause c =
    let clash : Clashes (keys_of c.args.entries.now) c.in-Some.clash.label.now c.in-Some.clash.earlier.now = search rules in
    let is : c.in_ok-not_strongly_unique.field-0 ≡ Semantic None (clash_text c.args.word.now c.in-Some.clash.label.now c.args.world.now c.in-Some.clash.earlier.now) cause.NotStronglyUnique = search rules in
    clash_error c.args.world.now c.args.word.now c.args.entries.now c.in-Some.clash.label.now c.in-Some.clash.earlier.now clash c.in_ok-not_strongly_unique.field-0 is

pub returns-clause-fine : goal.returns-clause-fine
returns-clause-fine c =
    let unique : AreStronglyUnique (keys_of c.args.entries.now) = search rules in
    let getters : HaveGetters c.args.entries.now = search rules in
    list_accepted c.args.world.now c.args.word.now c.args.entries.now unique getters
