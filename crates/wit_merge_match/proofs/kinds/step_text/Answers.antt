use Rattle.std.proofs.Common.{◌≡◌, ◌∙◌, None, ap, rules, sym}
use Rattle.std.proofs.lemmas.Result.{IfOk-weaker}
use Rattle.wit_merge_match.specs.steps.Kinds.{name_at, step_at}
use Rattle.wit_data.specs.Kind.{variant_of}
use Rattle.wit_data.specs.steps.Kind.{plain_step}
use Rattle.wit_data.specs.declared.kind.Variant.{Variant}
use Rattle.wit_data.specs.declared.kind.Variant.TheVariants.{Tuple}
use Rattle.wit_merge_match.proofs.KindParts.{no_name, step_plain}
use Rattle.wit_merge_match.proofs.kinds.step_text.Goals as goal

pub returns-in-Tuple : goal.returns-in-Tuple
returns-in-Tuple c =
    let k = c.args.kind.now in
    let none : name_at k c.args.index ≡ None = search rules in
    let tuple : variant_of k ≡ Tuple = search rules in
    let step : step_at k c.args.index ≡ plain_step Tuple c.args.index = step_plain k c.args.index (no_name k c.args.index c.requires none) c.requires ∙ ap (λ (v : Variant). plain_step v c.args.index) tuple in
    IfOk-weaker c.format.result _ _ (λ text is. is ∙ sym step) c.format.ensures.ok

pub returns-in_default-variant_of : goal.returns-in_default-variant_of
returns-in_default-variant_of c =
    let k = c.args.kind.now in
    let none : name_at k c.args.index ≡ None = search rules in
    let step : step_at k c.args.index ≡ plain_step c.variant_of.result c.args.index =
    step_plain k c.args.index (no_name k c.args.index c.requires none) c.requires ∙ ap (λ (v : Variant). plain_step v c.args.index) (sym c.variant_of.ensures) in
    IfOk-weaker c.from_str-in_default-variant_of.result _ _ (λ text is. is ∙ (c.plain_step.ensures ∙ sym step)) c.from_str-in_default-variant_of.ensures.ok
