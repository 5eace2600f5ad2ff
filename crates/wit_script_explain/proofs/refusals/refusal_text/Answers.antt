use Rattle.std.proofs.Common.{◌∙◌, ℕ, ap, subst, string_bytes}
use Rattle.wit_graph_data.specs.Error.{error_number}
use Rattle.wit_graph_data.specs.ErrorText.{kind_text}
use Rattle.wit_graph_data.specs.declared.error_kind.ResolveErrorKind.{ResolveErrorKind}
use Rattle.wit_script_explain.specs.Refusals.{places_text}
use Rattle.wit_script_explain.specs.Ways.{way_text}
use Rattle.wit_ways.specs.Told.{IsTold}
use Rattle.wit_script_explain.proofs.refusals.refusal_text.Goals as goal
use Rattle.wit_script_explain.specs.steps.Parts.{told_text}

pub returns : goal.returns
returns c =
    let kind = c.args.refusal.now in
    let way = c.in_ok-way.way in
    let told = subst (λ (k : ResolveErrorKind). IsTold c.args.tracked.now.resolve c.args.asked.now k way) c.kind-kind.ensures c.in_ok-way.ensures in
    let places = c.in_ok-places.ensures ∙ ap (places_text c.args.script.now c.args.place.now c.args.tracked.now) c.kind-kind.ensures in (
      way,
      told,
      c.in_ok-format.ensures.ok ∙ ap (λ (n : ℕ). told_text n (kind_text kind) (string_bytes c.in_ok-places.places) (string_bytes c.in_ok-shown.shown)) c.number-number.ensures
          ∙ ap (λ t. told_text (error_number kind) (kind_text kind) t (string_bytes c.in_ok-shown.shown)) places
          ∙ ap (told_text (error_number kind) (kind_text kind) (places_text c.args.script.now c.args.place.now c.args.tracked.now kind))
          (c.in_ok-shown.ensures ∙ ap (way_text c.args.script.now c.args.tracked.now) c.as_slice.ensures),
    )
