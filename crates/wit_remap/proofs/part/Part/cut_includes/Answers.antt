use Rattle.std.proofs.Common.{rules, ◌∙◌, ap, filter}
use Rattle.std.proofs.lemmas.Fn.{filter_same}
use Rattle.wit_remap.proofs.part.Part.cut_includes.Goals as goal
use Rattle.wit_link_spec.specs.steps.Parts.{include_is_active}

pub returns : goal.returns
returns c =
    let test = include_is_active c.args.self.now.features.now in
    c.from_vec.ensures ∙ filter_same _ test _ (λ x b f call. search rules) _ _ c.retain.ensures.filtered ∙ ap (filter test) c.into_vec-includes.ensures
