use Rattle.std.proofs.Common.{◌≡◌, ◌∙◌, ◌++◌, Bool, false, [], slice_get, sym, ap, subst, if◌then◌else◌}
use Rattle.std.specs.Option.{option_map_or}
use Rattle.std.proofs.lemmas.List.{append-nil}
use Rattle.wit_data.specs.declared.world.WorldItem.{WorldItem}
use Rattle.wit_link_spec.specs.Include.{belongs_to, entry_mentions}
use Rattle.wit_link_include.proofs.mentions.push_item.Goals as goal
use Rattle.wit_link_spec.specs.steps.Parts.{interface_mentions}

pub returns-else-contains_key : goal.returns-else-contains_key
returns-else-contains_key c = λ k.
    let g = c.args.origin.now.graph.now in
    let off : belongs_to g c.args.origin.now.world.now c.in-Interface.id ≡ false = sym (c.requires c.in-Interface.id) ∙ (sym c.contains_key.ensures ∙ c.if-contains_key.false) in
    subst (λ (held : WorldItem). c.args.ids.now ≡ c.args.ids.now ++ entry_mentions g c.args.origin.now.world.now (k, held)) (sym c.in-Interface.is)
    (sym (ap (λ (b : Bool). c.args.ids.now ++ (if b then option_map_or interface_mentions (slice_get g.interfaces c.in-Interface.id) [] else [])) off ∙ append-nil c.args.ids.now))
