use Rattle.std.proofs.Common.{◌∙◌, ◌++◌, ◌∷◌, [], ap}
use Rattle.wit_data.specs.declared.world.WorldItem.{WorldItem}
use Rattle.wit_link_include.proofs.joining.push_new.Goals as goal

pub returns : goal.returns
returns c = c.in_ok-push.ensures.ok ∙ ap (λ (held : WorldItem). c.args.entries.now ++ (c.args.key, held) ∷ []) c.new_item-item.ensures
