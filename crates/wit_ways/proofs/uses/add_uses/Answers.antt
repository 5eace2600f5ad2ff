use Rattle.std.proofs.Common.{◌≡◌, ◌∙◌, ◌++◌, [], ℕ, List, None, Option, ap, filter_map, subst, sym}
use Rattle.std.specs.Prelude.{slice_get}
use Rattle.std.specs.Option.{option_map_or}
use Rattle.std.proofs.lemmas.List.{append-nil}
use Rattle.wit_data.specs.declared.interface.Interface.{Interface}
use Rattle.wit_ways.specs.Arrows.{use_arrow}
use Rattle.wit_ways.proofs.uses.add_uses.Goals as goal

pub returns-in-None : goal.returns-in-None
returns-in-None c =
    let none : slice_get c.args.interfaces.now c.args.user ≡ None =
    subst (λ (i : ℕ). slice_get c.args.interfaces.now i ≡ None) c.index.ensures (sym c.in-None.ensures) in
    sym (append-nil c.args.arrows.now)
    ∙ ap
    (λ (o : Option Interface). c.args.arrows.now ++ option_map_or (λ (x : Interface). filter_map (λ (e : List ℕ × ℕ). use_arrow c.args.features.now c.args.offset c.args.types.now c.args.names.now c.args.user e.1) x.types) o [])
    (sym none)
