use Rattle.std.proofs.Common.{◌≡◌, ◌∙◌, ◌++◌, [], ℕ, None, Option, ap, map, subst, sym}
use Rattle.std.specs.Prelude.{slice_get}
use Rattle.std.specs.Option.{option_map_or}
use Rattle.std.proofs.lemmas.List.{append-nil}
use Rattle.wit_data.specs.Kind.{referred}
use Rattle.wit_data.specs.declared.types.TypeDef.{TypeDef}
use Rattle.wit_ways.specs.TypeArrows.{reference_to}
use Rattle.wit_ways.proofs.type_arrow.add_type.Goals as goal

pub returns-in-None : goal.returns-in-None
returns-in-None c =
    let none : slice_get c.args.graph.now.types c.args.id ≡ None =
    subst (λ (i : ℕ). slice_get c.args.graph.now.types i ≡ None) c.index.ensures (sym c.in-None.ensures) in
    sym (append-nil c.args.arrows.now)
    ∙ ap (λ (o : Option TypeDef). c.args.arrows.now ++ option_map_or (λ (def : TypeDef). map (reference_to c.args.graph.now c.args.id def) (referred def.kind)) o []) (sym none)
