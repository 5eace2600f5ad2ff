use Rattle.std.proofs.Common.{◌≡◌, ◌∙◌, ℕ, ◌<◌, List, filter, length, take, ap, eqb, subst, sym}
use Rattle.std.specs.Prelude.{Contains}
use Rattle.std.specs.List.{IsDistinct}
use Rattle.wit_data.specs.Each.{Each}
use Rattle.wit_data.specs.Entries.{is_unnamed}
use Rattle.wit_shape.proofs.Unnamed.{unnamed_below}
use Rattle.wit_shape.specs.facts.Found.{moved_at}
use Rattle.wit_shape.specs.Faults.{unnamed_in_worlds}
use Rattle.wit_shape.specs.declared.place.ShapePlace.TheVariants as place
use Rattle.wit_shape.proofs.worlds.once.Goals as goal

pub first_again-requires : goal.first_again-requires
first_again-requires c =
    subst (λ (ids : List ℕ). Each (λ id. id < length c.args.interfaces.now) ids) (sym (c.as_slice-2.ensures ∙ c.in_ok-unnamed.ensures))
    (unnamed_below c.args.interfaces.now c.as_slice.result.now)

pub returns-in-Some : goal.returns-in-Some
returns-in-Some c =
    let unnamed = unnamed_in_worlds c.args.interfaces.now c.args.worlds.now in
    let same : c.as_slice-2.result.now ≡ unnamed =
    c.as_slice-2.ensures ∙ c.in_ok-unnamed.ensures ∙ ap (λ (l : List ℕ). filter (is_unnamed c.args.interfaces.now) l) (c.as_slice.ensures ∙ c.in_ok-placed.ensures) in
    moved_at (λ (l : List ℕ). IsDistinct eqb l) (λ (l : List ℕ) i id. Contains (take i l) id → ⊥) place.Interface c.as_slice-2.result.now unnamed _ c.in-Some.id _ same c.in_ok-id.ensures c.in-Some.is c.from_index.ensures
