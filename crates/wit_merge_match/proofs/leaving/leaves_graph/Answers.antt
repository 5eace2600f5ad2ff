use Rattle.std.proofs.Common.{◌∙◌, sym}
use Rattle.std.proofs.lemmas.Bool.{false≢true}
use Rattle.wit_merge_match.specs.steps.Matched.{merge_of_graphs}
use Rattle.wit_merge_match.proofs.NothingChanges.{leaves}
use Rattle.wit_merge_match.proofs.leaving.leaves_graph.Goals.{else-interfaces_stay, else-packages_stay, then-interfaces_stay, then-packages_stay}
use Rattle.wit_merge_match.proofs.leaving.leaves_graph.Goals as goal

pub returns-then-worlds_stay : goal.returns-then-worlds_stay
returns-then-worlds_stay c = λ types offset.
    elim c.if-interfaces_stay.branch [
      | then-interfaces_stay w ↦
          elim c.if-packages_stay.branch [
            | then-packages_stay v ↦
                leaves (merge_of_graphs c.args.graph.now c.args.other.now) c.requires.graph (c.types_stay.ensures types) (v.interfaces_stay.ensures (sym v.value-is ∙ w.if-interfaces_stay.true))
                (w.worlds_stay.ensures (sym w.value-is ∙ c.if-worlds_stay.true)) (c.packages_stay.ensures v.if-packages_stay.true) offset
            | else-packages_stay v ↦ absurd (false≢true (sym v.if-packages_stay.false ∙ sym v.value-is ∙ w.if-interfaces_stay.true))
          ]
      | else-interfaces_stay w ↦ absurd (false≢true (sym w.if-interfaces_stay.false ∙ sym w.value-is ∙ c.if-worlds_stay.true))
    ]
