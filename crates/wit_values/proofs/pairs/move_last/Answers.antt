use Rattle.std.proofs.Common.{arith, subst, sym}
use Rattle.std.specs.List.{IsDistinct}
use Rattle.std.specs.Map.{keys_of}
use Rattle.wit_values.proofs.PairsLemmas.{IsDistinct-last, there, turned_last}
use Rattle.wit_values.proofs.pairs.move_last.Goals as goal

pub returns-clause-moved : goal.returns-clause-moved
returns-clause-moved g c =
    let pairs = c.args.pairs.now in
    turned_last pairs.items _ c.args.index _ _ _ c.deref_mut.ensures.value c.requires (omega (arith, c.requires)) pairs.ok.0 c.rotate_left.ensures.after

pub returns-clause-distinct : goal.returns-clause-distinct
returns-clause-distinct g c = λ distinct.
    let es = c.args.pairs.now.items in
    let here = there es c.args.index c.requires in
    subst (λ l. IsDistinct g.K.PartialEq.eq (keys_of l)) (sym (returns-clause-moved g c)) (IsDistinct-last g.met.K.Eq.laws es c.args.index here.0 here.1 distinct)
