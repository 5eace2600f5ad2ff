use Rattle.std.proofs.Common.{◌∙◌, rules, tests}
use Rattle.std.proofs.lemmas.Iterator.{YieldsList-from_slice}
use Rattle.std.proofs.lemmas.Iterator.Search.{position_from_yields_List}
use Rattle.wit_values.proofs.PairsLemmas.{position-keys}
use Rattle.wit_values.proofs.pairs.index_of.Goals as goal

pub returns : goal.returns
returns g c =
    let test = g.Q.Equivalent.equivalent c.args.key in
    position_from_yields_List (λ e. test e.0) _ _ _ c.position.ensures.ran (YieldsList-from_slice c.args.pairs.now cc) (λ x b q k. search (rules, tests)) ∙ position-keys test c.args.pairs.now
