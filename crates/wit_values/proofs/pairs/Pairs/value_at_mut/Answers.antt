use Rattle.std.proofs.Common.{◌≡◌, ◌∙◌, ◌<◌, Some, ap, get_or, length, refl, slice_get, subst, sym}
use Rattle.std.proofs.lemmas.Option.{slice_get-get_or}
use Rattle.std.specs.Map.{values_of}
use Rattle.wit_values.specs.Lends.{with_second}
use Rattle.wit_values.specs.Pairs.{pairs_of}
use Rattle.wit_values.specs.declared.pairs.Pairs.{Pairs}
use Rattle.wit_values.specs.declared.pairs.Pairs.TheVariants.{Few}
use Rattle.wit_values.proofs.PairsLemmas.{value_at}
use Rattle.wit_values.proofs.pairs.Pairs.value_at_mut.Goals as goal

pub returns-in-Few : goal.returns-in-Few
returns-in-Few g c =
    let pairs = c.in-Few.pairs in
    let i = c.args.index in
    let pair = c.index_mut-pair.result.now in
    let within : i < length pairs.items = subst (λ (s : Pairs g.row.K.Denot g.row.V.Denot). i < length (pairs_of s)) c.in-Few.is c.requires in
    let at : slice_get pairs.items i ≡ Some pair = slice_get-get_or pairs.items i pair within ∙ ap Some (sym (c.index_mut-pair.ensures.value ∙ ap (λ v. get_or v.items i pair) c.in-Few.pairs-is)) in (
      (refl, λ w. rw c.in-Few.is (ap (λ o. Few (with_second pairs i o w)) (sym at))),
      record {
        writes_back = tt;
        value = ap (λ (s : Pairs g.row.K.Denot g.row.V.Denot). slice_get (values_of (pairs_of s)) i) c.in-Few.is ∙ value_at pairs.items i pair.0 pair.1 at;
      },
    )
