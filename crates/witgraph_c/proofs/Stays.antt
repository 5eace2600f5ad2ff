-- A graph that a call takes, lends, and puts back.
use Rattle.std.proofs.Common.{◌≡◌, ◌∙◌, sym, ap}
use Rattle.std.specs.Prelude.{Option, Some}
use Rattle.witgraph_c.specs.Handles.{StaysOpen}

-- what was taken is what is lent, and what is done to that is put back
pub stays : {S : Type 0} {Does : S → S → Type 0} (old new : Option S) (taken before after : S) → old ≡ Some taken → before ≡ taken → new ≡ Some after → Does before after
    → StaysOpen old new Does
stays {S = S} old new taken before after was same is does = (before, after, was ∙ ap (λ (s : S). Some s) (sym same), is, does)
