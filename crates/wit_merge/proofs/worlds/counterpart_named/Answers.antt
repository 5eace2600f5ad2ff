use Rattle.std.proofs.Common.{◌∙◌, ℕ, Option, None, ap, get_or, unwrap_or}
use Rattle.std.proofs.lemmas.Option.{unwrap_or-slice_get}
use Rattle.wit_merge.proofs.worlds.counterpart_named.Goals as goal

pub returns-in-None : goal.returns-in-None
returns-in-None c =
    ap (λ (o : Option (Option ℕ)). unwrap_or o None) c.in-None.ensures ∙ unwrap_or-slice_get c.args.counterparts.now c.index.result None ∙ ap (λ (i : ℕ). get_or c.args.counterparts.now i None) c.index.ensures
