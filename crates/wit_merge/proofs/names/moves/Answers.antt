use Rattle.std.proofs.Common.{◌∙◌, Option, ℕ, None, ap, is_some, not, unwrap_or}
use Rattle.std.proofs.lemmas.Option.{unwrap_or-slice_get}
use Rattle.wit_merge.proofs.names.moves.Goals as goal

pub returns-in-None : goal.returns-in-None
returns-in-None g c = ap (λ (o : Option ℕ). not (is_some o)) (ap (λ (o : Option (Option ℕ)). unwrap_or o None) c.in-None.ensures ∙ unwrap_or-slice_get c.args.found.now c.args.index None)
