use Rattle.std.proofs.Common.{◌∙◌, None, ap, unwrap_or}
use Rattle.std.proofs.lemmas.Option.{unwrap_or-slice_get}
use Rattle.wit_merge_match.proofs.tables.match_at.Goals as goal

pub returns-in-None : goal.returns-in-None
returns-in-None g c = ap (λ o. unwrap_or o None) c.in-None.ensures ∙ unwrap_or-slice_get c.args.found.now c.args.index None
