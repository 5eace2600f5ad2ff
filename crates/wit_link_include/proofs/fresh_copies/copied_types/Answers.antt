use Rattle.std.proofs.Common.{◌∙◌, ap, slice_get, sym}
use Rattle.wit_link_include.proofs.fresh_copies.copied_types.Goals as goal

pub copied_ids-requires-clause-named : goal.copied_ids-requires-clause-named
copied_ids-requires-clause-named c = c.requires.named c.at.result.now (ap (slice_get c.args.graph.now.worlds) (sym c.index.ensures) ∙ c.at.ensures)

pub copied_ids-requires-clause-belonging : goal.copied_ids-requires-clause-belonging
copied_ids-requires-clause-belonging c = c.requires.belonging c.at.result.now (ap (slice_get c.args.graph.now.worlds) (sym c.index.ensures) ∙ c.at.ensures)
