use Rattle.std.proofs.Common.{◌∙◌, List, ℕ, ap, subst}
use Rattle.std.specs.Fmt.{HasWritten, styled_decimal}
use Rattle.wit_sources.proofs.LocationLemmas.{filled_to_four}
use Rattle.wit_sources.proofs.shown.InFourDisplay.fmt.Goals as goal

pub returns-clause-writes : goal.returns-clause-writes
returns-clause-writes g c = λ plain ok.
    let number = c.args.self.now.0 in
    subst (λ (t : List ℕ). HasWritten {W = g.row.W.Denot} g.W.Write.write_str_gives c.args.f.now t c.write.new.self)
    (ap (λ s. styled_decimal s number) c.laid_out.ensures ∙ filled_to_four number) (c.write.ensures.writes plain ok)
