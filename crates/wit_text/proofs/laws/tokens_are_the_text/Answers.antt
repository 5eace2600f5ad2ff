use Rattle.wit_text.proofs.Rows.{tokens_row}
use Rattle.wit_text.proofs.laws.tokens_are_the_text.Goals as goal

pub returns : goal.returns
returns c = λ text tokens utf8 is. tokens_row text tokens utf8 is
