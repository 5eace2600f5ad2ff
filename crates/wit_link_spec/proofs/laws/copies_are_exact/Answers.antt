use Rattle.wit_link_spec.specs.facts.CopiesExact.{copies_are_exact}
use Rattle.wit_link_spec.proofs.laws.copies_are_exact.Goals as goal

pub returns : goal.returns
returns c = copies_are_exact
