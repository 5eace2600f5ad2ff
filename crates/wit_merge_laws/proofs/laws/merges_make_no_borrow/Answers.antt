use Rattle.wit_merge_laws.specs.facts.BorrowsBack.{borrows_back}
use Rattle.wit_merge_laws.proofs.laws.merges_make_no_borrow.Goals as goal

pub returns : goal.returns
returns c = borrows_back
