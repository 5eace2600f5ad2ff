use Rattle.std.proofs.Common.{ℕ, List, [], Bor}
use Rattle.wit_script_lines.specs.PackageLine.{typed_name_of}
use Rattle.wit_script_lines.specs.facts.ReadFacts.{fault-of}
use Rattle.wit_script_lines.proofs.Each.{each-fails, each-next}
use Rattle.wit_script_lines.proofs.signature.read_typed_names.Goals as goal

-- what is read past the end of the tokens, where nothing is
none : Bor (List ℕ)
none = record { ref_ptr = (0, 0); now = [] }

pub returns-in-Err : goal.returns-in-Err
unfolding none
returns-in-Err c = fault-of c.in-Err.fault c.in-Err.ensures (λ fails. each-fails typed_name_of c.args.tokens.now none c.loop-token.token-index c.loop-token-test.true fails)

pub loop-token-preserved : goal.loop-token-preserved
unfolding none
loop-token-preserved c = rw c.in_ok-push-in-Ok.ensures.ok (each-next typed_name_of c.args.tokens.now none c.loop-token.token-index c.loop-token.found c.in-Ok.typed c.loop-token-test.true c.loop-token.invariant c.in-Ok.ensures)
