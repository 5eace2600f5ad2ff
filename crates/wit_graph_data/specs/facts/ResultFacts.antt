-- Facts on what calls answer, for the proofs of the crates above.
use Rattle.std.proofs.Common.{Result, Ok, Err}
use Rattle.std.specs.Prelude.{IfErr, IsErrAnd}

-- what is told of the error of a refusal
pub residual_error : {T E : Type 0} {P Q : E → Type 0} (r : Result T E) → IsErrAnd r P → ((e : E) → P e → Q e) → IfErr r Q
residual_error (Ok v) is gives = tt
residual_error (Err e) is gives = gives e is
