-- What follows from what a call that may fail gives where it doesn't.
use Rattle.std.proofs.Common.{IfOk, Ok, Err, Result}

pub if_ok : {T E : Type 0} {P Q : T → Type 0} (r : Result T E) → IfOk r P → ((x : T) → P x → Q x) → IfOk r Q
if_ok (Ok v) p gives = gives v p
if_ok (Err e) p gives = tt
