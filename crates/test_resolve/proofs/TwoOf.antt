-- What holds of both elements of a list of two holds of each.
use Rattle.std.proofs.Common.{◌≡◌, ◌<◌, ℕ, zero, suc, List, length, slice_get, arith}
use Rattle.std.proofs.lemmas.Option.{slice_get_within}
use Rattle.std.specs.Option.{ForSome}
use Rattle.wit_data.specs.Each.{Each}

pub each_of_two : {X : Type 0} (P : X → Type 0) (xs : List X) → length xs ≡ 2 → ForSome (slice_get xs 0) P → ForSome (slice_get xs 1) P → Each P xs
each_of_two P xs two first second zero x at = first x at
each_of_two P xs two first second (suc zero) x at = second x at
each_of_two P xs two first second (suc (suc i)) x at =
    let within : suc (suc i) < length xs = slice_get_within xs (suc (suc i)) x at in
    absurd (omega (arith, two, within))
