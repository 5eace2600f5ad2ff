-- Where a text stops being JSON, and what was expected there.
use Rattle.std.specs.Prelude.{ℕ, suc, ◌-◌, List, [], ◌∷◌, ◌++◌, length, take, slice_get, Option, Some, None, if◌then◌else◌, nat_le}
use Rattle.json.specs.Json.{max_depth}
use Rattle.wit_json_reading.specs.Syntax.{awaited, begun, may_end, next}
use Rattle.wit_json_reading.specs.declared.fault.Expected.{Expected}
use Rattle.wit_json_reading.specs.declared.fault.Expected.TheVariants as expected
use Rattle.wit_json_reading.specs.declared.syntax.Bracket.{Bracket}
use Rattle.wit_json_reading.specs.declared.syntax.JsonPart.{JsonPart}
use Rattle.wit_json_reading.specs.declared.syntax.Move.{Move}
use Rattle.wit_json_reading.specs.declared.syntax.Move.TheVariants.{To, Open, Close, Stop}
use Rattle.wit_json_reading.specs.declared.syntax.State.{State}
use Rattle.wit_json_reading.specs.declared.syntax.State.TheVariants as state

-- the place, in bytes, and what was expected there
abbrev pub Stopped : Type 0
Stopped = Option (ℕ × Expected)

-- brackets that are open stand in the order in which they opened

abbrev pub innermost : List Bracket → Option Bracket
innermost brackets = slice_get brackets (length brackets - 1)

abbrev pub less_innermost : List Bracket → List Bracket
less_innermost brackets = take (length brackets - 1) brackets

-- the text has ended
abbrev pub where_ended : List Bracket → State → ℕ → Stopped
where_ended brackets s n =
    if may_end s (innermost brackets) then None
    else Some (n, expected.UnfinishedJson (awaited s (innermost brackets)))

-- the byte at place n makes a move, and k goes on behind it
abbrev pub by_move : List Bracket → JsonPart → ℕ → Move → (List Bracket → State → Stopped) → Stopped
by_move brackets part n (To s) k = k brackets s
by_move brackets part n (Open b) k =
    if nat_le max_depth (length brackets) then Some (n, expected.Nesting)
    else k (brackets ++ b ∷ []) (begun b)
by_move brackets part n Close k = k (less_innermost brackets) state.ValueEnded
by_move brackets part n Stop k = Some (n, expected.Json part)

-- from place n on
unfoldable pub stop_from : List Bracket → State → ℕ → List ℕ → Stopped
stop_from brackets s n [] = where_ended brackets s n
stop_from brackets s n (b ∷ bs) =
    by_move brackets (awaited s (innermost brackets)) n (next s (innermost brackets) b)
    (λ brackets s. stop_from brackets s (suc n) bs)

-- the first place at which the text is no beginning of JSON
abbrev pub stop_in : List ℕ → Stopped
stop_in text = stop_from [] state.Value 0 text
