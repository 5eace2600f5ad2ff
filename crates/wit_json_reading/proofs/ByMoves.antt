-- Where a text stops being JSON, byte by byte.
use Rattle.std.proofs.Common.{◌≡◌, ◌∙◌, ◌<◌, ◌≤◌, ◌+◌, ◌++◌, ℕ, suc, Bool, true, false, List, [], ◌∷◌, length, get_or, drop, drop-cons, Option, Some, None, sym, ap, if◌then◌else◌, nat_le, arith}
use Rattle.std.proofs.lemmas.List.{drop_all}
use Rattle.json.specs.Json.{max_depth}
use Rattle.wit_json_reading.specs.Stops.{Stopped, where_ended, by_move, innermost, less_innermost, stop_from}
use Rattle.wit_json_reading.specs.Syntax.{awaited, begun, may_end, next}
use Rattle.wit_json_reading.specs.declared.fault.Expected.TheVariants as expected
use Rattle.wit_json_reading.specs.declared.syntax.Bracket.{Bracket}
use Rattle.wit_json_reading.specs.declared.syntax.JsonPart.{JsonPart}
use Rattle.wit_json_reading.specs.declared.syntax.Move.{Move}
use Rattle.wit_json_reading.specs.declared.syntax.Move.TheVariants.{To, Open, Close, Stop}
use Rattle.wit_json_reading.specs.declared.syntax.State.{State}
use Rattle.wit_json_reading.specs.declared.syntax.State.TheVariants as state

deep : {A : Type 0} (n : ℕ) (x y : A) → 128 ≤ n → (if nat_le max_depth n then x else y) ≡ x
deep n x y more = grind arith

not_deep : {A : Type 0} (n : ℕ) (x y : A) → n < 128 → (if nat_le max_depth n then x else y) ≡ y
not_deep n x y less = grind arith

-- a text that stops as a whole does where its first i bytes are read, and the next one makes a move
module _ (text : List ℕ) (brackets : List Bracket) (s : State) (i : ℕ) (whole : Stopped) (so_far : stop_from brackets s i (drop i text) ≡ whole) where
  -- what comes behind it
  abbrev behind : List Bracket → State → Stopped
  behind brackets s = stop_from brackets s (i + 1) (drop (i + 1) text)

  one_byte : (m : Move) → i < length text → m ≡ next s (innermost brackets) (get_or text i 0) → by_move brackets (awaited s (innermost brackets)) i m behind ≡ whole
  unfolding stop_from
  one_byte m small is =
      let on : suc i ≡ i + 1 = omega arith in
      ap (λ (m : Move). by_move brackets (awaited s (innermost brackets)) i m behind) is
      ∙ ap (λ (n : ℕ). by_move brackets (awaited s (innermost brackets)) i (next s (innermost brackets) (get_or text i 0)) (λ brackets s. stop_from brackets s n (drop n text))) (sym on)
      ∙ sym (ap (stop_from brackets s i) (drop-cons text i 0 small)) ∙ so_far

  made : (around : Option Bracket) (m other : Move) → i < length text → around ≡ innermost brackets → m ≡ next s around (get_or text i 0) → m ≡ other
      → by_move brackets (awaited s (innermost brackets)) i other behind ≡ whole
  made around m other small around_is is same =
      sym (ap (λ (m : Move). by_move brackets (awaited s (innermost brackets)) i m behind) same)
      ∙ one_byte m small (is ∙ ap (λ (a : Option Bracket). next s a (get_or text i 0)) around_is)

  pub stops : (around : Option Bracket) (m : Move) (part : JsonPart) → i < length text → around ≡ innermost brackets → m ≡ next s around (get_or text i 0) → m ≡ Stop
      → part ≡ awaited s around → Some (i, expected.Json part) ≡ whole
  stops around m part small around_is is same part_is =
      ap (λ (p : JsonPart). Some (i, expected.Json p)) (part_is ∙ ap (λ (a : Option Bracket). awaited s a) around_is) ∙ made around m Stop small around_is is same

  pub nests_too_deep : (around : Option Bracket) (m : Move) (b : Bracket) → i < length text → around ≡ innermost brackets → m ≡ next s around (get_or text i 0) → m ≡ Open b
      → 128 ≤ length brackets → Some (i, expected.Nesting) ≡ whole
  nests_too_deep around m b small around_is is same more =
      sym (deep (length brackets) (Some (i, expected.Nesting)) (behind (brackets ++ b ∷ []) (begun b)) more) ∙ made around m (Open b) small around_is is same

  pub goes_to : (around : Option Bracket) (m : Move) (t : State) → i < length text → around ≡ innermost brackets → m ≡ next s around (get_or text i 0) → m ≡ To t
      → behind brackets t ≡ whole
  goes_to around m t small around_is is same = made around m (To t) small around_is is same

  pub opens : (around : Option Bracket) (m : Move) (b : Bracket) → i < length text → around ≡ innermost brackets → m ≡ next s around (get_or text i 0) → m ≡ Open b
      → length brackets < 128 → behind (brackets ++ b ∷ []) (begun b) ≡ whole
  opens around m b small around_is is same less =
      sym (not_deep (length brackets) (Some (i, expected.Nesting)) (behind (brackets ++ b ∷ []) (begun b)) less) ∙ made around m (Open b) small around_is is same

  pub closes : (around : Option Bracket) (m : Move) → i < length text → around ≡ innermost brackets → m ≡ next s around (get_or text i 0) → m ≡ Close
      → behind (less_innermost brackets) state.ValueEnded ≡ whole
  closes around m small around_is is same = made around m Close small around_is is same

  ended : length text ≤ i → where_ended brackets s i ≡ whole
  unfolding stop_from
  ended end = sym (ap (stop_from brackets s i) (drop_all i text end)) ∙ so_far

  pub ends_well : (around : Option Bracket) → length text ≤ i → around ≡ innermost brackets → may_end s around ≡ true → None ≡ whole
  ends_well around end around_is may =
      sym (ap (λ (b : Bool). if b then None else Some (i, expected.UnfinishedJson (awaited s (innermost brackets)))) (sym (ap (may_end s) around_is) ∙ may)) ∙ ended end

  pub ends_early : (around : Option Bracket) (part : JsonPart) → length text ≤ i → around ≡ innermost brackets → may_end s around ≡ false → part ≡ awaited s around
      → Some (i, expected.UnfinishedJson part) ≡ whole
  ends_early around part end around_is may part_is =
      ap (λ (p : JsonPart). Some (i, expected.UnfinishedJson p)) (part_is ∙ ap (awaited s) around_is)
      ∙ sym (ap (λ (b : Bool). if b then None else Some (i, expected.UnfinishedJson (awaited s (innermost brackets)))) (sym (ap (may_end s) around_is) ∙ may)) ∙ ended end

-- the same at equal brackets and states
pub same_place : (text : List ℕ) (i : ℕ) (brackets others : List Bracket) (s t : State) (whole : Stopped) → others ≡ brackets → t ≡ s
    → stop_from brackets s i (drop i text) ≡ whole → stop_from others t i (drop i text) ≡ whole
same_place text i brackets others s t whole of_brackets of_states so_far =
    ap (λ (bs : List Bracket). stop_from bs t i (drop i text)) of_brackets ∙ ap (λ (u : State). stop_from brackets u i (drop i text)) of_states ∙ so_far
