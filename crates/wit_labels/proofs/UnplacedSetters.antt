-- Where no entry is a setter nothing is moved.
use Rattle.std.proofs.Common.{◌≡◌, ◌∙◌, ℕ, suc, List, [], ◌∷◌, Bool, true, false, Option, Some, None, refl, ap, is_some, cond}
use Rattle.std.specs.Prelude.{◌↔◌, IsTrue, not}
use Rattle.std.specs.List.{list_any}
use Rattle.std.specs.Option.{option_map_or}
use Rattle.wit_data.specs.Each.{Each}
use Rattle.wit_data.specs.Entries.{Entry}
use Rattle.wit_labels.specs.Setters.{is_getter_of, is_under, put_behind, setters_placed, wanted_getter}

-- the entry asks for no getter
abbrev pub AsksNone : Entry → Type 0
AsksNone e = wanted_getter e.0 e.1 ≡ None

-- the test of one entry
pub asks_none : {X : Type 0} (o : Option X) (b : Bool) → b ≡ is_some o → IsTrue (not b) ↔ (o ≡ None)
asks_none None false is = (λ _. refl, λ _. refl)
asks_none None true is = cc
asks_none (Some x) true is = (λ h. cc, λ h. cc)
asks_none (Some x) false is = cc

none_asked : (e : Entry) (es : List Entry) → AsksNone e → list_any (is_getter_of e) es ≡ false
none_asked e es asks = ap (λ (o : Option (List ℕ)). list_any (λ (x : Entry). option_map_or (λ (label : List ℕ). is_under label x.0) o false) es) asks ∙ all_false es
  where
    all_false : (xs : List Entry) → list_any (λ (x : Entry). false) xs ≡ false
    all_false [] = refl
    all_false (x ∷ xs) = all_false xs

pub none_placed : (entries : List Entry) → Each AsksNone entries → setters_placed entries ≡ entries
none_placed [] asks = refl
none_placed (e ∷ es) asks =
    ap (λ (b : Bool). cond b (put_behind (is_getter_of e) e (setters_placed es)) (e ∷ setters_placed es)) (none_asked e es (asks 0 e refl))
    ∙ ap (λ (l : List Entry). e ∷ l) (none_placed es (λ i x at. asks (suc i) x at))
