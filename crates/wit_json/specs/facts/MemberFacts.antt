-- Members that are written one after another make the object of all of them.
use Rattle.std.proofs.Common.{◌≡◌, ℕ, List, [], ◌∷◌, ◌++◌, OnOk, Result, Ok, Err, refl, ap, sym, ◌∙◌, append_assoc, append-nil}
use Rattle.json.specs.Json.{Json}
use Rattle.json.specs.Token.{Token}
use Rattle.json.specs.Token as token
use Rattle.json.specs.Tree.{json_tokens, members_tokens}
use Rattle.wit_json.specs.Values.{Member, members_of, object, tagged}
use Rattle.wit_json.specs.steps.Members.{Adds, member_tokens}

member_tokens-append : (ms ns : List Member) → member_tokens (ms ++ ns) ≡ member_tokens ms ++ member_tokens ns
member_tokens-append [] ns = refl
member_tokens-append (m ∷ ms) ns =
    ap (λ (ts : List Token). token.key m.0 ∷ (json_tokens m.1 ++ ts)) (member_tokens-append ms ns)
    ∙ ap (λ (ts : List Token). token.key m.0 ∷ ts) (sym (append_assoc (json_tokens m.1) (member_tokens ms) (member_tokens ns)))

-- the members of an object, and its end
members_end : (ms : List Member) → members_tokens (members_of ms) ≡ member_tokens ms ++ token.end_object ∷ []
members_end [] = refl
members_end (m ∷ ms) =
    ap (λ (ts : List Token). token.key m.0 ∷ (json_tokens m.1 ++ ts)) (members_end ms)
    ∙ ap (λ (ts : List Token). token.key m.0 ∷ ts) (sym (append_assoc (json_tokens m.1) (member_tokens ms) (token.end_object ∷ [])))

-- some members and then others
pub then_more : {a b c : List Token} {ms ns : List Member} → Adds a b ms → Adds b c ns → Adds a c (ms ++ ns)
then_more {a} {b} {c} {ms} {ns} x y = record {
  tokens =
      y.tokens ∙ ap (λ (ts : List Token). ts ++ member_tokens ns) x.tokens ∙ append_assoc a (member_tokens ms) (member_tokens ns)
      ∙ ap (λ (ts : List Token). a ++ ts) (sym (member_tokens-append ms ns));
}

closed : (a : List Token) {b c d : List Token} {ms : List Member} → b ≡ a ++ token.begin_object ∷ [] → Adds b c ms → d ≡ c ++ token.end_object ∷ [] → d ≡ a ++ json_tokens (object ms)
closed a {b} {c} {d} {ms} opens adds ends =
    ends ∙ ap (λ (ts : List Token). ts ++ token.end_object ∷ []) (adds.tokens ∙ ap (λ (ts : List Token). ts ++ member_tokens ms) opens)
    ∙ append_assoc (a ++ token.begin_object ∷ []) (member_tokens ms) (token.end_object ∷ []) ∙ append_assoc a (token.begin_object ∷ []) (member_tokens ms ++ token.end_object ∷ [])
    ∙ ap (λ (ts : List Token). a ++ token.begin_object ∷ ts) (sym (members_end ms))

-- an object is begun, its members are written, and it is ended
pub object_closed : {E : Type 0} (r : Result (Unit {0}) E) (a : List Token) {b c : List Token} (d : List Token) {ms : List Member} → b ≡ a ++ token.begin_object ∷ [] → Adds b c ms
    → OnOk r (d ≡ c ++ token.end_object ∷ []) → OnOk r (d ≡ a ++ json_tokens (object ms))
object_closed (Ok x) a d opens adds ends = closed a opens adds ends
object_closed (Err e) a d opens adds ends = tt

-- a name is written, and its value
pub value_added : {E : Type 0} (r : Result (Unit {0}) E) (a : List Token) {b : List Token} (c : List Token) (name : List ℕ) (j : Json) → b ≡ a ++ token.key name ∷ []
    → OnOk r (c ≡ b ++ json_tokens j) → OnOk r (Adds a c ((name, j) ∷ []))
value_added (Ok x) a c name j named value = record {
  tokens =
      value ∙ ap (λ (ts : List Token). ts ++ json_tokens j) named ∙ append_assoc a (token.key name ∷ []) (json_tokens j)
      ∙ ap (λ (ts : List Token). a ++ token.key name ∷ ts) (sym (append-nil (json_tokens j)));
}
value_added (Err e) a c name j named value = tt

tag_ended : (a : List Token) {b c d : List Token} (name : List ℕ) (j : Json) → b ≡ a ++ token.begin_object ∷ token.key name ∷ [] → c ≡ b ++ json_tokens j
    → d ≡ c ++ token.end_object ∷ [] → d ≡ a ++ json_tokens (tagged name j)
tag_ended a name j opens value ends =
    ends ∙ ap (λ (ts : List Token). ts ++ token.end_object ∷ []) (value ∙ ap (λ (ts : List Token). ts ++ json_tokens j) opens)
    ∙ ap (λ (ts : List Token). ts ++ token.end_object ∷ []) (append_assoc a (token.begin_object ∷ token.key name ∷ []) (json_tokens j))
    ∙ append_assoc a (token.begin_object ∷ token.key name ∷ json_tokens j) (token.end_object ∷ [])

-- an object of one member is begun, its value is written, and it is ended
pub tag_closed : {E : Type 0} (r : Result (Unit {0}) E) (a : List Token) {b c : List Token} (d : List Token) (name : List ℕ) (j : Json) → b ≡ a ++ token.begin_object ∷ token.key name ∷ []
    → c ≡ b ++ json_tokens j → OnOk r (d ≡ c ++ token.end_object ∷ []) → OnOk r (d ≡ a ++ json_tokens (tagged name j))
tag_closed (Ok x) a d name j opens value ends = tag_ended a name j opens value ends
tag_closed (Err e) a d name j opens value ends = tt
