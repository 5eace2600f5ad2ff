-- Lists that grow at their end.
use Rattle.std.proofs.Common.{◌≡◌, List, [], ◌∷◌, ◌++◌, Some, None, ap, sym, ℕ}
use Rattle.std.specs.Borrow.{Bor}
use Rattle.std.specs.Option.{option_map}
use Rattle.json.specs.Json.{Json, Items, item, Members, member}
use Rattle.json.specs.Value.{value_view}
use Rattle.json.specs.declared.value.Value.{Value}
use Rattle.json.proofs.Trees.{items_before, members_before}
use Rattle.wit_json_layout.specs.Known.{known_part, member_if}
use Rattle.wit_json_layout.specs.Layouts.{part}
use Rattle.wit_json_layout.specs.declared.layout.Layout.{Layout}

-- an item more, which is what another is known as
pub one_more_item : {A : Type 0} (vs : List (Value A)) (v : Value A) (j : Json) (rest : Items)
    → value_view v ≡ j → items_before (vs ++ v ∷ []) rest ≡ items_before vs (item j rest)
one_more_item [] v j rest is = ap (λ it. item it rest) is
one_more_item (w ∷ vs) v j rest is = ap (item (value_view w)) (one_more_item vs v j rest is)

-- a member more
pub one_more_member : {A : Type 0} (ms : List (Bor (List ℕ) × Value A)) (name : Bor (List ℕ))
    (v : Value A) (j : Json) (rest : Members) → value_view v ≡ j
    → members_before (ms ++ (name, v) ∷ []) rest ≡ members_before ms (member name.now j rest)
one_more_member [] name v j rest is = ap (λ it. member name.now it rest) is
one_more_member (m ∷ ms) name v j rest is = ap (member m.0.now (value_view m.1)) (one_more_member ms name v j rest is)

-- what an object has of a member that its layout has
pub member_kept : (layout inner : Layout) (name : List ℕ) (j : Json) (rest : Members)
    → part layout name ≡ Some inner → member name (known_part inner j) rest
    ≡ member_if name (option_map (λ it. known_part it j) (part layout name)) rest
member_kept layout inner name j rest is =
    ap (λ o. member_if name (option_map (λ it. known_part it j) o) rest) (sym is)

-- and of one that it hasn't
pub member_dropped : (layout : Layout) (name : List ℕ) (j : Json) (rest : Members)
    → part layout name ≡ None → rest
    ≡ member_if name (option_map (λ it. known_part it j) (part layout name)) rest
member_dropped layout name j rest is =
    ap (λ o. member_if name (option_map (λ it. known_part it j) o) rest) (sym is)
