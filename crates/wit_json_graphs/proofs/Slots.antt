-- Objects whose members have names of their own, each of which is there or left out.
use Rattle.std.proofs.Common.{◌≡◌, ◌∙◌, ℕ, Bool, true, false, cond, not, ◌&&◌, ◌||◌, List, [], ◌∷◌, ◌++◌, Option, Some, None, Ok, refl, sym, ap, bytes_eq, if◌then◌else◌, append-nil, append_assoc, option_map, codes}
use Rattle.wit_data.specs.declared.stability.Docs.{Docs}
use Rattle.std.specs.List.{list_any}
use Rattle.json.specs.Find.{get, get_member, later_or}
use Rattle.json.specs.Json.{Json, Members}
use Rattle.json.specs.Json as json
use Rattle.wit_json.specs.Values.{Member, members_of, object, optional, tagged, json_of_text}
use Rattle.wit_json_reading.specs.Reading.{names_from, only}

-- a name, and the value where the member is there
abbrev pub Slot : Type 0
Slot = List ℕ × Option Json

abbrev more_members : List Member → List Slot → List Member
more_members ms [] = ms
more_members ms (s ∷ ss) = more_members (ms ++ optional s.0 s.1) ss

-- one after another, as a writer's definition puts them together
abbrev pub slot_members : List Slot → List Member
slot_members [] = []
slot_members (s ∷ ss) = more_members (optional s.0 s.1) ss

abbrev pub slots : List Slot → Json
slots ss = object (slot_members ss)

-- what docs are written as, where there are some
abbrev pub json_of_docs : Docs → Option Json
json_of_docs docs = option_map (λ text. tagged (codes "contents") (json_of_text text)) docs.contents

-- the same, from the first on
abbrev pub joined : List Slot → List Member
joined [] = []
joined (s ∷ ss) = optional s.0 s.1 ++ joined ss

more_are : (ms : List Member) (ss : List Slot) → more_members ms ss ≡ ms ++ joined ss
more_are ms [] = sym (append-nil ms)
more_are ms (s ∷ ss) = more_are (ms ++ optional s.0 s.1) ss ∙ append_assoc ms (optional s.0 s.1) (joined ss)

pub members_are : (ss : List Slot) → slot_members ss ≡ joined ss
members_are [] = refl
members_are (s ∷ ss) = more_are (optional s.0 s.1) ss

-- ---- the names

both : (a b : Bool) → (a && b) ≡ true → (a ≡ true) × (b ≡ true)
both true b h = (refl, h)
both false b h = cc

neither : (a b : Bool) → (a || b) ≡ false → (a ≡ false) × (b ≡ false)
neither true b h = cc
neither false b h = (refl, h)

negated : (a : Bool) → not a ≡ true → a ≡ false
negated true h = cc
negated false h = refl

-- each of these names is known, and none of them stands earlier
abbrev pub fit : List (List ℕ) → List (List ℕ) → List Slot → Bool
fit known earlier [] = true
fit known earlier (s ∷ ss) = not (list_any (bytes_eq s.0) earlier) && (list_any (bytes_eq s.0) known && fit known (s.0 ∷ earlier) ss)

-- all of some names are among others
abbrev AreAmong : List (List ℕ) → List (List ℕ) → Type 0
AreAmong some all = (name : List ℕ) → list_any (bytes_eq name) all ≡ false → list_any (bytes_eq name) some ≡ false

any_push : (p : List ℕ → Bool) (xs : List (List ℕ)) (x : List ℕ) → p x ≡ false → list_any p xs ≡ false → list_any p (xs ++ x ∷ []) ≡ false
any_push p [] x last none = rw last refl
any_push p (y ∷ ys) x last none =
    let parts = neither (p y) (list_any p ys) none in
    rw parts.0 (any_push p ys x last parts.1)

more_among : (some all : List (List ℕ)) (x : List ℕ) → AreAmong some all → AreAmong (some ++ x ∷ []) (x ∷ all)
more_among some all x among name none =
    let parts = neither (bytes_eq name x) (list_any (bytes_eq name) all) none in
    any_push (bytes_eq name) some x parts.0 (among name parts.1)

fewer_among : (some all : List (List ℕ)) (x : List ℕ) → AreAmong some all → AreAmong some (x ∷ all)
fewer_among some all x among name none = among name (neither (bytes_eq name x) (list_any (bytes_eq name) all) none).1

one_name : (known earlier : List (List ℕ)) (name : List ℕ) (j : Json) (ms : Members) → list_any (bytes_eq name) earlier ≡ false → list_any (bytes_eq name) known ≡ true
    → names_from known (earlier ++ name ∷ []) ms ≡ Ok tt → names_from known earlier (json.member name j ms) ≡ Ok tt
one_name known earlier name j ms first there others = rw first (rw there others)

next_name : (known earlier all : List (List ℕ)) (name : List ℕ) (o : Option Json) (ms : List Member) → list_any (bytes_eq name) earlier ≡ false → list_any (bytes_eq name) known ≡ true
    → AreAmong earlier all → ((some : List (List ℕ)) → AreAmong some (name ∷ all) → names_from known some (members_of ms) ≡ Ok tt)
    → names_from known earlier (members_of (optional name o ++ ms)) ≡ Ok tt
next_name known earlier all name None ms first there among others = others earlier (fewer_among earlier all name among)
next_name known earlier all name (Some j) ms first there among others =
    one_name known earlier name j (members_of ms) first there (others (earlier ++ name ∷ []) (more_among earlier all name among))

names_fit : (known earlier all : List (List ℕ)) (ss : List Slot) → fit known all ss ≡ true → AreAmong earlier all → names_from known earlier (members_of (joined ss)) ≡ Ok tt
names_fit known earlier all [] fits among = refl
names_fit known earlier all (s ∷ ss) fits among =
    let parts = both (not (list_any (bytes_eq s.0) all)) _ fits in
    let more = both (list_any (bytes_eq s.0) known) _ parts.1 in
    next_name known earlier all s.0 s.1 (joined ss) (among s.0 (negated _ parts.0)) more.0 among (λ some inside. names_fit known some (s.0 ∷ all) ss more.1 inside)

-- no member is unknown, and none stands twice
pub only_slots : (known : List (List ℕ)) (ss : List Slot) → fit known [] ss ≡ true → only known (slots ss) ≡ Ok tt
only_slots known ss fits = ap (λ (ms : List Member). only known (object ms)) (members_are ss) ∙ names_fit known [] [] ss fits (λ name none. none)

-- ---- the values

or_none : (o : Option Json) → later_or o None ≡ o
or_none None = refl
or_none (Some j) = refl

-- the value of the last slot of a name
abbrev pub found : List ℕ → List Slot → Option Json
found name [] = None
found name (s ∷ ss) = if bytes_eq s.0 name then later_or (found name ss) s.1 else found name ss

next_found : (name key : List ℕ) (o later : Option Json) (ms : List Member) → get_member name (members_of ms) ≡ later
    → get_member name (members_of (optional key o ++ ms)) ≡ (if bytes_eq key name then later_or later o else later)
next_found name key None later ms rest = by (bytes_eq key name)
  where
    by : (b : Bool) → get_member name (members_of ms) ≡ (if b then later_or later None else later)
    by true = rest ∙ sym (or_none later)
    by false = rest
next_found name key (Some j) later ms rest = by (bytes_eq key name)
  where
    by : (b : Bool) → later_or (get_member name (members_of ms)) (cond b (Some j) None) ≡ (if b then later_or later (Some j) else later)
    by true = ap (λ (o : Option Json). later_or o (Some j)) rest
    by false = or_none (get_member name (members_of ms)) ∙ rest

get_joined : (name : List ℕ) (ss : List Slot) → get_member name (members_of (joined ss)) ≡ found name ss
get_joined name [] = refl
get_joined name (s ∷ ss) = next_found name s.0 s.1 (found name ss) (joined ss) (get_joined name ss)

pub get_slot : (name : List ℕ) (ss : List Slot) → get name (slots ss) ≡ found name ss
get_slot name ss = ap (λ (ms : List Member). get name (object ms)) (members_are ss) ∙ get_joined name ss
