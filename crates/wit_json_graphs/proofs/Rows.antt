-- Rows of things that are completed part by part, as lists and tables are.
use Rattle.std.proofs.Common.{◌≡◌, ◌∙◌, ◌<◌, ◌≤◌, ◌+◌, ◌-◌, ℕ, zero, suc, Bool, true, false, List, [], ◌∷◌, ◌++◌, drop, length, Option, Some, Result, Ok, Err, refl, sym, ap, subst, slice_get, slice_set, bytes_eq, append_assoc, arith, if◌then◌else◌}
use Rattle.std.specs.Borrow.{Bor}
use Rattle.std.specs.Map.{values_of}
use Rattle.indexmap.specs.IndexMap.{set_value_at}
use Rattle.wit_values.specs.facts.Lists.{slice_get-behind}
use Rattle.json.specs.Json.{Json}
use Rattle.json.specs.Value.{items_view, members_view, value_view}
use Rattle.json.specs.declared.value.Value.{Value}
use Rattle.wit_json_reading.specs.Reading.{Reading, ◌>>=◌, instead_of, under}
use Rattle.wit_json_reading.specs.declared.fault.Expected.TheVariants as expected
use Rattle.wit_json_reading.specs.declared.fault.ReadError.{ReadError}
use Rattle.wit_json_reading.specs.declared.fault.ReadError.TheVariants as error
use Rattle.wit_json_reading.specs.declared.fault.Step.TheVariants as step
use Rattle.wit_json_graphs.specs.Details.{entries_with, things_with}
use Rattle.wit_json_graphs.specs.steps.Completes.{Completes}
use Rattle.wit_json_graphs.proofs.Completed.{then_put}
use Rattle.wit_json_graphs.specs.steps.Parts.{with_entry_at, with_item, with_item_at, with_member, with_parts}

-- ---- rows

module _ {P : Type 0} where
  none_left : (parts : List P) (i : ℕ) → length parts ≤ i → drop i parts ≡ []
  none_left [] zero end = refl
  none_left [] (suc i) end = refl
  none_left (part ∷ parts) zero end = absurd (omega (arith, end))
  none_left (part ∷ parts) (suc i) end = none_left parts i (omega (arith, end))

  next_there : (parts : List P) (i : ℕ) (part : P) → slice_get parts i ≡ Some part → drop i parts ≡ part ∷ drop (suc i) parts
  next_there [] i part at = cc
  next_there (first ∷ parts) zero part at = let same : first ≡ part = cc in ap (λ (p : P). p ∷ parts) same
  next_there (first ∷ parts) (suc i) part at = next_there parts i part at

  some_there : (parts : List P) (i : ℕ) → i < length parts → (part : P) × (drop i parts ≡ part ∷ drop (suc i) parts)
  some_there [] i small = absurd (omega (arith, small))
  some_there (part ∷ parts) zero small = (part, refl)
  some_there (part ∷ parts) (suc i) small = some_there parts i (omega (arith, small))

module _ {R P : Type 0} (f : R → ℕ → P → Reading R) (many i : ℕ) (row : R) (parts : List P) (whole : Reading R) where
  -- the things before an index are completed, and what is read is what those from there on give
  abbrev pub UpTo : Type 0
  UpTo = whole ≡ with_parts f (many - i) i row (drop i parts)

  -- one thing is left at the least
  one_left : i < many → UpTo → whole ≡ with_parts f (suc (many - suc i)) i row (drop i parts)
  one_left small up =
      let one : many - i ≡ suc (many - suc i) = omega (arith, small) in
      up ∙ ap (λ (n : ℕ). with_parts f n i row (drop i parts)) one

  -- no thing is left
  no_more : many ≤ i → UpTo → whole ≡ with_parts f zero i row (drop i parts)
  no_more end up =
      let none : many - i ≡ zero = omega (arith, end) in
      up ∙ ap (λ (n : ℕ). with_parts f n i row (drop i parts)) none

  -- no part is left of a thing
  pub too_few : i < many → length parts ≤ i → UpTo → whole ≡ instead_of expected.Details
  too_few small end up = one_left small up ∙ ap (λ (ps : List P). with_parts f (suc (many - suc i)) i row ps) (none_left parts i end)

  -- a part is left of nothing
  pub too_many : many ≤ i → i < length parts → UpTo → whole ≡ instead_of expected.Details
  too_many end small up = no_more end up ∙ ap (λ (ps : List P). with_parts f zero i row ps) (some_there parts i small).1

  pub all_done : many ≤ i → length parts ≤ i → UpTo → whole ≡ Ok row
  all_done last end up = no_more last up ∙ ap (λ (ps : List P). with_parts f zero i row ps) (none_left parts i end)

  -- what the part at the index says, and then those behind it
  at_part : (part : P) → i < many → slice_get parts i ≡ Some part → UpTo → whole ≡ (f row i part >>= λ next. with_parts f (many - suc i) (suc i) next (drop (suc i) parts))
  at_part part small at up = one_left small up ∙ ap (λ (ps : List P). with_parts f (suc (many - suc i)) i row ps) (next_there parts i part at)

  -- one more thing is completed
  pub turned : (part : P) (next : R) → i < many → slice_get parts i ≡ Some part → f row i part ≡ Ok next → UpTo → whole ≡ with_parts f (many - (i + 1)) (i + 1) next (drop (i + 1) parts)
  turned part next small at reads up =
      let one : suc i ≡ i + 1 = omega arith in
      at_part part small at up ∙ ap (λ (r : Reading R). r >>= λ next. with_parts f (many - suc i) (suc i) next (drop (suc i) parts)) reads
      ∙ ap (λ (n : ℕ). with_parts f (many - n) n next (drop n parts)) one

  -- the part of the next thing has a fault
  pub stopped : (part : P) (e : ReadError) (other new : R) → i < many → slice_get parts i ≡ Some part → Completes (Err e) (f row i part) other → UpTo → Completes (Err e) whole new
  stopped part error.OutOfMemory other new small at fails up = tt
  stopped part (error.Fault fault) other new small at fails up =
      at_part part small at up ∙ ap (λ (r : Reading R). r >>= λ next. with_parts f (many - suc i) (suc i) next (drop (suc i) parts)) fails

-- ---- lists

module _ {A : Type 0} where
  nothing_done : (r : Reading (List A)) → (r >>= λ xs. Ok ([] ++ xs)) ≡ r
  nothing_done (Ok xs) = refl
  nothing_done (Err fault) = refl

  -- one thing more is done
  one_more : (done : List A) (y : A) (r : Reading (List A)) → (r >>= λ ys. Ok ((done ++ y ∷ []) ++ ys)) ≡ ((r >>= λ ys. Ok (y ∷ ys)) >>= λ ys. Ok (done ++ ys))
  one_more done y (Ok ys) = ap Ok (append_assoc done (y ∷ []) ys)
  one_more done y (Err fault) = refl

  set_behind : (done rest : List A) (x y : A) → slice_set (done ++ x ∷ rest) (length done) y ≡ (done ++ y ∷ []) ++ rest
  set_behind [] rest x y = refl
  set_behind (d ∷ done) rest x y = ap (λ (xs : List A). d ∷ xs) (set_behind done rest x y)

  length-push : (done : List A) (x : A) → length (done ++ x ∷ []) ≡ suc (length done)
  length-push [] x = refl
  length-push (d ∷ done) x = ap suc (length-push done x)

module _ {A X : Type 0} (f : A → Json → Reading A) where
  -- what is read of the next item, where those behind it are completed whatever it becomes
  item_completed : (done rest : List A) (x : A) (vs : List (Value X)) (later : (y : A) → with_parts (with_item f) (length rest) (length (done ++ y ∷ [])) ((done ++ y ∷ []) ++ rest) vs
      ≡ (things_with f (length (done ++ y ∷ [])) rest (items_view vs) >>= λ ys. Ok ((done ++ y ∷ []) ++ ys))) (r : Reading A)
      → ((r >>= λ y. let set : Reading (List A) = Ok (slice_set (done ++ x ∷ rest) (length done) y) in set) >>= λ next. with_parts (with_item f) (length rest) (suc (length done)) next vs)
      ≡ ((r >>= λ y. things_with f (suc (length done)) rest (items_view vs) >>= λ ys. Ok (y ∷ ys)) >>= λ ys. Ok (done ++ ys))
  item_completed done rest x vs later (Ok y) =
      ap (λ (next : List A). with_parts (with_item f) (length rest) (suc (length done)) next vs) (set_behind done rest x y)
      ∙ ap (λ (n : ℕ). with_parts (with_item f) (length rest) n ((done ++ y ∷ []) ++ rest) vs) (sym (length-push done y)) ∙ later y
      ∙ ap (λ (n : ℕ). things_with f n rest (items_view vs) >>= λ ys. Ok ((done ++ y ∷ []) ++ ys)) (length-push done y)
      ∙ one_more done y (things_with f (suc (length done)) rest (items_view vs))
  item_completed done rest x vs later (Err fault) = refl

  -- from behind what is done on
  items_completed : (done rest : List A) (vs : List (Value X)) → with_parts (with_item f) (length rest) (length done) (done ++ rest) vs
      ≡ (things_with f (length done) rest (items_view vs) >>= λ ys. Ok (done ++ ys))
  items_completed done [] [] = refl
  items_completed done [] (v ∷ vs) = refl
  items_completed done (x ∷ rest) [] = refl
  items_completed done (x ∷ rest) (v ∷ vs) =
      ap (λ (found : Option A). with_item_at f (done ++ x ∷ rest) (length done) v found >>= λ next. with_parts (with_item f) (length rest) (suc (length done)) next vs) (slice_get-behind done rest x)
      ∙ item_completed done rest x vs (λ y. items_completed (done ++ y ∷ []) rest vs) (under (step.Item (length done)) (f x (value_view v)))

  -- what values say of a list, one after another
  pub list_completed : (xs : List A) (vs : List (Value X)) → with_parts (with_item f) (length xs) 0 xs vs ≡ things_with f 0 xs (items_view vs)
  list_completed xs vs = items_completed [] xs vs ∙ nothing_done (things_with f 0 xs (items_view vs))

-- ---- tables

module _ {K A : Type 0} where
  set_value_behind : (done rest : List (K × A)) (k : K) (x y : A) → set_value_at (done ++ (k, x) ∷ rest) (length done) y ≡ (done ++ (k, y) ∷ []) ++ rest
  set_value_behind [] rest k x y = refl
  set_value_behind (d ∷ done) rest k x y = ap (λ (es : List (K × A)). d ∷ es) (set_value_behind done rest k x y)

module _ {K A X : Type 0} (name : K → List ℕ) (f : A → Json → Reading A) where
  -- what is read of the next entry, where those behind it are completed whatever it becomes
  value_completed : (done rest : List (K × A)) (k : K) (x : A) (ms : List (Bor (List ℕ) × Value X)) (later : (y : A)
      → with_parts (with_member name f) (length rest) (length (done ++ (k, y) ∷ [])) ((done ++ (k, y) ∷ []) ++ rest) ms
      ≡ (entries_with name f rest (members_view ms) >>= λ es. Ok ((done ++ (k, y) ∷ []) ++ es))) (r : Reading A)
      → ((r >>= λ y. let set : Reading (List (K × A)) = Ok (set_value_at (done ++ (k, x) ∷ rest) (length done) y) in set)
      >>= λ next. with_parts (with_member name f) (length rest) (suc (length done)) next ms)
      ≡ ((r >>= λ y. entries_with name f rest (members_view ms) >>= λ es. Ok ((k, y) ∷ es)) >>= λ es. Ok (done ++ es))
  value_completed done rest k x ms later (Ok y) =
      ap (λ (next : List (K × A)). with_parts (with_member name f) (length rest) (suc (length done)) next ms) (set_value_behind done rest k x y)
      ∙ ap (λ (n : ℕ). with_parts (with_member name f) (length rest) n ((done ++ (k, y) ∷ []) ++ rest) ms) (sym (length-push done (k, y))) ∙ later y
      ∙ one_more done (k, y) (entries_with name f rest (members_view ms))
  value_completed done rest k x ms later (Err fault) = refl

  -- the same where the name is looked at first
  named_completed : (done rest : List (K × A)) (k : K) (x : A) (ms : List (Bor (List ℕ) × Value X)) (later : (y : A)
      → with_parts (with_member name f) (length rest) (length (done ++ (k, y) ∷ [])) ((done ++ (k, y) ∷ []) ++ rest) ms
      ≡ (entries_with name f rest (members_view ms) >>= λ es. Ok ((done ++ (k, y) ∷ []) ++ es))) (r : Reading A) (b : Bool)
      → ((if b then (r >>= λ y. let set : Reading (List (K × A)) = Ok (set_value_at (done ++ (k, x) ∷ rest) (length done) y) in set) else instead_of expected.Details)
      >>= λ next. with_parts (with_member name f) (length rest) (suc (length done)) next ms)
      ≡ ((if b then (r >>= λ y. entries_with name f rest (members_view ms) >>= λ es. Ok ((k, y) ∷ es)) else instead_of expected.Details) >>= λ es. Ok (done ++ es))
  named_completed done rest k x ms later r true = value_completed done rest k x ms later r
  named_completed done rest k x ms later r false = refl

  entries_completed : (done rest : List (K × A)) (ms : List (Bor (List ℕ) × Value X)) → with_parts (with_member name f) (length rest) (length done) (done ++ rest) ms
      ≡ (entries_with name f rest (members_view ms) >>= λ es. Ok (done ++ es))
  entries_completed done [] [] = refl
  entries_completed done [] (m ∷ ms) = refl
  entries_completed done (e ∷ rest) [] = refl
  entries_completed done ((k, x) ∷ rest) (m ∷ ms) =
      ap (λ (found : Option (K × A)). with_entry_at name f (done ++ (k, x) ∷ rest) (length done) m found >>= λ next. with_parts (with_member name f) (length rest) (suc (length done)) next ms)
      (slice_get-behind done rest (k, x))
      ∙ named_completed done rest k x ms (λ y. entries_completed (done ++ (k, y) ∷ []) rest ms) (under (step.Member m.0.now) (f x (value_view m.1))) (bytes_eq m.0.now (name k))

  -- what members say of a table, one after another
  pub table_completed : (es : List (K × A)) (ms : List (Bor (List ℕ) × Value X)) → with_parts (with_member name f) (length es) 0 es ms ≡ entries_with name f es (members_view ms)
  table_completed es ms = entries_completed [] es ms ∙ nothing_done (entries_with name f es (members_view ms))

-- ---- one part

-- the item at an index is completed
pub item_put : {A X : Type 0} (f : A → Json → Reading A) (xs : List A) (i : ℕ) (v : Value X) (x new : A) (r : Result (Unit {0}) ReadError) → slice_get xs i ≡ Some x
    → Completes r (under (step.Item i) (f x (value_view v))) new → Completes r (with_item f xs i v) (slice_set xs i new)
item_put {A} f xs i v x new r at done =
    subst (λ (found : Option A). Completes r (with_item_at f xs i v found) (slice_set xs i new)) (sym at) (then_put (λ y. slice_set xs i y) r (under (step.Item i) (f x (value_view v))) new done)

module _ {K A : Type 0} where
  -- the value that is lent is that of the entry
  pub lent_at : (es : List (K × A)) (i : ℕ) (k : K) (x lent : A) → slice_get (values_of es) i ≡ Some lent → slice_get es i ≡ Some (k, x) → slice_get es i ≡ Some (k, lent)
  lent_at [] i k x lent held at = cc
  lent_at (e ∷ es) zero k x lent held at = cc
  lent_at (e ∷ es) (suc i) k x lent held at = lent_at es i k x lent held at

  -- as many entries as before
  pub as_many : (es : List (K × A)) (i : ℕ) (x : A) → length (set_value_at es i x) ≡ length es
  as_many [] i x = refl
  as_many (e ∷ es) zero x = refl
  as_many (e ∷ es) (suc i) x = ap suc (as_many es i x)

-- the entry at an index is completed, which has the name of the member
pub entry_put : {K A X : Type 0} (name : K → List ℕ) (f : A → Json → Reading A) (es : List (K × A)) (i : ℕ) (m : Bor (List ℕ) × Value X) (k : K) (x new : A) (r : Result (Unit {0}) ReadError)
    → slice_get es i ≡ Some (k, x) → bytes_eq m.0.now (name k) ≡ true → Completes r (under (step.Member m.0.now) (f x (value_view m.1))) new
    → Completes r (with_member name f es i m) (set_value_at es i new)
entry_put {K} {A} name f es i m k x new r at same done =
    let read = under (step.Member m.0.now) (f x (value_view m.1)) in
    subst (λ (found : Option (K × A)). Completes r (with_entry_at name f es i m found) (set_value_at es i new)) (sym at)
    (subst (λ (b : Bool). Completes r (if b then (read >>= λ y. let set : Reading (List (K × A)) = Ok (set_value_at es i y) in set) else instead_of expected.Details) (set_value_at es i new)) (sym same)
    (then_put (λ y. set_value_at es i y) r read new done))
