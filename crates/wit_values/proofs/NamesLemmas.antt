-- A table under texts, and the map that keeps it.
use Rattle.std.proofs.Common.{◌≡◌, ◌∙◌, ◌+◌, ℕ, suc, zero, Bool, cond, filter, length, map, nat_lt, not, position, remove, slice_get, List, [], ◌∷◌, ◌++◌, Option, None, Some, String, string_bytes, refl, sym, ap, string_eq, true, false, option_to_list}
use Rattle.indexmap.proofs.MapLemmas.{Found-position, Missing-position, remove_entry-first}
use Rattle.indexmap.specs.IndexMap.{set_value_at}
use Rattle.std.proofs.lemmas.List.{append-nil}
use Rattle.std.proofs.lemmas.Slice.Eq.{bytes_eq-Decides}
use Rattle.std.specs.declared.alloc.Global.{Global}
use Rattle.std.specs.List.{IsDistinct, AllByRecursion, position_or_len}
use Rattle.std.specs.Map.{lookup, keys_of, remove_entry, values_of}
use Rattle.std_collections.proofs.HashLookup.{IsFirst, remove_IsAbsent}
use Rattle.std.specs.Str.{bytes_eq}
use Rattle.wit_values.specs.Names.{named, moved_last}
use Rattle.wit_values.specs.Pairs.{last_from}

module _ {V : Type 0} where
  -- what is found under a test of the bytes
  pub lookup-named : (test : List ℕ → Bool) (es : List (String Global × V)) → lookup test (named es) ≡ lookup (λ k. test (string_bytes k)) es
  lookup-named test [] = refl
  lookup-named test (e ∷ es) = ap (cond (test (string_bytes e.0)) (Some e.1)) (lookup-named test es)

  pub named-append : (es fs : List (String Global × V)) → named (es ++ fs) ≡ named es ++ named fs
  named-append [] fs = refl
  named-append (e ∷ es) fs = ap (λ l. (string_bytes e.0, e.1) ∷ l) (named-append es fs)

  differs_from : (bs : List ℕ) (es : List (String Global × V)) → AllByRecursion (λ y. bytes_eq bs (string_bytes y) ≡ false) (keys_of es)
      → AllByRecursion (λ y. bytes_eq bs y ≡ false) (keys_of (named es))
  differs_from bs [] h = h
  differs_from bs (e ∷ es) h = (h.0, differs_from bs es h.1)

  -- the names of entries under keys that differ, differ
  pub IsDistinct-named : (es : List (String Global × V)) → IsDistinct string_eq (keys_of es) → IsDistinct bytes_eq (keys_of (named es))
  unfolding IsDistinct
  IsDistinct-named [] h = h
  IsDistinct-named (e ∷ es) h = (differs_from (string_bytes e.0) es h.0, IsDistinct-named es h.1)

  -- the place of a name
  first-named : (test : List ℕ → Bool) (es : List (String Global × V)) → position_or_len test (keys_of (named es)) ≡ position_or_len (λ k. test (string_bytes k)) (keys_of es)
  first-named test [] = refl
  first-named test (e ∷ es) = ap (λ (n : ℕ). cond (not (test (string_bytes e.0))) (1 + n) 0) (first-named test es)

  length-keys-named : (es : List (String Global × V)) → length (keys_of (named es)) ≡ length (keys_of es)
  length-keys-named [] = refl
  length-keys-named (e ∷ es) = ap suc (length-keys-named es)

  pub position-named : (test : List ℕ → Bool) (es : List (String Global × V)) → position test (keys_of (named es)) ≡ position (λ k. test (string_bytes k)) (keys_of es)
  position-named test es =
      ap (λ (p : ℕ). cond (nat_lt p (length (keys_of (named es)))) (Some p) None) (first-named test es)
      ∙ ap (λ (n : ℕ). cond (nat_lt (position_or_len (λ k. test (string_bytes k)) (keys_of es)) n) (Some (position_or_len (λ k. test (string_bytes k)) (keys_of es))) None) (length-keys-named es)

  pub length-named : (es : List (String Global × V)) → length (named es) ≡ length es
  length-named [] = refl
  length-named (e ∷ es) = ap suc (length-named es)

  -- what stands at an index stands there under its name
  pub slice_get-named : (es : List (String Global × V)) (i : ℕ) (k : String Global) (v : V) → slice_get es i ≡ Some (k, v) → slice_get (named es) i ≡ Some (string_bytes k, v)
  slice_get-named [] i k v at = cc
  slice_get-named (e ∷ es) zero k v at = let same : e ≡ (k, v) = cc in ap (λ (p : String Global × V). Some (string_bytes p.0, p.1)) same
  slice_get-named (e ∷ es) (suc i) k v at = slice_get-named es i k v at

  pub values-named : (es : List (String Global × V)) → values_of (named es) ≡ values_of es
  values-named [] = refl
  values-named (e ∷ es) = ap (λ (vs : List V). e.1 ∷ vs) (values-named es)

  pub set_value-named : (es : List (String Global × V)) (i : ℕ) (w : V) → named (set_value_at es i w) ≡ set_value_at (named es) i w
  set_value-named [] i w = refl
  set_value-named (e ∷ es) zero w = refl
  set_value-named (e ∷ es) (suc i) w = ap (λ (l : List (List ℕ × V)). (string_bytes e.0, e.1) ∷ l) (set_value-named es i w)

  -- the names of pairs that are left
  pub filter-named : (kept : V → Bool) (es : List (String Global × V)) → named (filter (λ (e : String Global × V). kept e.1) es) ≡ filter (λ (e : List ℕ × V). kept e.1) (named es)
  filter-named kept [] = refl
  filter-named kept (e ∷ es) = by (kept e.1) (filter-named kept es)
    where
      by : (b : Bool) → named (filter (λ (e : String Global × V). kept e.1) es) ≡ filter (λ (e : List ℕ × V). kept e.1) (named es)
          → named (cond b (e ∷ filter (λ (e : String Global × V). kept e.1) es) (filter (λ (e : String Global × V). kept e.1) es))
          ≡ cond b ((string_bytes e.0, e.1) ∷ filter (λ (e : List ℕ × V). kept e.1) (named es)) (filter (λ (e : List ℕ × V). kept e.1) (named es))
      by true old = ap (λ (l : List (List ℕ × V)). (string_bytes e.0, e.1) ∷ l) old
      by false old = old

  -- the others where one is taken out
  pub remove-named : (es : List (String Global × V)) (i : ℕ) → named (remove es i) ≡ remove (named es) i
  remove-named [] zero = refl
  remove-named [] (suc i) = refl
  remove-named (e ∷ es) zero = refl
  remove-named (e ∷ es) (suc i) = ap (λ l. (string_bytes e.0, e.1) ∷ l) (remove-named es i)

  taken-named : (es : List (String Global × V)) (i : ℕ) → named (option_to_list (slice_get es i)) ≡ option_to_list (slice_get (named es) i)
  taken-named [] i = refl
  taken-named (e ∷ es) zero = refl
  taken-named (e ∷ es) (suc i) = taken-named es i

  -- and where it comes last
  pub last-named : (es : List (String Global × V)) (i : ℕ) → named (last_from es i) ≡ last_from (named es) i
  last-named es i = named-append (remove es i) (option_to_list (slice_get es i)) ∙ (λ j. remove-named es i j ++ taken-named es i j)

module _ {V : Type 0} (key : List ℕ) where
  -- the first pair under a key, and what is found there
  record PairAt (es : List (List ℕ × V)) (i : ℕ) : Type 0 where
    entry : List ℕ × V
    at : slice_get es i ≡ Some entry
    own : entry.0 ≡ key
    found : lookup (bytes_eq key) es ≡ Some entry.1

  pair_at : (es : List (List ℕ × V)) (i : ℕ) → IsFirst (bytes_eq key) es i → PairAt es i
  pair_at [] i first = absurd first
  pair_at (e ∷ es) zero first = record { entry = e; at = refl; own = sym ((bytes_eq-Decides key e.0).0 first); found = ap (λ b. cond b (Some e.1) (lookup (bytes_eq key) es)) first }
  pair_at (e ∷ es) (suc i) first =
      let behind = pair_at es i first.1 in
      record { entry = behind.entry; at = behind.at; own = behind.own; found = ap (λ b. cond b (Some e.1) (lookup (bytes_eq key) es)) first.0 ∙ behind.found }

  -- what is left where the pair under a key is taken out
  pub remove_at_key : (es : List (List ℕ × V)) (i : ℕ) → position (bytes_eq key) (keys_of es) ≡ Some i → remove es i ≡ remove_entry (bytes_eq key) es
  remove_at_key es i index = sym (remove_entry-first (bytes_eq key) es i (Found-position (bytes_eq key) es i index).first)

  -- and where it is put at the end
  pub moved_at_key : (es : List (List ℕ × V)) (i : ℕ) → position (bytes_eq key) (keys_of es) ≡ Some i → last_from es i ≡ moved_last key es
  moved_at_key es i index =
      let pair = pair_at es i (Found-position (bytes_eq key) es i index).first in
      (λ j. remove_at_key es i index j ++ option_to_list (pair.at j))
      ∙ (λ j. remove_entry (bytes_eq key) es ++ (pair.own j, pair.entry.1) ∷ [])
      ∙ ap (λ (o : Option V). remove_entry (bytes_eq key) es ++ map (λ v. (key, v)) (option_to_list o)) (sym pair.found)

  -- where the key isn't there, all is as before
  pub nothing_at_key : (es : List (List ℕ × V)) → position (bytes_eq key) (keys_of es) ≡ None → (es ≡ remove_entry (bytes_eq key) es) × (lookup (bytes_eq key) es ≡ None)
  nothing_at_key es none = let missing = Missing-position (bytes_eq key) es none in (sym (remove_IsAbsent (bytes_eq key) es missing.absent), missing.value)

  pub unmoved_at_key : (es : List (List ℕ × V)) → position (bytes_eq key) (keys_of es) ≡ None → es ≡ moved_last key es
  unmoved_at_key es none = let nothing = nothing_at_key es none in sym (append-nil es) ∙ (λ j. nothing.0 j ++ map (λ v. (key, v)) (option_to_list (sym nothing.1 j)))
