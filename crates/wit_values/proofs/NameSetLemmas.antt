-- A set of texts, and the set that keeps it.
use Rattle.std.proofs.Common.{◌≡◌, ℕ, Bool, false, List, [], ◌∷◌, ◌++◌, String, string_bytes, refl, ap, sym, subst, ◌∙◌, append_assoc, length, string_eq, if◌then◌else◌, true}
use Rattle.std.specs.declared.alloc.Global.{Global}
use Rattle.std.specs.Cmp.Lexicographic.{nat_list_eq_equiv}
use Rattle.std.specs.List.{IsDistinct, AllByRecursion, list_any}
use Rattle.std.specs.Str.{bytes_eq}
use Rattle.wit_values.specs.facts.Lists.{AllByRecursion-at, slice_get-behind}
use Rattle.wit_values.specs.NameSet.{texts_of}

pub list_any-texts : (test : List ℕ → Bool) (ks : List (String Global)) → list_any test (texts_of ks) ≡ list_any (λ k. test (string_bytes k)) ks
list_any-texts test [] = refl
list_any-texts test (k ∷ ks) = let rest : list_any test (texts_of ks) ≡ list_any (λ k. test (string_bytes k)) ks = list_any-texts test ks in rw rest

pub texts-append : (ks ls : List (String Global)) → texts_of (ks ++ ls) ≡ texts_of ks ++ texts_of ls
texts-append [] ls = refl
texts-append (k ∷ ks) ls = ap (λ l. string_bytes k ∷ l) (texts-append ks ls)

differs_from : (bs : List ℕ) (ks : List (String Global)) → AllByRecursion (λ k. bytes_eq bs (string_bytes k) ≡ false) ks
    → AllByRecursion (λ y. bytes_eq bs y ≡ false) (texts_of ks)
differs_from bs [] h = h
differs_from bs (k ∷ ks) h = (h.0, differs_from bs ks h.1)

pub IsDistinct-texts : (ks : List (String Global)) → IsDistinct string_eq ks → IsDistinct bytes_eq (texts_of ks)
unfolding IsDistinct
IsDistinct-texts [] h = h
IsDistinct-texts (k ∷ ks) h = (differs_from (string_bytes k) ks h.0, IsDistinct-texts ks h.1)

-- what an insertion makes of the texts
pub texts-insert : (ks : List (String Global)) (k : String Global) →
    texts_of (if list_any (string_eq k) ks then ks else ks ++ k ∷ []) ≡ (if list_any (bytes_eq (string_bytes k)) (texts_of ks) then texts_of ks else texts_of ks ++ string_bytes k ∷ [])
texts-insert ks k = rw (list_any-texts (bytes_eq (string_bytes k)) ks) (by (list_any (λ l. bytes_eq (string_bytes k) (string_bytes l)) ks))
  where
    by : (b : Bool) → texts_of (if b then ks else ks ++ k ∷ []) ≡ (if b then texts_of ks else texts_of ks ++ string_bytes k ∷ [])
    by true = refl
    by false = texts-append ks (k ∷ [])

-- a text is not among those before it
absent_before : (xs ys : List (List ℕ)) (x : List ℕ) → IsDistinct bytes_eq (xs ++ x ∷ ys) → list_any (bytes_eq x) xs ≡ false
unfolding IsDistinct
absent_before [] ys x distinct = refl
absent_before (z ∷ zs) ys x distinct =
    let differs : bytes_eq x z ≡ false = nat_list_eq_equiv.symm x z ∙ AllByRecursion-at (λ y. bytes_eq z y ≡ false) (zs ++ x ∷ ys) (length zs) x distinct.0 (slice_get-behind zs ys x) in
    rw differs (absent_before zs ys x distinct.1)

-- one more text, which is new
pub insert-next : (copy : List (List ℕ)) (x : List ℕ) (rest all : List (List ℕ)) → copy ++ x ∷ rest ≡ all → IsDistinct bytes_eq all →
    (if list_any (bytes_eq x) copy then copy else copy ++ x ∷ []) ++ rest ≡ all
insert-next copy x rest all whole distinct =
    rw (absent_before copy rest x (subst (IsDistinct bytes_eq) (sym whole) distinct)) (append_assoc copy (x ∷ []) rest ∙ whole)
