-- Tables that are filled in the order of a list.
use Rattle.std.proofs.Common.{◌≡◌, ◌∙◌, ℕ, zero, suc, List, [], ◌∷◌, ◌++◌, map, take, filter_map, slice_get, Option, Some, None, refl, ap, sym, subst, length, get_or, ◌<◌, arith}
use Rattle.std.specs.Cmp.Lexicographic.{nat_list_eq_equiv}
use Rattle.std.specs.List.{IsDistinct, cons_option}
use Rattle.std.specs.Map.{keys_of, lookup}
use Rattle.std.specs.Str.{bytes_eq}
use Rattle.wit_values.specs.facts.Lists.{lookup-before}

module _ {X Y : Type 0} where
  -- what comes of the elements before one, it, and those after it
  filter_map-split : (f : X → Option Y) (xs : List X) (i : ℕ) (x : X) (y : Y) → slice_get xs i ≡ Some x → f x ≡ Some y
      → (rest : List Y) × (filter_map f xs ≡ filter_map f (take i xs) ++ y ∷ rest)
  filter_map-split f [] i x y at is = cc
  filter_map-split f (z ∷ zs) zero x y at is =
      let same : z ≡ x = cc in (filter_map f zs, ap (λ (o : Option Y). cons_option o (filter_map f zs)) (ap f same ∙ is))
  filter_map-split f (z ∷ zs) (suc i) x y at is =
      let old = filter_map-split f zs i x y at is in (old.0, ap (cons_option (f z)) old.1 ∙ cons_front (f z) (filter_map f (take i zs)) (y ∷ old.0))
    where
      cons_front : (o : Option Y) (first rest : List Y) → cons_option o (first ++ rest) ≡ cons_option o first ++ rest
      cons_front None first rest = refl
      cons_front (Some z) first rest = refl

  map-split : (f : X → Y) (xs : List X) (i : ℕ) (x : X) → slice_get xs i ≡ Some x → (rest : List Y) × (map f xs ≡ map f (take i xs) ++ f x ∷ rest)
  map-split f [] i x at = cc
  map-split f (z ∷ zs) zero x at = let same : z ≡ x = cc in (map f zs, ap (λ (w : X). f w ∷ map f zs) same)
  map-split f (z ∷ zs) (suc i) x at = let old = map-split f zs i x at in (old.0, ap (λ (l : List Y). f z ∷ l) old.1)

module _ {X V : Type 0} where
  -- the name that comes next is new
  pub filled-new : (f : X → Option (List ℕ × V)) (xs : List X) (i : ℕ) (x : X) (name : List ℕ) (v : V) → IsDistinct bytes_eq (keys_of (filter_map f xs)) → slice_get xs i ≡ Some x
      → f x ≡ Some (name, v) → lookup (bytes_eq name) (filter_map f (take i xs)) ≡ None
  filled-new f xs i x name v distinct at is =
      let split = filter_map-split f xs i x (name, v) at is in
      lookup-before nat_list_eq_equiv (filter_map f (take i xs)) split.0 name v (subst (λ (l : List (List ℕ × V)). IsDistinct bytes_eq (keys_of l)) split.1 distinct)

  pub mapped-new : (f : X → List ℕ × V) (xs : List X) (i : ℕ) (x : X) → IsDistinct bytes_eq (keys_of (map f xs)) → slice_get xs i ≡ Some x
      → lookup (bytes_eq (f x).0) (map f (take i xs)) ≡ None
  mapped-new f xs i x distinct at =
      let split = map-split f xs i x at in
      lookup-before nat_list_eq_equiv (map f (take i xs)) split.0 (f x).0 (f x).1 (subst (λ (l : List (List ℕ × V)). IsDistinct bytes_eq (keys_of l)) split.1 distinct)

-- an element below the length stands at its place
pub item_at : {X : Type 0} (xs : List X) (i : ℕ) (x : X) → i < length xs → x ≡ get_or xs i x → slice_get xs i ≡ Some x
item_at [] i x below is = absurd (omega arith)
item_at (z ∷ zs) zero x below is = ap (λ y. Some y) (sym is)
item_at (z ∷ zs) (suc i) x below is = item_at zs i x (omega arith) is
