-- What is named of other packages, item by item.
use Rattle.std.proofs.Common.{◌≡◌, ◌∙◌, ℕ, zero, suc, ◌+◌, ◌<◌, List, [], ◌∷◌, ◌++◌, map, length, take, drop, Some, slice_get, refl, sym, ap, append_assoc, arith}
use Rattle.std.specs.List.{enumerate_from, flat_map}
use Rattle.std.proofs.lemmas.Grind.{flat_map-append}
use Rattle.std.proofs.lemmas.List.{take_all}
use Rattle.std.proofs.lemmas.List.FromFn.{length-enumerate_from}
use Rattle.wit_values.specs.facts.Lists.{map-next}
use Rattle.wit_data.specs.facts.EachFacts.{flat_map-next}
use Rattle.wit_data.specs.Foreign.{ForeignItem, ForeignItems}
use Rattle.wit_data.specs.declared.unresolved.AstItem.{AstItem}
use Rattle.wit_names.specs.declared.package_name.PackageName.{PackageName}
use Rattle.wit_link_spec.specs.Lookup.{named_items}
use Rattle.wit_link_lookup.specs.steps.ForeignItems.{NamedItem, named_before, named_of}

module _ {X : Type 0} where
  enumerated : (xs : List X) (n i m : ℕ) (x : X) → m ≡ n + i → slice_get xs i ≡ Some x → slice_get (enumerate_from n xs) i ≡ Some (m, x)
  enumerated [] n i m x place at = cc
  enumerated (y ∷ ys) n zero m x place at =
      let same : y ≡ x = cc in
      let here : n ≡ m = omega arith in
      ap (λ (p : ℕ). Some (p, y)) here ∙ ap (λ (z : X). Some (m, z)) same
  enumerated (y ∷ ys) n (suc i) m x place at = enumerated ys (n + 1) i m x (omega arith) at

  split_at : (xs : List X) (i : ℕ) (x : X) → slice_get xs i ≡ Some x → xs ≡ take i xs ++ x ∷ drop (suc i) xs
  split_at [] i x at = cc
  split_at (y ∷ ys) zero x at = let same : y ≡ x = cc in ap (λ (z : X). z ∷ ys) same
  split_at (y ∷ ys) (suc i) x at = ap (λ (zs : List X). y ∷ zs) (split_at ys i x at)

-- what has been named before an item of a package
abbrev pub named_until : ForeignItems → ℕ → PackageName → List ForeignItem → ℕ → List NamedItem
named_until deps place name items index = named_before deps place ++ map (λ (i : ForeignItem). let r : NamedItem = (place, name, i) in r) (take index items)

module _ (deps : ForeignItems) (place : ℕ) (name : PackageName) (items : List ForeignItem) (there : slice_get deps place ≡ Some (name, items)) where
  -- one item more
  pub until-next : (index : ℕ) (it : ForeignItem) → slice_get items index ≡ Some it → named_until deps place name items (index + 1) ≡ named_until deps place name items index ++ (place, name, it) ∷ []
  until-next index it at =
      let m = λ (i : ForeignItem). let r : NamedItem = (place, name, i) in r in
      ap (λ (l : List NamedItem). named_before deps place ++ l) (map-next m items index it at) ∙ sym (append_assoc (named_before deps place) (map m (take index items)) (m it ∷ []))

  -- all of a package
  pub until-all : (index : ℕ) → length items < index + 1 → named_until deps place name items index ≡ named_before deps (place + 1)
  until-all index all =
      let m = λ (i : ForeignItem). let r : NamedItem = (place, name, i) in r in
      ap (λ (l : List ForeignItem). named_before deps place ++ map m l) (take_all index items (omega arith))
      ∙ sym (flat_map-next named_of (enumerate_from 0 deps) place (place, (name, items)) (enumerated deps 0 place place (name, items) (omega arith) there))

  -- what comes after
  pub whole : (index : ℕ) (it : ForeignItem) → slice_get items index ≡ Some it → (rest : List NamedItem) × (named_items deps ≡ named_until deps place name items index ++ (place, name, it) ∷ rest)
  whole index it at =
      let m = λ (i : ForeignItem). let r : NamedItem = (place, name, i) in r in
      let e : ℕ × (PackageName × List ForeignItem) = (place, (name, items)) in
      let all = enumerate_from 0 deps in
      let behind = flat_map named_of (drop (suc place) all) in
      let first = split_at all place e (enumerated deps 0 place place (name, items) (omega arith) there) in
      let second = split_at items index it at in
      let outer : named_items deps ≡ named_before deps place ++ (map m items ++ behind) = ap (flat_map named_of) first ∙ flat_map-append named_of (take place all) (e ∷ drop (suc place) all) in
      let inner : map m items ≡ map m (take index items) ++ m it ∷ map m (drop (suc index) items) = ap (map m) second ∙ map-append' m (take index items) (it ∷ drop (suc index) items) in (
        map m (drop (suc index) items) ++ behind,
        outer ∙ ap (λ (l : List NamedItem). named_before deps place ++ (l ++ behind)) inner
            ∙ ap (λ (l : List NamedItem). named_before deps place ++ l) (append_assoc (map m (take index items)) (m it ∷ map m (drop (suc index) items)) behind)
            ∙ sym (append_assoc (named_before deps place) (map m (take index items)) (m it ∷ (map m (drop (suc index) items) ++ behind))),
      )
    where
      map-append' : (f : ForeignItem → NamedItem) (xs ys : List ForeignItem) → map f (xs ++ ys) ≡ map f xs ++ map f ys
      map-append' f [] ys = refl
      map-append' f (x ∷ xs) ys = ap (λ (l : List NamedItem). f x ∷ l) (map-append' f xs ys)

-- all packages
pub before-all : (deps : ForeignItems) (n : ℕ) → length deps < n + 1 → named_before deps n ≡ named_items deps
before-all deps n all = ap (flat_map named_of) (take_all n (enumerate_from 0 deps) (let long = length-enumerate_from 0 deps in omega arith))

-- the ids that are named
ids_of_items : (ids : AstItem → List ℕ) (n : ℕ) (name : PackageName) (items : List ForeignItem)
    → flat_map (λ (e : NamedItem). ids e.2.1.0) (map (λ (i : ForeignItem). let r : NamedItem = (n, name, i) in r) items) ≡ flat_map (λ (i : ForeignItem). ids i.1.0) items
ids_of_items ids n name [] = refl
ids_of_items ids n name (i ∷ is) = ap (λ (l : List ℕ). ids i.1.0 ++ l) (ids_of_items ids n name is)

ids_from : (ids : AstItem → List ℕ) (n : ℕ) (deps : ForeignItems)
    → flat_map (λ (e : NamedItem). ids e.2.1.0) (flat_map named_of (enumerate_from n deps)) ≡ flat_map (λ (e : PackageName × List ForeignItem). flat_map (λ (i : ForeignItem). ids i.1.0) e.1) deps
ids_from ids n [] = refl
ids_from ids n (d ∷ ds) =
    flat_map-append (λ (e : NamedItem). ids e.2.1.0) (named_of (n, d)) (flat_map named_of (enumerate_from (n + 1) ds))
    ∙ ap (λ (l : List ℕ). l ++ flat_map (λ (e : NamedItem). ids e.2.1.0) (flat_map named_of (enumerate_from (n + 1) ds))) (ids_of_items ids n d.0 d.1)
    ∙ ap (λ (l : List ℕ). flat_map (λ (i : ForeignItem). ids i.1.0) d.1 ++ l) (ids_from ids (n + 1) ds)

pub ids_named : (ids : AstItem → List ℕ) (deps : ForeignItems)
    → flat_map (λ (e : NamedItem). ids e.2.1.0) (named_items deps) ≡ flat_map (λ (e : PackageName × List ForeignItem). flat_map (λ (i : ForeignItem). ids i.1.0) e.1) deps
ids_named ids deps = ids_from ids 0 deps
