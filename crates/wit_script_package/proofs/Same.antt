-- Mentions of the same package, of the same interface or world, and of the same type.
use Rattle.std.proofs.Common.{◌≡◌, ℕ, Bool, true, false, ◌&&◌, List, Option, None, Some, refl, ap, bytes_eq, Decides}
use Rattle.std.proofs.lemmas.Slice.Eq.{bytes_eq-Decides}
use Rattle.wit_names.specs.facts.PackageNameFacts.{own_name as own_package, same_name as same_package-is}
use Rattle.wit_names.specs.PackageName.{same_package}
use Rattle.wit_names.specs.declared.package_name.PackageName.{PackageName}
use Rattle.wit_script_package.specs.Mention.{same_item, same_name, same_parent, same_type, used_type_name}
use Rattle.wit_script_package.specs.declared.mention.Mention.{Mention}

-- ---- tests that tell equal things alone

module _ {K : Type 0} (s : K → K → Bool) (is : (a b : K) → s a b ≡ true → a ≡ b) where
  transformed : (a b : K) → s a b ≡ s b a
  transformed a b = by (s a b) (s b a) refl refl where
    by : (c d : Bool) → s a b ≡ c → s b a ≡ d → c ≡ d
    by true true there back = refl
    by true false there back = let e : a ≡ b = is a b there in cc
    by false true there back = let e : b ≡ a = is b a back in cc
    by false false there back = refl

both : (a b : Bool) → (a && b) ≡ true → (a ≡ true) × (b ≡ true)
both true true h = (refl, refl)
both true false h = cc
both false b h = cc

-- ---- texts

pub text-is : (a b : List ℕ) → bytes_eq a b ≡ true → a ≡ b
text-is a b same = by (bytes_eq a b) (bytes_eq-Decides a b) same where
  by : (c : Bool) → Decides c (a ≡ b) → c ≡ true → a ≡ b
  by true told same = told.0 refl
  by false told same = cc

pub own-text : (a : List ℕ) → bytes_eq a a ≡ true
own-text a = by (bytes_eq a a) (bytes_eq-Decides a a) where
  by : (c : Bool) → Decides c (a ≡ a) → c ≡ true
  by true told = refl
  by false told = told.1 refl

-- ---- packages

pub parent-turn : (a b : Mention) → same_parent a b ≡ same_parent b a
parent-turn a b = transformed same_package same_package-is a.parent b.parent

pub parent-through : (a b c : Mention) → same_parent a b ≡ true → same_parent a c ≡ same_parent b c
parent-through a b c same = ap (λ (p : PackageName). same_package p c.parent) (same_package-is a.parent b.parent same)

-- ---- interfaces and worlds

abbrev Item : Type 0
Item = PackageName × List ℕ

abbrev item_eq : Item → Item → Bool
item_eq a b = same_package a.0 b.0 && bytes_eq a.1 b.1

item-is : (a b : Item) → item_eq a b ≡ true → a ≡ b
item-is a b same =
    let parts = both (same_package a.0 b.0) (bytes_eq a.1 b.1) same in
    let first : a.0 ≡ b.0 = same_package-is a.0 b.0 parts.0 in
    let second : a.1 ≡ b.1 = text-is a.1 b.1 parts.1 in
    λ i. (first i, second i)

pub item-turn : (a b : Mention) → same_item a b ≡ same_item b a
item-turn a b = transformed item_eq item-is (a.parent, a.name) (b.parent, b.name)

pub item-through : (a b c : Mention) → same_item a b ≡ true → same_item a c ≡ same_item b c
item-through a b c same = ap (λ (i : Item). item_eq i (c.parent, c.name)) (item-is (a.parent, a.name) (b.parent, b.name) same)

pub own-item : (a : Mention) → same_item a a ≡ true
own-item a = rw (own_package a.parent, own-text a.name) refl

-- of one interface or world, of one package
pub item-parent : (a b : Mention) → same_item a b ≡ true → same_parent a b ≡ true
item-parent a b same = (both (same_parent a b) (bytes_eq a.name b.name) same).0

-- ---- types

abbrev Used : Type 0
Used = Item × Option (List ℕ)

abbrev used_eq : Used → Used → Bool
used_eq a b = item_eq a.0 b.0 && same_name a.1 b.1

name-is : (a b : Option (List ℕ)) → same_name a b ≡ true → a ≡ b
name-is a None same = cc
name-is None (Some name) same = cc
name-is (Some used) (Some name) same = ap Some (text-is used name same)

used-is : (a b : Used) → used_eq a b ≡ true → a ≡ b
used-is a b same =
    let parts = both (item_eq a.0 b.0) (same_name a.1 b.1) same in
    let first : a.0 ≡ b.0 = item-is a.0 b.0 parts.0 in
    let second : a.1 ≡ b.1 = name-is a.1 b.1 parts.1 in
    λ i. (first i, second i)

abbrev used : Mention → Used
used m = ((m.parent, m.name), used_type_name m.kind)

pub type-turn : (a b : Mention) → same_type a b ≡ same_type b a
type-turn a b = transformed used_eq used-is (used a) (used b)

pub type-through : (a b c : Mention) → same_type a b ≡ true → same_type a c ≡ same_type b c
type-through a b c same = ap (λ (u : Used). used_eq u (used c)) (used-is (used a) (used b) same)
