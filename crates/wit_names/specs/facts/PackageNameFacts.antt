-- Facts on names of packages that are the same, for the proofs of the crates above. They say nothing
-- about this crate's code.
use Rattle.std.proofs.Common.{◌≡◌, ◌∙◌, ℕ, Bool, true, false, List, ◌&&◌, Option, Some, None, refl, ap, subst, nat_eq}
use Rattle.std.specs.Bool.{Decides}
use Rattle.std.specs.Option.{option_eq}
use Rattle.std.specs.Str.{bytes_eq}
use Rattle.std.proofs.lemmas.Bool.Decides.{Decides-eqb}
use Rattle.std.proofs.lemmas.Slice.Eq.{bytes_eq-Decides}
use Rattle.wit_values.specs.Version.{Parts, version_eq}
use Rattle.wit_values.specs.facts.VersionFacts.{version_eq_equiv}
use Rattle.wit_names.specs.PackageName.{same_package}
use Rattle.wit_names.specs.declared.package_name.PackageName.{PackageName}

both : (a b : Bool) → (a && b) ≡ true → (a ≡ true) × (b ≡ true)
both true b h = (refl, h)
both false b h = cc

abbrev a_version : ℕ → ℕ → ℕ → List ℕ → List ℕ → Parts
a_version a b c d e = (a, b, c, d, e)

five : (a a' b b' c c' : ℕ) (d d' e e' : List ℕ) → a ≡ a' → b ≡ b' → c ≡ c' → d ≡ d' → e ≡ e' → a_version a b c d e ≡ a_version a' b' c' d' e'
five a a' b b' c c' d d' e e' p q r s t = cc

abbrev a_name : List ℕ → List ℕ → Option Parts → PackageName
a_name a b c = record { namespace = a; name = b; version = c }

three_parts : (a a' b b' : List ℕ) (c c' : Option Parts) → a ≡ a' → b ≡ b' → c ≡ c'
    → a_name a b c ≡ a_name a' b' c'
three_parts a a' b b' c c' p q r = cc

pub same_parts : (a b : Parts) → version_eq a b ≡ true → a ≡ b
same_parts a b h =
    let one = both (nat_eq a.0 b.0) _ h in
    let two = both (nat_eq a.1 b.1) _ one.1 in
    let three = both (nat_eq a.2 b.2) _ two.1 in
    let four = both (bytes_eq a.3 b.3) _ three.1 in
    let major : a.0 ≡ b.0 = (Decides-eqb a.0 b.0).0 one.0 in
    let minor : a.1 ≡ b.1 = (Decides-eqb a.1 b.1).0 two.0 in
    let patch : a.2 ≡ b.2 = (Decides-eqb a.2 b.2).0 three.0 in
    let pre : a.3 ≡ b.3 = (bytes_eq-Decides a.3 b.3).0 four.0 in
    let build : a.4 ≡ b.4 = (bytes_eq-Decides a.4 b.4).0 four.1 in
    five a.0 b.0 a.1 b.1 a.2 b.2 a.3 b.3 a.4 b.4 major minor patch pre build

same_version : (a b : Option Parts) → option_eq version_eq a b ≡ true → a ≡ b
same_version None None h = refl
same_version None (Some b) h = cc
same_version (Some a) None h = cc
same_version (Some a) (Some b) h = ap Some (same_parts a b h)

pub same_name : (a b : PackageName) → same_package a b ≡ true → a ≡ b
same_name a b h =
    let namespace = both (bytes_eq a.namespace b.namespace) _ h in
    let name = both (bytes_eq a.name b.name) _ namespace.1 in
    let e : a.namespace ≡ b.namespace = (bytes_eq-Decides a.namespace b.namespace).0 namespace.0 in
    let f : a.name ≡ b.name = (bytes_eq-Decides a.name b.name).0 name.0 in
    let v : a.version ≡ b.version = same_version a.version b.version name.1 in
    three_parts a.namespace b.namespace a.name b.name a.version b.version e f v

own_version : (a : Option Parts) → option_eq version_eq a a ≡ true
own_version None = refl
own_version (Some a) = version_eq_equiv.refl a

pub own_name : (a : PackageName) → same_package a a ≡ true
own_name a =
    ap (λ (x : Bool). x && (bytes_eq a.name a.name && option_eq version_eq a.version a.version)) ((bytes_eq-Decides a.namespace a.namespace).1 refl)
    ∙ ap (λ (x : Bool). x && option_eq version_eq a.version a.version) ((bytes_eq-Decides a.name a.name).1 refl) ∙ own_version a.version

-- the test is exact
pub same_package-Decides : (a b : PackageName) → Decides (same_package a b) (a ≡ b)
same_package-Decides a b = (same_name a b, λ same. subst (λ (name : PackageName). same_package a name ≡ true) same (own_name a))
