-- What is noted of other packages.
use Rattle.std.proofs.Common.{◌≡◌, ◌∙◌, ◌+◌, ℕ, suc, Bool, true, false, cond, ◌||◌, List, [], ◌∷◌, Option, None, Some, arith, find, if◌then◌else◌, is_some, nat_eq, option_and_then, option_map, refl, sym, ap}
use Rattle.std.proofs.lemmas.Bool.{eq-eqb, eqb-true, false≢true}
use Rattle.std.specs.Prelude.{slice_get}
use Rattle.std.specs.Map.{lookup}
use Rattle.std.specs.Option.{option_or}
use Rattle.wit_data.specs.Foreign.{ForeignItem, ForeignItems}
use Rattle.wit_data.specs.declared.unresolved.AstItem.{AstItem}
use Rattle.wit_data.specs.declared.unresolved.AstItem.TheVariants as item
use Rattle.wit_data.specs.declared.unresolved.UnresolvedPackage.{UnresolvedPackage}
use Rattle.wit_names.specs.declared.package_name.PackageName.{PackageName}
use Rattle.wit_ways.specs.Packages.{is_item, names_item}
use Rattle.wit_ways.specs.steps.ForeignHomes.{AreHomes, first_home, home_place, or_place, place_in}
use Rattle.wit_ways.specs.declared.foreign_home.ForeignHomes.{ForeignHomes}

or_none : (noted : Option ℕ) (place : ℕ) → noted ≡ or_place noted false place
or_none None place = refl
or_none (Some at) place = refl

-- what is noted of two items in turn
pub or_twice : (noted : Option ℕ) (a b : Bool) (place : ℕ) → or_place (or_place noted a place) b place ≡ or_place noted (a || b) place
or_twice (Some at) a b place = refl
or_twice None true b place = refl
or_twice None false b place = refl

-- what is noted of one package, and those that are left
pub or_first : (noted : Option ℕ) (it : AstItem) (place : ℕ) (e : PackageName × List ForeignItem) (deps : ForeignItems)
    → option_or (or_place noted (names_item it e.1) place) (option_map (λ j. place + 1 + j) (place_in it deps)) ≡ option_or noted (option_map (λ j. place + j) (place_in it (e ∷ deps)))
or_first (Some at) it place e deps = refl
or_first None it place e deps = by (names_item it e.1) (place_in it deps)
  where
    by : (b : Bool) (rest : Option ℕ) → option_or (if b then Some place else None) (option_map (λ j. place + 1 + j) rest) ≡ option_map (λ j. place + j) (if b then Some 0 else option_map suc rest)
    by true rest = let same : place ≡ place + 0 = omega arith in ap Some same
    by false None = refl
    by false (Some j) = let same : place + 1 + j ≡ place + suc j = omega arith in ap Some same

-- nothing is left
pub or_nothing : (noted : Option ℕ) → option_or noted None ≡ noted
or_nothing None = refl
or_nothing (Some at) = refl

-- the package that stands at the place
pub home_at : (it : AstItem) (deps : ForeignItems)
    → option_and_then (λ j. option_map (λ (e : PackageName × List ForeignItem). e.0) (slice_get deps j)) (place_in it deps) ≡ first_home it deps
home_at it [] = refl
home_at it (e ∷ deps) = by (names_item it e.1) (place_in it deps) (home_at it deps)
  where
    by : (b : Bool) (rest : Option ℕ) → option_and_then (λ j. option_map (λ (x : PackageName × List ForeignItem). x.0) (slice_get deps j)) rest ≡ first_home it deps
        → option_and_then (λ j. option_map (λ (x : PackageName × List ForeignItem). x.0) (slice_get (e ∷ deps) j)) (if b then Some 0 else option_map suc rest)
        ≡ option_map (λ (x : PackageName × List ForeignItem). x.0) (cond b (Some e) (find (λ (x : PackageName × List ForeignItem). names_item it x.1) deps))
    by true rest is = refl
    by false None is = is
    by false (Some j) is = is

module _ (p : UnresolvedPackage) (homes : ForeignHomes) (are : AreHomes p homes) (it : AstItem) where
  -- none is noted of an item
  pub no_home : home_place homes it ≡ None → None ≡ first_home it p.foreign_deps
  no_home none = sym (ap (option_and_then (λ j. option_map (λ (e : PackageName × List ForeignItem). e.0) (slice_get p.foreign_deps j))) (sym (are it) ∙ none)) ∙ home_at it p.foreign_deps

  -- place j is noted of an item
  pub home_noted : (j : ℕ) → home_place homes it ≡ Some j → option_map (λ (e : PackageName × List ForeignItem). e.0) (slice_get p.foreign_deps j) ≡ first_home it p.foreign_deps
  home_noted j noted = sym (ap (option_and_then (λ j. option_map (λ (e : PackageName × List ForeignItem). e.0) (slice_get p.foreign_deps j))) (sym (are it) ∙ noted)) ∙ home_at it p.foreign_deps

-- one more under key k, where nothing was
put : (k i place : ℕ) (old new : List (ℕ × ℕ)) → is_some (lookup (nat_eq k) old) ≡ false
    → ((q : ℕ) → lookup (nat_eq q) new ≡ cond (nat_eq k q) (Some place) (lookup (nat_eq q) old)) → lookup (nat_eq i) new ≡ or_place (lookup (nat_eq i) old) (nat_eq i k) place
put k i place old new absent updates = updates i ∙ by (nat_eq k i) (nat_eq i k) (lookup (nat_eq i) old) refl refl refl
  where
    by : (a b : Bool) (o : Option ℕ) → nat_eq k i ≡ a → nat_eq i k ≡ b → lookup (nat_eq i) old ≡ o → cond a (Some place) o ≡ or_place o b place
    by true true None here back is = refl
    by true b (Some o) here back is =
        let same : k ≡ i = eqb-true k i here in
        let there : is_some (lookup (nat_eq k) old) ≡ true = ap (λ (q : ℕ). is_some (lookup (nat_eq q) old)) same ∙ ap is_some is in
        absurd (false≢true (sym absent ∙ there))
    by true false None here back is =
        let same : k ≡ i = eqb-true k i here in
        absurd (false≢true (sym back ∙ eq-eqb i k (sym same)))
    by false false None here back is = refl
    by false false (Some o) here back is = refl
    by false true o here back is =
        let same : i ≡ k = eqb-true i k back in
        absurd (false≢true (sym here ∙ eq-eqb k i (sym same)))

module _ (old new : ForeignHomes) (k place : ℕ) where
  pub interface_put : is_some (lookup (nat_eq k) old.interfaces.entries) ≡ false
      → ((q : ℕ) → lookup (nat_eq q) new.interfaces.entries ≡ cond (nat_eq k q) (Some place) (lookup (nat_eq q) old.interfaces.entries)) → new.worlds ≡ old.worlds
      → (it : AstItem) → home_place new it ≡ or_place (home_place old it) (is_item it (item.Interface k)) place
  interface_put absent updates worlds (item.Interface i) = put k i place old.interfaces.entries new.interfaces.entries absent updates
  interface_put absent updates worlds (item.World w) = ap (λ (m : _). lookup (nat_eq w) m.entries) worlds ∙ or_none (home_place old (item.World w)) place

  pub world_put : is_some (lookup (nat_eq k) old.worlds.entries) ≡ false
      → ((q : ℕ) → lookup (nat_eq q) new.worlds.entries ≡ cond (nat_eq k q) (Some place) (lookup (nat_eq q) old.worlds.entries)) → new.interfaces ≡ old.interfaces
      → (it : AstItem) → home_place new it ≡ or_place (home_place old it) (is_item it (item.World k)) place
  world_put absent updates interfaces (item.World w) = put k w place old.worlds.entries new.worlds.entries absent updates
  world_put absent updates interfaces (item.Interface i) = ap (λ (m : _). lookup (nat_eq i) m.entries) interfaces ∙ or_none (home_place old (item.Interface i)) place
