-- Where no cause holds against an addition, what is active of other packages is there.
use Rattle.std.proofs.Common.{◌≡◌, ◌∙◌, ℕ, zero, suc, ◌+◌, ◌<◌, Bool, true, false, List, [], ◌∷◌, ◌⊎◌, inl, inr, map, length, cond, nat_eq, Option, None, Some, is_some, slice_get, refl, sym, ap, subst, arith, Contains}
use Rattle.std.specs.List.{enumerate_from, find, flat_map, list_any}
use Rattle.std.specs.Map.{lookup}
use Rattle.std.proofs.lemmas.Bool.{cases_Bool, false≢true, ltb-true}
use Rattle.std.proofs.lemmas.Option.{slice_get_within}
use Rattle.wit_digraph.specs.facts.MemberFacts.{Contains-cons_cases, Contains-flat_map, Contains-flat_map_cases, Contains-here, Contains-nil, Contains-there}
use Rattle.wit_digraph.specs.facts.FreshFacts.{any_from_contains, contains_from_any}
use Rattle.wit_data.specs.Foreign.{ForeignItem, ForeignItems, foreign_interfaces, foreign_worlds, interface_id, world_id}
use Rattle.wit_names.specs.facts.PackageNameFacts.{own_name, same_name}
use Rattle.wit_names.specs.PackageName.{same_package}
use Rattle.wit_data.specs.Shape.{IsShaped}
use Rattle.wit_data.specs.declared.unresolved.AstItem.{AstItem}
use Rattle.wit_data.specs.declared.interface.Interface.{Interface}
use Rattle.wit_names.specs.declared.package_name.PackageName.{PackageName}
use Rattle.wit_data.specs.declared.world.World.{World}
use Rattle.wit_data.specs.declared.unresolved.AstItem.TheVariants as named
use Rattle.wit_sources.specs.Span.{moved_by}
use Rattle.wit_graph_theory.specs.facts.ListFacts.{Contains-map, Contains-map_cases, get_at, place_of, some_at}
use Rattle.wit_link_spec.specs.Addition.{Addition}
use Rattle.wit_link_spec.specs.facts.ClosedCut.{member_of_first}
use Rattle.wit_link_spec.specs.Gates.{OptionalSpan, interface_is_active, is_foreign_interface, is_foreign_world, world_is_active}
use Rattle.wit_link_spec.specs.Lookup.{find_interface, find_world, named_items, naming_item}
use Rattle.wit_link_spec.specs.Reasons.{HasPackage, IsResolved}

-- ---- the first that passes

module _ {X : Type 0} (test : X → Bool) where
  pub find-some : (xs : List X) (x : X) → Contains xs x → test x ≡ true → (y : X) × (find test xs ≡ Some y)
  find-some [] x has passes = absurd (Contains-nil has)
  find-some (z ∷ zs) x has passes = by (test z) refl (Contains-cons_cases z x zs has) (λ there. find-some zs x there passes)
    where
      by : (b : Bool) → test z ≡ b → (z ≡ x) ⊎ Contains zs x → (Contains zs x → (y : X) × (find test zs ≡ Some y)) → (y : X) × (cond b (Some z) (find test zs) ≡ Some y)
      by true is where_ rest = (z, refl)
      by false is (inl same) rest = let on : test z ≡ true = ap test same ∙ passes in cc
      by false is (inr there) rest = rest there

  pub find-passes : (xs : List X) (y : X) → find test xs ≡ Some y → Contains xs y × (test y ≡ true)
  find-passes [] y found = cc
  find-passes (z ∷ zs) y found = by (test z) refl found (λ h. find-passes zs y h)
    where
      by : (b : Bool) → test z ≡ b → cond b (Some z) (find test zs) ≡ Some y → (find test zs ≡ Some y → Contains zs y × (test y ≡ true)) → Contains (z ∷ zs) y × (test y ≡ true)
      by true is h rest = let same : z ≡ y = cc in (subst (λ (x : X). Contains (z ∷ zs) x) same (Contains-here z zs), subst (λ (x : X). test x ≡ true) same is)
      by false is h rest = let old = rest h in (Contains-there z y zs old.0, old.1)

-- ---- what is named

module _ {X : Type 0} where
  enumerated-at : (xs : List X) (n i m : ℕ) (x : X) → m ≡ n + i → slice_get xs i ≡ Some x → Contains (enumerate_from n xs) (m, x)
  enumerated-at [] n i m x place at = cc
  enumerated-at (y ∷ ys) n zero m x place at =
      let same : y ≡ x = cc in
      let here : n ≡ m = omega arith in
      subst (λ (k : ℕ). Contains ((n, y) ∷ enumerate_from (n + 1) ys) (k, x)) here (subst (λ (z : X). Contains ((n, y) ∷ enumerate_from (n + 1) ys) (n, z)) same (Contains-here (n, y) (enumerate_from (n + 1) ys)))
  enumerated-at (y ∷ ys) n (suc i) m x place at = Contains-there (n, y) (m, x) (enumerate_from (n + 1) ys) (enumerated-at ys (n + 1) i m x (omega arith) at)

  enumerated-from : (xs : List X) (n : ℕ) (e : ℕ × X) → Contains (enumerate_from n xs) e → (i : ℕ) × (e.0 ≡ n + i) × (slice_get xs i ≡ Some e.1)
  enumerated-from [] n e has = absurd (Contains-nil has)
  enumerated-from (y ∷ ys) n e has =
      elim (Contains-cons_cases (n, y) e (enumerate_from (n + 1) ys) has) [
        | inl same ↦
            let here : n ≡ e.0 = ap (λ (p : ℕ × X). p.0) same in
            (0, omega arith, ap (λ (p : ℕ × X). Some p.1) same)
        | inr there ↦ let old = enumerated-from ys (n + 1) e there in let place = old.1 in (suc old.0, omega arith, old.2)
      ]

-- an item is named of the package at a place
pub named_at : (deps : ForeignItems) (e : ℕ × PackageName × ForeignItem) → Contains (named_items deps) e → (items : List ForeignItem) × (slice_get deps e.0 ≡ Some (e.1, items)) × Contains items e.2
named_at deps e has =
    let home = Contains-flat_map_cases (λ (h : ℕ × (PackageName × List ForeignItem)). map (λ (i : ForeignItem). let r : ℕ × PackageName × ForeignItem = (h.0, h.1.0, i) in r) h.1.1) (enumerate_from 0 deps) e has in
    let at = enumerated-from deps 0 home.0 home.1.0 in
    let item = Contains-map_cases (λ (i : ForeignItem). let r : ℕ × PackageName × ForeignItem = (home.0.0, home.0.1.0, i) in r) home.0.1.1 e home.1.1 in
    let place : home.0.0 ≡ at.0 = let p = at.1 in omega arith in
    let here : slice_get deps home.0.0 ≡ Some home.0.1 = ap (slice_get deps) place ∙ at.2 in
    let own : e ≡ (home.0.0, home.0.1.0, item.0) = sym item.2 in
    let r : (items : List ForeignItem) × (slice_get deps e.0 ≡ Some (e.1, items)) × Contains items e.2 =
    (home.0.1.1, ap (λ (p : ℕ × PackageName × ForeignItem). slice_get deps p.0) own ∙ here ∙ ap (λ (p : ℕ × PackageName × ForeignItem). Some (p.1, home.0.1.1)) (sym own), subst (λ (p : ℕ × PackageName × ForeignItem). Contains home.0.1.1 p.2) (sym own) item.1) in
    r

pub named_into : (deps : ForeignItems) (at : ℕ) (home : PackageName) (items : List ForeignItem) (item : ForeignItem) → slice_get deps at ≡ Some (home, items) → Contains items item
    → Contains (named_items deps) (at, home, item)
named_into deps at home items item there has =
    Contains-flat_map (λ (h : ℕ × (PackageName × List ForeignItem)). map (λ (i : ForeignItem). let r : ℕ × PackageName × ForeignItem = (h.0, h.1.0, i) in r) h.1.1) (enumerate_from 0 deps) (at, (home, items)) (at, home, item)
    (enumerated-at deps 0 at at (home, items) (omega arith) there) (Contains-map (λ (i : ForeignItem). let r : ℕ × PackageName × ForeignItem = (at, home, i) in r) items item has)

-- an item that is interface i
pub interface_of : (i : ℕ) (it : AstItem) → list_any (nat_eq i) (interface_id it) ≡ true → it ≡ named.Interface i
interface_of i (named.Interface j) h =
    elim (Contains-cons_cases j i [] (contains_from_any i (j ∷ []) h)) [ inl same ↦ ap named.Interface same | inr none ↦ absurd (Contains-nil none) ]
interface_of i (named.World w) h = cc

-- interface i of another package is named
pub named_interface : (a : Addition) → IsShaped a.unresolved → (i : ℕ) → is_foreign_interface a.unresolved i ≡ true → (e : ℕ × PackageName × ForeignItem) × (naming_item interface_id a.unresolved i ≡ Some e)
named_interface a shaped i foreign =
    let deps = a.unresolved.foreign_deps in
    let below : i < length (foreign_interfaces deps) = ltb-true i (length (foreign_interfaces deps)) foreign in
    let has = member_of_first (foreign_interfaces deps) (length a.unresolved.interfaces) i shaped.foreign.interfaces below in
    let home = Contains-flat_map_cases (λ (e : PackageName × List ForeignItem). flat_map (λ (it : ForeignItem). interface_id it.1.0) e.1) deps i has in
    let it = Contains-flat_map_cases (λ (it : ForeignItem). interface_id it.1.0) home.0.1 i home.1.1 in
    let at = place_of deps home.0 home.1.0 in
    find-some (λ (e : ℕ × PackageName × ForeignItem). list_any (nat_eq i) (interface_id e.2.1.0)) (named_items deps) (at.0, home.0.0, it.0)
    (named_into deps at.0 home.0.0 home.0.1 it.0 at.1 it.1.0) (any_from_contains i (interface_id it.0.1.0) it.1.1)

-- so for worlds
pub world_of : (w : ℕ) (it : AstItem) → list_any (nat_eq w) (world_id it) ≡ true → it ≡ named.World w
world_of w (named.World v) h =
    elim (Contains-cons_cases v w [] (contains_from_any w (v ∷ []) h)) [ inl same ↦ ap named.World same | inr none ↦ absurd (Contains-nil none) ]
world_of w (named.Interface i) h = cc

pub named_world : (a : Addition) → IsShaped a.unresolved → (w : ℕ) → is_foreign_world a.unresolved w ≡ true → (e : ℕ × PackageName × ForeignItem) × (naming_item world_id a.unresolved w ≡ Some e)
named_world a shaped w foreign =
    let deps = a.unresolved.foreign_deps in
    let below : w < length (foreign_worlds deps) = ltb-true w (length (foreign_worlds deps)) foreign in
    let has = member_of_first (foreign_worlds deps) (length a.unresolved.worlds) w shaped.foreign.worlds below in
    let home = Contains-flat_map_cases (λ (e : PackageName × List ForeignItem). flat_map (λ (it : ForeignItem). world_id it.1.0) e.1) deps w has in
    let it = Contains-flat_map_cases (λ (it : ForeignItem). world_id it.1.0) home.0.1 w home.1.1 in
    let at = place_of deps home.0 home.1.0 in
    find-some (λ (e : ℕ × PackageName × ForeignItem). list_any (nat_eq w) (world_id e.2.1.0)) (named_items deps) (at.0, home.0.0, it.0)
    (named_into deps at.0 home.0.0 home.0.1 it.0 at.1 it.1.0) (any_from_contains w (world_id it.0.1.0) it.1.1)

module _ (a : Addition) (shaped : IsShaped a.unresolved) (image : IsResolved a) where
  -- the package of what is named is there, or it is the one that is added
  package_there : (at : ℕ) (home : PackageName) (items : List ForeignItem) (item : ForeignItem) → slice_get a.unresolved.foreign_deps at ≡ Some (home, items) → Contains items item
      → HasPackage a.graph home ⊎ (home ≡ a.unresolved.name)
  package_there at home items item there has = elim (cases_Bool (is_some (lookup (same_package home) a.graph.package_names))) [
    | inl found ↦ inl found
    | inr none ↦ elim (cases_Bool (same_package home a.unresolved.name)) [
      | inl same ↦ inr (same_name home a.unresolved.name same)
      | inr other ↦
          let spans = get_at a.unresolved.foreign_dep_spans at (let within = slice_get_within a.unresolved.foreign_deps at (home, items) there in let long = shaped.foreign.spans in omega arith) in
          absurd (image.packages _ home _ (record {
            at = at;
            items = items;
            names = there;
            some = λ empty. Contains-nil (subst (λ (l : List ForeignItem). Contains l item) empty has);
            absent = λ found. false≢true (sym none ∙ found);
            other = λ same. false≢true (sym other ∙ ap (λ (n : PackageName). same_package home n) (sym same) ∙ own_name home);
            span_is = some_at (λ (s : OptionalSpan). moved_by a.offset spans.0 ≡ moved_by a.offset s) a.unresolved.foreign_dep_spans at spans.0 spans.1 refl;
            known_are = refl;
          }))
    ]
  ]

  -- an interface of another package that is active is found
  pub interface_found : (i : ℕ) → is_foreign_interface a.unresolved i ≡ true → interface_is_active a.features a.unresolved i ≡ true
      → (e : ℕ × PackageName × ForeignItem) × (i' : ℕ) × (naming_item interface_id a.unresolved i ≡ Some e) × (find_interface a.graph a.unresolved.name e.1 e.2.0 ≡ Some i')
  interface_found i foreign active =
      let is = named_interface a shaped i foreign in
      let e = is.0 in
      let passes = find-passes (λ (e : ℕ × PackageName × ForeignItem). list_any (nat_eq i) (interface_id e.2.1.0)) (named_items a.unresolved.foreign_deps) e is.1 in
      let at = named_at a.unresolved.foreign_deps e passes.0 in
      by e is.1 passes.0 (interface_of i e.2.1.0 passes.1) (package_there e.0 e.1 at.0 e.2 at.1 at.2) (find_interface a.graph a.unresolved.name e.1 e.2.0) refl
    where
      by : (e : ℕ × PackageName × ForeignItem) → naming_item interface_id a.unresolved i ≡ Some e → Contains (named_items a.unresolved.foreign_deps) e → e.2.1.0 ≡ named.Interface i
          → HasPackage a.graph e.1 ⊎ (e.1 ≡ a.unresolved.name) → (o : Option ℕ) → find_interface a.graph a.unresolved.name e.1 e.2.0 ≡ o
          → (e : ℕ × PackageName × ForeignItem) × (i' : ℕ) × (naming_item interface_id a.unresolved i ≡ Some e) × (find_interface a.graph a.unresolved.name e.1 e.2.0 ≡ Some i')
      by e is has kind home (Some i') found = (e, i', is, found)
      by e is has kind home None none =
          let there = get_at a.unresolved.interfaces i (let below = ltb-true i (length (foreign_interfaces a.unresolved.foreign_deps)) foreign in let inside = shaped.foreign.interfaces.there in omega arith) in
          absurd (image.interfaces _ e.2.0 e.1 (record {
            at = e.0;
            i = i;
            notes = e.2.1.1;
            names = subst (λ (it : AstItem). Contains (named_items a.unresolved.foreign_deps) (e.0, e.1, (e.2.0, (it, e.2.1.1)))) kind has;
            active = active;
            has_package = home;
            absent = none;
            span_is = some_at (λ (interface : Interface). moved_by a.offset there.0.span ≡ moved_by a.offset interface.span) a.unresolved.interfaces i there.0 there.1 refl;
          }))

  -- so is a world
  pub world_found : (w : ℕ) → is_foreign_world a.unresolved w ≡ true → world_is_active a.features a.unresolved w ≡ true
      → (e : ℕ × PackageName × ForeignItem) × (w' : ℕ) × (naming_item world_id a.unresolved w ≡ Some e) × (find_world a.graph a.unresolved.name e.1 e.2.0 ≡ Some w')
  world_found w foreign active =
      let is = named_world a shaped w foreign in
      let e = is.0 in
      let passes = find-passes (λ (e : ℕ × PackageName × ForeignItem). list_any (nat_eq w) (world_id e.2.1.0)) (named_items a.unresolved.foreign_deps) e is.1 in
      let at = named_at a.unresolved.foreign_deps e passes.0 in
      by e is.1 passes.0 (world_of w e.2.1.0 passes.1) (package_there e.0 e.1 at.0 e.2 at.1 at.2) (find_world a.graph a.unresolved.name e.1 e.2.0) refl
    where
      by : (e : ℕ × PackageName × ForeignItem) → naming_item world_id a.unresolved w ≡ Some e → Contains (named_items a.unresolved.foreign_deps) e → e.2.1.0 ≡ named.World w
          → HasPackage a.graph e.1 ⊎ (e.1 ≡ a.unresolved.name) → (o : Option ℕ) → find_world a.graph a.unresolved.name e.1 e.2.0 ≡ o
          → (e : ℕ × PackageName × ForeignItem) × (w' : ℕ) × (naming_item world_id a.unresolved w ≡ Some e) × (find_world a.graph a.unresolved.name e.1 e.2.0 ≡ Some w')
      by e is has kind home (Some w') found = (e, w', is, found)
      by e is has kind home None none =
          let there = get_at a.unresolved.worlds w (let below = ltb-true w (length (foreign_worlds a.unresolved.foreign_deps)) foreign in let inside = shaped.foreign.worlds.there in omega arith) in
          absurd (image.worlds _ e.2.0 e.1 (record {
            at = e.0;
            w = w;
            notes = e.2.1.1;
            names = subst (λ (it : AstItem). Contains (named_items a.unresolved.foreign_deps) (e.0, e.1, (e.2.0, (it, e.2.1.1)))) kind has;
            active = active;
            has_package = home;
            absent = none;
            span_is = some_at (λ (world : World). moved_by a.offset there.0.span ≡ moved_by a.offset world.span) a.unresolved.worlds w there.0 there.1 refl;
          }))
