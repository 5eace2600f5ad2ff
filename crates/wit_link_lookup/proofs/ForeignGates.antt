-- The gates of what is named of other packages: those of the one item that names it.
use Rattle.std.proofs.Common.{◌≡◌, ◌∙◌, ℕ, Bool, true, false, if◌then◌else◌, List, [], ◌∷◌, ◌++◌, inl, inr, eqb, nat_eq, refl, sym, ap, subst, Contains}
use Rattle.std.proofs.lemmas.Bool.{eq-eqb, false≢true}
use Rattle.std.proofs.lemmas.Grind.{flat_map-append}
use Rattle.std.proofs.lemmas.List.{append-nil}
use Rattle.std.proofs.lemmas.List.Elements.{Contains-append_left, Contains-append_right}
use Rattle.std.specs.List.{IsDistinct, flat_map, list_any}
use Rattle.wit_values.specs.facts.Lists.{AllByRecursion-at}
use Rattle.wit_digraph.specs.facts.FreshFacts.{any_from_contains, contains_from_any, no_any_from}
use Rattle.wit_digraph.specs.facts.MemberFacts.{Contains-cons_cases, Contains-flat_map, Contains-flat_map_cases, Contains-nil}
use Rattle.wit_data.specs.Each.{Each}
use Rattle.wit_data.specs.Foreign.{ForeignItem, ForeignItems}
use Rattle.wit_data.specs.declared.unresolved.AstItem.{AstItem}
use Rattle.wit_names.specs.declared.package_name.PackageName.{PackageName}
use Rattle.wit_data.specs.declared.stability.Stability.{Stability}
use Rattle.wit_graph_theory.specs.facts.ListFacts.{contained_at, place_of}
use Rattle.wit_link_spec.specs.Gates.{foreign_gates}
use Rattle.wit_link_spec.specs.steps.Parts.{foreign_items}

-- what stands in two parts of a list stands there twice
apart : (xs ys : List ℕ) (i : ℕ) → IsDistinct nat_eq (xs ++ ys) → Contains xs i → Contains ys i → ⊥
unfolding IsDistinct
apart [] ys i distinct first second = Contains-nil first
apart (x ∷ xs) ys i distinct first second = elim (Contains-cons_cases x i xs first) [
  | inl here ↦
      let place = place_of (xs ++ ys) i (Contains-append_right xs ys i second) in
      let differs : eqb x i ≡ false = AllByRecursion-at (λ (y : ℕ). eqb x y ≡ false) (xs ++ ys) place.0 i distinct.0 place.1 in
      false≢true (sym differs ∙ eq-eqb x i here)
  | inr there ↦ apart xs ys i distinct.1 there second
]

behind : (xs ys : List ℕ) → IsDistinct nat_eq (xs ++ ys) → IsDistinct nat_eq ys
unfolding IsDistinct
behind [] ys distinct = distinct
behind (x ∷ xs) ys distinct = behind xs ys distinct.1

-- ---- lists of lists

flat_flat : {X Y Z : Type 0} (g : X → List Y) (f : Y → List Z) (xs : List X) → flat_map (λ x. flat_map f (g x)) xs ≡ flat_map f (flat_map g xs)
flat_flat g f [] = refl
flat_flat g f (x ∷ xs) = ap (λ zs. flat_map f (g x) ++ zs) (flat_flat g f xs) ∙ sym (flat_map-append f (g x) (flat_map g xs))

-- what holds of each member of each holds of each member of all
pub Each-flat_map : {X Y : Type 0} (P : Y → Type 0) (g : X → List Y) (xs : List X) → Each (λ x. Each P (g x)) xs → Each P (flat_map g xs)
Each-flat_map P g xs each i y at =
    let from = Contains-flat_map_cases g xs y (contained_at (flat_map g xs) i y at) in
    let outer = place_of xs from.0 from.1.0 in
    let inner = place_of (g from.0) y from.1.1 in
    each outer.0 from.0 outer.1 inner.0 y inner.1

-- ---- notes

module _ (id : AstItem → List ℕ) where
  -- the ids of items
  abbrev pub ids : List ForeignItem → List ℕ
  ids items = flat_map (λ (item : ForeignItem). id item.1.0) items

  -- the gates that an item has for i
  abbrev pub part : ℕ → ForeignItem → List Stability
  part i item = if list_any (nat_eq i) (id item.1.0) then item.1.1 else []

  part-yes : (i : ℕ) (item : ForeignItem) → Contains (id item.1.0) i → part i item ≡ item.1.1
  part-yes i item has = ap (λ (b : Bool). if b then item.1.1 else []) (any_from_contains i (id item.1.0) has)

  part-no : (i : ℕ) (item : ForeignItem) → (Contains (id item.1.0) i → ⊥) → part i item ≡ []
  part-no i item none = ap (λ (b : Bool). if b then item.1.1 else []) (no_any_from i (id item.1.0) none)

  none-named : (i : ℕ) (items : List ForeignItem) → (Contains (ids items) i → ⊥) → flat_map (part i) items ≡ []
  none-named i [] none = refl
  none-named i (x ∷ xs) none =
      let here : part i x ≡ [] = part-no i x (λ has. none (Contains-append_left (id x.1.0) (ids xs) i has)) in
      ap (λ (zs : List Stability). zs ++ flat_map (part i) xs) here ∙ none-named i xs (λ has. none (Contains-append_right (id x.1.0) (ids xs) i has))

  alone : (i : ℕ) (items : List ForeignItem) (item : ForeignItem) → IsDistinct nat_eq (ids items) → Contains items item → Contains (id item.1.0) i
      → flat_map (part i) items ≡ item.1.1
  alone i [] item distinct has names = absurd (Contains-nil has)
  alone i (x ∷ xs) item distinct has names = elim (Contains-cons_cases x item xs has) [
    | inl same ↦
        let names_x : Contains (id x.1.0) i = subst (λ (n : ForeignItem). Contains (id n.1.0) i) (sym same) names in
        ap (λ (zs : List Stability). zs ++ flat_map (part i) xs) (part-yes i x names_x)
        ∙ (ap (λ (zs : List Stability). x.1.1 ++ zs) (none-named i xs (λ other. apart (id x.1.0) (ids xs) i distinct names_x other))
        ∙ (append-nil x.1.1 ∙ ap (λ (n : ForeignItem). n.1.1) same))
    | inr there ↦
        let among : Contains (ids xs) i = Contains-flat_map (λ (n : ForeignItem). id n.1.0) xs item i there names in
        ap (λ (zs : List Stability). zs ++ flat_map (part i) xs) (part-no i x (λ other. apart (id x.1.0) (ids xs) i distinct other among))
        ∙ alone i xs item (behind (id x.1.0) (ids xs) distinct) there names
  ]

  -- the ids of all that is named
  abbrev pub named_ids : ForeignItems → List ℕ
  named_ids deps = flat_map (λ (e : PackageName × List ForeignItem). flat_map (λ (item : ForeignItem). id item.1.0) e.1) deps

  pub named_ids-items : (deps : ForeignItems) → named_ids deps ≡ ids (foreign_items deps)
  named_ids-items deps = flat_flat (λ (e : PackageName × List ForeignItem). e.1) (λ (item : ForeignItem). id item.1.0) deps

  -- what is named once has the gates of the item that names it
  pub notes_alone : (deps : ForeignItems) (item : ForeignItem) (i : ℕ) → IsDistinct nat_eq (named_ids deps) → Contains (foreign_items deps) item → Contains (id item.1.0) i
      → foreign_gates id deps i ≡ item.1.1
  notes_alone deps item i distinct has names =
      alone i (foreign_items deps) item (subst (IsDistinct nat_eq) (named_ids-items deps) distinct) has names

  -- a note is that of an item
  pub note_from : (deps : ForeignItems) (i : ℕ) (note : Stability) → Contains (foreign_gates id deps i) note
      → (item : ForeignItem) × Contains (foreign_items deps) item × Contains (id item.1.0) i
  note_from deps i note has =
      let from = Contains-flat_map_cases (part i) (foreign_items deps) note has in
      (from.0, from.1.0, by from.0.1.0 (list_any (nat_eq i) (id from.0.1.0)) refl from.0.1.1 from.1.1)
    where
      by : (item : AstItem) (b : Bool) → list_any (nat_eq i) (id item) ≡ b → (notes : List Stability) → Contains (if b then notes else []) note → Contains (id item) i
      by item true is notes h = contains_from_any i (id item) is
      by item false is notes h = absurd (Contains-nil h)

  -- what isn't named has none
  pub notes_none : (deps : ForeignItems) (i : ℕ) → (Contains (named_ids deps) i → ⊥) → foreign_gates id deps i ≡ []
  notes_none deps i none = none-named i (foreign_items deps) (λ has. none (subst (λ (l : List ℕ). Contains l i) (sym (named_ids-items deps)) has))
