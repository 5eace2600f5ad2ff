-- What it means that a type needs an interface, taken apart and put together.
use Rattle.std.proofs.Common.{◌≡◌, ◌∙◌, inl, inr, ℕ, List, [], ◌∷◌, Option, None, Some, filter_map, slice_get, refl, sym, ap, subst, Contains}
use Rattle.std.specs.List.{cons_option}
use Rattle.wit_digraph.specs.facts.MemberFacts.{Contains-cons_cases, Contains-here, Contains-nil, Contains-there}
use Rattle.wit_data.specs.Uses.{alias_target, other_owner, type_interface_dep}
use Rattle.wit_data.specs.declared.types.TypeDef.{TypeDef}
use Rattle.wit_graph_theory.specs.facts.OptionFacts.{some_parts, some_whole}

module _ {X Y : Type 0} where
  -- what a filtering map gives comes of an element, and is given for each
  pub filter_map_from : (f : X → Option Y) (xs : List X) (y : Y) → Contains (filter_map f xs) y → (x : X) × Contains xs x × (f x ≡ Some y)
  filter_map_from f [] y has = absurd (Contains-nil has)
  filter_map_from f (x ∷ xs) y has =
      by (f x) refl has (λ there. let more = filter_map_from f xs y there in (more.0, Contains-there x more.0 xs more.1, more.2))
    where
      by : (o : Option Y) → f x ≡ o → Contains (cons_option o (filter_map f xs)) y → (Contains (filter_map f xs) y → (z : X) × Contains (x ∷ xs) z × (f z ≡ Some y))
          → (z : X) × Contains (x ∷ xs) z × (f z ≡ Some y)
      by None is among more = more among
      by (Some z) is among more =
          elim (Contains-cons_cases z y (filter_map f xs) among) [ inl same ↦ (x, Contains-here x xs, is ∙ ap Some same) | inr there ↦ more there ]

  pub filter_map_into : (f : X → Option Y) (xs : List X) (x : X) (y : Y) → Contains xs x → f x ≡ Some y → Contains (filter_map f xs) y
  filter_map_into f [] x y has gives = absurd (Contains-nil has)
  filter_map_into f (z ∷ xs) x y has gives =
      elim (Contains-cons_cases z x xs has) [
        | inl same ↦ here (f z) (ap f same ∙ gives)
        | inr there ↦ behind (f z) (filter_map_into f xs x y there gives)
      ]
    where
      here : (o : Option Y) → o ≡ Some y → Contains (cons_option o (filter_map f xs)) y
      here None is = cc
      here (Some w) is = let same : w ≡ y = cc in subst (λ (v : Y). Contains (v ∷ filter_map f xs) y) (sym same) (Contains-here y (filter_map f xs))

      behind : (o : Option Y) → Contains (filter_map f xs) y → Contains (cons_option o (filter_map f xs)) y
      behind None more = more
      behind (Some w) more = Contains-there w y (filter_map f xs) more

-- type id is an alias of a type of interface j, which isn't its own owner
pub record Needs (types : List TypeDef) (id j : ℕ) : Type 0 where
  pub alias : TypeDef
  pub there : slice_get types id ≡ Some alias
  pub target : ℕ
  pub names : alias_target alias.kind ≡ Some target
  pub named : TypeDef
  pub target_there : slice_get types target ≡ Some named
  pub other : other_owner alias.owner named.owner ≡ Some j

pub needs_from : (types : List TypeDef) (id j : ℕ) → type_interface_dep types id ≡ Some j → Needs types id j
needs_from types id j is =
    let first = some_parts _ (slice_get types id) j is in
    let second = some_parts _ (alias_target first.0.kind) j first.2 in
    let third = some_parts _ (slice_get types second.0) j second.2 in
    record { alias = first.0; there = first.1; target = second.0; names = second.1; named = third.0; target_there = third.1; other = third.2 }

pub needs_into : (types : List TypeDef) (id j : ℕ) → Needs types id j → type_interface_dep types id ≡ Some j
needs_into types id j needs =
    some_whole _ (slice_get types id) needs.alias j needs.there
    (some_whole _ (alias_target needs.alias.kind) needs.target j needs.names
    (some_whole (λ (named : TypeDef). other_owner needs.alias.owner named.owner) (slice_get types needs.target) needs.named j needs.target_there needs.other))
