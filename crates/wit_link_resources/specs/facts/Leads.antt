-- A type leads to a resource where it is one, or is an alias of one that does.
use Rattle.std.proofs.Common.{◌≡◌, ◌∙◌, ℕ, ◌<◌, ◌||◌, Bool, true, false, List, [], ◌∷◌, ◌++◌, length, option_to_list, Option, None, Some, slice_get, refl, ap, sym, subst, arith, Contains}
use Rattle.std.specs.List.{flat_map, list_any}
use Rattle.std.specs.Option.{option_map_or}
use Rattle.std.proofs.lemmas.List.{length-append, length-map, append-nil}
use Rattle.std.proofs.lemmas.List.Folds.{list_any-append}
use Rattle.std.proofs.lemmas.List.Elements.{All-contains}
use Rattle.std.proofs.lemmas.Option.{get_or_from_slice_get, slice_get_within}
use Rattle.wit_values.specs.facts.Lists.{slice_get-append}
use Rattle.wit_digraph.specs.facts.MemberFacts.{Contains-here}
use Rattle.wit_digraph.specs.Relation.{IsAcyclic, direct}
use Rattle.wit_digraph.specs.facts.PostOrderFacts.{post_order_is, uses_ind}
use Rattle.wit_digraph.specs.PostOrder.{post_order}
use Rattle.wit_data.specs.Kind.{type_references}
use Rattle.wit_data.specs.Uses.{alias_target, alias_rows}
use Rattle.wit_data.specs.declared.types.TypeDef.{TypeDef}
use Rattle.wit_data.specs.declared.types.TypeDefKind.{TypeDefKind}
use Rattle.wit_data.specs.declared.types.TypeDefKind.TheVariants as kind
use Rattle.wit_graph_theory.specs.facts.ListFacts.{at_map, get_at}
use Rattle.wit_remap_spec.specs.Resources.{is_resource, is_resource_kind, leads_to_resource}
use Rattle.wit_graph_theory.specs.facts.AliasFacts.{alias_acyclic}

-- an alias is no resource
alias_is_none : (k : TypeDefKind) (u : ℕ) → alias_target k ≡ Some u → is_resource_kind k ≡ false
alias_is_none (kind.Type_ ty) u is = refl
alias_is_none kind.Resource u is = cc
alias_is_none other u is = refl

or_none : (b c : Bool) → c ≡ false → b || c ≡ b
or_none true c none = refl
or_none false c none = none

module _ (types : List TypeDef) (acyclic : IsAcyclic (alias_rows types)) where
  pub row_at : (t : ℕ) (def : TypeDef) → slice_get types t ≡ Some def → direct (alias_rows types) t ≡ option_to_list (alias_target def.kind)
  row_at t def at =
      get_or_from_slice_get (alias_rows types) t (option_to_list (alias_target def.kind)) [] (at_map (λ (d : TypeDef). option_to_list (alias_target d.kind)) types t def at)

  there : (t : ℕ) (def : TypeDef) → slice_get types t ≡ Some def → t < length (alias_rows types)
  there t def at = let within = slice_get_within types t def at in let long = length-map types (λ (d : TypeDef). option_to_list (alias_target d.kind)) in omega arith

  resource_at : (t : ℕ) (def : TypeDef) → slice_get types t ≡ Some def → is_resource types t ≡ is_resource_kind def.kind
  resource_at t def at = ap (λ (o : Option TypeDef). option_map_or (λ (d : TypeDef). is_resource_kind d.kind) o false) at

  walk_of : (t : ℕ) (def : TypeDef) (ids : List ℕ) → slice_get types t ≡ Some def → option_to_list (alias_target def.kind) ≡ ids
      → post_order (alias_rows types) t ≡ flat_map (post_order (alias_rows types)) ids ++ t ∷ []
  walk_of t def ids at row =
      post_order_is (alias_rows types) acyclic t (there t def at) ∙ ap (λ (us : List ℕ). flat_map (post_order (alias_rows types)) us ++ t ∷ []) (row_at t def at ∙ row)

  -- an alias leads where its target does
  pub leads_on : (t u : ℕ) (def : TypeDef) → slice_get types t ≡ Some def → alias_target def.kind ≡ Some u → leads_to_resource types t ≡ leads_to_resource types u
  leads_on t u def at target =
      ap (list_any (is_resource types)) (walk_of t def (u ∷ []) at (ap (λ (o : Option ℕ). option_to_list o) target))
      ∙ (list_any-append (is_resource types) (post_order (alias_rows types) u ++ []) (t ∷ [])
      ∙ (or_none (list_any (is_resource types) (post_order (alias_rows types) u ++ [])) (is_resource types t || false) (or_none (is_resource types t) false refl ∙ (resource_at t def at ∙ alias_is_none def.kind u target))
      ∙ ap (list_any (is_resource types)) (append-nil (post_order (alias_rows types) u))))

  -- any other type where it is a resource
  pub leads_here : (t : ℕ) (def : TypeDef) → slice_get types t ≡ Some def → alias_target def.kind ≡ None → leads_to_resource types t ≡ is_resource_kind def.kind
  leads_here t def at none =
      ap (list_any (is_resource types)) (walk_of t def [] at (ap (λ (o : Option ℕ). option_to_list o) none)) ∙ (or_none (is_resource types t) false refl ∙ resource_at t def at)

  -- the post-order of an alias is longer than that of its target
  pub walk_falls : (t u : ℕ) (def : TypeDef) → slice_get types t ≡ Some def → alias_target def.kind ≡ Some u → length (post_order (alias_rows types) u) < length (post_order (alias_rows types) t)
  walk_falls t u def at target =
      let is = ap length (walk_of t def (u ∷ []) at (ap (λ (o : Option ℕ). option_to_list o) target)) in
      let parts = length-append (post_order (alias_rows types) u ++ []) (t ∷ []) in
      let none = ap length (append-nil (post_order (alias_rows types) u)) in
      omega arith

-- the same in a graph
module _ (types : List TypeDef) (acyclic : IsAcyclic (type_references types)) where
  -- a target is there
  pub target_there : (t u : ℕ) (def : TypeDef) → slice_get types t ≡ Some def → alias_target def.kind ≡ Some u → u < length types
  target_there t u def at target =
      let rows = alias_acyclic types acyclic in
      let long = length-map types (λ (d : TypeDef). option_to_list (alias_target d.kind)) in
      let row : direct (alias_rows types) t ≡ u ∷ [] = row_at types rows t def at ∙ ap (λ (o : Option ℕ). option_to_list o) target in
      let has : Contains (direct (alias_rows types) t) u = subst (λ (us : List ℕ). Contains us u) (sym row) (Contains-here u []) in
      let within : u < length (alias_rows types) = All-contains (λ j. j < length (alias_rows types)) (direct (alias_rows types) t) u (rows.in_range t) has in
      omega arith

-- what a graph's types lead to stays when types come behind them
module _ (old more : List TypeDef) (old_acyclic : IsAcyclic (alias_rows old)) (acyclic : IsAcyclic (alias_rows (old ++ more))) where
  abbrev Same : ℕ → Type 0
  Same t = leads_to_resource (old ++ more) t ≡ leads_to_resource old t

  leads_same : (t : ℕ) (def : TypeDef) → slice_get old t ≡ Some def → (o : Option ℕ) → alias_target def.kind ≡ o → ((u : ℕ) → Contains (direct (alias_rows old) t) u → Same u) → Same t
  leads_same t def at None none below =
      leads_here (old ++ more) acyclic t def (slice_get-append old more t def at) none ∙ sym (leads_here old old_acyclic t def at none)
  leads_same t def at (Some u) target below =
      let row : direct (alias_rows old) t ≡ u ∷ [] = row_at old old_acyclic t def at ∙ ap (λ (o : Option ℕ). option_to_list o) target in
      leads_on (old ++ more) acyclic t u def (slice_get-append old more t def at) target
      ∙ (below u (subst (λ (us : List ℕ). Contains us u) (sym row) (Contains-here u [])) ∙ sym (leads_on old old_acyclic t u def at target))

  pub leads_stays : (t : ℕ) → t < length old → leads_to_resource (old ++ more) t ≡ leads_to_resource old t
  leads_stays t within =
      let long = length-map old (λ (d : TypeDef). option_to_list (alias_target d.kind)) in
      uses_ind (alias_rows old) old_acyclic Same (λ i here below.
      let there = get_at old i (omega arith) in
      leads_same i there.0 there.1 (alias_target there.0.kind) refl below) t (omega arith)
