-- What types refer to, where they may refer to what goes with a world, and what leads to that.
use Rattle.std.proofs.Common.{◌≡◌, ◌∙◌, ℕ, zero, suc, ◌<◌, ◌≤◌, ◌||◌, Bool, true, false, List, [], ◌∷◌, ◌++◌, map, length, get_or, Option, None, Some, Contains, is_some, not, slice_get, refl, sym, ap, subst, inl, inr, arith, if◌then◌else◌}
use Rattle.std.specs.List.{flat_map, list_any}
use Rattle.std.specs.Option.{option_map_or}
use Rattle.std.proofs.lemmas.List.{length-map}
use Rattle.std.proofs.lemmas.List.Elements.{All-contains, Contains-get_or, Contains-append_cases}
use Rattle.std.proofs.lemmas.Option.{get_or_from_slice_get, slice_get_within}
use Rattle.std.proofs.lemmas.Bool.{false≢true}
use Rattle.wit_digraph.specs.facts.MemberFacts.{Contains-cons_cases, Contains-flat_map_cases, Contains-nil}
use Rattle.wit_digraph.specs.Relation.{IsAcyclic, IsPath, Reaches, direct}
use Rattle.wit_digraph.specs.facts.PostOrderFacts.{Reaches-from_post_order, post_order-from_IsPath, post_order_is}
use Rattle.wit_digraph.specs.PostOrder.{post_order}
use Rattle.wit_data.specs.Kind.{referred, type_references}
use Rattle.wit_data.specs.declared.types.TypeDef.{TypeDef}
use Rattle.wit_graph_theory.specs.facts.ListFacts.{at_map}
use Rattle.wit_graph_theory.specs.facts.RowFacts.{Reaches-join, Reaches-self, Reaches-use}
use Rattle.wit_link_spec.specs.Include.{is_owned_within, is_unnamed_type, owner_belongs_to}
use Rattle.wit_link_include.specs.steps.Included.{StayApart, def_leads_by, is_open_in, leads, leads_by, open_row, open_rows, said}
use Rattle.wit_link_include.specs.declared.origin.Origin.{Origin}
use Rattle.wit_link_include.proofs.Members.{any_alike, any_in, any_out, same_truth}

-- a row of rows that are made of items
module _ {X : Type 0} (f : X → List ℕ) where
  pub row_at : (xs : List X) (t : ℕ) (x : X) → slice_get xs t ≡ Some x → direct (map f xs) t ≡ f x
  row_at xs t x at = get_or_from_slice_get (map f xs) t (f x) [] (at_map f xs t x at)

  pub row_past : (xs : List X) (t : ℕ) → slice_get xs t ≡ None → direct (map f xs) t ≡ []
  row_past [] t none = refl
  row_past (x ∷ xs) zero none = cc
  row_past (x ∷ xs) (suc t) none = row_past xs t none

slice_get_past : {X : Type 0} (xs : List X) (t : ℕ) → slice_get xs t ≡ None → length xs ≤ t
slice_get_past [] t none = omega arith
slice_get_past (x ∷ xs) zero none = cc
slice_get_past (x ∷ xs) (suc t) none = let rest = slice_get_past xs t none in omega arith

module _ (o : Origin) where
  abbrev types : List TypeDef
  types = o.graph.now.types

  abbrev pub rows : List (List ℕ)
  rows = type_references types

  abbrev owned : ℕ → Bool
  owned = is_owned_within o.graph.now o.id o.world.now

  pub open_row_at : (t : ℕ) (def : TypeDef) → slice_get types t ≡ Some def → direct (open_rows o) t ≡ open_row o def
  open_row_at t def at = row_at (open_row o) types t def at

  pub open_row_past : (t : ℕ) → slice_get types t ≡ None → direct (open_rows o) t ≡ []
  open_row_past t none = row_past (open_row o) types t none

  row_of : (t : ℕ) (def : TypeDef) → slice_get types t ≡ Some def → direct rows t ≡ referred def.kind
  row_of t def at = row_at (λ (d : TypeDef). referred d.kind) types t def at

  pub open_long : length (open_rows o) ≡ length types
  open_long = length-map types (open_row o)

  pub rows_long : length rows ≡ length types
  rows_long = length-map types (λ (d : TypeDef). referred d.kind)

  -- open rows are among all
  among : (t u : ℕ) → Contains (direct (open_rows o) t) u → Contains (direct rows t) u
  among t u = by (slice_get types t) refl
    where
      within : (def : TypeDef) (b : Bool) → slice_get types t ≡ Some def → Contains (if b then referred def.kind else []) u → Contains (direct rows t) u
      within def true at has = subst (λ (us : List ℕ). Contains us u) (sym (row_of t def at)) has
      within def false at has = absurd (Contains-nil has)

      by : (d : Option TypeDef) → slice_get types t ≡ d → Contains (direct (open_rows o) t) u → Contains (direct rows t) u
      by None at has = absurd (Contains-nil (subst (λ (us : List ℕ). Contains us u) (open_row_past t at) has))
      by (Some def) at has = within def (is_open_in o def) at (subst (λ (us : List ℕ). Contains us u) (open_row_at t def at) has)

  -- what an open type refers to
  pub open_edge : (t : ℕ) (def : TypeDef) (u : ℕ) → slice_get types t ≡ Some def → is_open_in o def ≡ true → Contains (direct rows t) u → Contains (direct (open_rows o) t) u
  open_edge t def u at opened has =
      subst (λ (us : List ℕ). Contains us u) (row_of t def at ∙ sym (open_row_at t def at ∙ ap (λ (b : Bool). if b then referred def.kind else []) opened)) has

  path_among : (i : ℕ) (path : List ℕ) (j : ℕ) → IsPath (open_rows o) i path j → IsPath rows i path j
  path_among i [] j same = same
  path_among i (k ∷ path) j leads = (among i k leads.0, path_among k path j leads.1)

  pub open_acyclic : IsAcyclic rows → IsAcyclic (open_rows o)
  open_acyclic acyclic = record {
    in_range = λ i k d below.
        let u : ℕ = get_or (direct (open_rows o) i) k d in
        let has : Contains (direct (open_rows o) i) u = Contains-get_or (direct (open_rows o) i) k d below in
        let there : u < length rows = All-contains (λ j. j < length rows) (direct rows i) u (acyclic.in_range i) (among i u has) in
        let a = open_long in
        let b = rows_long in
        omega arith;
    no_cycle = λ i k path leads. acyclic.no_cycle i k path (path_among i (k ∷ path) i leads);
  }

  -- what stands at a place that is there
  pub there_at : (t : ℕ) → t < length (open_rows o) → (def : TypeDef) × (slice_get types t ≡ Some def)
  there_at t within = by (slice_get types t) refl
    where
      by : (d : Option TypeDef) → slice_get types t ≡ d → (def : TypeDef) × (slice_get types t ≡ Some def)
      by (Some def) at = (def, at)
      by None at = let long = open_long in let past = slice_get_past types t at in absurd (omega arith)

  pub open_reaches : (i j : ℕ) → Reaches (open_rows o) i j → Reaches rows i j
  open_reaches i j on = (on.0, path_among i on.0 j on.1)

  -- ---- what leads there

  module _ (acyclic : IsAcyclic rows) where
    there : (t : ℕ) (def : TypeDef) → slice_get types t ≡ Some def → t < length rows
    there t def at = let a = slice_get_within types t def at in let b = rows_long in omega arith

    pub leads_from : (t u : ℕ) → t < length rows → Reaches rows t u → owned u ≡ true → leads o t ≡ true
    leads_from t u within on is = any_in owned (post_order rows t) u (post_order-from_IsPath rows acyclic t on.0 u within on.1) is

    pub leads_to : (t : ℕ) → t < length rows → leads o t ≡ true → (u : ℕ) × Reaches rows t u × (owned u ≡ true)
    leads_to t within is = let found = any_out owned (post_order rows t) is in (found.0, Reaches-from_post_order rows acyclic t within found.0 found.1.0, found.1.1)

    pub owned_at : (t : ℕ) (def : TypeDef) → slice_get types t ≡ Some def → owned t ≡ owner_belongs_to o.graph.now o.id o.world.now def.owner
    owned_at t def at = ap (λ (d : Option TypeDef). option_map_or (λ (e : TypeDef). owner_belongs_to o.graph.now o.id o.world.now e.owner) d false) at

    pub unnamed_at : (t : ℕ) (def : TypeDef) → slice_get types t ≡ Some def → is_unnamed_type o.graph.now t ≡ not (is_some def.name)
    unnamed_at t def at = ap (λ (d : Option TypeDef). option_map_or (λ (e : TypeDef). not (is_some e.name)) d false) at

    -- a type leads there where it goes with the world, or one that it refers to leads there
    leads_next : (t : ℕ) (def : TypeDef) → slice_get types t ≡ Some def → owned t ≡ false → leads o t ≡ list_any (leads o) (referred def.kind)
    leads_next t def at not_it =
        same_truth (leads o t) (list_any (leads o) (referred def.kind))
        (λ h. let found = any_out owned (post_order rows t) h in
        let split : Contains (flat_map (post_order rows) (direct rows t) ++ t ∷ []) found.0 = subst (λ (w : List ℕ). Contains w found.0) (post_order_is rows acyclic t (there t def at)) found.1.0 in
        elim (Contains-append_cases (flat_map (post_order rows) (direct rows t)) (t ∷ []) found.0 split) [
          | inl under ↦ let part = Contains-flat_map_cases (post_order rows) (direct rows t) found.0 under in
              any_in (leads o) (referred def.kind) part.0 (subst (λ (us : List ℕ). Contains us part.0) (row_of t def at) part.1.0) (any_in owned (post_order rows part.0) found.0 part.1.1 found.1.1)
          | inr last ↦ elim (Contains-cons_cases t found.0 [] last) [
            | inl same ↦ absurd (false≢true (sym not_it ∙ (ap owned same ∙ found.1.1)))
            | inr none ↦ absurd (Contains-nil none)
          ]
        ])
        (λ h. let found = any_out (leads o) (referred def.kind) h in
        let edge : Contains (direct rows t) found.0 = subst (λ (us : List ℕ). Contains us found.0) (sym (row_of t def at)) found.1.0 in
        let within : found.0 < length rows = All-contains (λ j. j < length rows) (direct rows t) found.0 (acyclic.in_range t) edge in
        let on = leads_to found.0 within found.1.1 in
        leads_from t on.0 (there t def at) (Reaches-join rows t found.0 on.0 (Reaches-use rows t found.0 edge) on.1) on.2)

    module _ (apart : StayApart o.graph.now o.id o.world.now) where
      -- a type that isn't open leads nowhere
      pub closed_leads : (t : ℕ) (def : TypeDef) → slice_get types t ≡ Some def → is_open_in o def ≡ false → leads o t ≡ false
      closed_leads t def at closed = by (leads o t) refl
        where
          not_it : (a b : Bool) → (a || b) ≡ false → (a ≡ false) × (b ≡ false)
          not_it true b h = cc
          not_it false b h = (refl, h)

          by : (b : Bool) → leads o t ≡ b → leads o t ≡ false
          by false is = is
          by true is =
              let parts = not_it (owner_belongs_to o.graph.now o.id o.world.now def.owner) (not (is_some def.name)) closed in
              let on = leads_to t (there t def at) is in
              absurd (false≢true (sym (apart t on.0 (unnamed_at t def at ∙ parts.1) (owned_at t def at ∙ parts.0) on.1) ∙ on.2))

      -- what is said of a type is right where it is right of all that its open row has
      pub leads_right : (known : List (ℕ × Bool)) (t : ℕ) (def : TypeDef) → slice_get types t ≡ Some def
          → ((u : ℕ) → Contains (direct (open_rows o) t) u → said known u ≡ leads o u) → leads_by o known t ≡ leads o t
      leads_right known t def at right =
          ap (λ (d : Option TypeDef). option_map_or (def_leads_by o known) d false) at ∙ by (owner_belongs_to o.graph.now o.id o.world.now def.owner) refl (is_some def.name) refl
        where
          by : (b : Bool) → owner_belongs_to o.graph.now o.id o.world.now def.owner ≡ b → (named : Bool) → is_some def.name ≡ named
              → (if b then true else (if named then false else list_any (said known) (referred def.kind))) ≡ leads o t
          by true own named is = sym (leads_from t t (there t def at) (Reaches-self rows t) (owned_at t def at ∙ own))
          by false own true is = sym (closed_leads t def at (ap (λ (b : Bool). b || not (is_some def.name)) own ∙ ap not is))
          by false own false is =
              let opened : is_open_in o def ≡ true = ap (λ (b : Bool). b || not (is_some def.name)) own ∙ ap not is in
              let row : direct (open_rows o) t ≡ referred def.kind = open_row_at t def at ∙ ap (λ (b : Bool). if b then referred def.kind else []) opened in
              any_alike (said known) (leads o) (referred def.kind) (λ u has. right u (subst (λ (us : List ℕ). Contains us u) (sym row) has))
              ∙ sym (leads_next t def at (owned_at t def at ∙ own))
