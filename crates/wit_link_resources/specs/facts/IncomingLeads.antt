-- The types of a graph with those that are new behind them, before values ask for `own`s: where they stand, that no alias
-- leads back to itself, and which of those that come lead to resources.
use Rattle.std.proofs.Common.{◌≡◌, ◌∙◌, ◌⊎◌, ◌<◌, ◌≤◌, ◌+◌, inl, inr, ℕ, Bool, true, false, List, [], ◌++◌, length, map, option_map, option_to_list, Option, None, Some, get_or, slice_get, refl, sym, ap, subst, arith, Contains}
use Rattle.std.specs.List.{flat_map}
use Rattle.std.proofs.lemmas.Bool.{false≢true, le-leb, leb-true}
use Rattle.std.proofs.lemmas.List.{length-append, length-map}
use Rattle.std.proofs.lemmas.List.Elements.{Contains-get_or}
use Rattle.std.proofs.lemmas.Option.{get_or_from_slice_get, slice_get_within}
use Rattle.wit_digraph.specs.facts.MemberFacts.{Contains-cons_cases, Contains-nil}
use Rattle.wit_digraph.specs.Relation.{IsAcyclic, direct}
use Rattle.wit_digraph.specs.PostOrder.{post_order}
use Rattle.wit_data.specs.Uses.{alias_target, alias_rows}
use Rattle.wit_data.specs.declared.function.Function.{Function}
use Rattle.wit_data.specs.declared.types.TypeDef.{TypeDef}
use Rattle.wit_data.specs.declared.types.TypeDefKind.{TypeDefKind}
use Rattle.wit_data.specs.declared.types.TypeDefKind.TheVariants as kind
use Rattle.wit_remap_spec.specs.Image.{Maps, type_image}
use Rattle.wit_graph_theory.specs.facts.ListFacts.{at_below, at_map, at_new, from_map, from_row, get_at, in_row, old_or_new}
use Rattle.wit_graph_theory.specs.facts.ReferredFacts.{alias_image}
use Rattle.wit_graph_theory.specs.facts.RowFacts.{IsAcyclic-grown}
use Rattle.wit_link_spec.specs.facts.RankFacts.{selected-at, selected_with_index-from}
use Rattle.wit_remap_spec.specs.Resources.{is_resource_kind, leads_to_resource}
use Rattle.wit_remap_spec.specs.Selected.{rank, selected, selected_with_index}
use Rattle.wit_remap_spec.specs.ValueRemap.{ValueRemap, positions}
use Rattle.wit_link_spec.specs.steps.NewThings.{is_from, is_new}
use Rattle.wit_link_resources.specs.steps.IncomingTypes.{CanCome, IsRemapOf, IsRemapped, leads_in}
use Rattle.wit_link_resources.specs.facts.Leads.{leads_here, leads_on, leads_stays, target_there, walk_falls}
use Rattle.wit_graph_theory.specs.facts.AliasFacts.{alias_acyclic}
use Rattle.wit_data.specs.Kind.{signature_types}
use Rattle.wit_remap_spec.specs.steps.Parts.{kind_image, value_positions, types_without_owns}

abbrev row : TypeDef → List ℕ
row def = option_to_list (alias_target def.kind)

-- what an option that goes somewhere has
option_has : (f : ℕ → ℕ) (o : Option ℕ) (j : ℕ) → Contains (option_to_list (option_map f o)) j → (u : ℕ) × (o ≡ Some u) × (j ≡ f u)
option_has f None j has = absurd (Contains-nil has)
option_has f (Some u) j has = elim (Contains-cons_cases (f u) j [] has) [ inl same ↦ (u, refl, sym same) | inr none ↦ absurd (Contains-nil none) ]

-- an image is a resource where the thing is one
resource_image : (maps : Maps) (k : TypeDefKind) → is_resource_kind (kind_image maps k) ≡ is_resource_kind k
resource_image maps kind.Resource = refl
resource_image maps other = refl

-- ---- what is new

-- what is remapped to an id from the first one on
from_some : (first : ℕ) (o : Option (Option ℕ)) → is_from first o ≡ true → (t' : ℕ) × (o ≡ Some (Some t')) × (first ≤ t')
from_some first None h = cc
from_some first (Some None) h = cc
from_some first (Some (Some id)) h = (id, refl, leb-true first id h)

pub new_some : (first : ℕ) (new_ids : List (Option ℕ)) (t : ℕ) → is_new first new_ids t ≡ true → (t' : ℕ) × (slice_get new_ids t ≡ Some (Some t')) × (first ≤ t')
new_some first new_ids t new = from_some first (slice_get new_ids t) new

pub is_new_there : (first : ℕ) (new_ids : List (Option ℕ)) (t t' : ℕ) → slice_get new_ids t ≡ Some (Some t') → first ≤ t' → is_new first new_ids t ≡ true
is_new_there first new_ids t t' at past = ap (is_from first) at ∙ le-leb first t' past

module _ (old types : List TypeDef) (new_ids : List (Option ℕ)) (can : CanCome old types new_ids) where
  abbrev new : ℕ → Bool
  new = is_new (length old) new_ids

  -- a type that is remapped is so to one of the graph, or is new
  pub old_or_behind : (t t' : ℕ) → slice_get new_ids t ≡ Some (Some t') → (t' < length old) ⊎ ((new t ≡ true) × (t' ≡ length old + rank new t))
  old_or_behind t t' at = elim (can.next t t' at) [
    | inl before ↦ inl before
    | inr next ↦ inr (is_new_there (length old) new_ids t t' at (omega (arith, next)), next)
  ]

  -- one that isn't new is remapped to one of the graph
  pub not_new_old : (t t' : ℕ) → slice_get new_ids t ≡ Some (Some t') → new t ≡ false → t' < length old
  not_new_old t t' at none = elim (old_or_behind t t' at) [
    | inl before ↦ before
    | inr behind ↦ absurd (false≢true (sym none ∙ behind.0))
  ]

  -- what is remapped is there
  pub remapped_there : (t : ℕ) → IsRemapped new_ids t → t < length types
  remapped_there t to = let within = slice_get_within new_ids t (Some to.0) to.1 in let long = can.long in omega (arith, within, long)

module _ (old types : List TypeDef) (new_ids : List (Option ℕ)) (can : CanCome old types new_ids) (functions : List Function) (r : ValueRemap) (is : IsRemapOf old types new_ids functions r) where
  abbrev here : ℕ → Bool
  here = is_new (length old) new_ids

  abbrev images : List TypeDef
  images = map (type_image r.ids) (selected here types)

  abbrev plain : List TypeDef
  plain = old ++ images

  plain_is : types_without_owns r ≡ plain
  plain_is = ap (λ (ts : List TypeDef). ts ++ map (type_image r.ids) r.new_types) is.graph_types ∙ ap (λ (ts : List TypeDef). old ++ map (type_image r.ids) ts) is.new_types

  goes_to : (t t' : ℕ) → slice_get new_ids t ≡ Some (Some t') → r.ids.types t ≡ t'
  goes_to t t' at = is.ids t (Some t') at

  -- a new one goes to the next id
  new_goes : (t : ℕ) → here t ≡ true → r.ids.types t ≡ length old + rank here t
  new_goes t new =
      let to = new_some (length old) new_ids t new in
      elim (can.next t to.0 to.1) [
        | inl before ↦ let past = to.2 in absurd (omega (arith, before, past))
        | inr next ↦ goes_to t to.0 to.1 ∙ next
      ]

  -- and stands there
  new_at : (t : ℕ) (def : TypeDef) → slice_get types t ≡ Some def → here t ≡ true → slice_get plain (r.ids.types t) ≡ Some (type_image r.ids def)
  new_at t def at new =
      at_new old images (rank here t) (r.ids.types t) (type_image r.ids def) (new_goes t new) (at_map (type_image r.ids) (selected here types) (rank here t) def (selected-at here types t def at new))

  -- what stands behind the graph is a new one
  record Behind (i : ℕ) (image : TypeDef) : Type 0 where
    t : ℕ
    def : TypeDef
    there : slice_get types t ≡ Some def
    new : here t ≡ true
    place : i ≡ r.ids.types t
    image_is : type_image r.ids def ≡ image

  plain_from : (i : ℕ) (image : TypeDef) → slice_get plain i ≡ Some image → (slice_get old i ≡ Some image) ⊎ Behind i image
  plain_from i image at = elim (old_or_new old images i image at) [
    | inl before ↦ inl before
    | inr behind ↦
        let from = from_map (type_image r.ids) (selected here types) behind.0 image behind.2 in
        let taken_from = from_map (λ (e : ℕ × TypeDef). e.1) (selected_with_index here types) behind.0 from.0 from.1 in
        let its = selected_with_index-from here types behind.0 taken_from.0 taken_from.1 in
        let goes = new_goes taken_from.0.0 its.1 in
        let n = behind.1 in
        let k = its.2 in
        inr (record { t = taken_from.0.0; def = from.0; there = its.0 ∙ ap Some taken_from.2; new = its.1; place = omega (arith, goes, n, k); image_is = from.2 })
  ]

  -- a type that is remapped goes to one of the graph, or is new
  goes : (t : ℕ) → IsRemapped new_ids t → (r.ids.types t < length old) ⊎ (here t ≡ true)
  goes t to = elim (old_or_behind old types new_ids can t to.0 to.1) [
    | inl before ↦ let same = goes_to t to.0 to.1 in inl (omega (arith, before, same))
    | inr behind ↦ inr behind.0
  ]

  long_plain : length plain ≡ length old + length images
  long_plain = length-append old images

  place_there : (t : ℕ) → IsRemapped new_ids t → r.ids.types t < length plain
  place_there t to = elim (goes t to) [
    | inl before ↦ let long = long_plain in omega (arith, before, long)
    | inr new ↦
        let def = get_at types t (remapped_there old types new_ids can t to) in
        slice_get_within plain (r.ids.types t) (type_image r.ids def.0) (new_at t def.0 def.1 new)
  ]

  -- what the image of one names
  image_names : (j : ℕ) (def : TypeDef) → Contains (row (type_image r.ids def)) j → (u : ℕ) × (alias_target def.kind ≡ Some u) × (j ≡ r.ids.types u)
  image_names j def has = option_has r.ids.types (alias_target def.kind) j (subst (λ (o : Option ℕ). Contains (option_to_list o) j) (alias_image r.ids def.kind) has)

  -- ---- no alias leads back to itself

  abbrev old_rows : List (List ℕ)
  old_rows = alias_rows old

  abbrev rows : List (List ℕ)
  rows = alias_rows plain

  -- the rank of a new one: the length of its walk
  record Ranked (i n : ℕ) : Type 0 where
    t : ℕ
    def : TypeDef
    there : slice_get types t ≡ Some def
    new : here t ≡ true
    place : i ≡ r.ids.types t
    walk : n ≡ length (post_order (alias_rows types) t)

  itself : (o : Option ℕ) → o ≡ option_map (λ (u : ℕ). u) o
  itself None = refl
  itself (Some u) = refl

  in_range : (i j : ℕ) → Contains (direct rows i) j → j < length rows
  in_range i j has =
      let from = from_row row plain i j has in
      let long = length-map plain row in
      let whole = long_plain in
      elim (plain_from i from.0 from.1) [
        | inl before ↦
            let target = option_has (λ (u : ℕ). u) (alias_target from.0.kind) j (subst (λ (o : Option ℕ). Contains (option_to_list o) j) (itself (alias_target from.0.kind)) from.2) in
            let within = target_there old can.old_acyclic i target.0 from.0 before target.1 in
            let same = target.2 in
            omega (arith, within, same, long, whole)
        | inr behind ↦
            let target = image_names j behind.def (subst (λ (d : TypeDef). Contains (row d) j) (sym behind.image_is) from.2) in
            let within = place_there target.0 (can.aliases behind.t target.0 behind.def behind.new behind.there target.1) in
            let same = target.2 in
            omega (arith, within, same, long)
      ]

  stays : (i j : ℕ) → i < length old_rows → Contains (direct rows i) j → Contains (direct old_rows i) j
  stays i j before has =
      let long = length-map old row in
      let from = from_row row plain i j has in
      in_row row old i from.0 j (at_below old images i from.0 (omega (arith, before, long)) from.1) from.2

  ranked : (i : ℕ) → length old_rows ≤ i → (j : ℕ) → Contains (direct rows i) j → (n : ℕ) × Ranked i n
  ranked i past j has =
      let long = length-map old row in
      let from = from_row row plain i j has in
      elim (plain_from i from.0 from.1) [
        | inl before ↦ let within = slice_get_within old i from.0 before in absurd (omega (arith, within, long, past))
        | inr behind ↦ (length (post_order (alias_rows types) behind.t), record { t = behind.t; def = behind.def; there = behind.there; new = behind.new; place = behind.place; walk = refl })
      ]

  down : (i n j : ℕ) → length old_rows ≤ i → Ranked i n → Contains (direct rows i) j → (j < length old_rows) ⊎ ((m : ℕ) × Ranked j m × (m < n))
  down i n j past rank_is has =
      let long = length-map old row in
      let at : slice_get plain i ≡ Some (type_image r.ids rank_is.def) = ap (slice_get plain) rank_is.place ∙ new_at rank_is.t rank_is.def rank_is.there rank_is.new in
      let held : direct rows i ≡ row (type_image r.ids rank_is.def) = get_or_from_slice_get rows i (row (type_image r.ids rank_is.def)) [] (at_map row plain i (type_image r.ids rank_is.def) at) in
      let target = image_names j rank_is.def (subst (λ (ids : List ℕ). Contains ids j) held has) in
      let same = target.2 in
      let to = can.aliases rank_is.t target.0 rank_is.def rank_is.new rank_is.there target.1 in
      elim (goes target.0 to) [
        | inl before ↦ inl (omega (arith, before, same, long))
        | inr new ↦
            let def = get_at types target.0 (remapped_there old types new_ids can target.0 to) in
            let falls = walk_falls types (alias_acyclic types can.acyclic) rank_is.t target.0 rank_is.def rank_is.there target.1 in
            let walk = rank_is.walk in
            inr (length (post_order (alias_rows types) target.0), record { t = target.0; def = def.0; there = def.1; new = new; place = same; walk = refl }, omega (arith, falls, walk))
      ]

  plain_acyclic : IsAcyclic rows
  plain_acyclic = IsAcyclic-grown Ranked old_rows rows (alias_acyclic old can.old_acyclic) (record {
    in_range = λ i k d below. in_range i (get_or (direct rows i) k d) (Contains-get_or (direct rows i) k d below);
    stays = stays;
    ranked = ranked;
    down = down;
  })

  -- ---- which lead to resources

  leads_plain : (t : ℕ) → leads_in r t ≡ leads_to_resource plain (r.ids.types t)
  leads_plain t = ap (λ (ts : List TypeDef). leads_to_resource ts (r.ids.types t)) plain_is

  -- one that goes to a type of the graph does where that does
  pub leads_old : (t t' : ℕ) → slice_get new_ids t ≡ Some (Some t') → t' < length old → leads_in r t ≡ leads_to_resource old t'
  leads_old t t' at before =
      leads_plain t ∙ (ap (leads_to_resource plain) (goes_to t t' at) ∙ leads_stays old images (alias_acyclic old can.old_acyclic) plain_acyclic t' before)

  -- a new alias does where its target does
  pub leads_alias : (t u : ℕ) (def : TypeDef) → here t ≡ true → slice_get types t ≡ Some def → alias_target def.kind ≡ Some u → leads_in r t ≡ leads_in r u
  leads_alias t u def new at target =
      leads_plain t
      ∙ (leads_on plain plain_acyclic (r.ids.types t) (r.ids.types u) (type_image r.ids def) (new_at t def at new) (alias_image r.ids def.kind ∙ ap (option_map r.ids.types) target)
      ∙ sym (leads_plain u))

  -- any other new one where it is a resource
  pub leads_itself : (t : ℕ) (def : TypeDef) → here t ≡ true → slice_get types t ≡ Some def → alias_target def.kind ≡ None → leads_in r t ≡ is_resource_kind def.kind
  leads_itself t def new at none =
      leads_plain t
      ∙ (leads_here plain plain_acyclic (r.ids.types t) (type_image r.ids def) (new_at t def at new) (alias_image r.ids def.kind ∙ ap (option_map r.ids.types) none) ∙ resource_image r.ids def.kind)

-- ---- value positions

-- what stands at those of new types and of the functions stands at those of the remap
pub positions_same : (old types : List TypeDef) (new_ids : List (Option ℕ)) (functions : List Function) (r : ValueRemap) → IsRemapOf old types new_ids functions r
    → flat_map (λ (def : TypeDef). value_positions def.kind) (selected (is_new (length old) new_ids) types) ++ flat_map signature_types functions ≡ positions r
positions_same old types new_ids functions r is =
    sym (ap (λ (ts : List TypeDef). flat_map (λ (def : TypeDef). value_positions def.kind) ts ++ flat_map signature_types r.new_functions) is.new_types
    ∙ ap (λ (fs : List Function). flat_map (λ (def : TypeDef). value_positions def.kind) (selected (is_new (length old) new_ids) types) ++ flat_map signature_types fs) is.new_functions)
