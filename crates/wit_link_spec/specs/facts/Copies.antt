-- What things are remapped to that are copied, and that all else stays.
use Rattle.std.proofs.Common.{◌≡◌, ◌∙◌, ◌⊎◌, ◌&&◌, ◌+◌, inl, inr, ℕ, ◌<◌, ◌≤◌, Bool, true, false, not, List, map, Option, None, Some, slice_get, refl, sym, ap, subst, arith, Contains, IsSome, length, is_some, nat_eq, if◌then◌else◌}
use Rattle.std.specs.List.{list_any}
use Rattle.std.specs.Option.{option_map_or}
use Rattle.std.proofs.lemmas.Bool.{cases_Bool, eq-eqb, eqb-true, false≢true}
use Rattle.std.proofs.lemmas.Option.{slice_get_within}
use Rattle.wit_values.specs.facts.Lists.{slice_get-append}
use Rattle.wit_digraph.specs.Relation.{Reaches}
use Rattle.wit_digraph.specs.facts.PostOrderFacts.{Reaches-from_post_order, post_order-from_IsPath}
use Rattle.wit_digraph.specs.PostOrder.{post_order}
use Rattle.wit_data.specs.Ownership.{IsListed, IsNamed, IsNamedInterface}
use Rattle.wit_data.specs.Kind.{referred, type_references}
use Rattle.wit_data.specs.declared.interface.Interface.{Interface}
use Rattle.wit_data.specs.declared.types.TypeDef.{TypeDef}
use Rattle.wit_data.specs.declared.types.TypeOwner.{TypeOwner}
use Rattle.wit_data.specs.declared.world.World.{World}
use Rattle.wit_data.specs.declared.types.TypeOwner.TheVariants as owner
use Rattle.wit_graph_data.specs.declared.graph.Graph.{Graph}
use Rattle.wit_remap_spec.specs.Image.{interface_image, type_image}
use Rattle.wit_graph_theory.specs.facts.ListFacts.{at_map, at_new, from_map, in_row, old_or_new, same_at}
use Rattle.wit_graph_theory.specs.facts.UnnamedOnceCarried.{named_not}
use Rattle.wit_graph_theory.specs.facts.RowFacts.{Reaches-join, Reaches-self, Reaches-use}
use Rattle.wit_link_spec.specs.Include.{belongs_to, is_copied, is_owned_within, is_unnamed_type, owner_belongs_to, type_copy}
use Rattle.wit_link_spec.specs.facts.RankFacts.{rank-injective, selected-at, selected_with_index-from}
use Rattle.wit_remap_spec.specs.Selected.{rank, selected, selected_with_index}
use Rattle.wit_link_spec.specs.facts.CopiedPart.{active_by_mentioned, belonging_mentioned, goes_parts, is_mentioned, mentioned_by_active}
use Rattle.wit_link_spec.specs.facts.IncludedWorld.{Including, IsIncluded, joined_world, maps}
use Rattle.wit_link_spec.specs.facts.Among.{owner_of_own}
use Rattle.wit_link_spec.specs.facts.Mentioned.{in_rows, mentioned_with, owned_is}
use Rattle.wit_link_spec.specs.facts.PartiallyLinked.{IsSoundSoFar}
use Rattle.wit_link_spec.specs.facts.Truth.{and_both, and_parts, one_passes, or_cases, or_left, or_right, passing}
use Rattle.wit_link_spec.specs.steps.Parts.{is_on_way, interface_copy}

goes_to : (b : Bool) (x y : ℕ) → b ≡ true → (if b then x else y) ≡ x
goes_to true x y h = refl
goes_to false x y h = cc

stays_at : (b : Bool) (x y : ℕ) → b ≡ false → (if b then x else y) ≡ y
stays_at false x y h = refl
stays_at true x y h = cc

-- what stands among what is active of a list
from_selected : {X : Type 0} (kept : ℕ → Bool) (xs : List X) (k : ℕ) (x : X) → slice_get (selected kept xs) k ≡ Some x → (i : ℕ) × (slice_get xs i ≡ Some x) × (kept i ≡ true) × (k ≡ rank kept i)
from_selected {X} kept xs k x at =
    let from = from_map (λ (e : ℕ × X). e.1) (selected_with_index kept xs) k x at in
    let is = selected_with_index-from kept xs k from.0 from.1 in
    (from.0.0, subst (λ (y : X). slice_get xs from.0.0 ≡ Some y) from.2 is.0, is.1, is.2)

module _ (g : Graph) (stands : IsSoundSoFar g) (i : Including g) where
  abbrev copied : ℕ → Bool
  copied = is_copied g i.from i.old

  abbrev goes : ℕ → Bool
  goes = belongs_to g i.old

  abbrev owned : ℕ → Bool
  owned = is_owned_within g i.from i.old

  abbrev on_way : ℕ → Bool
  on_way = is_on_way g i.from i.old

  -- ---- types

  -- what is on a way is mentioned, and leads to what belongs to the world
  way_parts : (t : ℕ) → on_way t ≡ true → (is_mentioned g i.old t ≡ true) × (list_any owned (post_order (type_references g.types) t) ≡ true)
  way_parts t is = and_parts (is_mentioned g i.old t) (list_any owned (post_order (type_references g.types) t)) is

  pub copied_mentioned : (t : ℕ) → copied t ≡ true → is_mentioned g i.old t ≡ true
  copied_mentioned t is =
      elim (or_cases (owned t) (is_unnamed_type g t && on_way t) is) [
        | inl own ↦ mentioned_by_active g stands i.from i.old i.old_at t (belonging_mentioned g stands i.from i.old i.old_at t own)
        | inr other ↦ (way_parts t (and_parts (is_unnamed_type g t) (on_way t) other).1).0
      ]

  pub copied_there : (t : ℕ) → copied t ≡ true → t < length g.types
  copied_there t is = (mentioned_with g stands i.from i.old i.old_at t (active_by_mentioned g stands i.from i.old i.old_at t (copied_mentioned t is))).own.there

  pub type_remapped : (t : ℕ) → copied t ≡ true → type_copy g i.from i.old t ≡ length g.types + rank copied t
  type_remapped t is = goes_to (copied t) (length g.types + rank copied t) t is

  pub type_stays : (t : ℕ) → copied t ≡ false → type_copy g i.from i.old t ≡ t
  type_stays t is = stays_at (copied t) (length g.types + rank copied t) t is

  -- one that goes behind the types is copied
  pub behind_copied : (t : ℕ) → t < length g.types → length g.types ≤ type_copy g i.from i.old t → copied t ≡ true
  behind_copied t within past = elim (cases_Bool (copied t)) [
    | inl is ↦ is
    | inr left ↦ let same = type_stays t left in absurd (omega arith)
  ]

  -- a type that belongs to the world is copied
  pub owned_copied : (t : ℕ) → owned t ≡ true → copied t ≡ true
  owned_copied t is = or_left (owned t) (is_unnamed_type g t && on_way t) is

  unnamed_type_is : (t : ℕ) (def : TypeDef) → slice_get g.types t ≡ Some def → is_unnamed_type g t ≡ not (is_some def.name)
  unnamed_type_is t def at = ap (λ (o : Option TypeDef). option_map_or (λ (d : TypeDef). not (is_some d.name)) o false) at

  -- a type with a name that is copied goes with the world
  pub named_copied : (t : ℕ) (def : TypeDef) → slice_get g.types t ≡ Some def → IsSome def.name → copied t ≡ true → owned t ≡ true
  named_copied t def at named is =
      elim (or_cases (owned t) (is_unnamed_type g t && on_way t) is) [
        | inl own ↦ own
        | inr other ↦ absurd (not_both (is_some def.name) named (sym (unnamed_type_is t def at) ∙ (and_parts (is_unnamed_type g t) (on_way t) other).0))
      ]
    where
      not_both : (b : Bool) → b ≡ true → not b ≡ true → ⊥
      not_both true one other = cc
      not_both false one other = cc

  -- one without a name that isn't copied refers to none that is
  pub left_refers : (t u : ℕ) (def : TypeDef) → slice_get g.types t ≡ Some def → is_mentioned g i.old t ≡ true → def.name ≡ None → copied t ≡ false → Contains (referred def.kind) u → copied u ≡ false
  left_refers t u def at has none left refers = elim (cases_Bool (copied u)) [
    | inr stays ↦ stays
    | inl is ↦ absurd (false≢true (sym left ∙ refers_copied is))
  ]
    where
      rows : List (List ℕ)
      rows = type_references g.types

      step : Reaches rows t u
      step = Reaches-use rows t u (in_row (λ (d : TypeDef). referred d.kind) g.types t def u at refers)

      within : t < length rows
      within = in_rows g stands i.from i.old i.old_at t (slice_get_within g.types t def at)

      through : (r : ℕ) → Reaches rows u r → owned r ≡ true → copied t ≡ true
      through r reaches goes =
          let all = Reaches-join rows t u r step reaches in
          let unnamed : is_unnamed_type g t ≡ true = unnamed_type_is t def at ∙ ap (λ (o : Option (List ℕ)). not (is_some o)) none in
          or_right (owned t) _
          (and_both (is_unnamed_type g t) _ unnamed
          (and_both (is_mentioned g i.old t) _ has (one_passes owned (post_order rows t) r (post_order-from_IsPath rows stands.references t all.0 r within all.1) goes)))

      refers_copied : copied u ≡ true → copied t ≡ true
      refers_copied is =
          elim (or_cases (owned u) (is_unnamed_type g u && on_way u) is) [
            | inl own ↦ through u (Reaches-self rows u) own
            | inr other ↦
                let one = passing owned (post_order rows u) (way_parts u (and_parts (is_unnamed_type g u) (on_way u) other).1).1 in
                let there = in_rows g stands i.from i.old i.old_at u (copied_there u is) in
                through one.0 (Reaches-from_post_order rows stands.references u there one.0 one.1) one.2
          ]

  -- what is mentioned and not copied has the owner and the name that it had
  pub left_owner : (t : ℕ) (def : TypeDef) → slice_get g.types t ≡ Some def → is_mentioned g i.old t ≡ true → copied t ≡ false
      → (def.owner ≡ owner.None) ⊎ ((f : ℕ) × (def.owner ≡ owner.Interface f) × IsNamed g.interfaces f)
  left_owner t def at has left = by def.name refl
    where
      unowned : (name : Option (List ℕ)) (o : TypeOwner) → name ≡ None → IsListed g.interfaces g.worlds t name o → o ≡ owner.None
      unowned None owner.None none listed = refl
      unowned None (owner.Interface f) none listed = absurd listed
      unowned None (owner.World w) none listed = absurd listed
      unowned (Some n) o none listed = cc

      named : (o : TypeOwner) → IsNamedInterface g.interfaces o → (f : ℕ) × (o ≡ owner.Interface f) × IsNamed g.interfaces f
      named (owner.Interface f) is = (f, refl, is)
      named (owner.World w) is = absurd is
      named owner.None is = absurd is

      by : (name : Option (List ℕ)) → def.name ≡ name → (def.owner ≡ owner.None) ⊎ ((f : ℕ) × (def.owner ≡ owner.Interface f) × IsNamed g.interfaces f)
      by None is = inl (unowned def.name def.owner is (stands.items.types t def at).listed)
      by (Some n) is =
          let among = mentioned_with g stands i.from i.old i.old_at t (active_by_mentioned g stands i.from i.old i.old_at t has) in
          let same = owner_of_own g stands t def among.by at (ap is_some is) among.own in
          elim among.is [
            | inl goes ↦ absurd (false≢true (sym left ∙ owned_copied t (owned_is g stands i.from i.old t def at ∙ ap (owner_belongs_to g i.from i.old) same ∙ goes)))
            | inr other ↦ let is = named among.by other in inr (is.0, same ∙ is.1, is.2)
          ]

  -- ---- interfaces

  pub interface_remapped : (f : ℕ) → goes f ≡ true → interface_copy g i.old f ≡ length g.interfaces + rank goes f
  interface_remapped f is = goes_to (goes f) (length g.interfaces + rank goes f) f is

  pub interface_stays : (f : ℕ) → goes f ≡ false → interface_copy g i.old f ≡ f
  interface_stays f is = stays_at (goes f) (length g.interfaces + rank goes f) f is

  pub named_left : (f : ℕ) → IsNamed g.interfaces f → goes f ≡ false
  named_left f named = elim (cases_Bool (goes f)) [
    | inl is ↦ absurd (named_not g.interfaces f named (goes_parts g i.old f is).0)
    | inr left ↦ left
  ]

  pub behind_goes : (f : ℕ) → f < length g.interfaces → length g.interfaces ≤ interface_copy g i.old f → goes f ≡ true
  behind_goes f within past = elim (cases_Bool (goes f)) [
    | inl is ↦ is
    | inr left ↦ let same = interface_stays f left in absurd (omega arith)
  ]

  -- what goes to one interface is one interface
  pub interfaces_apart : (f e : ℕ) → f < length g.interfaces → e < length g.interfaces → interface_copy g i.old f ≡ interface_copy g i.old e → f ≡ e
  interfaces_apart f e first second same = elim (cases_Bool (goes f)) [
    | inl is ↦ elim (cases_Bool (goes e)) [
      | inl too ↦ let a = interface_remapped f is in let b = interface_remapped e too in rank-injective goes f e is too (omega arith)
      | inr left ↦ let a = interface_remapped f is in let b = interface_stays e left in absurd (omega arith)
    ]
    | inr stays ↦ elim (cases_Bool (goes e)) [
      | inl too ↦ let a = interface_stays f stays in let b = interface_remapped e too in absurd (omega arith)
      | inr left ↦ let a = interface_stays f stays in let b = interface_stays e left in omega arith
    ]
  ]

  -- ---- the graph behind it

  module _ (new : Graph) (are : IsIncluded g i new) where
    pub old_type_at : (t : ℕ) (def : TypeDef) → slice_get g.types t ≡ Some def → slice_get new.types t ≡ Some def
    old_type_at t def at = subst (λ (types : List TypeDef). slice_get types t ≡ Some def) (sym are.types_are) (slice_get-append g.types (map (type_image (maps g i)) (selected copied g.types)) t def at)

    pub old_interface_at : (f : ℕ) (interface : Interface) → slice_get g.interfaces f ≡ Some interface → slice_get new.interfaces f ≡ Some interface
    old_interface_at f interface at =
        subst (λ (interfaces : List Interface). slice_get interfaces f ≡ Some interface) (sym are.interfaces_are) (slice_get-append g.interfaces (map (interface_image (maps g i)) (selected goes g.interfaces)) f interface at)

    pub copy_at : (t : ℕ) (def : TypeDef) → slice_get g.types t ≡ Some def → copied t ≡ true → slice_get new.types (type_copy g i.from i.old t) ≡ Some (type_image (maps g i) def)
    copy_at t def at is =
        subst (λ (types : List TypeDef). slice_get types (type_copy g i.from i.old t) ≡ Some (type_image (maps g i) def)) (sym are.types_are)
        (at_new g.types (map (type_image (maps g i)) (selected copied g.types)) (rank copied t) (type_copy g i.from i.old t) (type_image (maps g i) def) (type_remapped t is)
        (at_map (type_image (maps g i)) (selected copied g.types) (rank copied t) def (selected-at copied g.types t def at is)))

    pub interface_copy_at : (f : ℕ) (interface : Interface) → slice_get g.interfaces f ≡ Some interface → goes f ≡ true
        → slice_get new.interfaces (interface_copy g i.old f) ≡ Some (interface_image (maps g i) interface)
    interface_copy_at f interface at is =
        subst (λ (interfaces : List Interface). slice_get interfaces (interface_copy g i.old f) ≡ Some (interface_image (maps g i) interface)) (sym are.interfaces_are)
        (at_new g.interfaces (map (interface_image (maps g i)) (selected goes g.interfaces)) (rank goes f) (interface_copy g i.old f) (interface_image (maps g i) interface) (interface_remapped f is)
        (at_map (interface_image (maps g i)) (selected goes g.interfaces) (rank goes f) interface (selected-at goes g.interfaces f interface at is)))

    -- a type of it is an old one or a copy
    pub type_from : (t' : ℕ) (new_def : TypeDef) → slice_get new.types t' ≡ Some new_def
        → (slice_get g.types t' ≡ Some new_def) ⊎ ((t : ℕ) × (def : TypeDef) × (slice_get g.types t ≡ Some def) × (copied t ≡ true) × (t' ≡ type_copy g i.from i.old t) × (type_image (maps g i) def ≡ new_def))
    type_from t' new_def at =
        elim (old_or_new g.types (map (type_image (maps g i)) (selected copied g.types)) t' new_def (subst (λ (types : List TypeDef). slice_get types t' ≡ Some new_def) are.types_are at)) [
          | inl old ↦ inl old
          | inr later ↦
              let made = from_map (type_image (maps g i)) (selected copied g.types) later.0 new_def later.2 in
              let is = from_selected copied g.types later.0 made.0 made.1 in
              let a = later.1 in
              let b = is.3 in
              let c = type_remapped is.0 is.2 in
              inr (is.0, made.0, is.1, is.2, omega arith, made.2)
        ]

    pub interface_from : (f' : ℕ) (new_one : Interface) → slice_get new.interfaces f' ≡ Some new_one
        → (slice_get g.interfaces f' ≡ Some new_one) ⊎ ((f : ℕ) × (one : Interface) × (slice_get g.interfaces f ≡ Some one) × (goes f ≡ true) × (f' ≡ interface_copy g i.old f) × (interface_image (maps g i) one ≡ new_one))
    interface_from f' new_one at =
        elim (old_or_new g.interfaces (map (interface_image (maps g i)) (selected goes g.interfaces)) f' new_one (subst (λ (interfaces : List Interface). slice_get interfaces f' ≡ Some new_one) are.interfaces_are at)) [
          | inl old ↦ inl old
          | inr later ↦
              let made = from_map (interface_image (maps g i)) (selected goes g.interfaces) later.0 new_one later.2 in
              let is = from_selected goes g.interfaces later.0 made.0 made.1 in
              let a = later.1 in
              let b = is.3 in
              let c = interface_remapped is.0 is.2 in
              inr (is.0, made.0, is.1, is.2, omega arith, made.2)
        ]

    -- a world of it is the one that includes, with joined lists, or stands where it stood
    pub world_from : (w : ℕ) (world : World) → slice_get new.worlds w ≡ Some world → ((w ≡ i.into) × (world ≡ joined_world g i)) ⊎ ((w ≡ i.into → ⊥) × (slice_get g.worlds w ≡ Some world))
    world_from w world at = elim (cases_Bool (nat_eq w i.into)) [
      | inl same ↦ let place = eqb-true w i.into same in inl (place, same_at new.worlds w i.into world (joined_world g i) place at are.joined_at)
      | inr other ↦ let apart : w ≡ i.into → ⊥ = (λ same. absurd (false≢true (sym other ∙ eq-eqb w i.into same))) in inr (apart, sym (are.others w apart) ∙ at)
    ]
