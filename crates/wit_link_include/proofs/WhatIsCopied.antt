-- What is known to lead to what goes with a world is what an include copies.
use Rattle.std.proofs.Common.{◌≡◌, ◌∙◌, ℕ, ◌<◌, ◌&&◌, inl, inr, Bool, true, false, List, [], ◌∷◌, length, Option, None, Some, Contains, is_some, not, nat_eq, slice_get, unwrap_or, refl, sym, ap, subst, arith, if◌then◌else◌}
use Rattle.std.specs.List.{flat_map, list_any}
use Rattle.std.specs.Map.{lookup}
use Rattle.std.proofs.lemmas.Bool.{false≢true}
use Rattle.std.proofs.lemmas.List.Elements.{All-contains}
use Rattle.wit_digraph.specs.facts.FreshFacts.{any_from_contains, contains_from_any}
use Rattle.wit_digraph.specs.facts.MemberFacts.{Contains-flat_map, Contains-flat_map_cases}
use Rattle.wit_digraph.specs.Relation.{IsAcyclic, IsPath, Reaches, direct}
use Rattle.wit_digraph.specs.facts.PostOrderFacts.{Reaches-from_post_order, post_order-from_IsPath}
use Rattle.wit_digraph.specs.PostOrder.{post_order}
use Rattle.wit_data.specs.declared.types.TypeDef.{TypeDef}
use Rattle.wit_graph_theory.specs.facts.RowFacts.{Reaches-join, Reaches-self}
use Rattle.wit_link_spec.specs.Include.{is_copied, is_owned_within, is_unnamed_type, named_types, owner_belongs_to}
use Rattle.wit_link_include.specs.steps.Included.{NamesBelonging, StayApart, is_open_in, known_of, leads, open_rows, roots_of, said}
use Rattle.wit_link_include.specs.declared.origin.Origin.{Origin}
use Rattle.wit_link_include.proofs.Members.{and_both, and_of, or_cases, or_left, or_right, same_truth}
use Rattle.wit_link_include.proofs.OpenRows.{closed_leads, leads_from, leads_to, open_acyclic, open_edge, open_long, open_reaches, owned_at, rows, rows_long, there_at, unnamed_at}
use Rattle.wit_link_spec.specs.steps.Parts.{is_on_way}

module _ (o : Origin) (acyclic : IsAcyclic (rows o)) (apart : StayApart o.graph.now o.id o.world.now) (there : (t : ℕ) → Contains (roots_of o) t → t < length o.graph.now.types)
    (belonging : NamesBelonging o.graph.now o.id o.world.now) where
  abbrev owns : ℕ → Bool
  owns = is_owned_within o.graph.now o.id o.world.now

  abbrev on_way : ℕ → Bool
  on_way = is_on_way o.graph.now o.id o.world.now

  way_parts : (t : ℕ) → on_way t ≡ true → (list_any (nat_eq t) (named_types o.graph.now o.world.now) ≡ true) × (leads o t ≡ true)
  way_parts t is = and_both (list_any (nat_eq t) (named_types o.graph.now o.world.now)) (leads o t) is

  in_rows : (t : ℕ) → t < length o.graph.now.types → t < length (rows o)
  in_rows t within = let long = rows_long o in omega arith

  in_open : (t : ℕ) → t < length (rows o) → t < length (open_rows o)
  in_open t within = let a = rows_long o in let b = open_long o in omega arith

  -- a type that leads there is open
  leads_open : (t : ℕ) (def : TypeDef) → slice_get o.graph.now.types t ≡ Some def → leads o t ≡ true → is_open_in o def ≡ true
  leads_open t def at is = by (is_open_in o def) refl
    where
      by : (b : Bool) → is_open_in o def ≡ b → is_open_in o def ≡ true
      by true h = h
      by false h = absurd (false≢true (sym (closed_leads o acyclic apart t def at h) ∙ is))

  -- a path to a type that leads there is open
  path_open : (i : ℕ) (path : List ℕ) (t : ℕ) → i < length (rows o) → t < length (rows o) → leads o t ≡ true → IsPath (rows o) i path t → IsPath (open_rows o) i path t
  path_open i [] t here within is same = same
  path_open i (k ∷ path) t here within is (edge, rest) =
      let on = leads_to o acyclic t within is in
      let first : leads o i ≡ true = leads_from o acyclic i on.0 here (Reaches-join (rows o) i t on.0 (k ∷ path, (edge, rest)) on.1) on.2 in
      let def = there_at o i (in_open i here) in
      let next : k < length (rows o) = All-contains (λ j. j < length (rows o)) (direct (rows o) i) k (acyclic.in_range i) edge in
      (open_edge o i def.0 k def.1 (leads_open i def.0 def.1 first) edge, path_open k path t next within is rest)

  path_within : (i : ℕ) (path : List ℕ) (t : ℕ) → i < length (rows o) → IsPath (rows o) i path t → t < length (rows o)
  path_within i [] t here same = subst (λ (k : ℕ). k < length (rows o)) same here
  path_within i (k ∷ path) t here (edge, rest) = path_within k path t (All-contains (λ j. j < length (rows o)) (direct (rows o) i) k (acyclic.in_range i) edge) rest

  copied_from : (t : ℕ) → Contains (flat_map (post_order (open_rows o)) (roots_of o)) t → leads o t ≡ true → is_copied o.graph.now o.id o.world.now t ≡ true
  copied_from t has is =
      let part = Contains-flat_map_cases (post_order (open_rows o)) (roots_of o) t has in
      let begin : part.0 < length (rows o) = in_rows part.0 (there part.0 part.1.0) in
      let on : Reaches (rows o) part.0 t = open_reaches o part.0 t (Reaches-from_post_order (open_rows o) (open_acyclic o acyclic) part.0 (in_open part.0 begin) t part.1.1) in
      let named : list_any (nat_eq t) (named_types o.graph.now o.world.now) ≡ true =
      any_from_contains t (named_types o.graph.now o.world.now) (Contains-flat_map (post_order (rows o)) (roots_of o) part.0 t part.1.0 (post_order-from_IsPath (rows o) acyclic part.0 on.0 t begin on.1)) in
      let def = there_at o t (in_open t (path_within part.0 on.0 t begin on.1)) in
      let kind = or_cases (owner_belongs_to o.graph.now o.id o.world.now def.0.owner) (not (is_some def.0.name)) (leads_open t def.0 def.1 is) in
      elim kind [
        | inl own ↦ or_left (owns t) (is_unnamed_type o.graph.now t && on_way t) (owned_at o acyclic t def.0 def.1 ∙ own)
        | inr free ↦
            or_right (owns t) (is_unnamed_type o.graph.now t && on_way t)
            (and_of (is_unnamed_type o.graph.now t) (on_way t) (unnamed_at o acyclic t def.0 def.1 ∙ free) (and_of (list_any (nat_eq t) (named_types o.graph.now o.world.now)) (leads o t) named is))
      ]

  copied_to : (t : ℕ) → is_copied o.graph.now o.id o.world.now t ≡ true → Contains (flat_map (post_order (open_rows o)) (roots_of o)) t × (leads o t ≡ true)
  copied_to t is =
      let parts = or_cases (owns t) (is_unnamed_type o.graph.now t && on_way t) is in
      let named : Contains (named_types o.graph.now o.world.now) t = elim parts [
        | inl own ↦ belonging t own
        | inr free ↦ contains_from_any t (named_types o.graph.now o.world.now) (way_parts t (and_both (is_unnamed_type o.graph.now t) (on_way t) free).1).0
      ] in
      let part = Contains-flat_map_cases (post_order (rows o)) (roots_of o) t named in
      let begin : part.0 < length (rows o) = in_rows part.0 (there part.0 part.1.0) in
      let on : Reaches (rows o) part.0 t = Reaches-from_post_order (rows o) acyclic part.0 begin t part.1.1 in
      let within : t < length (rows o) = path_within part.0 on.0 t begin on.1 in
      let lead : leads o t ≡ true = elim parts [
        | inl own ↦ leads_from o acyclic t t within (Reaches-self (rows o) t) own
        | inr free ↦ (way_parts t (and_both (is_unnamed_type o.graph.now t) (on_way t) free).1).1
      ] in (
        Contains-flat_map (post_order (open_rows o)) (roots_of o) part.0 t part.1.0
            (post_order-from_IsPath (open_rows o) (open_acyclic o acyclic) part.0 on.0 t (in_open part.0 begin) (path_open part.0 on.0 t begin within lead on.1)),
        lead,
      )

  -- what is said of each type when all is known
  pub said_is_copied : (known : List (ℕ × Bool)) → ((t : ℕ) → lookup (nat_eq t) known ≡ known_of o (roots_of o) t) → (t : ℕ) → said known t ≡ is_copied o.graph.now o.id o.world.now t
  said_is_copied known is t =
      ap (λ (r : Option Bool). unwrap_or r false) (is t)
      ∙ same_truth (unwrap_or (known_of o (roots_of o) t) false) (is_copied o.graph.now o.id o.world.now t)
      (λ h. let found = told (list_any (nat_eq t) (flat_map (post_order (open_rows o)) (roots_of o))) (leads o t) h in
      copied_from t (contains_from_any t (flat_map (post_order (open_rows o)) (roots_of o)) found.0) found.1)
      (λ h. let found = copied_to t h in tells (list_any (nat_eq t) (flat_map (post_order (open_rows o)) (roots_of o))) (leads o t) (any_from_contains t (flat_map (post_order (open_rows o)) (roots_of o)) found.0) found.1)
    where
      told : (a b : Bool) → unwrap_or (if a then Some b else None) false ≡ true → (a ≡ true) × (b ≡ true)
      told true b h = (refl, h)
      told false b h = absurd (false≢true h)

      tells : (a b : Bool) → a ≡ true → b ≡ true → unwrap_or (if a then Some b else None) false ≡ true
      tells true b h k = k
      tells false b h k = absurd (false≢true h)
