-- Types that grow by ranks stay acyclic.
use Rattle.std.proofs.Common.{◌≡◌, ◌∙◌, ◌⊎◌, inl, inr, ℕ, ◌+◌, ◌<◌, ◌≤◌, true, List, [], ◌∷◌, None, Some, get_or, slice_get, refl, sym, ap, subst, arith, length, Contains}
use Rattle.std.proofs.lemmas.Bool.{cases_lt}
use Rattle.std.proofs.lemmas.List.{length-map}
use Rattle.std.proofs.lemmas.List.Elements.{All-contains, Contains-get_or}
use Rattle.wit_digraph.specs.facts.MemberFacts.{Contains-cons_cases, Contains-nil}
use Rattle.wit_digraph.specs.Relation.{IsAcyclic, direct}
use Rattle.wit_data.specs.Kind.{referred, type_references}
use Rattle.wit_data.specs.declared.types.Handle.TheVariants.{Own}
use Rattle.wit_data.specs.declared.types.TypeDef.{TypeDef}
use Rattle.wit_data.specs.declared.types.TypeDefKind.TheVariants as kind
use Rattle.wit_data.specs.declared.types.TypeOwner.TheVariants as owner
use Rattle.wit_graph_data.specs.declared.graph.Graph.{Graph}
use Rattle.wit_graph_theory.specs.facts.Covered.{IsCovered}
use Rattle.wit_graph_theory.specs.facts.Growth.{TypesGrow}
use Rattle.wit_graph_theory.specs.facts.Referred.{RefersUnder, RemapsTo}
use Rattle.wit_remap_spec.specs.steps.Kept.{everything}
use Rattle.wit_graph_theory.specs.steps.Sources.{Carries, IsClosed, IsOwnOf, Source}
use Rattle.wit_graph_theory.specs.facts.ListFacts.{found_at, from_row, get_at, in_row, some_at}
use Rattle.wit_graph_theory.specs.facts.OwnedFacts.{in_target, over_goes}
use Rattle.wit_graph_theory.specs.facts.RowFacts.{IsAcyclic-grown}

abbrev row : TypeDef → List ℕ
row def = referred def.kind

module _ {K : Type 0} (at : K → Source) (rank : K → ℕ → ℕ) (old : List TypeDef) (g : Graph) (closed : (k : K) → IsClosed (at k)) (carries : (k : K) → Carries (at k) g)
    (covered : IsCovered everything at g) (grow : TypesGrow at rank old g) where
  -- type t' is the image of a type of a source, or an `own` of one: its rank is twice the type's, or one more
  record RankedImage (t' r : ℕ) : Type 0 where
    source : K
    t : ℕ
    takes : (at source).types t ≡ true
    place : t' ≡ (at source).maps.types t
    is : r ≡ rank source t + rank source t

  record RankedOwn (t' r : ℕ) : Type 0 where
    source : K
    t : ℕ
    takes : (at source).types t ≡ true
    own : IsOwnOf g.types t' ((at source).maps.types t)
    is : r ≡ rank source t + rank source t + 1

  abbrev Rank : ℕ → ℕ → Type 0
  Rank t' r = RankedImage t' r ⊎ RankedOwn t' r

  -- what a type is remapped to is old or has a rank, of twice the type's and one at most
  goes : (k : K) (u u' : ℕ) → (at k).types u ≡ true → RemapsTo (at k).maps u u' → (u' < length old) ⊎ ((s : ℕ) × Rank u' s × (s ≤ rank k u + rank k u + 1))
  goes k u u' takes goes_to =
      let over = over_goes (at k) g (closed k) (carries k) u u' takes goes_to in
      elim over.is [
        | inl place ↦ inr (rank k u + rank k u, inl (record { source = k; t = u; takes = takes; place = place; is = refl }), omega arith)
        | inr own ↦ inr (rank k u + rank k u + 1, inr (record { source = k; t = u; takes = takes; own = own.1; is = refl }), omega arith)
      ]

  -- what an `own` refers to
  own_refers : (h t j : ℕ) → IsOwnOf g.types h t → Contains (direct (type_references g.types) h) j → j ≡ t
  own_refers h t j own has =
      let from = from_row row g.types h j has in
      let found = found_at (λ (def : TypeDef). (def.name ≡ None) × (def.owner ≡ owner.None) × (def.kind ≡ kind.Handle (Own t))) g.types h own in
      let same : from.0 ≡ found.0 = let first = found.1 in let second = from.1 in cc in
      let one : Contains (t ∷ []) j = subst (λ ids. Contains ids j) (ap (λ (d : TypeDef). referred d.kind) same ∙ ap referred found.2.2) from.2 in
      elim (Contains-cons_cases t j [] one) [ inl is ↦ sym is | inr none ↦ absurd (Contains-nil none) ]

  -- what a new image refers to
  record Reference (k : K) (t j : ℕ) : Type 0 where
    u : ℕ
    takes : (at k).types u ≡ true
    goes_to : RemapsTo (at k).maps u j
    falls : rank k u < rank k t

  image_refers : (k : K) (t i j : ℕ) → (at k).types t ≡ true → i ≡ (at k).maps.types t → length old ≤ i → Contains (direct (type_references g.types) i) j → Reference k t j
  image_refers k t i j takes place past has =
      let s = at k in
      let def = get_at s.graph.types t ((closed k).in_range t takes) in
      let new_place : length old ≤ s.maps.types t = omega arith in
      let from = from_row row g.types i j has in
      let found = found_at (λ (new : TypeDef). RefersUnder s.maps (referred def.0.kind) (referred new.kind)) g.types (s.maps.types t) (grow.carried k t def.0 def.1 takes new_place) in
      let same : from.0 ≡ found.0 = let first = found.1 in let second = from.1 in cc in
      let reference = found.2 j (subst (λ (d : TypeDef). Contains (referred d.kind) j) same from.2) in
      record {
        u = reference.0;
        takes = (closed k).references t def.0 def.1 takes reference.0 reference.1;
        goes_to = reference.2;
        falls = grow.falls k t reference.0 def.0 def.1 takes new_place reference.1;
      }

  -- a new type's references go down
  down : (i r j : ℕ) → length (type_references old) ≤ i → Rank i r → Contains (direct (type_references g.types) i) j → (j < length (type_references old)) ⊎ ((s : ℕ) × Rank j s × (s < r))
  down i r j past (inl image) has =
      let long = length-map old row in
      let reference = image_refers image.source image.t i j image.takes image.place (omega arith) has in
      elim (goes image.source reference.u j reference.takes reference.goes_to) [
        | inl before ↦ inl (omega arith)
        | inr ranked ↦ let falls = reference.falls in let is = image.is in let bound = ranked.2 in inr (ranked.0, ranked.1, omega arith)
      ]
  down i r j past (inr own) has =
      let is = own.is in
      inr (
        rank own.source own.t + rank own.source own.t,
        inl (record { source = own.source; t = own.t; takes = own.takes; place = own_refers i ((at own.source).maps.types own.t) j own.own has; is = refl }),
        omega arith,
      )

  has_rank : (i : ℕ) (new : TypeDef) → slice_get g.types i ≡ Some new → (r : ℕ) × Rank i r
  has_rank i new there =
      elim (covered.types i new there refl) [
        | inl comes ↦ (rank comes.source comes.t + rank comes.source comes.t, inl (record { source = comes.source; t = comes.t; takes = comes.takes; place = comes.place; is = refl }))
        | inr own ↦ (
          rank own.source own.t + rank own.source own.t + 1,
          inr (record {
            source = own.source;
            t = own.t;
            takes = own.takes;
            own = some_at (λ (def : TypeDef). (def.name ≡ None) × (def.owner ≡ owner.None) × (def.kind ≡ kind.Handle (Own ((at own.source).maps.types own.t)))) g.types i new there (own.name, own.owner, own.kind);
            is = refl;
          }),
        )
      ]

  stays : (i j : ℕ) → i < length (type_references old) → Contains (direct (type_references g.types) i) j → Contains (direct (type_references old) i) j
  stays i j before has =
      let long = length-map old row in
      let from = from_row row g.types i j has in
      in_row row old i from.0 j (grow.kept i from.0 (omega arith) from.1) from.2

  there : (k : K) (u j : ℕ) → (at k).types u ≡ true → RemapsTo (at k).maps u j → j < length (type_references g.types)
  there k u j takes goes_to =
      let long = length-map g.types row in
      let within = in_target (at k) g (closed k) (carries k) u j (over_goes (at k) g (closed k) (carries k) u j takes goes_to) in
      omega arith

  in_range : IsAcyclic (type_references old) → (i j : ℕ) → Contains (direct (type_references g.types) i) j → j < length (type_references g.types)
  in_range acyclic i j has =
      let long = length-map g.types row in
      let long_old = length-map old row in
      let longer = grow.longer in
      elim (cases_lt i (length old)) [
        | inl before ↦
            let edge = stays i j (omega arith) has in
            let within : j < length (type_references old) = All-contains (λ x. x < length (type_references old)) (direct (type_references old) i) j (acyclic.in_range i) edge in
            omega arith
        | inr past ↦
            let from = from_row row g.types i j has in
            let ranked = has_rank i from.0 from.1 in
            elim ranked.1 [
              | inl image ↦ let reference = image_refers image.source image.t i j image.takes image.place past has in there image.source reference.u j reference.takes reference.goes_to
              | inr own ↦ there own.source own.t j own.takes (inl (own_refers i ((at own.source).maps.types own.t) j own.own has))
            ]
      ]

  pub types_acyclic : IsAcyclic (type_references old) → IsAcyclic (type_references g.types)
  types_acyclic acyclic = IsAcyclic-grown Rank (type_references old) (type_references g.types) acyclic (record {
    in_range = λ i k d below. in_range acyclic i (get_or (direct (type_references g.types) i) k d) (Contains-get_or (direct (type_references g.types) i) k d below);
    stays = stays;
    ranked = λ i past j has. let from = from_row row g.types i j has in has_rank i from.0 from.1;
    down = down;
  })
