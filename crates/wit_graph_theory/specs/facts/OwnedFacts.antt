-- What is an owner's own in a source is the new owner's own in the target: whatever is reached through
-- unnamed types there stands over something that was reached in the source.
use Rattle.std.proofs.Common.{◌≡◌, ◌∙◌, ◌⊎◌, inl, inr, ℕ, ◌<◌, true, List, [], ◌∷◌, Option, None, Some, option_map, slice_get, refl, sym, ap, subst, arith, Contains, IsSome, length, is_some, if◌then◌else◌}
use Rattle.std.proofs.lemmas.Option.{slice_get_within}
use Rattle.wit_digraph.specs.facts.MemberFacts.{Contains-cons_cases, Contains-nil}
use Rattle.wit_digraph.specs.Relation.{Reaches, direct}
use Rattle.wit_data.specs.Each.{SomeAt}
use Rattle.wit_data.specs.Ownership.{IsOwn, through_unnamed}
use Rattle.wit_data.specs.Kind.{referred}
use Rattle.wit_data.specs.declared.types.Handle.TheVariants.{Own}
use Rattle.wit_data.specs.declared.types.TypeDef.{TypeDef}
use Rattle.wit_data.specs.declared.types.TypeOwner.{TypeOwner}
use Rattle.wit_data.specs.declared.types.TypeDefKind.TheVariants as kind
use Rattle.wit_data.specs.declared.types.TypeOwner.TheVariants as owner
use Rattle.wit_graph_data.specs.declared.graph.Graph.{Graph}
use Rattle.wit_remap_spec.specs.Image.{name_image, owner_image}
use Rattle.wit_graph_theory.specs.facts.Referred.{RefersUnder, RemapsTo}
use Rattle.wit_graph_theory.specs.steps.Sources.{Carries, IsClosed, IsOwnOf, Source, Stands, TakePart}
use Rattle.wit_graph_theory.specs.facts.ListFacts.{found_at, from_row, get_at, in_row, some_at}
use Rattle.wit_graph_theory.specs.facts.OptionFacts.{none_or_some}
use Rattle.wit_graph_theory.specs.facts.RowFacts.{Reaches-self, Reaches-use, lifted}

-- what a type refers to if it has no name
abbrev pub row : TypeDef → List ℕ
row def = if is_some def.name then [] else referred def.kind

pub row_from : (name : Option (List ℕ)) (ids : List ℕ) (k : ℕ) → Contains (if is_some name then [] else ids) k → (name ≡ None) × Contains ids k
row_from None ids k has = (refl, has)
row_from (Some name) ids k has = absurd (Contains-nil has)

pub row_into : (name : Option (List ℕ)) (ids : List ℕ) (k : ℕ) → name ≡ None → Contains ids k → Contains (if is_some name then [] else ids) k
row_into None ids k none has = has
row_into (Some name) ids k none has = cc

-- an image has no name only if the old one has none
pub none_from : (f : List ℕ → List ℕ) (old new : Option (List ℕ)) → new ≡ option_map f old → new ≡ None → old ≡ None
none_from f None new is none = refl
none_from f (Some name) new is none = cc

pub some_from : (f : List ℕ → List ℕ) (old new : Option (List ℕ)) → new ≡ option_map f old → IsSome new → IsSome old
some_from f None new is some = subst IsSome is some
some_from f (Some name) new is some = refl

module _ (s : Source) (g : Graph) (closed : IsClosed s) (carries : Carries s g) where
  -- t' is the image of type t, or an `own` of it
  pub record Over (t t' : ℕ) : Type 0 where
    pub def : TypeDef
    pub there : slice_get s.graph.types t ≡ Some def
    pub takes : s.types t ≡ true
    pub is : (t' ≡ s.maps.types t) ⊎ (IsSome def.name × IsOwnOf g.types t' (s.maps.types t))

  -- what a type is remapped to is over it
  pub over_goes : (t t' : ℕ) → s.types t ≡ true → RemapsTo s.maps t t' → Over t t'
  over_goes t t' takes goes =
      let at = get_at s.graph.types t (closed.in_range t takes) in
      record {
        def = at.0;
        there = at.1;
        takes = takes;
        is = elim goes [
          | inl image ↦ inl image
          | inr value ↦
              elim (carries.values t at.0 at.1 takes) [
                | inl same ↦ inl (value ∙ same)
                | inr own ↦ inr (own.0, subst (λ (h : ℕ). IsOwnOf g.types h (s.maps.types t)) (sym value) own.1)
              ]
        ];
      }

  image_step : (t t' u' : ℕ) (over : Over t t') → t' ≡ s.maps.types t → Contains (direct (through_unnamed g.types) t') u'
      → (u : ℕ) × Over u u' × Reaches (through_unnamed s.graph.types) t u
  image_step t t' u' over place has =
      let from = from_row row g.types t' u' has in
      let named = row_from from.0.name (referred from.0.kind) u' from.2 in
      let found = found_at (Stands s.maps over.def) g.types (s.maps.types t) (carries.types t over.def over.there over.takes) in
      let same : found.0 ≡ from.0 = let at = found.1 in let at' = from.1 in cc in
      let stands : Stands s.maps over.def from.0 = subst (Stands s.maps over.def) same found.2 in
      let none : over.def.name ≡ None = none_from (name_image s.maps over.def.owner) over.def.name from.0.name stands.name named.0 in
      let old = stands.through none u' named.1 in
      let takes : s.types old.0 ≡ true = closed.references t over.def over.there over.takes old.0 old.1 in (
        old.0,
        over_goes old.0 u' takes old.2,
        Reaches-use (through_unnamed s.graph.types) t old.0 (in_row row s.graph.types t over.def old.0 over.there (row_into over.def.name (referred over.def.kind) old.0 none old.1)),
      )

  own_step : (t t' u' : ℕ) (over : Over t t') → IsOwnOf g.types t' (s.maps.types t) → Contains (direct (through_unnamed g.types) t') u'
      → (u : ℕ) × Over u u' × Reaches (through_unnamed s.graph.types) t u
  own_step t t' u' over own has =
      let from = from_row row g.types t' u' has in
      let found = found_at (λ (def : TypeDef). (def.name ≡ None) × (def.owner ≡ owner.None) × (def.kind ≡ kind.Handle (Own (s.maps.types t)))) g.types t' own in
      let same : from.0 ≡ found.0 = let at = found.1 in let at' = from.1 in cc in
      let held : Contains (referred from.0.kind) u' = (row_from from.0.name (referred from.0.kind) u' from.2).1 in
      let one : Contains (s.maps.types t ∷ []) u' = subst (λ ids. Contains ids u') (ap (λ (d : TypeDef). referred d.kind) same ∙ ap referred found.2.2) held in
      elim (Contains-cons_cases (s.maps.types t) u' [] one) [
        | inl is ↦ (t, over_goes t u' over.takes (inl (sym is)), Reaches-self (through_unnamed s.graph.types) t)
        | inr none ↦ absurd (Contains-nil none)
      ]

  step : (t t' u' : ℕ) → Over t t' → Contains (direct (through_unnamed g.types) t') u' → (u : ℕ) × Over u u' × Reaches (through_unnamed s.graph.types) t u
  step t t' u' over has = elim over.is [ inl place ↦ image_step t t' u' over place has | inr own ↦ own_step t t' u' over own.1 has ]

  -- a named type over another is its image, and has the owner's image
  named_over : (t t' : ℕ) (by : TypeOwner) → Over t t' → SomeAt g.types t' (λ (def : TypeDef). IsSome def.name × (def.owner ≡ by))
      → (old : TypeOwner) × (owner_image s.maps old ≡ by) × SomeAt s.graph.types t (λ (def : TypeDef). IsSome def.name × (def.owner ≡ old))
  named_over t t' by over shown =
      let here = found_at (λ (def : TypeDef). IsSome def.name × (def.owner ≡ by)) g.types t' shown in
      elim over.is [
        | inl place ↦
            let found = found_at (Stands s.maps over.def) g.types (s.maps.types t) (carries.types t over.def over.there over.takes) in
            let same : found.0 ≡ here.0 = let at = found.1 in let at' = here.1 in cc in
            let stands : Stands s.maps over.def here.0 = subst (Stands s.maps over.def) same found.2 in
            let named : IsSome over.def.name = some_from (name_image s.maps over.def.owner) over.def.name here.0.name stands.name here.2.0 in (
              over.def.owner,
              sym stands.owner ∙ here.2.1,
              some_at (λ (def : TypeDef). IsSome def.name × (def.owner ≡ over.def.owner)) s.graph.types t over.def over.there (named, refl),
            )
        | inr own ↦
            let found = found_at (λ (def : TypeDef). (def.name ≡ None) × (def.owner ≡ owner.None) × (def.kind ≡ kind.Handle (Own (s.maps.types t)))) g.types t' own.1 in
            let same : found.0 ≡ here.0 = let at = found.1 in let at' = here.1 in cc in
            absurd (none_or_some here.0.name (ap (λ (d : TypeDef). d.name) (sym same) ∙ found.2.0) here.2.0)
      ]

  pub in_target : (t t' : ℕ) → Over t t' → t' < length g.types
  in_target t t' over =
      elim over.is [
        | inl place ↦
            let found = found_at (Stands s.maps over.def) g.types (s.maps.types t) (carries.types t over.def over.there over.takes) in
            let within = slice_get_within g.types (s.maps.types t) found.0 found.1 in
            omega arith
        | inr own ↦
            let found = found_at (λ (def : TypeDef). (def.name ≡ None) × (def.owner ≡ owner.None) × (def.kind ≡ kind.Handle (Own (s.maps.types t)))) g.types t' own.1 in
            slice_get_within g.types t' found.0 found.1
      ]

  -- what is an owner's own is the new owner's at its place
  pub own_over : (by : TypeOwner) (t t' : ℕ) → IsOwn s.graph.types by t → Over t t' → IsOwn g.types (owner_image s.maps by) t'
  own_over by t t' own over = record {
    there = in_target t t' over;
    only = λ other shows.
        let below = lifted (through_unnamed s.graph.types) (through_unnamed g.types) Over step t t' shows.0 over shows.1 in
        let from = named_over below.0 shows.0 other below.1 shows.2 in
        sym from.1 ∙ ap (owner_image s.maps) (own.only from.0 (below.0, below.2, from.2));
  }

  -- so for all that is referred to
  pub owns_refer : (by : TypeOwner) (old new : List ℕ) → TakePart s old → ((t : ℕ) → Contains old t → IsOwn s.graph.types by t) → RefersUnder s.maps old new
      → (t' : ℕ) → Contains new t' → IsOwn g.types (owner_image s.maps by) t'
  owns_refer by old new takes owns refers t' has =
      let from = refers t' has in
      own_over by from.0 t' (owns from.0 from.1) (over_goes from.0 t' (takes from.0 from.1) from.2)
