-- Types of some owners, and what they refer to: types of the same owners, or of interfaces with names.
use Rattle.std.proofs.Common.{◌≡◌, ◌∙◌, ◌⊎◌, inl, inr, ℕ, ◌<◌, List, [], ◌∷◌, Option, None, Some, slice_get, refl, sym, ap, subst, arith, Contains, IsSome, length, is_some, if◌then◌else◌}
use Rattle.std.proofs.lemmas.List.{length-map}
use Rattle.std.proofs.lemmas.List.Elements.{All-contains}
use Rattle.std.proofs.lemmas.Option.{slice_get_within}
use Rattle.wit_digraph.specs.facts.MemberFacts.{Contains-cons_cases, Contains-nil}
use Rattle.wit_digraph.specs.Relation.{IsPath, Reaches, direct}
use Rattle.wit_data.specs.Each.{SomeAt}
use Rattle.wit_data.specs.Ownership.{IsNamedInterface, IsOwn, is_no_target, through_unnamed}
use Rattle.wit_data.specs.facts.KindFacts.{roles_are}
use Rattle.wit_data.specs.Kind.{referred, type_references}
use Rattle.wit_data.specs.facts.ReferenceFacts.{all_referred}
use Rattle.wit_data.specs.Uses.{alias_target}
use Rattle.wit_data.specs.declared.kind.PartRole.TheVariants.{Value}
use Rattle.wit_data.specs.declared.types.Handle.TheVariants as handle
use Rattle.wit_data.specs.declared.types.TypeDef.{TypeDef}
use Rattle.wit_data.specs.declared.types.TypeDefKind.{TypeDefKind}
use Rattle.wit_data.specs.declared.types.TypeOwner.{TypeOwner}
use Rattle.wit_data.specs.declared.types.TypeDefKind.TheVariants as kind
use Rattle.wit_data.specs.declared.types.Type_.TheVariants as type
use Rattle.wit_graph_data.specs.declared.graph.Graph.{Graph}
use Rattle.wit_graph_theory.specs.facts.GoodTypes.{IsAliased, from_if}
use Rattle.wit_graph_theory.specs.facts.ListFacts.{found_at, from_row, in_row, place_of, same_at, some_at}
use Rattle.wit_graph_theory.specs.facts.OwnedFacts.{row_into}
use Rattle.wit_link_spec.specs.facts.PartiallyLinked.{IsSoundSoFar}
use Rattle.wit_data.specs.steps.Parts.{parts}

-- ---- kinds and names

-- what a kind refers to is a part of it, or what it names as an alias
referred_is : (k : TypeDefKind) (u : ℕ) → Contains (referred k) u → (alias_target k ≡ Some u) ⊎ Contains (parts k) u
referred_is (kind.Type_ (type.Id x)) u has = elim (Contains-cons_cases x u [] has) [ inl same ↦ inl (ap Some same) | inr none ↦ absurd (Contains-nil none) ]
referred_is (kind.Type_ other) u has = absurd (Contains-nil has)
referred_is (kind.Handle (handle.Own t)) u has = inr has
referred_is (kind.Handle (handle.Borrow t)) u has = inr has
referred_is other u has = inr (subst (λ (ids : List ℕ). Contains ids u) (sym (all_referred is_no_target other Value (roles_are other) refl)) has)

some_or_none : {X : Type 0} (o : Option X) → IsSome o ⊎ (o ≡ None)
some_or_none None = inr refl
some_or_none (Some x) = inl refl

row_named : (name : Option (List ℕ)) (ids : List ℕ) (k : ℕ) → IsSome name → Contains (if is_some name then [] else ids) k → ⊥
row_named None ids k some has = cc
row_named (Some name) ids k some has = Contains-nil has

-- ---- types of some owners

module _ (g : Graph) (stands : IsSoundSoFar g) where
  -- a type with a name is its owner's
  pub own_named : (t : ℕ) (def : TypeDef) → slice_get g.types t ≡ Some def → IsSome def.name → IsOwn g.types def.owner t
  own_named t def at named = record {
    there = slice_get_within g.types t def at;
    only = λ other shows. only other shows.0 shows.1.0 shows.1.1 shows.2;
  }
    where
      only : (other : TypeOwner) (r : ℕ) (path : List ℕ) → IsPath (through_unnamed g.types) t path r → SomeAt g.types r (λ (d : TypeDef). IsSome d.name × (d.owner ≡ other)) → other ≡ def.owner
      only other r [] same is =
          let found = found_at (λ (d : TypeDef). IsSome d.name × (d.owner ≡ other)) g.types r is in
          let one = same_at g.types t r def found.0 same at found.1 in
          sym found.2.1 ∙ ap (λ (d : TypeDef). d.owner) (sym one)
      only other r (x ∷ path) leads is =
          let from = from_row (λ (d : TypeDef). if is_some d.name then [] else referred d.kind) g.types t x leads.0 in
          let one = same_at g.types t t def from.0 refl at from.1 in
          absurd (row_named from.0.name (referred from.0.kind) x (subst (λ (d : TypeDef). IsSome d.name) one named) from.2)

  -- and of no other
  pub owner_of_own : (t : ℕ) (def : TypeDef) (by : TypeOwner) → slice_get g.types t ≡ Some def → IsSome def.name → IsOwn g.types by t → def.owner ≡ by
  owner_of_own t def by at named own = own.only def.owner (t, ([], refl), some_at (λ (d : TypeDef). IsSome d.name × (d.owner ≡ def.owner)) g.types t def at (named, refl))

  -- type t is of one of some owners, or has no name and refers through such ones to types of one of them alone
  pub record IsAmong (Q : TypeOwner → Type 0) (t : ℕ) : Type 0 where
    pub by : TypeOwner
    pub is : Q by
    pub own : IsOwn g.types by t

  module _ (Q : TypeOwner → Type 0) (named_in : (by : TypeOwner) → IsNamedInterface g.interfaces by → Q by) where
    aliased : (by : TypeOwner) (u : ℕ) → Q by → IsAliased g.types g.interfaces by u → IsAmong Q u
    aliased by u is target =
        let found = found_at (λ (named : TypeDef). IsSome named.name × ((named.owner ≡ by) ⊎ IsNamedInterface g.interfaces named.owner)) g.types u target in
        record {
          by = found.0.owner;
          is = elim found.2.1 [ inl same ↦ subst Q (sym same) is | inr other ↦ named_in found.0.owner other ];
          own = own_named u found.0 found.1 found.2.0;
        }

    -- what such a type refers to is such a type
    pub among_step : (t u : ℕ) (def : TypeDef) → slice_get g.types t ≡ Some def → Contains (referred def.kind) u → IsAmong Q t → IsAmong Q u
    among_step t u def at has among = elim (some_or_none def.name) [
      | inl named ↦
          let good = stands.items.types t def at in
          let by : def.owner ≡ among.by = owner_of_own t def among.by at named among.own in
          elim (referred_is def.kind u has) [
            | inl alias ↦ aliased def.owner u (subst Q (sym by) among.is) (from_if (IsAliased g.types g.interfaces def.owner) (alias_target def.kind) u good.alias alias)
            | inr part ↦ let place = place_of (parts def.kind) u part in record { by = among.by; is = among.is; own = subst (λ (o : TypeOwner). IsOwn g.types o u) by (good.own named place.0 u place.1) }
          ]
      | inr none ↦
          record {
            by = among.by;
            is = among.is;
            own = record {
              there = within;
              only = λ other shows. among.own.only other (shows.0, (u ∷ shows.1.0, (in_row (λ (d : TypeDef). if is_some d.name then [] else referred d.kind) g.types t def u at (row_into def.name (referred def.kind) u none has), shows.1.1)), shows.2);
            };
          }
    ]
      where
        within : u < length g.types
        within =
            let edge = in_row (λ (d : TypeDef). referred d.kind) g.types t def u at has in
            let below : u < length (type_references g.types) = All-contains (λ x. x < length (type_references g.types)) (direct (type_references g.types) t) u (stands.references.in_range t) edge in
            omega (arith, below, length-map g.types (λ (d : TypeDef). referred d.kind))

    among_path : (t : ℕ) (path : List ℕ) (r : ℕ) → IsPath (type_references g.types) t path r → IsAmong Q t → IsAmong Q r
    among_path t [] r same among = subst (IsAmong Q) same among
    among_path t (u ∷ path) r leads among =
        let from = from_row (λ (d : TypeDef). referred d.kind) g.types t u leads.0 in
        among_path u path r leads.1 (among_step t u from.0 from.1 from.2 among)

    -- and so is all that it reaches
    pub among_reached : (t r : ℕ) → Reaches (type_references g.types) t r → IsAmong Q t → IsAmong Q r
    among_reached t r reaches among = among_path t reaches.0 r reaches.1 among
