-- Which types hold a borrow, one type at a time.
use Rattle.std.proofs.Common.{◌≡◌, ◌∙◌, inl, inr, ℕ, true, false, List, None, Some, slice_get, refl, sym, subst}
use Rattle.std.proofs.lemmas.Bool.{false≢true, ltb-true}
use Rattle.wit_digraph.specs.Relation.{Reaches}
use Rattle.wit_data.specs.Shape.{IsShaped}
use Rattle.wit_data.specs.declared.types.Handle.TheVariants.{Borrow}
use Rattle.wit_data.specs.declared.types.TypeDef.{TypeDef}
use Rattle.wit_data.specs.declared.types.TypeDefKind.{TypeDefKind}
use Rattle.wit_data.specs.declared.types.TypeDefKind.TheVariants as kind
use Rattle.wit_graph_data.specs.Queries.{type_contents}
use Rattle.wit_graph_theory.specs.facts.ListFacts.{found_at, same_at, some_at}
use Rattle.wit_link_spec.specs.Addition.{Addition}
use Rattle.wit_link_spec.specs.Lookup.{is_foreign_type}
use Rattle.wit_remap_spec.specs.Borrows.{HoldsBorrow}
use Rattle.wit_link_resources.specs.steps.Borrows.{IsBorrowThere}
use Rattle.wit_link_resources.proofs.Searching.{ReachesBad}
use Rattle.wit_link_resources.proofs.Where.{foreign_back, found_is_foreign, found_on}
use Rattle.wit_remap_spec.specs.steps.Parts.{IsBorrow}
use Rattle.wit_link_spec.specs.steps.Parts.{MayHoldBorrow, active_type_id}

-- the kind is a borrow
abbrev pub IsBorrowKind : TypeDefKind → Type 0
IsBorrowKind k = (r : ℕ) × (k ≡ kind.Handle (Borrow r))

module _ (types : List TypeDef) (t : ℕ) (def : TypeDef) (at : slice_get types t ≡ Some def) where
  pub borrow_here : IsBorrowKind def.kind → IsBorrow types t
  borrow_here is = some_at (λ (d : TypeDef). IsBorrowKind d.kind) types t def at is

  pub borrow_back : IsBorrow types t → IsBorrowKind def.kind
  borrow_back is =
      let found = found_at (λ (d : TypeDef). IsBorrowKind d.kind) types t is in
      subst (λ (d : TypeDef). IsBorrowKind d.kind) (same_at types t t found.0 def refl found.1 at) found.2

module _ (a : Addition) (shaped : IsShaped a.unresolved) where
  -- a type of another package is no borrow itself
  foreign_none : (t : ℕ) → is_foreign_type a.unresolved t ≡ true → IsBorrow a.unresolved.types t → ⊥
  foreign_none t foreign is =
      let found = found_at (λ (d : TypeDef). IsBorrowKind d.kind) a.unresolved.types t is in
      let unknown : found.0.kind ≡ kind.Unknown = (shaped.unknown.first.1 t found.0 found.1).1 (ltb-true t _ foreign) in
      let handle = found.2.1 in
      cc

  -- one that goes to the graph
  pub there_found : (t t' : ℕ) → is_foreign_type a.unresolved t ≡ true → active_type_id a t ≡ Some t' → HoldsBorrow a.graph.types t' → IsBorrowThere a t
  there_found t t' foreign goes holds = let back = foreign_back a shaped t t' foreign goes in inr (t', back.0, back.1, holds)

  pub found_there : (t t' : ℕ) → is_foreign_type a.unresolved t ≡ true → active_type_id a t ≡ Some t' → IsBorrowThere a t → HoldsBorrow a.graph.types t'
  found_there t t' foreign goes (inl is) = absurd (foreign_none t foreign is)
  found_there t t' foreign goes (inr is) =
      let other : active_type_id a t ≡ Some is.0 = found_on a shaped t is.0 is.1 is.2 in
      let same : is.0 ≡ t' = cc in
      subst (HoldsBorrow a.graph.types) same is.3

  -- one that isn't remapped
  pub nowhere_none : (t : ℕ) → is_foreign_type a.unresolved t ≡ true → active_type_id a t ≡ None → IsBorrowThere a t → ⊥
  nowhere_none t foreign none (inl is) = foreign_none t foreign is
  nowhere_none t foreign none (inr is) = let other : active_type_id a t ≡ Some is.0 = found_on a shaped t is.0 is.1 is.2 in cc

  -- an own one
  pub own_back : (t : ℕ) (def : TypeDef) → slice_get a.unresolved.types t ≡ Some def → is_foreign_type a.unresolved t ≡ false → IsBorrowThere a t → IsBorrowKind def.kind
  own_back t def at its (inl is) = borrow_back a.unresolved.types t def at is
  own_back t def at its (inr is) = absurd (false≢true (sym its ∙ found_is_foreign a shaped t is.0 is.2))

-- ---- what is reached

module _ (a : Addition) (t : ℕ) where
  pub may_hold : ReachesBad (type_contents a.unresolved.types) (IsBorrowThere a) t → MayHoldBorrow a t
  may_hold reached = by reached.0 reached.1 reached.2
    where
      by : (b : ℕ) → Reaches (type_contents a.unresolved.types) t b → IsBorrowThere a b → MayHoldBorrow a t
      by b on (inl is) = inl (b, on, is)
      by b on (inr is) = inr (b, is.0, on, is.1, is.2, is.3)

  pub may_hold_back : MayHoldBorrow a t → ReachesBad (type_contents a.unresolved.types) (IsBorrowThere a) t
  may_hold_back (inl own) = (own.0, own.1, inl own.2)
  may_hold_back (inr other) = (other.0, other.2, inr (other.1, other.3, other.4, other.5))
