-- The clauses of the shape in their order, and the shape of them.
use Rattle.std.proofs.Common.{◌≡◌, ◌∙◌, ℕ, zero, suc, ◌<◌, ◌+◌, ◌⊎◌, inl, inr, List, [], ◌∷◌, get_or, length, Option, None, Some, slice_get, refl, ap, sym, subst, lit<, arith}
use Rattle.std.proofs.lemmas.Option.{get_or_from_slice_get, slice_get_within}
use Rattle.wit_data.specs.Shape.{IsShaped, KeysDiffer}
use Rattle.wit_data.specs.declared.unresolved.UnresolvedPackage.{UnresolvedPackage}
use Rattle.wit_shape.specs.Faults.{Holds, IsBefore, IsFirstFault, KeepsBefore, Tells, clauses}
use Rattle.wit_shape.specs.declared.clause.ShapeClause.{ShapeClause}
use Rattle.wit_shape.specs.declared.place.ShapePlace.{ShapePlace}
use Rattle.wit_shape.specs.declared.clause.ShapeClause.TheVariants as clause

-- the number of a clause is its place
abbrev pub number : ShapeClause → ℕ
number clause.UnplacedInterfaces = 0
number clause.UnplacedWorlds = 1
number clause.ForeignSpans = 2
number clause.ForeignInterfaces = 3
number clause.ForeignWorlds = 4
number clause.ForeignBare = 5
number clause.UnknownFirst = 6
number clause.UnknownForeign = 7
number clause.UnknownAlone = 8
number clause.UnknownRequired = 9
number clause.NamesNamespace = 10
number clause.NamesOwn = 11
number clause.NamesInterfaces = 12
number clause.NamesWorlds = 13
number clause.NamesVersion = 14
number clause.NamesInterfacesDiffer = 15
number clause.NamesWorldsDiffer = 16
number clause.OwnersListed = 17
number clause.OwnersOwnTypes = 18
number clause.OwnersFunctions = 19
number clause.ReferencesEarlier = 20
number clause.ReferencesAliases = 21
number clause.ReferencesUnnamed = 22
number clause.OwnTypes = 23
number clause.OwnFunctions = 24
number clause.OwnImports = 25
number clause.OwnExports = 26
number clause.WorldsImports = 27
number clause.WorldsExports = 28
number clause.WorldsOnce = 29
number clause.WorldsIncludes = 30
number clause.Uses = 31

-- each stands at its number
abbrev AreNumbered : ℕ → List ShapeClause → Type 0
AreNumbered n [] = Unit {0}
AreNumbered n (c ∷ cs) = (number c ≡ n) × AreNumbered (n + 1) cs

numbered_from : (n : ℕ) (cs : List ShapeClause) → AreNumbered n cs → (i : ℕ) (d : ShapeClause) → i < length cs → number (get_or cs i d) ≡ n + i
numbered_from n [] are i d within = absurd (omega arith)
numbered_from n (c ∷ cs) are zero d within = let same : n ≡ n + 0 = omega arith in are.0 ∙ same
numbered_from n (c ∷ cs) are (suc i) d within = let more = numbered_from (n + 1) cs are.1 i d (omega arith) in omega arith

numbered : (i : ℕ) (d : ShapeClause) → i < 32 → number (get_or clauses i d) ≡ i
numbered i d within = let is = numbered_from 0 clauses (refl, (refl, (refl, (refl, (refl, (refl, (refl, (refl, (refl, (refl, (refl, (refl, (refl, (refl, (refl, (refl, (refl, (refl, (refl, (refl, (refl, (refl, (refl, (refl, (refl, (refl, (refl, (refl, (refl, (refl, (refl, (refl, tt)))))))))))))))))))))))))))))))) i d within in omega arith

-- each clause stands at its number
stands : (c : ShapeClause) → slice_get clauses (number c) ≡ Some c
stands clause.UnplacedInterfaces = refl
stands clause.UnplacedWorlds = refl
stands clause.ForeignSpans = refl
stands clause.ForeignInterfaces = refl
stands clause.ForeignWorlds = refl
stands clause.ForeignBare = refl
stands clause.UnknownFirst = refl
stands clause.UnknownForeign = refl
stands clause.UnknownAlone = refl
stands clause.UnknownRequired = refl
stands clause.NamesNamespace = refl
stands clause.NamesOwn = refl
stands clause.NamesInterfaces = refl
stands clause.NamesWorlds = refl
stands clause.NamesVersion = refl
stands clause.NamesInterfacesDiffer = refl
stands clause.NamesWorldsDiffer = refl
stands clause.OwnersListed = refl
stands clause.OwnersOwnTypes = refl
stands clause.OwnersFunctions = refl
stands clause.ReferencesEarlier = refl
stands clause.ReferencesAliases = refl
stands clause.ReferencesUnnamed = refl
stands clause.OwnTypes = refl
stands clause.OwnFunctions = refl
stands clause.OwnImports = refl
stands clause.OwnExports = refl
stands clause.WorldsImports = refl
stands clause.WorldsExports = refl
stands clause.WorldsOnce = refl
stands clause.WorldsIncludes = refl
stands clause.Uses = refl

listed : (c : ShapeClause) → get_or clauses (number c) clause.Uses ≡ c
listed c = get_or_from_slice_get clauses (number c) c clause.Uses (stands c)

-- clauses of one number are one
pub same_clause : (c d : ShapeClause) → number c ≡ number d → c ≡ d
same_clause c d same = sym (listed c) ∙ ap (λ n. get_or clauses n clause.Uses) same ∙ listed d

-- a clause that stands at a place has its number
numbered_at : (c : ShapeClause) (i : ℕ) → slice_get clauses i ≡ Some c → number c ≡ i
numbered_at c i at =
    let within : i < 32 = slice_get_within clauses i c at in
    let here : get_or clauses i c ≡ c = get_or_from_slice_get clauses i c c at in
    ap number (sym here) ∙ numbered i c within

-- one that stands before another has the smaller number
pub less_before : (a b : ShapeClause) → IsBefore a b → number a < number b
less_before a b before =
    let first = numbered_at a before.0 before.2.1 in
    let second = numbered_at b before.1 before.2.2 in
    let less : before.0 < before.1 = before.2.0 in
    omega arith

-- so who keeps those of a smaller number keeps those before it
pub keeps_before : (p : UnresolvedPackage) (c : ShapeClause) → ((other : ShapeClause) → number other < number c → Holds p other) → KeepsBefore p c
keeps_before p c keeps other before = keeps other (less_before other c before)

-- of two clauses one stands before the other, or they are one
pub before_or_same : (a b : ShapeClause) → IsBefore a b ⊎ (IsBefore b a ⊎ (a ≡ b))
before_or_same a b = by (less_or (number a) (number b))
  where
    less_or : (m n : ℕ) → (m < n) ⊎ ((n < m) ⊎ (m ≡ n))
    less_or m n = grind arith

    by : (number a < number b) ⊎ ((number b < number a) ⊎ (number a ≡ number b)) → IsBefore a b ⊎ (IsBefore b a ⊎ (a ≡ b))
    by (inl less) = inl (number a, number b, (less, stands a, stands b))
    by (inr (inl more)) = inr (inl (number b, number a, (more, stands b, stands a)))
    by (inr (inr same)) = inr (inr (same_clause a b same))

-- the first clauses, by their numbers
pub keeps_below : (p : UnresolvedPackage) (n : ℕ) → ((i : ℕ) → i < n → Holds p (get_or clauses i clause.Uses)) → (other : ShapeClause) → number other < n → Holds p other
keeps_below p n holds other less = subst (Holds p) (listed other) (holds (number other) less)

-- ---- one clause after another
module _ (p : UnresolvedPackage) (i : ℕ) (d : ShapeClause) (within : i < 32) (keeps : (other : ShapeClause) → number other < i → Holds p other) where
  pub before : KeepsBefore p (get_or clauses i d)
  before other stands_before = keeps other (subst (λ n. number other < n) (numbered i d within) (less_before other (get_or clauses i d) stands_before))

  pub first : (found : Option ShapePlace) (at : ShapePlace) → Tells p (get_or clauses i d) found → found ≡ Some at → IsFirstFault p (record { clause = get_or clauses i d; place = at })
  first found at told is = record { before = before; breaks = subst (Tells p (get_or clauses i d)) is told }

  pub one_more : (found : Option ShapePlace) → Tells p (get_or clauses i d) found → found ≡ None → (other : ShapeClause) → number other < i + 1 → Holds p other
  one_more found told is other less =
      elim (earlier_or (number other) i less) [
        | inl earlier ↦ keeps other earlier
        | inr same ↦ subst (Holds p) (same_clause (get_or clauses i d) other (numbered i d within ∙ sym same)) (subst (Tells p (get_or clauses i d)) is told)
      ]
    where
      earlier_or : (a b : ℕ) → a < b + 1 → (a < b) ⊎ (a ≡ b)
      earlier_or a b below = grind arith

-- a package that keeps them all has its shape
pub shaped : (p : UnresolvedPackage) → KeysDiffer p → ((c : ShapeClause) → number c < 32 → Holds p c) → IsShaped p
shaped p keys holds = record {
  keys = keys;
  unplaced = record { interfaces = holds clause.UnplacedInterfaces (lit< tt); worlds = holds clause.UnplacedWorlds (lit< tt) };
  foreign = record { spans = holds clause.ForeignSpans (lit< tt); interfaces = holds clause.ForeignInterfaces (lit< tt); worlds = holds clause.ForeignWorlds (lit< tt); bare = holds clause.ForeignBare (lit< tt) };
  unknown = record { first = holds clause.UnknownFirst (lit< tt); foreign = holds clause.UnknownForeign (lit< tt); alone = λ f interface there below k e on. holds clause.UnknownAlone (lit< tt) f interface there k e on below; required = holds clause.UnknownRequired (lit< tt) };
  names = record { namespace = holds clause.NamesNamespace (lit< tt); own = holds clause.NamesOwn (lit< tt); interfaces = holds clause.NamesInterfaces (lit< tt); worlds = holds clause.NamesWorlds (lit< tt); version = holds clause.NamesVersion (lit< tt); interfaces_differ = holds clause.NamesInterfacesDiffer (lit< tt); worlds_differ = holds clause.NamesWorldsDiffer (lit< tt) };
  owners = record { listed = holds clause.OwnersListed (lit< tt); own_types = holds clause.OwnersOwnTypes (lit< tt); functions = holds clause.OwnersFunctions (lit< tt) };
  references = record { earlier = holds clause.ReferencesEarlier (lit< tt); aliases = holds clause.ReferencesAliases (lit< tt); unnamed = holds clause.ReferencesUnnamed (lit< tt) };
  own = record { types = holds clause.OwnTypes (lit< tt); functions = holds clause.OwnFunctions (lit< tt); imports = holds clause.OwnImports (lit< tt); exports = holds clause.OwnExports (lit< tt) };
  worlds = record { imports = holds clause.WorldsImports (lit< tt); exports = holds clause.WorldsExports (lit< tt); once = holds clause.WorldsOnce (lit< tt); includes = holds clause.WorldsIncludes (lit< tt) };
  uses = holds clause.Uses (lit< tt);
}

-- and a package that has its shape keeps each
pub keeps : (p : UnresolvedPackage) → IsShaped p → (c : ShapeClause) → Holds p c
keeps p shape clause.UnplacedInterfaces = shape.unplaced.interfaces
keeps p shape clause.UnplacedWorlds = shape.unplaced.worlds
keeps p shape clause.ForeignSpans = shape.foreign.spans
keeps p shape clause.ForeignInterfaces = shape.foreign.interfaces
keeps p shape clause.ForeignWorlds = shape.foreign.worlds
keeps p shape clause.ForeignBare = shape.foreign.bare
keeps p shape clause.UnknownFirst = shape.unknown.first
keeps p shape clause.UnknownForeign = shape.unknown.foreign
keeps p shape clause.UnknownAlone = λ f interface there k e on below. shape.unknown.alone f interface there below k e on
keeps p shape clause.UnknownRequired = shape.unknown.required
keeps p shape clause.NamesNamespace = shape.names.namespace
keeps p shape clause.NamesOwn = shape.names.own
keeps p shape clause.NamesInterfaces = shape.names.interfaces
keeps p shape clause.NamesWorlds = shape.names.worlds
keeps p shape clause.NamesVersion = shape.names.version
keeps p shape clause.NamesInterfacesDiffer = shape.names.interfaces_differ
keeps p shape clause.NamesWorldsDiffer = shape.names.worlds_differ
keeps p shape clause.OwnersListed = shape.owners.listed
keeps p shape clause.OwnersOwnTypes = shape.owners.own_types
keeps p shape clause.OwnersFunctions = shape.owners.functions
keeps p shape clause.ReferencesEarlier = shape.references.earlier
keeps p shape clause.ReferencesAliases = shape.references.aliases
keeps p shape clause.ReferencesUnnamed = shape.references.unnamed
keeps p shape clause.OwnTypes = shape.own.types
keeps p shape clause.OwnFunctions = shape.own.functions
keeps p shape clause.OwnImports = shape.own.imports
keeps p shape clause.OwnExports = shape.own.exports
keeps p shape clause.WorldsImports = shape.worlds.imports
keeps p shape clause.WorldsExports = shape.worlds.exports
keeps p shape clause.WorldsOnce = shape.worlds.once
keeps p shape clause.WorldsIncludes = shape.worlds.includes
keeps p shape clause.Uses = shape.uses
