-- What is told of unresolved packages is a reason.
use Rattle.std.proofs.Common.{◌≡◌, ◌∙◌, ◌<◌, ◌≤◌, ℕ, zero, suc, List, [], ◌∷◌, length, refl, ap, sym, subst, inl, inr, arith, Option, Some, slice_get, get_or, Contains}
use Rattle.std.specs.Map.{keys_of}
use Rattle.std.specs.Option.{IsSomeAnd}
use Rattle.wit_digraph.specs.Cycles.{IsOnCycle}
use Rattle.wit_data.specs.Each.{SomeAt}
use Rattle.wit_data.specs.Foreign.{ForeignItem}
use Rattle.wit_sources.specs.Span.{moved_by}
use Rattle.wit_names.specs.declared.package_name.PackageName.{PackageName}
use Rattle.wit_graph_data.specs.declared.error_kind.ResolveErrorKind.{ResolveErrorKind}
use Rattle.wit_graph_data.specs.declared.error_kind.ResolveErrorKind.TheVariants as kind
use Rattle.wit_link.proofs.Orders.{depends, no_cycle, slice_get-map, within_at}
use Rattle.wit_link.specs.GroupOrder.{IsDefinedTwice, IsOnPackageCycle, IsSortCause, OptionalSpan, Unresolved, group_uses, names_of}
use Rattle.wit_link.specs.steps.GroupOrderSteps.{IsCycleError, IsDefinedTwiceError, IsOrdered, NamesAt}

-- ---- what stands at a place

some-at : {X : Type 0} (xs : List X) (i : ℕ) (x : X) (P : X → Type 0) → slice_get xs i ≡ Some x → P x → SomeAt xs i P
some-at {X} xs i x P at here = subst (λ (o : Option X). IsSomeAnd o P) (sym at) here

-- ---- two of one name

twice : (unresolved : List Unresolved) (i j : ℕ) (earlier later : Unresolved) (name : PackageName) (span1 span2 : OptionalSpan) → i < j → slice_get unresolved i ≡ Some earlier → slice_get unresolved j ≡ Some later
    → earlier.0.name ≡ later.0.name → name ≡ later.0.name → span1 ≡ moved_by later.1 later.0.package_name_span → span2 ≡ moved_by earlier.1 earlier.0.package_name_span
    → IsDefinedTwice unresolved name span1 span2
twice unresolved i j earlier later name span1 span2 before first second same name_is one two = record {
  earlier = i;
  later = j;
  before = before;
  first = some-at unresolved i earlier (λ (p : Unresolved). (p.0.name ≡ name) × (span2 ≡ moved_by p.1 p.0.package_name_span)) first (same ∙ sym name_is, two);
  second = some-at unresolved j later (λ (p : Unresolved). (p.0.name ≡ name) × (span1 ≡ moved_by p.1 p.0.package_name_span)) second (sym name_is, one);
}

pub twice-cause : (unresolved : List Unresolved) (i j : ℕ) (earlier later : Unresolved) (kind : ResolveErrorKind) → i < j → slice_get unresolved i ≡ Some earlier → slice_get unresolved j ≡ Some later
    → earlier.0.name ≡ later.0.name → IsDefinedTwiceError later earlier kind → IsSortCause unresolved kind
twice-cause unresolved i j earlier later (kind.DuplicatePackage name span1 span2) before first second same told =
    twice unresolved i j earlier later name span1 span2 before first second same told.0 told.1 told.2
twice-cause unresolved i j earlier later kind.OffsetOverflow before first second same told =
    let span1 = moved_by later.1 later.0.package_name_span in
    let span2 = moved_by earlier.1 earlier.0.package_name_span in
    inl (later.0.name, span1, span2, twice unresolved i j earlier later later.0.name span1 span2 before first second same refl refl refl, told)
twice-cause unresolved i j earlier later kind.OutOfMemory before first second same told = absurd told
twice-cause unresolved i j earlier later (kind.PackageNotFound span requested known) before first second same told = absurd told
twice-cause unresolved i j earlier later (kind.WorldNotFound span requested home) before first second same told = absurd told
twice-cause unresolved i j earlier later (kind.InterfaceNotFound span requested home) before first second same told = absurd told
twice-cause unresolved i j earlier later (kind.InvalidTransitiveDependency span name) before first second same told = absurd told
twice-cause unresolved i j earlier later (kind.PackageCycle span home) before first second same told = absurd told
twice-cause unresolved i j earlier later (kind.ItemShadowing span word name) before first second same told = absurd told
twice-cause unresolved i j earlier later (kind.StabilityMismatch span from into) before first second same told = absurd told
twice-cause unresolved i j earlier later (kind.Semantic span message cause) before first second same told = absurd told

-- ---- cycles

cycle : (unresolved : List Unresolved) (user used : ℕ) (p q : Unresolved) (place span : OptionalSpan) → IsOnCycle (group_uses unresolved) user used → slice_get unresolved user ≡ Some p → slice_get unresolved used ≡ Some q
    → NamesAt p.0 q.0.name place → span ≡ moved_by p.1 place → IsOnPackageCycle unresolved span q.0.name
cycle unresolved user used p q place span on user_is used_is names is = record {
  user = user;
  used = used;
  told = used;
  on_cycle = on;
  depends = record {
    p = p;
    place = names.at;
    name = q.0.name;
    items = names.items;
    is = user_is;
    names = names.names;
    used_is = slice_get-map (λ (h : Unresolved). h.0.name) unresolved used q used_is;
    span_is = some-at p.0.foreign_dep_spans names.at place (λ (s : OptionalSpan). span ≡ moved_by p.1 s) names.span_is is;
  };
  to_told = ([], refl);
  from_told = on.leads_back;
  is = slice_get-map (λ (h : Unresolved). h.0.name) unresolved used q used_is;
}

pub cycle-cause : (unresolved : List Unresolved) (user used : ℕ) (p q : Unresolved) (place : OptionalSpan) (kind : ResolveErrorKind) → IsOnCycle (group_uses unresolved) user used → slice_get unresolved user ≡ Some p
    → slice_get unresolved used ≡ Some q → NamesAt p.0 q.0.name place → IsCycleError place p.1 q.0.name kind → IsSortCause unresolved kind
cycle-cause unresolved user used p q place (kind.PackageCycle span home) on user_is used_is names told =
    subst (λ (n : PackageName). IsOnPackageCycle unresolved span n) (sym told.1) (cycle unresolved user used p q place span on user_is used_is names told.0)
cycle-cause unresolved user used p q place kind.OffsetOverflow on user_is used_is names told =
    inr (moved_by p.1 place, q.0.name, cycle unresolved user used p q place (moved_by p.1 place) on user_is used_is names refl, told)
cycle-cause unresolved user used p q place kind.OutOfMemory on user_is used_is names told = absurd told
cycle-cause unresolved user used p q place (kind.PackageNotFound span requested known) on user_is used_is names told = absurd told
cycle-cause unresolved user used p q place (kind.WorldNotFound span requested home) on user_is used_is names told = absurd told
cycle-cause unresolved user used p q place (kind.InterfaceNotFound span requested home) on user_is used_is names told = absurd told
cycle-cause unresolved user used p q place (kind.InvalidTransitiveDependency span name) on user_is used_is names told = absurd told
cycle-cause unresolved user used p q place (kind.DuplicatePackage name span1 span2) on user_is used_is names told = absurd told
cycle-cause unresolved user used p q place (kind.ItemShadowing span word name) on user_is used_is names told = absurd told
cycle-cause unresolved user used p q place (kind.StabilityMismatch span from into) on user_is used_is names told = absurd told
cycle-cause unresolved user used p q place (kind.Semantic span message cause) on user_is used_is names told = absurd told

-- ---- where there is no reason

named : (unresolved : List Unresolved) (i : ℕ) (name : PackageName) (Q : Unresolved → Type 0) → SomeAt unresolved i (λ (p : Unresolved). (p.0.name ≡ name) × Q p) → slice_get (names_of unresolved) i ≡ Some name
named [] i name Q some = absurd some
named (p ∷ ps) zero name Q some = ap (λ (n : PackageName). Some n) some.0
named (p ∷ ps) (suc i) name Q some = named ps i name Q some

not-twice : (unresolved : List Unresolved) (order : List ℕ) (name : PackageName) (span1 span2 : OptionalSpan) → IsOrdered unresolved order → IsDefinedTwice unresolved name span1 span2 → ⊥
not-twice unresolved order name span1 span2 ordered is =
    ordered.differ is.earlier is.later name is.before (named unresolved is.earlier name (λ (p : Unresolved). span2 ≡ moved_by p.1 p.0.package_name_span) is.first)
    (named unresolved is.later name (λ (p : Unresolved). span1 ≡ moved_by p.1 p.0.package_name_span) is.second)

not-cycle : (unresolved : List Unresolved) (order : List ℕ) (span : OptionalSpan) (home : PackageName) → IsOrdered unresolved order → IsOnPackageCycle unresolved span home → ⊥
not-cycle unresolved order span home ordered is = no_cycle (group_uses unresolved) is.user is.used ordered.acyclic is.on_cycle

pub no-cause : (unresolved : List Unresolved) (order : List ℕ) (kind : ResolveErrorKind) → IsOrdered unresolved order → IsSortCause unresolved kind → ⊥
no-cause unresolved order (kind.DuplicatePackage name span1 span2) ordered is = not-twice unresolved order name span1 span2 ordered is
no-cause unresolved order (kind.PackageCycle span home) ordered is = not-cycle unresolved order span home ordered is
no-cause unresolved order kind.OffsetOverflow ordered is = elim is [
  | inl two ↦ not-twice unresolved order two.0 two.1 two.2 ordered two.3
  | inr on ↦ not-cycle unresolved order on.0 on.1 ordered on.2
]
no-cause unresolved order kind.OutOfMemory ordered is = is
no-cause unresolved order (kind.PackageNotFound span requested known) ordered is = is
no-cause unresolved order (kind.WorldNotFound span requested home) ordered is = is
no-cause unresolved order (kind.InterfaceNotFound span requested home) ordered is = is
no-cause unresolved order (kind.InvalidTransitiveDependency span name) ordered is = is
no-cause unresolved order (kind.ItemShadowing span word name) ordered is = is
no-cause unresolved order (kind.StabilityMismatch span from into) ordered is = is
no-cause unresolved order (kind.Semantic span message cause) ordered is = is

-- ---- from the steps of the code

name_of_both : (a b : PackageName) → Some a ≡ Some b → a ≡ b
name_of_both a b same = cc

pub twice-told : (unresolved : List Unresolved) (i j : ℕ) (earlier later : Unresolved) (kind : ResolveErrorKind) → i < j → slice_get unresolved i ≡ Some earlier → slice_get unresolved j ≡ Some later
    → slice_get (names_of unresolved) i ≡ slice_get (names_of unresolved) j → IsDefinedTwiceError later earlier kind → IsSortCause unresolved kind
twice-told unresolved i j earlier later kind before first second names told =
    let same : earlier.0.name ≡ later.0.name =
    name_of_both earlier.0.name later.0.name
    (sym (slice_get-map (λ (h : Unresolved). h.0.name) unresolved i earlier first) ∙ names ∙ slice_get-map (λ (h : Unresolved). h.0.name) unresolved j later second) in
    twice-cause unresolved i j earlier later kind before first second same told

package_same : (unresolved : List Unresolved) (i : ℕ) (p q : Unresolved) → slice_get unresolved i ≡ Some p → slice_get unresolved i ≡ Some q → p ≡ q
package_same unresolved i p q first second = let same : Some p ≡ Some q = sym first ∙ second in cc

-- the user on a cycle names the other package
pub cycle-named : (unresolved : List Unresolved) (user used : ℕ) (p q : Unresolved) → IsOnCycle (group_uses unresolved) user used → slice_get unresolved user ≡ Some p → slice_get unresolved used ≡ Some q
    → Contains (keys_of p.0.foreign_deps) q.0.name
cycle-named unresolved user used p q on user_is used_is =
    let is = depends unresolved user used on.is_used in
    subst (λ (h : Unresolved). Contains (keys_of p.0.foreign_deps) h.0.name) (package_same unresolved used is.q q is.used_is used_is)
    (subst (λ (h : Unresolved). Contains (keys_of h.0.foreign_deps) is.q.0.name) (package_same unresolved user is.p p is.user_is user_is) is.named)

-- both packages of a use on a cycle are there
pub cycle-inside : (unresolved : List Unresolved) (user used : ℕ) → IsOnCycle (group_uses unresolved) user used → (user < length unresolved) × (used < length unresolved)
cycle-inside unresolved user used on =
    let is = depends unresolved user used on.is_used in
    (within_at unresolved user is.p is.user_is, within_at unresolved used is.q is.used_is)

-- where no key so far is the name, one further on is
key_place : (es : List (PackageName × List ForeignItem)) (k : ℕ) (name : PackageName) → k < length (keys_of es) → get_or (keys_of es) k name ≡ name
    → (e : PackageName × List ForeignItem) × (slice_get es k ≡ Some e) × (e.0 ≡ name) × (k < length es)
key_place [] k name within is = absurd (omega arith)
key_place (f ∷ fs) zero name within is = (f, refl, is, omega arith)
key_place (f ∷ fs) (suc k) name within is = let rest = key_place fs k name (omega arith) is in (rest.0, rest.1, rest.2, omega (arith, rest.3))

pub none-named : (es : List (PackageName × List ForeignItem)) (n : ℕ) (name : PackageName) → Contains (keys_of es) name → length es ≤ n
    → ((k : ℕ) (e : PackageName × List ForeignItem) → k < n → slice_get es k ≡ Some e → e.0 ≡ name → ⊥) → ⊥
none-named es n name has reached none =
    let place = key_place es has.0 name has.1 has.2 in
    none has.0 place.0 (omega (arith, place.3)) place.1 place.2
