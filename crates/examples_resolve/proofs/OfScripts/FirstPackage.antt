-- The package without anything, handed in alone: it is sorted and added wherever no package of its name is.
use Rattle.std.proofs.Common.{◌≡◌, ◌∙◌, ◌<◌, ◌≤◌, ◌^◌, ℕ, zero, suc, true, false, List, [], ◌∷◌, ◌++◌, None, Some, length, flat_map, slice_get, IsPermutation, refl, sym, ap, subst, inl, inr, lit<, arith, Contains}
use Rattle.std.proofs.lemmas.List.Sorted.{Contains-permutation, length_permutation}
use Rattle.std.specs.List.{AllZip}
use Rattle.std.specs.Map.{lookup}
use Rattle.std.specs.Prelude.{Option, is_some}
use Rattle.wit_digraph.specs.facts.MemberFacts.{Contains-nil}
use Rattle.wit_digraph.specs.Relation.{direct}
use Rattle.wit_digraph.specs.PostOrder.{first_of_each, post_order, post_order_within}
use Rattle.wit_sources.specs.SourceMap.{Sources}
use Rattle.wit_sources.specs.Span.{OptionalSpan, moved_by}
use Rattle.wit_data.specs.Each.{SomeAt}
use Rattle.wit_names.specs.PackageName.{same_package}
use Rattle.wit_data.specs.declared.function.Function.{Function}
use Rattle.wit_names.specs.declared.package_name.PackageName.{PackageName}
use Rattle.wit_data.specs.declared.stability.Stability.{Stability}
use Rattle.wit_data.specs.declared.unresolved.UnresolvedPackageGroup.{UnresolvedPackageGroup}
use Rattle.wit_data.specs.declared.stability.Stability.TheVariants.{Stable}
use Rattle.wit_graph_data.specs.examples.Samples.{foo_bar}
use Rattle.wit_graph_data.specs.declared.features.Features.{Features}
use Rattle.wit_graph_data.specs.declared.graph.Graph.{Graph}
use Rattle.wit_graph_data.specs.declared.error_kind.ResolveErrorKind.{ResolveErrorKind}
use Rattle.wit_graph_data.specs.declared.error_kind.ResolveErrorKind.TheVariants.{DuplicatePackage, OffsetOverflow, PackageCycle}
use Rattle.wit_graph_theory.specs.facts.OptionFacts.{some_same}
use Rattle.wit_graph_theory.specs.examples.TestFacts.{none_in, none_some, not_passed, only_one}
use Rattle.wit_link.specs.GroupOrder.{AreSorted, IsDefinedTwice, IsGroupOrder, IsSortCause, Unresolved, group_uses}
use Rattle.wit_link_spec.specs.Addition.{Addition}
use Rattle.wit_link_spec.specs.Cause.{IsAdditionCause}
use Rattle.wit_link_spec.specs.Cause as reason
use Rattle.wit_link_spec.specs.Gates.{IsAsked}
use Rattle.wit_link_spec.specs.Gates as asked
use Rattle.wit_link_spec.specs.Added.{added}
use Rattle.wit_link_spec.specs.Reasons.{IsActiveFunction, IsResolved, RefersTo, Thing}
use Rattle.wit_link_spec.specs.Reasons as part
use Rattle.wit_link_spec.specs.facts.WorldCauseFacts.{cause_world}
use Rattle.wit_link.specs.Appending.{AreAdded, FilesPassTheEnd, IsGroupsCause, addition, files_end}
use Rattle.wit_resolve_graph.specs.examples.Examples.{first_package}
use Rattle.examples_resolve.specs.script.SourceExamples.{made_of}
use Rattle.wit_link_spec.specs.steps.Parts.{AtWorld, AdditionIsAccepted}

nowhere : {X : Type 0} (k : ℕ) (x : X) → slice_get [] k ≡ Some x → ⊥
nowhere k x at = cc

module _ (features : Features) (g : Graph) (offset : ℕ) where
  abbrev pub of_first : Addition
  of_first = addition features g first_package offset

  abbrev pub alone : List Unresolved
  alone = (first_package, offset) ∷ []

  -- ---- one package can always be sorted

  not_twice : (name : PackageName) (span1 span2 : OptionalSpan) → IsDefinedTwice alone name span1 span2 → ⊥
  not_twice name span1 span2 t = not_later t.earlier t.later t.before t.second
    where
      not_later : (earlier later : ℕ) → earlier < later → SomeAt alone later (λ (p : Unresolved). (p.0.name ≡ name) × (span1 ≡ moved_by p.1 p.0.package_name_span)) → ⊥
      not_later earlier zero before second = absurd (omega (arith, before))
      not_later earlier (suc later) before second = second

  uses_none : (user used : ℕ) → Contains (direct (group_uses alone) user) used → ⊥
  uses_none zero used inside = none_in used inside
  uses_none (suc user) used inside = none_in used inside

  pub sortable : (error : ResolveErrorKind) → IsSortCause alone error → ⊥
  sortable (DuplicatePackage name span1 span2) t = not_twice name span1 span2 t
  sortable (PackageCycle span home) c = uses_none c.user c.used c.on_cycle.is_used
  sortable OffsetOverflow (inl twice) = not_twice twice.0 twice.1 twice.2 twice.3
  sortable OffsetOverflow (inr cycle) = uses_none cycle.2.user cycle.2.used cycle.2.on_cycle.is_used
  sortable _ none = none

  in_order : IsGroupOrder alone (0 ∷ [])
  unfolding post_order post_order_within
  in_order = record { roots = 0 ∷ []; all = record { moves = []; below = tt; is = refl }; by_name = λ k d low high. absurd (omega (arith, high)); is = refl }

  pub sorted : AreSorted alone (0 ∷ []) alone
  sorted = record { is_order = in_order; are = (refl, tt) }

  -- in one way
  roots_are : (roots : List ℕ) → IsPermutation (0 ∷ []) roots → 0 ∷ [] ≡ roots
  roots_are [] moved = absurd (omega (arith, length_permutation (0 ∷ []) [] moved))
  roots_are (a ∷ []) moved = ap (λ (x : ℕ). x ∷ []) (sym (only_one a 0 (Contains-permutation (0 ∷ []) (a ∷ []) 0 moved (0, lit< tt, refl))))
  roots_are (a ∷ b ∷ roots) moved = absurd (omega (arith, length_permutation (0 ∷ []) (a ∷ b ∷ roots) moved))

  order_is : (roots order : List ℕ) → IsPermutation (0 ∷ []) roots → order ≡ first_of_each (flat_map (post_order (group_uses alone)) roots) → 0 ∷ [] ≡ order
  unfolding post_order post_order_within
  order_is roots order moved = subst (λ (r : List ℕ). order ≡ first_of_each (flat_map (post_order (group_uses alone)) r) → 0 ∷ [] ≡ order) (roots_are roots moved) (λ is. sym is)

  ordered : (unresolved : List Unresolved) → AllZip (λ (i : ℕ) (p : Unresolved). slice_get alone i ≡ Some p) (0 ∷ []) unresolved → alone ≡ unresolved
  ordered [] are = absurd are
  ordered (p ∷ []) are = ap (λ (q : Unresolved). q ∷ []) (some_same _ p are.0)
  ordered (p ∷ q ∷ unresolved) are = absurd are.1

  pub order_alone : (order : List ℕ) (unresolved : List Unresolved) → AreSorted alone order unresolved → 0 ∷ [] ≡ order
  order_alone order unresolved are = order_is are.is_order.roots order are.is_order.all are.is_order.is

  pub sorted_alone : (order : List ℕ) (unresolved : List Unresolved) → AreSorted alone order unresolved → alone ≡ unresolved
  sorted_alone order unresolved are =
      ordered unresolved (subst (λ (o : List ℕ). AllZip (λ (i : ℕ) (p : Unresolved). slice_get alone i ≡ Some p) o unresolved) (sym (order_alone order unresolved are)) are.are)

  -- ---- adding it

  -- where it is there, 5 is told
  pub duplicate : is_some (lookup (same_package foo_bar) g.package_names) ≡ true → IsAdditionCause of_first (DuplicatePackage foo_bar None None)
  duplicate there = reason.duplicate_5 foo_bar None None (record { there = there; name_is = refl; span1_is = refl; span2_is = refl })

  no_world : (k : ℕ) → AtWorld of_first k → ⊥
  no_world k at = nowhere k (at.id, at.world) at.is

  no_function : (f : Function) → IsActiveFunction of_first f → ⊥
  no_function f (part.of_interface i interface name _ at active inside on) = nowhere i interface at
  no_function f (part.of_world w world k _ at active inside on) = nowhere w world at

  asks_nothing : (note : Stability) (place : OptionalSpan) → IsAsked features first_package note place → ⊥
  asks_nothing _ _ (asked.of_type t def at) = nowhere t def at
  asks_nothing _ _ (asked.of_interface i interface note at inside) = nowhere i interface at
  asks_nothing _ _ (asked.of_world w world note at inside) = nowhere w world at
  asks_nothing _ _ (asked.of_function i interface name f at active inside) = nowhere i interface at
  asks_nothing _ _ (asked.of_entry w world e note place at active has notes) = nowhere w world at
  asks_nothing _ _ (asked.of_include w world i at active inside) = nowhere w world at

  refers_to_nothing : (thing : Thing) (place : OptionalSpan) → RefersTo of_first thing place → ⊥
  refers_to_nothing _ _ (part.of_type t def named place at active inside) = nowhere t def at
  refers_to_nothing _ _ (part.of_foreign_type t def i at foreign active owned) = nowhere t def at
  refers_to_nothing _ _ (part.of_function f named active inside) = no_function f active
  refers_to_nothing _ _ (part.of_entry w world k i note docs place external_id at active has on) = nowhere w world at
  refers_to_nothing _ _ (part.of_include w world i at active inside on) = nowhere w world at

  has_image : IsResolved of_first
  has_image = record {
    packages = λ span requested known c. nowhere c.at (requested, c.items) c.names;
    worlds = λ span requested home c. Contains-nil c.names;
    interfaces = λ span requested home c. Contains-nil c.names;
    version = λ span message c. asks_nothing (Stable c.since c.deprecated) c.place c.asked;
    released = λ span message c. asks_nothing (Stable c.since c.deprecated) c.place c.asked;
    references = λ span message c. refers_to_nothing c.thing c.place c.refers;
    owners = λ span message c. nowhere c.t c.def c.is;
    types = λ span message c. nowhere c.t c.def c.is;
  }

  -- what adding it makes is determined
  pub pushed_alone : (new : Graph) (ids : List ℕ) → AreAdded features g alone new ids → (ids ≡ length g.packages ∷ []) × (new ≡ added of_first)
  pushed_alone new [] none = absurd none
  pushed_alone new (id ∷ []) (mid, added, same) = (ap (λ (i : ℕ). i ∷ []) added.id_is, same ∙ added.graph_is)
  pushed_alone new (id ∷ id' ∷ ids) (mid, added, more) = absurd more

  -- where it is added it wasn't there
  pub absent_before : (new : Graph) (ids : List ℕ) → AreAdded features g alone new ids → lookup (same_package foo_bar) g.package_names ≡ None
  absent_before new [] none = absurd none
  absent_before new (id ∷ ids) (mid, first, rest) = by (lookup (same_package foo_bar) g.package_names) refl
    where
      by : (o : Option ℕ) → lookup (same_package foo_bar) g.package_names ≡ o → o ≡ None
      by None is = refl
      by (Some i) is = absurd (first.accepted (DuplicatePackage foo_bar None None) (duplicate (ap is_some is)))

  module _ (absent : is_some (lookup (same_package foo_bar) g.package_names) ≡ false) where
    pub accepted : AdditionIsAccepted of_first
    accepted _ (reason.package_not_found_1 span requested known c) = has_image.packages span requested known c
    accepted _ (reason.world_not_found_2 span requested home c) = has_image.worlds span requested home c
    accepted _ (reason.interface_not_found_3 span requested home c) = has_image.interfaces span requested home c
    accepted _ (reason.duplicate_5 name span1 span2 c) = not_passed absent c.there
    accepted _ (reason.gate_without_version_9 span message c) = has_image.version span message c
    accepted _ (reason.gate_unreleased_10 span message c) = has_image.released span message c
    accepted _ (reason.excluded_11 span message c) = has_image.references span message c
    accepted _ (reason.excluded_owner_12 span message c) = has_image.owners span message c
    accepted _ (reason.type_not_defined_13 span message c) = has_image.types span message c
    accepted _ (reason.not_a_resource_14 span message c) = Contains-nil c.required
    accepted _ (reason.borrow_in_result_15 span message c) = no_function c.f c.active
    accepted _ (reason.offset_overflow_27 from to known past) = none_some _ (only_one None (Some (from, to)) known)
    accepted _ (reason.of_world k error reached c) = no_world k (cause_world of_first k error c)

    -- so no package of the one is refused
    no_more : (before after : List Unresolved) (p : Unresolved) → [] ≡ before ++ p ∷ after → ⊥
    no_more [] after p is = cc
    no_more (x ∷ xs) after p is = cc

    tail_is : (x y : Unresolved) (xs ys : List Unresolved) → x ∷ xs ≡ y ∷ ys → xs ≡ ys
    tail_is x y xs ys same = cc

    head_is : (x y : Unresolved) (xs ys : List Unresolved) → x ∷ xs ≡ y ∷ ys → x ≡ y
    head_is x y xs ys same = cc

    none_refused : (before after : List Unresolved) (p : Unresolved) (mid : Graph) (ids : List ℕ) (error : ResolveErrorKind) → alone ≡ before ++ p ∷ after → AreAdded features g before mid ids
        → IsAdditionCause (addition features mid p.0 p.1) error → ⊥
    none_refused [] after p mid [] error is same cause =
        let of_it : IsAdditionCause (addition features mid first_package offset) error =
        subst (λ (q : Unresolved). IsAdditionCause (addition features mid q.0 q.1) error) (sym (head_is (first_package, offset) p [] after is)) cause in
        accepted error (subst (λ (m : Graph). IsAdditionCause (addition features m first_package offset) error) same of_it)
    none_refused [] after p mid (id ∷ ids) error is pushes cause = absurd pushes
    none_refused (x ∷ xs) after p mid ids error is pushes cause = no_more xs after p (tail_is (first_package, offset) x [] (xs ++ p ∷ after) is)

    passing : (groups : List UnresolvedPackageGroup) (error : ResolveErrorKind) → FilesPassTheEnd offset groups error → 2 ^ 32 ≤ files_end offset groups
    passing groups OffsetOverflow far = far
    passing groups _ far = absurd far

    -- nor is a group of it, where its files fit
    pub no_cause : (files : Sources) (error : ResolveErrorKind) → files_end offset (made_of files ∷ []) < 2 ^ 32 → IsGroupsCause features g offset (made_of files ∷ []) error → ⊥
    no_cause files error fits (inl unsortable) = sortable error unsortable
    no_cause files error fits (inr (inl c)) =
        let r = c.refused in
        none_refused r.before r.after r.p r.mid r.ids error (sorted_alone c.order c.sorted c.are_sorted ∙ r.packages_are) r.pushed r.cause
    no_cause files error fits (inr (inr far)) = let past = passing (made_of files ∷ []) error far in absurd (omega (arith, fits, past))
