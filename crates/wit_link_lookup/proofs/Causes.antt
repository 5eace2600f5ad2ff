-- What is told of what isn't there is a reason.
use Rattle.std.proofs.Common.{◌≡◌, ◌∙◌, ◌<◌, ◌+◌, ◌⊎◌, inl, inr, ℕ, Bool, true, false, List, [], length, Option, None, Some, is_some, slice_get, refl, sym, ap, subst, arith, Contains, if◌then◌else◌}
use Rattle.std.proofs.lemmas.Bool.{false≢true}
use Rattle.std.specs.Map.{lookup}
use Rattle.std.specs.Prelude.{◌≢◌}
use Rattle.wit_digraph.specs.facts.MemberFacts.{Contains-nil}
use Rattle.wit_data.specs.facts.EachFacts.{nil_from_length}
use Rattle.wit_data.specs.Foreign.{ForeignItem}
use Rattle.wit_names.specs.facts.PackageNameFacts.{own_name, same_name}
use Rattle.wit_names.specs.PackageName.{same_package}
use Rattle.wit_data.specs.declared.unresolved.AstItem.{AstItem}
use Rattle.wit_data.specs.declared.interface.Interface.{Interface}
use Rattle.wit_names.specs.declared.package_name.PackageName.{PackageName}
use Rattle.wit_data.specs.declared.stability.Stability.{Stability}
use Rattle.wit_data.specs.declared.types.TypeDef.{TypeDef}
use Rattle.wit_data.specs.declared.world.World.{World}
use Rattle.wit_data.specs.declared.types.TypeOwner.TheVariants as owner
use Rattle.wit_data.specs.declared.unresolved.AstItem.TheVariants as item
use Rattle.wit_sources.specs.Span.{moved_by}
use Rattle.wit_graph_data.specs.declared.cause.Cause.TheVariants.{TypeNotDefined}
use Rattle.wit_graph_data.specs.declared.error_kind.ResolveErrorKind.TheVariants.{PackageNotFound, Semantic}
use Rattle.wit_graph_theory.specs.facts.ListFacts.{below_or_same, contained_at, found_at, some_at}
use Rattle.wit_link_spec.specs.Addition.{Addition}
use Rattle.wit_link_spec.specs.Cause.{IsAdditionCause, interface_not_found_3, package_not_found_1, type_not_defined_13, world_not_found_2}
use Rattle.wit_link_spec.specs.facts.ForeignFound.{named_into}
use Rattle.wit_link_spec.specs.Gates.{OptionalSpan, interface_is_active, type_is_active}
use Rattle.wit_link_spec.specs.Lookup.{foreign_interface_id, is_foreign_type}
use Rattle.wit_graph_data.specs.Named.{interface_type}
use Rattle.wit_link_spec.specs.Reasons.{known_packages}
use Rattle.wit_link_lookup.specs.steps.ForeignItems.{ArePackagesThere, AreTypesThere, IsHome, IsTypeThere, NamesItem, interface_in, item_in, named_is_active, not_found, world_in}
use Rattle.wit_link_lookup.proofs.PackageItems.{IsItemAt}
use Rattle.wit_link_spec.specs.steps.Parts.{type_not_defined_text}

not_there : {X : Type 0} (o : Option X) → o ≡ None → is_some o ≡ true → ⊥
not_there None none some = cc
not_there (Some x) none some = cc

-- 1
pub package_missing : (a : Addition) (at : ℕ) (name : PackageName) (items : List ForeignItem) (s : OptionalSpan) → slice_get a.unresolved.foreign_deps at ≡ Some (name, items) → items ≢ []
    → lookup (same_package name) a.graph.package_names ≡ None → same_package a.unresolved.name name ≡ false → slice_get a.unresolved.foreign_dep_spans at ≡ Some s
    → IsAdditionCause a (PackageNotFound (moved_by a.offset s) name (known_packages a))
package_missing a at name items s there some none other span =
    package_not_found_1 (moved_by a.offset s) name (known_packages a)
    (record {
      at = at;
      items = items;
      names = there;
      some = some;
      absent = not_there (lookup (same_package name) a.graph.package_names) none;
      other = λ same. false≢true (sym other ∙ ap (same_package a.unresolved.name) same ∙ own_name a.unresolved.name);
      span_is = some_at (λ (p : OptionalSpan). moved_by a.offset s ≡ moved_by a.offset p) a.unresolved.foreign_dep_spans at s span refl;
      known_are = refl;
    })

-- 2, 3
pub item_missing : (a : Addition) (name : PackageName) (home : Option ℕ) (requested : List ℕ) (it : AstItem) (s : OptionalSpan) → NamesItem a name home requested it → named_is_active a it ≡ true
    → item_in a.graph home requested it ≡ None → IsItemAt a.unresolved it s → IsAdditionCause a (not_found it (moved_by a.offset s) requested name)
item_missing a name home requested (item.Interface i) s named active none at =
    let there = found_at (λ (interface : Interface). s ≡ interface.span) a.unresolved.interfaces i at in
    interface_not_found_3 (moved_by a.offset s) requested name
    (record {
      at = named.at;
      i = i;
      notes = named.notes;
      names = named.names;
      active = active;
      has_package = named.has_package;
      absent = ap (λ (h : Option ℕ). interface_in a.graph h requested) (sym named.home_is) ∙ none;
      span_is = some_at (λ (interface : Interface). moved_by a.offset s ≡ moved_by a.offset interface.span) a.unresolved.interfaces i there.0 there.1 (ap (moved_by a.offset) there.2);
    })
item_missing a name home requested (item.World w) s named active none at =
    let there = found_at (λ (world : World). s ≡ world.span) a.unresolved.worlds w at in
    world_not_found_2 (moved_by a.offset s) requested name
    (record {
      at = named.at;
      w = w;
      notes = named.notes;
      names = named.names;
      active = active;
      has_package = named.has_package;
      absent = ap (λ (h : Option ℕ). world_in a.graph h requested) (sym named.home_is) ∙ none;
      span_is = some_at (λ (world : World). moved_by a.offset s ≡ moved_by a.offset world.span) a.unresolved.worlds w there.0 there.1 (ap (moved_by a.offset) there.2);
    })

-- 13
pub type_missing : (a : Addition) (t : ℕ) (def : TypeDef) (name : List ℕ) (i i' : ℕ) (s : OptionalSpan) → slice_get a.unresolved.types t ≡ Some def → is_foreign_type a.unresolved t ≡ true
    → type_is_active a.features a.unresolved.types t ≡ true → def.name ≡ Some name → def.owner ≡ owner.Interface i → interface_is_active a.features a.unresolved i ≡ true
    → foreign_interface_id a.graph a.unresolved i ≡ Some i' → interface_type a.graph name i' ≡ None → slice_get a.unresolved.unknown_type_spans t ≡ Some s
    → IsAdditionCause a (Semantic (moved_by a.offset s) (type_not_defined_text name) TypeNotDefined)
type_missing a t def name i i' s at foreign active called owned owner_active found absent span =
    type_not_defined_13 (moved_by a.offset s) (type_not_defined_text name)
    (record {
      t = t;
      def = def;
      name = name;
      i = i;
      i' = i';
      is = at;
      foreign = foreign;
      active = active;
      called = called;
      owner = owned;
      owner_active = owner_active;
      found = found;
      absent = absent;
      span_is = some_at (λ (p : OptionalSpan). moved_by a.offset s ≡ moved_by a.offset p) a.unresolved.unknown_type_spans t s span refl;
      message_is = refl;
    })

-- ---- where nothing is missing

-- one package more
pub packages-next : (a : Addition) (n : ℕ) (name : PackageName) (items : List ForeignItem) (home : Option ℕ) → ArePackagesThere a n → IsHome a n name items home → ArePackagesThere a (n + 1)
packages-next a n name items home old is span requested known lacks below = elim (below_or_same lacks.at n below) [
  | inl earlier ↦ old span requested known lacks earlier
  | inr same ↦
      let one = same_entry (requested, lacks.items) (name, items) (sym lacks.names ∙ ap (slice_get a.unresolved.foreign_deps) same ∙ is.is) in
      let named : requested ≡ name = ap (λ (e : PackageName × List ForeignItem). e.0) one in
      let listed : lacks.items ≡ items = ap (λ (e : PackageName × List ForeignItem). e.1) one in
      elim (is.there (λ none. lacks.some (listed ∙ none))) [
        | inl there ↦ lacks.absent (subst (λ (n : PackageName). is_some (lookup (same_package n) a.graph.package_names) ≡ true) (sym named) there)
        | inr own ↦ lacks.other (named ∙ own)
      ]
]
  where
    same_entry : (d e : PackageName × List ForeignItem) → Some d ≡ Some e → d ≡ e
    same_entry d e same = cc

-- one type more
pub types-next : (a : Addition) (n : ℕ) → AreTypesThere a n → IsTypeThere a n → AreTypesThere a (n + 1)
types-next a n old is span message lacks below = elim (below_or_same lacks.t n below) [ inl earlier ↦ old span message lacks earlier | inr same ↦ is span message lacks same ]

-- ---- where a package is

-- the package that is added
pub own_home : (a : Addition) (place : ℕ) (name : PackageName) (items : List ForeignItem) → slice_get a.unresolved.foreign_deps place ≡ Some (name, items) → same_package a.unresolved.name name ≡ true
    → IsHome a place name items None
own_home a place name items there same = record {
  is = there;
  found = sym (ap (λ (b : Bool). if b then None else lookup (same_package name) a.graph.package_names) same);
  there = λ some. inr (sym (same_name a.unresolved.name name same));
}

-- one of the graph
pub found_home : (a : Addition) (place : ℕ) (name : PackageName) (items : List ForeignItem) (p : ℕ) → slice_get a.unresolved.foreign_deps place ≡ Some (name, items) → same_package a.unresolved.name name ≡ false
    → lookup (same_package name) a.graph.package_names ≡ Some p → IsHome a place name items (Some p)
found_home a place name items p there other found = record {
  is = there;
  found = sym (ap (λ (b : Bool). if b then None else lookup (same_package name) a.graph.package_names) other ∙ found);
  there = λ some. inl (ap (λ (o : Option ℕ). is_some o) found);
}

-- one that isn't there, of which nothing is named
pub no_home : (a : Addition) (place : ℕ) (name : PackageName) (items : List ForeignItem) → slice_get a.unresolved.foreign_deps place ≡ Some (name, items) → same_package a.unresolved.name name ≡ false
    → lookup (same_package name) a.graph.package_names ≡ None → length items ≡ 0 → IsHome a place name items None
no_home a place name items there other none empty = record {
  is = there;
  found = sym (ap (λ (b : Bool). if b then None else lookup (same_package name) a.graph.package_names) other ∙ none);
  there = λ some. absurd (some (nil_from_length items empty));
}

-- an item of a package that is there
pub is_named : (a : Addition) (place : ℕ) (name : PackageName) (items : List ForeignItem) (home : Option ℕ) (index : ℕ) (requested : List ℕ) (what : AstItem × List Stability) → IsHome a place name items home
    → slice_get items index ≡ Some (requested, what) → NamesItem a name home requested what.0
is_named a place name items home index requested what is at =
    let has : Contains items (requested, what) = contained_at items index (requested, what) at in
    record {
      at = place;
      notes = what.1;
      names = named_into a.unresolved.foreign_deps place name items (requested, what) is.is has;
      home_is = is.found;
      has_package = is.there (λ empty. Contains-nil (subst (λ (l : List ForeignItem). Contains l (requested, what)) empty has));
    }
