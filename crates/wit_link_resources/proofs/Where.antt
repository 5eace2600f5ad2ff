-- Where the types of a package go.
use Rattle.std.proofs.Common.{◌≡◌, ◌∙◌, ℕ, ◌+◌, ◌<◌, ◌≤◌, ◌&&◌, Bool, true, false, not, List, [], ◌∷◌, inl, inr, length, nat_eq, Option, None, Some, option_and_then, slice_get, unwrap_or, refl, ap, subst, arith, Contains, if◌then◌else◌}
use Rattle.std.specs.List.{flat_map, list_any}
use Rattle.std.proofs.lemmas.Bool.{cases_Bool, lt-ltb, ltb-true}
use Rattle.std.proofs.lemmas.Option.{slice_get_within}
use Rattle.wit_digraph.specs.facts.FreshFacts.{contains_from_any}
use Rattle.wit_digraph.specs.facts.MemberFacts.{Contains-flat_map, Contains-here}
use Rattle.wit_data.specs.Foreign.{ForeignItem, foreign_interfaces, interface_id}
use Rattle.wit_data.specs.Ownership.{IsListed}
use Rattle.wit_data.specs.Kind.{referred}
use Rattle.wit_data.specs.Shape.{IsShaped}
use Rattle.wit_data.specs.Uses.{alias_target}
use Rattle.wit_data.specs.declared.interface.Interface.{Interface}
use Rattle.wit_names.specs.declared.package_name.PackageName.{PackageName}
use Rattle.wit_data.specs.declared.types.TypeDef.{TypeDef}
use Rattle.wit_data.specs.declared.types.TypeDefKind.{TypeDefKind}
use Rattle.wit_data.specs.declared.types.TypeOwner.{TypeOwner}
use Rattle.wit_data.specs.declared.types.TypeDefKind.TheVariants as kind
use Rattle.wit_data.specs.declared.types.Type_.TheVariants as type
use Rattle.wit_data.specs.declared.types.TypeOwner.TheVariants as owner
use Rattle.wit_elaboration.specs.Valid.{IsValid}
use Rattle.wit_graph_theory.specs.facts.ListFacts.{contained_at, found_at, get_at, place_of}
use Rattle.wit_link_spec.specs.Addition.{Addition, own_type, remapped_type}
use Rattle.wit_remap_spec.specs.Selected.{rank}
use Rattle.wit_link_spec.specs.facts.ClosedCut.{references_kept, there_where}
use Rattle.wit_link_spec.specs.facts.ForeignFound.{find-passes, named_at}
use Rattle.wit_link_spec.specs.Gates.{is_active, type_is_active}
use Rattle.wit_link_spec.specs.Lookup.{find_interface, foreign_interface_id, foreign_type_id, is_foreign_type, named_items, naming_item, owning_interface}
use Rattle.wit_graph_data.specs.Named.{interface_type}
use Rattle.wit_link_spec.specs.Reasons.{IsResolved}
use Rattle.wit_link_spec.specs.facts.Standing.{foreign_interface_remapped, foreign_type}
use Rattle.wit_link_spec.specs.steps.Parts.{active_type_id}

-- ---- by cases

and_then_some : {X Y : Type 0} (f : X → Option Y) (o : Option X) (y : Y) → option_and_then f o ≡ Some y → (x : X) × (o ≡ Some x) × (f x ≡ Some y)
and_then_some f None y h = cc
and_then_some f (Some x) y h = (x, refl, h)

taken_back : (active foreign : Bool) (found : Option ℕ) (next t' : ℕ) → foreign ≡ true → (if active then (if foreign then found else Some next) else None) ≡ Some t' → (active ≡ true) × (found ≡ Some t')
taken_back true true found next t' is h = (refl, h)
taken_back true false found next t' is h = cc
taken_back false foreign found next t' is h = cc

taken_on : (active foreign : Bool) (found : Option ℕ) (next t' : ℕ) → active ≡ true → foreign ≡ true → found ≡ Some t' → (if active then (if foreign then found else Some next) else None) ≡ Some t'
taken_on true true found next t' on is h = h
taken_on true false found next t' on is h = cc
taken_on false foreign found next t' on is h = cc

-- what is its own and is active goes somewhere
own_somewhere : (active foreign : Bool) (found : Option ℕ) (next : ℕ) → foreign ≡ false → (if active then (if foreign then found else Some next) else None) ≡ None → active ≡ false
own_somewhere true true found next is h = cc
own_somewhere true false found next is h = cc
own_somewhere false foreign found next is h = refl

some_active : (active foreign : Bool) (found : Option ℕ) (next t' : ℕ) → (if active then (if foreign then found else Some next) else None) ≡ Some t' → active ≡ true
some_active true foreign found next t' h = refl
some_active false foreign found next t' h = cc

pub both : (foreign active : Bool) → foreign ≡ false → active ≡ true → not foreign && active ≡ true
both true active h k = cc
both false active h k = k

owning_is : (o : TypeOwner) (i : ℕ) → owning_interface o ≡ Some i → o ≡ owner.Interface i
owning_is (owner.Interface j) i h = let same : j ≡ i = cc in ap owner.Interface same
owning_is (owner.World w) i h = cc
owning_is owner.None i h = cc

-- ---- what is found

-- how a type is found
record FoundType (a : Addition) (t t' : ℕ) : Type 0 where
  def : TypeDef
  name : List ℕ
  i : ℕ
  i' : ℕ
  is : slice_get a.unresolved.types t ≡ Some def
  called : def.name ≡ Some name
  owned : def.owner ≡ owner.Interface i
  found : foreign_interface_id a.graph a.unresolved i ≡ Some i'
  listed : interface_type a.graph name i' ≡ Some t'

how_found : (a : Addition) (t t' : ℕ) → foreign_type_id a.graph a.unresolved t ≡ Some t' → FoundType a t t'
how_found a t t' h =
    let one = and_then_some (λ (def : TypeDef). option_and_then (λ (name : List ℕ). option_and_then (λ (i : ℕ). option_and_then (interface_type a.graph name) (foreign_interface_id a.graph a.unresolved i)) (owning_interface def.owner)) def.name) (slice_get a.unresolved.types t) t' h in
    let two = and_then_some (λ (name : List ℕ). option_and_then (λ (i : ℕ). option_and_then (interface_type a.graph name) (foreign_interface_id a.graph a.unresolved i)) (owning_interface one.0.owner)) one.0.name t' one.2 in
    let three = and_then_some (λ (i : ℕ). option_and_then (interface_type a.graph two.0) (foreign_interface_id a.graph a.unresolved i)) (owning_interface one.0.owner) t' two.2 in
    let four = and_then_some (interface_type a.graph two.0) (foreign_interface_id a.graph a.unresolved three.0) t' three.2 in
    record {
      def = one.0;
      name = two.0;
      i = three.0;
      i' = four.0;
      is = one.1;
      called = two.1;
      owned = owning_is one.0.owner three.0 three.1;
      found = four.1;
      listed = four.2;
    }

module _ (a : Addition) (shaped : IsShaped a.unresolved) where
  -- what is named of other packages is one of the first interfaces
  named_is_foreign : (i : ℕ) (e : ℕ × PackageName × ForeignItem) → naming_item interface_id a.unresolved i ≡ Some e → i < length (foreign_interfaces a.unresolved.foreign_deps)
  named_is_foreign i e is =
      let deps = a.unresolved.foreign_deps in
      let passes = find-passes (λ (e : ℕ × PackageName × ForeignItem). list_any (nat_eq i) (interface_id e.2.1.0)) (named_items deps) e is in
      let at = named_at deps e passes.0 in
      let has : Contains (foreign_interfaces deps) i =
      Contains-flat_map (λ (h : PackageName × List ForeignItem). flat_map (λ (named : ForeignItem). interface_id named.1.0) h.1) deps (e.1, at.0) i (contained_at deps e.0 (e.1, at.0) at.1)
      (Contains-flat_map (λ (named : ForeignItem). interface_id named.1.0) at.0 e.2 i at.2 (contains_from_any i (interface_id e.2.1.0) passes.1)) in
      let place = place_of (foreign_interfaces deps) i has in
      shaped.foreign.interfaces.first place.0 i place.1

  -- only a type of another package is found
  pub found_is_foreign : (t t' : ℕ) → foreign_type_id a.graph a.unresolved t ≡ Some t' → is_foreign_type a.unresolved t ≡ true
  found_is_foreign t t' h =
      let how = how_found a t t' h in
      let named = and_then_some (λ (e : ℕ × PackageName × ForeignItem). find_interface a.graph a.unresolved.name e.1 e.2.0) (naming_item interface_id a.unresolved how.i) how.i' how.found in
      let first : how.i < length (foreign_interfaces a.unresolved.foreign_deps) = named_is_foreign how.i named.0 named.1 in
      let listed : IsListed a.unresolved.interfaces a.unresolved.worlds t (Some how.name) (owner.Interface how.i) =
      subst (λ (n : Option (List ℕ)). IsListed a.unresolved.interfaces a.unresolved.worlds t n (owner.Interface how.i)) how.called
      (subst (λ (o : TypeOwner). IsListed a.unresolved.interfaces a.unresolved.worlds t how.def.name o) how.owned (shaped.owners.listed t how.def how.is)) in
      let by = found_at (λ (interface : Interface). Contains interface.types (how.name, t)) a.unresolved.interfaces how.i listed in
      let place = place_of by.0.types (how.name, t) by.2 in
      lt-ltb t (length a.unresolved.unknown_type_spans) (shaped.unknown.alone how.i by.0 by.1 first place.0 (how.name, t) place.1)

  -- a type of another package that goes somewhere is found there
  pub foreign_back : (t t' : ℕ) → is_foreign_type a.unresolved t ≡ true → active_type_id a t ≡ Some t' → (type_is_active a.features a.unresolved.types t ≡ true) × (foreign_type_id a.graph a.unresolved t ≡ Some t')
  foreign_back t t' foreign goes =
      taken_back (type_is_active a.features a.unresolved.types t) (is_foreign_type a.unresolved t) (foreign_type_id a.graph a.unresolved t) (length a.graph.types + rank (own_type a) t) t' foreign goes

  -- and what is found goes there
  pub found_on : (t t' : ℕ) → type_is_active a.features a.unresolved.types t ≡ true → foreign_type_id a.graph a.unresolved t ≡ Some t' → active_type_id a t ≡ Some t'
  found_on t t' active found =
      taken_on (type_is_active a.features a.unresolved.types t) (is_foreign_type a.unresolved t) (foreign_type_id a.graph a.unresolved t) (length a.graph.types + rank (own_type a) t) t' active (found_is_foreign t t' found) found

  pub taken_is_active : (t t' : ℕ) → active_type_id a t ≡ Some t' → type_is_active a.features a.unresolved.types t ≡ true
  taken_is_active t t' goes = some_active (type_is_active a.features a.unresolved.types t) (is_foreign_type a.unresolved t) (foreign_type_id a.graph a.unresolved t) (length a.graph.types + rank (own_type a) t) t' goes

-- what an alias names is referred to
target_referred : (k : TypeDefKind) (u : ℕ) → alias_target k ≡ Some u → Contains (referred k) u
target_referred (kind.Type_ (type.Id v)) u is = let same : v ≡ u = cc in subst (λ (x : ℕ). Contains (v ∷ []) x) same (Contains-here v [])
target_referred other u is = cc

-- so it is earlier
pub target_earlier : (a : Addition) → IsShaped a.unresolved → (t u : ℕ) (def : TypeDef) → slice_get a.unresolved.types t ≡ Some def → alias_target def.kind ≡ Some u → u < t
target_earlier a shaped t u def at is = let place = place_of (referred def.kind) u (target_referred def.kind u is) in shaped.references.earlier t def at place.0 u place.1

-- where it goes
pub goes_there : (a : Addition) (t t' : ℕ) → active_type_id a t ≡ Some t' → remapped_type a t ≡ t'
goes_there a t t' goes = ap (λ (o : Option ℕ). unwrap_or o t) goes

module _ (a : Addition) (valid : IsValid a.graph) (shaped : IsShaped a.unresolved) (image : IsResolved a) where
  -- a type of another package that is active is found
  pub foreign_found : (t : ℕ) → is_foreign_type a.unresolved t ≡ true → type_is_active a.features a.unresolved.types t ≡ true → (t' : ℕ) × (foreign_type_id a.graph a.unresolved t ≡ Some t')
  foreign_found t foreign active =
      let at = there_where (λ (def : TypeDef). is_active a.features def.stability) (slice_get a.unresolved.types t) active in
      let known = foreign_type a valid shaped image t at.0 at.1 foreign active in
      let below : known.i < length (foreign_interfaces a.unresolved.foreign_deps) = ltb-true known.i (length (foreign_interfaces a.unresolved.foreign_deps)) known.foreign in
      let there = get_at a.unresolved.interfaces known.i (let inside = shaped.foreign.interfaces.there in omega arith) in
      let goes = foreign_interface_remapped a valid shaped image known.i there.0 there.1 known.foreign known.active in (
        remapped_type a t,
        (
            ap (λ (o : Option TypeDef). option_and_then (λ (def : TypeDef). option_and_then (λ (name : List ℕ). option_and_then (λ (i : ℕ). option_and_then (interface_type a.graph name) (foreign_interface_id a.graph a.unresolved i)) (owning_interface def.owner)) def.name) o) at.1
            ∙ (ap (λ (o : Option (List ℕ)). option_and_then (λ (name : List ℕ). option_and_then (λ (i : ℕ). option_and_then (interface_type a.graph name) (foreign_interface_id a.graph a.unresolved i)) (owning_interface at.0.owner)) o) known.name_is
            ∙ (ap (λ (o : TypeOwner). option_and_then (λ (i : ℕ). option_and_then (interface_type a.graph known.name) (foreign_interface_id a.graph a.unresolved i)) (owning_interface o)) known.owner_is
            ∙ (ap (λ (o : Option ℕ). option_and_then (interface_type a.graph known.name) o) goes.0 ∙ known.listed)))),
      )

  -- what isn't remapped isn't active
  pub nowhere : (t : ℕ) → active_type_id a t ≡ None → type_is_active a.features a.unresolved.types t ≡ false
  nowhere t none = elim (cases_Bool (is_foreign_type a.unresolved t)) [
    | inl foreign ↦ elim (cases_Bool (type_is_active a.features a.unresolved.types t)) [
      | inl active ↦ let found = foreign_found t foreign active in let goes = found_on a shaped t found.0 active found.1 in cc
      | inr left ↦ left
    ]
    | inr own ↦ own_somewhere (type_is_active a.features a.unresolved.types t) (is_foreign_type a.unresolved t) (foreign_type_id a.graph a.unresolved t) (length a.graph.types + rank (own_type a) t) own none
  ]

  -- an own type is active
  pub own_active : (t : ℕ) → own_type a t ≡ true → type_is_active a.features a.unresolved.types t ≡ true
  own_active t own = second (is_foreign_type a.unresolved t) (type_is_active a.features a.unresolved.types t) own
    where
      second : (b c : Bool) → not b && c ≡ true → c ≡ true
      second true c h = cc
      second false c h = h

  -- what an alias names is active
  pub target_active : (t u : ℕ) (def : TypeDef) → slice_get a.unresolved.types t ≡ Some def → type_is_active a.features a.unresolved.types t ≡ true → alias_target def.kind ≡ Some u → type_is_active a.features a.unresolved.types u ≡ true
  target_active t u def at active is = let place = place_of (referred def.kind) u (target_referred def.kind u is) in references_kept a shaped image t def at active place.0 u place.1

module _ (a : Addition) (shaped : IsShaped a.unresolved) where
  -- what has to be a resource is of another package
  pub required_is_foreign : (t : ℕ) (place : Option (ℕ × ℕ)) → Contains a.unresolved.required_resource_types (t, place) → (t < length a.unresolved.types) × (is_foreign_type a.unresolved t ≡ true)
  required_is_foreign t place has =
      let at = place_of a.unresolved.required_resource_types (t, place) has in
      let found = found_at (λ (def : TypeDef). def.kind ≡ kind.Unknown) a.unresolved.types t (shaped.unknown.required at.0 (t, place) at.1) in
      (slice_get_within a.unresolved.types t found.0 found.1, lt-ltb t (length a.unresolved.unknown_type_spans) ((shaped.unknown.first.1 t found.0 found.1).0 found.2))
