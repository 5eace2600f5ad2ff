-- What the texts of types make is sound, and refers to types of the owner of what lines add.
use Rattle.std.proofs.Common.{◌≡◌, ◌≢◌, ◌∙◌, ℕ, ◌<◌, ◌++◌, zero, suc, Bool, true, false, cond, List, [], ◌∷◌, length, Option, Some, None, IfSome, IsSome, slice_get, refl, sym, ap, subst, codes, bytes_eq, flat_map, option_and_then, option_map, option_to_list}
use Rattle.std.specs.Option.{option_map_or, option_or}
use Rattle.std.specs.Map.{lookup}
use Rattle.std.proofs.lemmas.Slice.Eq.{bytes_eq-Decides}
use Rattle.wit_values.specs.facts.Lists.{slice_get-push}
use Rattle.wit_data.specs.Each.{Each, SomeAt}
use Rattle.wit_data.specs.Function.{resource_of}
use Rattle.wit_data.specs.facts.EachFacts.{SomeAt-is, SomeAt-of}
use Rattle.wit_data.specs.facts.KindFacts.{names_same}
use Rattle.wit_data.specs.facts.WorldKeyFacts.{key_is, same_key}
use Rattle.wit_data.specs.Entries.{IsImport, item_type}
use Rattle.wit_data.specs.Ownership.{IsOwn, IsPlain, IsTypeOf, UsesOwn}
use Rattle.wit_data.specs.Kind.{named_option, named_type, referred}
use Rattle.wit_data.specs.Uses.{alias_target}
use Rattle.wit_data.specs.declared.types.Field.{Field}
use Rattle.wit_data.specs.declared.function.Function.{Function}
use Rattle.wit_data.specs.declared.function.FunctionKind.{FunctionKind}
use Rattle.wit_data.specs.declared.interface.Interface.{Interface}
use Rattle.wit_data.specs.declared.function.Param.{Param}
use Rattle.wit_data.specs.declared.types.TypeDef.{TypeDef}
use Rattle.wit_data.specs.declared.types.TypeDefKind.{TypeDefKind}
use Rattle.wit_data.specs.declared.types.TypeOwner.{TypeOwner}
use Rattle.wit_data.specs.declared.types.Type_.{Type_}
use Rattle.wit_data.specs.declared.world.World.{World}
use Rattle.wit_data.specs.declared.world.WorldItem.{WorldItem}
use Rattle.wit_data.specs.declared.world.WorldKey.{WorldKey}
use Rattle.wit_data.specs.declared.function.FunctionKind.TheVariants as role
use Rattle.wit_data.specs.declared.types.Handle.TheVariants as handle
use Rattle.wit_data.specs.declared.types.TypeDefKind.TheVariants as kind
use Rattle.wit_data.specs.declared.types.TypeOwner.TheVariants as owner
use Rattle.wit_data.specs.declared.types.Type_.TheVariants as type
use Rattle.wit_data.specs.declared.world.WorldItem.TheVariants as item
use Rattle.wit_data.specs.declared.world.WorldKey.TheVariants as key
use Rattle.wit_script_lines.specs.Token.{after_prefix, primitive_of, split_at}
use Rattle.wit_script_lines.specs.declared.signature.Signature.{Signature}
use Rattle.wit_script_lines.specs.declared.signature.TypedName.{TypedName}
use Rattle.wit_script_lines.specs.declared.type_text.TypeText.{TypeText}
use Rattle.wit_script_lines.specs.declared.type_text.Wrap.{Wrap}
use Rattle.wit_script_lines.specs.declared.type_text.Wrap.TheVariants as wrap
use Rattle.wit_script_lines.specs.declared.type_text.Written.{Written}
use Rattle.wit_script_lines.specs.declared.type_text.Written.TheVariants as written
use Rattle.wit_script_package.specs.Adding.{type_with, with_type}
use Rattle.wit_script_package.specs.Making.{answer_made, around, each_made, field_made, forms_made, function_by, function_made, handle_argument, kind_made, param_made, type_made, type_of, with_resource, with_root, written_made}
use Rattle.wit_script_package.specs.Naming.{OptionalSpan, earlier, earlier_in, open_interface, open_world, type_at}
use Rattle.wit_script_package.specs.Role.{freestanding_kind, function_kind_of, is_plain, member_of}
use Rattle.wit_script_package.specs.declared.draft.Draft.{Draft}
use Rattle.wit_script_package.specs.declared.draft.LineContext.{LineContext}
use Rattle.wit_script_package.specs.declared.draft.Scope.{Scope}
use Rattle.wit_script_package.specs.declared.draft.Scope.TheVariants as scope
use Rattle.wit_script_package.proofs.Added.{good-unnamed, grows-unnamed}
use Rattle.wit_script_package.proofs.Owned.{own-named, own-stays, own-unnamed}
use Rattle.wit_script_package.proofs.Places.{Each-append, Each-nil, EachAt-push, lookup-at}
use Rattle.wit_script_package.proofs.Sound.{IsSound, interface_count, open_interface-is, open_owner, open_world-is, sound-with, things, world_count}
use Rattle.wit_script_package.proofs.Things.{good-earlier}
use Rattle.wit_script_lines.specs.facts.OptionFacts.{map-of, same-some, step-of}
use Rattle.wit_script_package.specs.steps.Parts.{with_root_at, function_with, world_type_at, type_named, constructor_resource, method_role, static_role}

-- ---- earlier types

module _ (p : Draft) (sound : IsSound p) where
  -- what an interface lists
  pub interface_type-is : (name : List ℕ) (at id : ℕ) → type_at p name at ≡ Some id → IsTypeOf p.types (owner.Interface at) name id
  interface_type-is name at id found =
      let interface = step-of (λ (i : Interface). lookup (bytes_eq name) i.types) (slice_get p.interfaces at) id found in
      let place = lookup-at (bytes_eq name) interface.0.types id interface.2 in
      let same : name ≡ place.1 = (bytes_eq-Decides name place.1).0 place.3 in
      subst (λ (n : List ℕ). IsTypeOf p.types (owner.Interface at) n id) (sym same) ((sound.good.interfaces at interface.0 interface.1).own_types place.0 (place.1, id) place.2)

  item_is : (it : WorldItem) (id : ℕ) → item_type it ≡ Some id → (span : OptionalSpan) × (it ≡ item.Type_ id span)
  item_is (item.Interface i stability docs span external_id) id is = cc
  item_is (item.Function function) id is = cc
  item_is (item.Type_ i span) id is = (span, ap (λ (n : ℕ). item.Type_ n span) (same-some i id is))

  -- what a world lists
  world_type-is : (name : List ℕ) (at id : ℕ) → world_type_at p name at ≡ Some id → IsTypeOf p.types (owner.World at) name id
  world_type-is name at id found =
      let world = step-of (λ (w : World). option_and_then item_type (lookup (same_key (key.Name name)) w.imports)) (slice_get p.worlds at) id found in
      let held = step-of item_type (lookup (same_key (key.Name name)) world.0.imports) id world.2 in
      let place = lookup-at (same_key (key.Name name)) world.0.imports held.0 held.1 in
      let same : key.Name name ≡ place.1 = (key_is (key.Name name) place.1).0 place.3 in
      let it = item_is held.0 id held.2 in
      let allowed : IsImport p.interfaces p.types at place.1 held.0 = (sound.good.worlds at world.0 world.1).imports place.0 (place.1, held.0) place.2 in
      let of_key : IsImport p.interfaces p.types at (key.Name name) held.0 = subst (λ (k : WorldKey). IsImport p.interfaces p.types at k held.0) (sym same) allowed in
      subst (λ (h : WorldItem). IsImport p.interfaces p.types at (key.Name name) h) it.1 of_key

  earlier-in : (into : Scope) (name : List ℕ) (id : ℕ) → earlier_in p into name ≡ Some id → IsTypeOf p.types (open_owner p) name id
  earlier-in scope.Package name id is = cc
  earlier-in scope.Interface name id is =
      let at = step-of (type_at p name) (open_interface p) id is in
      let opened = open_interface-is p at.0 sound at.1 in
      subst (λ (by : TypeOwner). IsTypeOf p.types by name id) (sym opened.owns) (interface_type-is name at.0 id at.2)
  earlier-in scope.World name id is =
      let at = step-of (world_type_at p name) (open_world p) id is in
      let opened = open_world-is p at.0 sound at.1 in
      subst (λ (by : TypeOwner). IsTypeOf p.types by name id) (sym opened.owns) (world_type-is name at.0 id at.2)

  -- an earlier type has its name, and belongs to the owner of what lines add
  pub earlier-is : (name : List ℕ) (id : ℕ) → earlier p name ≡ Some id → IsTypeOf p.types (open_owner p) name id
  earlier-is name id is = earlier-in p.scope name id is

  pub earlier-own : (name : List ℕ) (id : ℕ) → earlier p name ≡ Some id → IsOwn p.types (open_owner p) id
  earlier-own name id is =
      let def = SomeAt-is (λ (d : TypeDef). (d.name ≡ Some name) × (d.owner ≡ open_owner p)) p.types id (earlier-is name id is) in
      own-named p.types id def.0 def.1 (open_owner p) (subst IsSome (sym def.2.0) refl) def.2.1

-- ---- packages that get types

-- a package that gets types and stays sound
pub record Adds (p q : Draft) : Type 0 where
  pub sound : IsSound q
  pub owns : (by : TypeOwner) (id : ℕ) → IsOwn p.types by id → IsOwn q.types by id
  pub owner_same : open_owner q ≡ open_owner p

-- what refers to the owner's own
abbrev pub AreOwn : Draft → List ℕ → Type 0
AreOwn p ids = Each (IsOwn p.types (open_owner p)) ids

pub adds-nothing : (p : Draft) → IsSound p → Adds p p
adds-nothing p sound = record { sound = sound; owns = λ by id own. own; owner_same = refl }

pub adds-both : (p q r : Draft) → Adds p q → Adds q r → Adds p r
adds-both p q r first second = record { sound = second.sound; owns = λ by id own. second.owns by id (first.owns by id own); owner_same = second.owner_same ∙ first.owner_same }

pub own-after : (p q : Draft) (ids : List ℕ) → Adds p q → AreOwn p ids → AreOwn q ids
own-after p q ids adds own i id at = subst (λ (by : TypeOwner). IsOwn q.types by id) (sym adds.owner_same) (adds.owns (open_owner p) id (own i id at))

-- what a kind that lines make is
pub record IsMadeKind (p : Draft) (k : TypeDefKind) : Type 0 where
  pub known : k ≢ kind.Unknown
  pub no_resource : k ≢ kind.Resource
  pub own : AreOwn p (referred k)
  pub alias : IfSome (alias_target k) (λ target. SomeAt p.types target (λ (named : TypeDef). IsSome named.name × (named.owner ≡ open_owner p)))

-- ---- names of types

abbrev IsNoId : Option Type_ → Type 0
IsNoId None = Unit {0}
IsNoId (Some ty) = named_type ty ≡ []

or_primitive : (b : Bool) (ty : Type_) (rest : Option Type_) → named_type ty ≡ [] → IsNoId rest → IsNoId (cond b (Some ty) rest)
or_primitive true ty rest none no_id = none
or_primitive false ty rest none no_id = no_id

primitive_no_id : (name : List ℕ) → IsNoId (primitive_of name)
primitive_no_id name =
    or_primitive (bytes_eq name (codes "bool")) type.Bool _ refl (
    or_primitive (bytes_eq name (codes "u8")) type.U8 _ refl (
    or_primitive (bytes_eq name (codes "u16")) type.U16 _ refl (
    or_primitive (bytes_eq name (codes "u32")) type.U32 _ refl (
    or_primitive (bytes_eq name (codes "u64")) type.U64 _ refl (
    or_primitive (bytes_eq name (codes "s8")) type.S8 _ refl (
    or_primitive (bytes_eq name (codes "s16")) type.S16 _ refl (
    or_primitive (bytes_eq name (codes "s32")) type.S32 _ refl (
    or_primitive (bytes_eq name (codes "s64")) type.S64 _ refl (
    or_primitive (bytes_eq name (codes "f32")) type.F32 _ refl (
    or_primitive (bytes_eq name (codes "f64")) type.F64 _ refl (
    or_primitive (bytes_eq name (codes "char")) type.Char _ refl (
    or_primitive (bytes_eq name (codes "string")) type.String _ refl (
    or_primitive (bytes_eq name (codes "error-context")) type.ErrorContext None refl tt)))))))))))))

no_target : (ty : Type_) → named_type ty ≡ [] → alias_target (kind.Type_ ty) ≡ None
no_target (type.Id id) none = cc
no_target other none = refl

module _ (p : Draft) (sound : IsSound p) where
  primitive-made : (ty : Type_) → named_type ty ≡ [] → IsMadeKind p (kind.Type_ ty)
  primitive-made ty none = record {
    known = λ is. cc;
    no_resource = λ is. cc;
    own = subst (AreOwn p) (sym none ∙ names_same (kind.Type_ ty)) (Each-nil (IsOwn p.types (open_owner p)));
    alias = rw (no_target ty none) tt;
  }

  earlier-made : (name : List ℕ) (id : ℕ) → earlier p name ≡ Some id → IsMadeKind p (kind.Type_ (type.Id id))
  earlier-made name id is =
      let def = SomeAt-is (λ (d : TypeDef). (d.name ≡ Some name) × (d.owner ≡ open_owner p)) p.types id (earlier-is p sound name id is) in
      record {
        known = λ unknown. cc;
        no_resource = λ resource. cc;
        own = one (earlier-own p sound name id is);
        alias = SomeAt-of (λ (named : TypeDef). IsSome named.name × (named.owner ≡ open_owner p)) p.types id def.0 def.1 (subst IsSome (sym def.2.0) refl, def.2.1);
      }
    where
      one : IsOwn p.types (open_owner p) id → AreOwn p (id ∷ [])
      one own zero x at = subst (IsOwn p.types (open_owner p)) (same-some id x at) own
      one own (suc i) x at = cc

  named-made : (name : List ℕ) (o : Option Type_) (e : Option ℕ) (ty : Type_) → IsNoId o → earlier p name ≡ e → option_or o (option_map type.Id e) ≡ Some ty → IsMadeKind p (kind.Type_ ty)
  named-made name (Some primitive) e ty no_id is found = primitive-made ty (subst (λ (x : Type_). named_type x ≡ []) (same-some primitive ty found) no_id)
  named-made name None (Some id) ty no_id is found = subst (λ (x : Type_). IsMadeKind p (kind.Type_ x)) (same-some (type.Id id) ty found) (earlier-made name id is)
  named-made name None None ty no_id is found = cc

  -- ---- handles

  sound-required : (root : ℕ) (span : OptionalSpan) → SomeAt p.types root (λ (def : TypeDef). def.kind ≡ kind.Unknown) → IsSound (record p { required = p.required ++ (root, span) ∷ [] })
  sound-required root span unknown = record {
    version = sound.version;
    good = sound.good;
    known = sound.known;
    required = EachAt-push (λ _ (r : ℕ × OptionalSpan). SomeAt p.types r.0 (λ (def : TypeDef). def.kind ≡ kind.Unknown)) p.required (root, span) sound.required unknown;
    interfaces_named = sound.interfaces_named;
    interfaces_differ = sound.interfaces_differ;
    interfaces_there = sound.interfaces_there;
    worlds_named = sound.worlds_named;
    worlds_differ = sound.worlds_differ;
    open_own = sound.open_own;
  }

  root-adds : (span : OptionalSpan) (root : ℕ) (k : TypeDefKind) (q : Draft) → SomeAt p.types root (λ (def : TypeDef). def.kind ≡ k) → with_root p span root k ≡ Some q → Adds p q
  root-adds span root kind.Resource q at made = subst (Adds p) (same-some p q made) (adds-nothing p sound)
  root-adds span root kind.Unknown q at made =
      subst (Adds p) (same-some (record p { required = p.required ++ (root, span) ∷ [] }) q made) (record { sound = sound-required root span at; owns = λ by id own. own; owner_same = refl })
  root-adds span root other q at made = cc

  resource-adds : (id : ℕ) (span : OptionalSpan) (q : Draft) → with_resource p id span ≡ Some q → Adds p q
  resource-adds id span q made =
      let root = step-of (with_root_at p span) (slice_get p.roots id) q made in
      let def = step-of (λ (d : TypeDef). with_root p span root.0 d.kind) (slice_get p.types root.0) q root.2 in
      root-adds span root.0 def.0.kind q (SomeAt-of (λ (d : TypeDef). d.kind ≡ def.0.kind) p.types root.0 def.0 def.1 refl) def.2

  handle-adds : (name : List ℕ) (span : OptionalSpan) (id : ℕ) (q : Draft) → handle_argument p name span ≡ Some (id, q) → Adds p q × IsOwn q.types (open_owner q) id
  handle-adds name span id q made =
      let found = step-of (λ (i : ℕ). option_map (λ (r : Draft). (i, r)) (with_resource p i span)) (earlier p name) (id, q) made in
      let with = map-of (λ (r : Draft). (found.0, r)) (with_resource p found.0 span) (id, q) found.2 in
      let adds : Adds p q = subst (Adds p) (ap (λ (m : ℕ × Draft). m.1) with.2) (resource-adds found.0 span with.0 with.1) in
      let same : found.0 ≡ id = ap (λ (m : ℕ × Draft). m.0) with.2 in (
        adds,
        subst (λ (by : TypeOwner). IsOwn q.types by id) (sym adds.owner_same) (adds.owns (open_owner p) id (subst (IsOwn p.types (open_owner p)) same (earlier-own p sound name found.0 found.1))),
      )

one_own : (q : Draft) (id : ℕ) → IsOwn q.types (open_owner q) id → AreOwn q (id ∷ [])
one_own q id own zero x at = subst (IsOwn q.types (open_owner q)) (same-some id x at) own
one_own q id own (suc i) x at = cc

own-handle : (q : Draft) (id : ℕ) → IsOwn q.types (open_owner q) id → IsMadeKind q (kind.Handle (handle.Own id))
own-handle q id own = record { known = λ is. cc; no_resource = λ is. cc; own = one_own q id own; alias = tt }

borrow-handle : (q : Draft) (id : ℕ) → IsOwn q.types (open_owner q) id → IsMadeKind q (kind.Handle (handle.Borrow id))
borrow-handle q id own = record { known = λ is. cc; no_resource = λ is. cc; own = one_own q id own; alias = tt }

-- a package after a kind is made
abbrev pub Made : Draft → TypeDefKind × Draft → Type 0
Made p made = Adds p made.1 × IsMadeKind made.1 made.0

pub written-made : (p : Draft) → IsSound p → (text : Written) (span : OptionalSpan) (made : TypeDefKind × Draft) → written_made p text span ≡ Some made → Made p made
written-made p sound (written.Named name) span made is =
    let ty = map-of (λ (t : Type_). (kind.Type_ t, p)) (type_named p name) made is in
    subst (Made p) ty.2 (adds-nothing p sound, named-made p sound name (primitive_of name) (earlier p name) ty.0 (primitive_no_id name) refl ty.1)
written-made p sound written.Future span made is =
    subst (Made p) (same-some (kind.Future None, p) made is) (adds-nothing p sound, record { known = λ h. cc; no_resource = λ h. cc; own = Each-nil (IsOwn p.types (open_owner p)); alias = tt })
written-made p sound written.Stream span made is =
    subst (Made p) (same-some (kind.Stream None, p) made is) (adds-nothing p sound, record { known = λ h. cc; no_resource = λ h. cc; own = Each-nil (IsOwn p.types (open_owner p)); alias = tt })
written-made p sound (written.Own name) span made is =
    let it = map-of (λ (m : ℕ × Draft). (kind.Handle (handle.Own m.0), m.1)) (handle_argument p name span) made is in
    let adds = handle-adds p sound name span it.0.0 it.0.1 it.1 in
    subst (Made p) it.2 (adds.0, own-handle it.0.1 it.0.0 adds.1)
written-made p sound (written.Borrow name) span made is =
    let it = map-of (λ (m : ℕ × Draft). (kind.Handle (handle.Borrow m.0), m.1)) (handle_argument p name span) made is in
    let adds = handle-adds p sound name span it.0.0 it.0.1 it.1 in
    subst (Made p) it.2 (adds.0, borrow-handle it.0.1 it.0.0 adds.1)

-- ---- types without a name

module _ (p : Draft) (sound : IsSound p) (k : TypeDefKind) (here : LineContext) where
  abbrev unnamed : Draft
  unnamed = with_type p (type_with None k owner.None here)

  below_all : AreOwn p (referred k) → Each (λ id. id < length p.types) (referred k)
  below_all own i id at = (own i id at).there

  -- a type without a name, at the next place
  unnamed-adds : IsPlain k → IsMadeKind p k → Adds p unnamed × IsOwn unnamed.types (open_owner unnamed) (length p.types)
  unnamed-adds plain made =
      let grows = grows-unnamed (interface_count p.foreign.deps) (world_count p.foreign.deps) (length p.foreign.type_spans) (things p) sound.good k here in
      let earlier = good-earlier (interface_count p.foreign.deps) (world_count p.foreign.deps) (length p.foreign.type_spans) (things p) sound.good in (
        record {
          sound = sound-with p.name p.required p.interface_ids p.world_ids p.scope p.foreign (things p) (things unnamed) sound grows
              (good-unnamed (interface_count p.foreign.deps) (world_count p.foreign.deps) (length p.foreign.type_spans) (things p) sound.good k here plain made.known (below_all made.own))
              refl refl refl refl;
          owns = λ by id own. own-stays p.types unnamed.types grows.types earlier by id own;
          owner_same = refl;
        },
        own-unnamed unnamed.types (length p.types) (type_with None k owner.None here) (slice_get-push p.types (type_with None k owner.None here)) (open_owner p) refl
            (λ i id at. own-stays p.types unnamed.types grows.types earlier (open_owner p) id (made.own i id at)),
      )

-- a kind that lines make is that of an alias, or plain
data KindView (p : Draft) (here : LineContext) (k : TypeDefKind) : Type 0 where
  alias : (ty : Type_) → k ≡ kind.Type_ ty → KindView p here k
  plain : IsPlain k → type_of p k here ≡ (type.Id (length p.types), with_type p (type_with None k owner.None here)) → KindView p here k

view : (p : Draft) (here : LineContext) (k : TypeDefKind) → k ≢ kind.Resource → KindView p here k
view p here (kind.Type_ ty) other_kind = alias ty refl
view p here kind.Resource other_kind = absurd (other_kind refl)
view p here other other_kind = plain tt refl

-- the type of a kind
abbrev pub MadeType : Draft → Type_ × Draft → Type 0
MadeType p made = Adds p made.1 × AreOwn made.1 (named_type made.0)

pub of-made : (p : Draft) → IsSound p → (k : TypeDefKind) (here : LineContext) → IsMadeKind p k → MadeType p (type_of p k here)
of-made p sound k here made =
    elim (view p here k made.no_resource) [
      | alias ty is ↦
          subst (λ (m : Type_ × Draft). MadeType p m) (sym (ap (λ (l : TypeDefKind). type_of p l here) is))
          (adds-nothing p sound, subst (AreOwn p) (ap referred is ∙ sym (names_same (kind.Type_ ty))) made.own)
      | plain holds is ↦
          let adds = unnamed-adds p sound k here holds made in
          subst (λ (m : Type_ × Draft). MadeType p m) (sym is) (adds.0, one_own (with_type p (type_with None k owner.None here)) (length p.types) adds.1)
    ]

around-made : (q : Draft) (form : Wrap) (ty : Type_) → AreOwn q (named_type ty) → IsMadeKind q (around form ty)
around-made q wrap.List ty own = record { known = λ h. cc; no_resource = λ h. cc; own = subst (AreOwn q) (names_same (kind.List ty)) own; alias = tt }
around-made q wrap.Option ty own = record { known = λ h. cc; no_resource = λ h. cc; own = subst (AreOwn q) (names_same (kind.Option ty)) own; alias = tt }
around-made q wrap.Future ty own = record { known = λ h. cc; no_resource = λ h. cc; own = subst (AreOwn q) (names_same (kind.Future (Some ty))) own; alias = tt }
around-made q wrap.Stream ty own = record { known = λ h. cc; no_resource = λ h. cc; own = subst (AreOwn q) (names_same (kind.Stream (Some ty))) own; alias = tt }

pub forms-made : (p : Draft) → IsSound p → (forms : List Wrap) (k : TypeDefKind) (here : LineContext) → IsMadeKind p k → Made p (forms_made p forms k here)
forms-made p sound [] k here made = (adds-nothing p sound, made)
forms-made p sound (form ∷ forms) k here made =
    let inner = forms-made p sound forms k here made in
    let one = forms_made p forms k here in
    let ty = of-made one.1 inner.0.sound one.0 here inner.1 in
    let made_type = type_of one.1 one.0 here in
    (adds-both p one.1 made_type.1 inner.0 ty.0, around-made made_type.1 form made_type.0 ty.1)

pub kind-made : (p : Draft) → IsSound p → (text : TypeText) (here : LineContext) (made : TypeDefKind × Draft) → kind_made p text here ≡ Some made → Made p made
kind-made p sound text here made is =
    let core = map-of (λ (m : TypeDefKind × Draft). forms_made m.1 text.wraps m.0 here) (written_made p text.core here.span) made is in
    let first = written-made p sound text.core here.span core.0 core.1 in
    let forms = forms-made core.0.1 first.0.sound text.wraps core.0.0 here first.1 in
    subst (Made p) core.2 (adds-both p core.0.1 (forms_made core.0.1 text.wraps core.0.0 here).1 first.0 forms.0, forms.1)

pub type-made : (p : Draft) → IsSound p → (text : TypeText) (here : LineContext) (made : Type_ × Draft) → type_made p text here ≡ Some made → MadeType p made
type-made p sound text here made is =
    let k = map-of (λ (m : TypeDefKind × Draft). type_of m.1 m.0 here) (kind_made p text here) made is in
    let first = kind-made p sound text here k.0 k.1 in
    let ty = of-made k.0.1 first.0.sound k.0.0 here first.1 in
    subst (MadeType p) k.2 (adds-both p k.0.1 (type_of k.0.1 k.0.0 here).1 first.0 ty.0, ty.1)

-- ---- fields and parameters

module _ {A B : Type 0} (make : A → Draft → Option (B × Draft)) (told : B → List ℕ)
    (each : (x : A) (p : Draft) (made : B × Draft) → IsSound p → make x p ≡ Some made → Adds p made.1 × AreOwn made.1 (told made.0)) where
  pub all-made : (xs : List A) (p : Draft) (made : List B × Draft) → IsSound p → each_made make xs p ≡ Some made → Adds p made.1 × AreOwn made.1 (flat_map told made.0)
  all-made [] p made sound is = subst (λ (m : List B × Draft). Adds p m.1 × AreOwn m.1 (flat_map told m.0)) (same-some ([], p) made is) (adds-nothing p sound, Each-nil (IsOwn p.types (open_owner p)))
  all-made (x ∷ xs) p made sound is =
      let first = step-of (λ (f : B × Draft). option_map (λ (rest : List B × Draft). (f.0 ∷ rest.0, rest.1)) (each_made make xs f.1)) (make x p) made is in
      let rest = map-of (λ (r : List B × Draft). (first.0.0 ∷ r.0, r.1)) (each_made make xs first.0.1) made first.2 in
      let one = each x p first.0 sound first.1 in
      let others = all-made xs first.0.1 rest.0 one.0.sound rest.1 in
      subst (λ (m : List B × Draft). Adds p m.1 × AreOwn m.1 (flat_map told m.0)) rest.2 (
        adds-both p first.0.1 rest.0.1 one.0 others.0,
        Each-append (IsOwn rest.0.1.types (open_owner rest.0.1)) (told first.0.0) (flat_map told rest.0.0) (own-after first.0.1 rest.0.1 (told first.0.0) others.0 one.1) others.1,
      )

pub fields-made : (here : LineContext) (fields : List TypedName) (p : Draft) (made : List Field × Draft) → IsSound p → each_made (field_made here) fields p ≡ Some made
    → Adds p made.1 × AreOwn made.1 (flat_map (λ (f : Field). named_type f.ty) made.0)
fields-made here fields p made sound is =
    all-made (field_made here) (λ (f : Field). named_type f.ty)
    (λ x q m s e.
    let ty = map-of (λ (t : Type_ × Draft). (record { name = x.name; ty = t.0; docs = record { contents = None }; span = here.span }, t.1)) (type_made q x.ty here) m e in
    let made_type = type-made q s x.ty here ty.0 ty.1 in
    subst (λ (n : Field × Draft). Adds q n.1 × AreOwn n.1 (named_type n.0.ty)) ty.2 made_type)
    fields p made sound is

pub params-made : (here : LineContext) (params : List TypedName) (p : Draft) (made : List Param × Draft) → IsSound p → each_made (param_made here) params p ≡ Some made
    → Adds p made.1 × AreOwn made.1 (flat_map (λ (x : Param). named_type x.ty) made.0)
params-made here params p made sound is =
    all-made (param_made here) (λ (x : Param). named_type x.ty)
    (λ x q m s e.
    let ty = map-of (λ (t : Type_ × Draft). (record { name = x.name; ty = t.0; span = here.span }, t.1)) (type_made q x.ty here) m e in
    let made_type = type-made q s x.ty here ty.0 ty.1 in
    subst (λ (n : Param × Draft). Adds q n.1 × AreOwn n.1 (named_type n.0.ty)) ty.2 made_type)
    params p made sound is

answer-made : (p : Draft) → IsSound p → (text : Option TypeText) (here : LineContext) (made : Option Type_ × Draft) → answer_made p text here ≡ Some made → Adds p made.1 × AreOwn made.1 (named_option made.0)
answer-made p sound None here made is = subst (λ (m : Option Type_ × Draft). Adds p m.1 × AreOwn m.1 (named_option m.0)) (same-some (None, p) made is) (adds-nothing p sound, Each-nil (IsOwn p.types (open_owner p)))
answer-made p sound (Some text) here made is =
    let ty = map-of (λ (t : Type_ × Draft). (Some t.0, t.1)) (type_made p text here) made is in
    subst (λ (m : Option Type_ × Draft). Adds p m.1 × AreOwn m.1 (named_option m.0)) ty.2 (type-made p sound text here ty.0 ty.1)

-- ---- functions

module _ (p : Draft) (sound : IsSound p) where
  -- the resource of a function is the owner's own
  abbrev RoleOwn : Option FunctionKind → Type 0
  RoleOwn o = (does : FunctionKind) → o ≡ Some does → AreOwn p (option_to_list (resource_of does))

  role-group : (o : Option (List ℕ)) (of_rest : List ℕ → Option FunctionKind) (other : Option FunctionKind) → ((rest : List ℕ) → RoleOwn (of_rest rest)) → RoleOwn other → RoleOwn (option_map_or of_rest o other)
  role-group (Some rest) of_rest other first second = first rest
  role-group None of_rest other first second = second

  role-of : (make : ℕ → FunctionKind) (o : Option ℕ) → ((id : ℕ) → resource_of (make id) ≡ Some id) → ((id : ℕ) → o ≡ Some id → IsOwn p.types (open_owner p) id) → RoleOwn (option_map make o)
  role-of make o makes own does is =
      let id = map-of make o does is in
      let told : option_to_list (resource_of does) ≡ id.0 ∷ [] = ap (λ (k : FunctionKind). option_to_list (resource_of k)) (sym id.2) ∙ ap option_to_list (makes id.0) in
      subst (AreOwn p) (sym told) (one_own p id.0 (own id.0 id.1))

  role-free : (b : Bool) (does : FunctionKind) → resource_of does ≡ None → RoleOwn (cond b (Some does) None)
  role-free true does none other is =
      let told : option_to_list (resource_of other) ≡ [] = ap (λ (k : FunctionKind). option_to_list (resource_of k)) (sym (same-some does other is)) ∙ ap option_to_list none in
      subst (AreOwn p) (sym told) (Each-nil (IsOwn p.types (open_owner p)))
  role-free false does none other is = cc

  member-own : (rest : List ℕ) (id : ℕ) → member_of p rest ≡ Some id → IsOwn p.types (open_owner p) id
  member-own rest id is = by (is_plain rest) is where
    by : (b : Bool) → cond b (option_and_then (λ (names : List ℕ × List ℕ). earlier p names.0) (split_at 46 rest)) None ≡ Some id → IsOwn p.types (open_owner p) id
    by true found = let names = step-of (λ (n : List ℕ × List ℕ). earlier p n.0) (split_at 46 rest) id found in earlier-own p sound names.0.0 id names.2
    by false found = cc

  constructor-own : (rest : List ℕ) (id : ℕ) → constructor_resource p rest ≡ Some id → IsOwn p.types (open_owner p) id
  constructor-own rest id is = by (is_plain rest) is where
    by : (b : Bool) → cond b (earlier p rest) None ≡ Some id → IsOwn p.types (open_owner p) id
    by true found = earlier-own p sound rest id found
    by false found = cc

  method-own : (rest : List ℕ) → RoleOwn (method_role p rest)
  method-own rest =
      role-group (after_prefix (codes "[get]") rest) _ _ (λ more. role-of role.MethodGetter (member_of p more) (λ id. refl) (member-own more))
      (role-group (after_prefix (codes "[set]") rest) _ _ (λ more. role-of role.MethodSetter (member_of p more) (λ id. refl) (member-own more))
      (role-of role.Method (member_of p rest) (λ id. refl) (member-own rest)))

  static-own : (rest : List ℕ) → RoleOwn (static_role p rest)
  static-own rest =
      role-group (after_prefix (codes "[get]") rest) _ _ (λ more. role-of role.StaticGetter (member_of p more) (λ id. refl) (member-own more))
      (role-group (after_prefix (codes "[set]") rest) _ _ (λ more. role-of role.StaticSetter (member_of p more) (λ id. refl) (member-own more))
      (role-of role.Static (member_of p rest) (λ id. refl) (member-own rest)))

  freestanding-own : (name : List ℕ) → RoleOwn (freestanding_kind name)
  freestanding-own name =
      role-group (after_prefix (codes "[get]") name) _ _ (λ rest. role-free (is_plain rest) role.Getter refl)
      (role-group (after_prefix (codes "[set]") name) _ _ (λ rest. role-free (is_plain rest) role.Setter refl) (role-free (is_plain name) role.Freestanding refl))

  kind-own : (name : List ℕ) → RoleOwn (function_kind_of p name)
  kind-own name =
      role-group (after_prefix (codes "[constructor]") name) _ _ (λ rest. role-of role.Constructor (constructor_resource p rest) (λ id. refl) (constructor-own rest))
      (role-group (after_prefix (codes "[method]") name) _ _ method-own (role-group (after_prefix (codes "[static]") name) _ _ static-own (freestanding-own name)))

  -- a function refers to the owner's own alone
  pub function-made : (said : Signature) (here : LineContext) (made : Function × Draft) → function_made p said here ≡ Some made → Adds p made.1 × UsesOwn made.1.types (open_owner made.1) made.0
  function-made said here made is =
      let does = step-of (function_by p said here) (function_kind_of p said.name) made is in
      let params = step-of (λ (ps : List Param × Draft). option_map (λ (answer : Option Type_ × Draft). (function_with said.name does.0 ps.0 answer.0 here, answer.1)) (answer_made ps.1 said.answer here))
      (each_made (param_made here) said.params p) made does.2 in
      let answer = map-of (λ (a : Option Type_ × Draft). (function_with said.name does.0 params.0.0 a.0 here, a.1)) (answer_made params.0.1 said.answer here) made params.2 in
      let resource = kind-own said.name does.0 does.1 in
      let first = params-made here said.params p params.0 sound params.1 in
      let last = answer-made params.0.1 first.0.sound said.answer here answer.0 answer.1 in
      let whole = adds-both p params.0.1 answer.0.1 first.0 last.0 in
      let q = answer.0.1 in
      subst (λ (m : Function × Draft). Adds p m.1 × UsesOwn m.1.types (open_owner m.1) m.0) answer.2 (
        whole,
        Each-append (IsOwn q.types (open_owner q)) (option_to_list (resource_of does.0)) _ (own-after p q (option_to_list (resource_of does.0)) whole resource)
            (Each-append (IsOwn q.types (open_owner q)) (flat_map (λ (x : Param). named_type x.ty) params.0.0) (named_option answer.0.0)
            (own-after params.0.1 q (flat_map (λ (x : Param). named_type x.ty) params.0.0) last.0 first.1) last.1),
      )
