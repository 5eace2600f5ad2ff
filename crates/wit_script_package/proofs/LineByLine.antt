-- Each line leaves a package sound.
use Rattle.std.proofs.Common.{◌≡◌, ◌∙◌, ◌⊎◌, inl, inr, ℕ, ◌<◌, ◌==◌, zero, suc, Bool, true, false, cond, List, [], ◌∷◌, length, Option, Some, None, IsSome, slice_get, refl, sym, ap, subst, arith, bytes_eq, option_map, Decides, flat_map}
use Rattle.std.specs.Map.{lookup}
use Rattle.std.proofs.lemmas.Bool.{cases_lt}
use Rattle.std.proofs.lemmas.Bool.Decides.{Decides-eqb}
use Rattle.std.proofs.lemmas.Option.{slice_get_within}
use Rattle.wit_data.specs.Each.{Each, SomeAt}
use Rattle.wit_data.specs.facts.EachFacts.{SomeAt-is, SomeAt-of}
use Rattle.wit_data.specs.Entries.{IsExport, IsImport}
use Rattle.wit_data.specs.Foreign.{ForeignItem, IsNameOnly}
use Rattle.wit_data.specs.Ownership.{IsNamed, IsNamedInterface, IsOwn, IsTypeOf, UsesOwn, is_no_target}
use Rattle.wit_data.specs.facts.KindFacts.{roles_are}
use Rattle.wit_data.specs.facts.ReferenceFacts.{all_referred, record_refers}
use Rattle.wit_names.specs.PackageName.{same_package}
use Rattle.wit_data.specs.Kind.{named_type, referred}
use Rattle.wit_data.specs.Uses.{alias_target, other_owner}
use Rattle.wit_data.specs.declared.unresolved.AstItem.{AstItem}
use Rattle.wit_data.specs.declared.types.Field.{Field}
use Rattle.wit_data.specs.declared.function.Function.{Function}
use Rattle.wit_data.specs.declared.world.IncludeName.{IncludeName}
use Rattle.wit_data.specs.declared.interface.Interface.{Interface}
use Rattle.wit_names.specs.declared.use_path.ParsedUsePath.{ParsedUsePath}
use Rattle.wit_data.specs.declared.stability.Stability.{Stability}
use Rattle.wit_data.specs.declared.types.TypeDef.{TypeDef}
use Rattle.wit_data.specs.declared.types.TypeDefKind.{TypeDefKind}
use Rattle.wit_data.specs.declared.types.TypeOwner.{TypeOwner}
use Rattle.wit_data.specs.declared.kind.PartRole.TheVariants.{Value}
use Rattle.wit_data.specs.declared.types.Handle.TheVariants as handle
use Rattle.wit_data.specs.declared.types.TypeDefKind.TheVariants as kind
use Rattle.wit_data.specs.declared.types.TypeOwner.TheVariants as owner
use Rattle.wit_data.specs.declared.types.Type_.TheVariants as type
use Rattle.wit_data.specs.declared.unresolved.AstItem.TheVariants as foreign
use Rattle.wit_names.specs.declared.use_path.ParsedUsePath.TheVariants as path
use Rattle.wit_data.specs.declared.world.WorldItem.TheVariants as item
use Rattle.wit_data.specs.declared.world.WorldKey.TheVariants as key
use Rattle.wit_script_lines.specs.declared.package_line.PackageLine.{PackageLine}
use Rattle.wit_script_lines.specs.declared.package_line.PackageLine.TheVariants as says
use Rattle.wit_script_lines.specs.declared.signature.Signature.{Signature}
use Rattle.wit_script_lines.specs.declared.signature.TypedName.{TypedName}
use Rattle.wit_script_lines.specs.declared.type_text.TypeText.{TypeText}
use Rattle.wit_script_package.specs.Adding.{with_export, with_function, with_import, with_include, with_named}
use Rattle.wit_script_package.specs.Draft.{span_after}
use Rattle.wit_script_package.specs.Lines.{interface_entry, key_of, with_gated_line, with_line}
use Rattle.wit_script_package.specs.Making.{each_made, field_made, function_made, kind_made}
use Rattle.wit_script_package.specs.Naming.{OptionalSpan, foreign_named, interface_named, interface_of, open_interface, open_world, type_at, world_named}
use Rattle.wit_script_package.specs.declared.draft.Draft.{Draft}
use Rattle.wit_script_package.specs.declared.draft.LineContext.{LineContext}
use Rattle.wit_script_package.proofs.Added.{IsNamedKind}
use Rattle.wit_script_package.proofs.Makes.{AreOwn, IsMadeKind, fields-made, function-made, interface_type-is, kind-made}
use Rattle.wit_script_package.proofs.Places.{Each-nil, SomeAt-moved, get_at, if-some, if-some-at, lookup-at, same_at, some-within}
use Rattle.wit_script_package.proofs.Sound.{IsSound, open_interface-is, open_owner, owner_by, sound-export, sound-function, sound-import, sound-include, sound-interface, sound-named, sound-world, things}
use Rattle.wit_script_lines.specs.facts.OptionFacts.{map-of, same-some, step-of}
use Rattle.wit_data.specs.steps.Parts.{parts, IsNameOnlyInterface}
use Rattle.wit_script_package.specs.steps.Parts.{with_text, with_type_line, with_record, with_use, with_function_line, with_import_line, with_export_line, with_imported_function, with_exported_function, include_item, with_include_line, used_type}

-- ---- kinds of types with a name

-- no owner is another than itself
other_owner_self : (by : TypeOwner) → other_owner by by ≡ None
other_owner_self (owner.Interface i) = rw ((Decides-eqb i i).1 refl) refl
other_owner_self (owner.World w) = refl
other_owner_self owner.None = refl

parts_own : (P : ℕ → Type 0) (k : TypeDefKind) → Each P (referred k) → Each P (parts k)
parts_own P (kind.Type_ ty) each = Each-nil P
parts_own P (kind.Handle (handle.Own t)) each = each
parts_own P (kind.Handle (handle.Borrow t)) each = each
parts_own P other each = subst (Each P) (sym (all_referred is_no_target other Value (roles_are other) refl)) each

module _ (p : Draft) (sound : IsSound p) where
  -- what lines make
  made-named : (k : TypeDefKind) → IsMadeKind p k → IsNamedKind (things p) (open_owner p) k
  made-named k made = record {
    known = made.known;
    earlier = λ i id at. (made.own i id at).there;
    alias = if-some (alias_target k) (λ target is some.
        SomeAt-moved (λ (named : TypeDef). IsSome named.name × (named.owner ≡ open_owner p)) (λ (named : TypeDef). IsSome named.name × ((named.owner ≡ open_owner p) ⊎ IsNamedInterface p.interfaces named.owner))
        p.types p.types target (λ x at h. (x, at, (h.0, inl h.1))) some) made.alias;
    own = parts_own (IsOwn p.types (open_owner p)) k made.own;
    uses = λ f target j named owned is at dep.
        let some = if-some-at (λ (t : ℕ). SomeAt p.types t (λ (d : TypeDef). IsSome d.name × (d.owner ≡ open_owner p))) (alias_target k) target is made.alias in
        let there = SomeAt-is (λ (d : TypeDef). IsSome d.name × (d.owner ≡ open_owner p)) p.types target some in
        let same : named.owner ≡ open_owner p = ap (λ (d : TypeDef). d.owner) (same_at p.types target named there.0 at there.1) ∙ there.2.1 in
        let none : other_owner (open_owner p) named.owner ≡ None = ap (other_owner (open_owner p)) same ∙ other_owner_self (open_owner p) in
        cc;
  }

  resource-named : IsNamedKind (things p) (open_owner p) kind.Resource
  resource-named = record {
    known = λ is. cc;
    earlier = Each-nil (λ id. id < length p.types);
    alias = tt;
    own = Each-nil (IsOwn p.types (open_owner p));
    uses = λ f target j named owned is at dep. cc;
  }

  record-named : (fields : List Field) → AreOwn p (flat_map (λ (f : Field). named_type f.ty) fields) → IsNamedKind (things p) (open_owner p) (kind.Record fields)
  record-named fields own = record {
    known = λ is. cc;
    earlier = λ i id at. (refers i id at).there;
    alias = tt;
    own = parts_own (IsOwn p.types (open_owner p)) (kind.Record fields) refers;
    uses = λ f target j named owned is at dep. cc;
  }
    where
      refers : AreOwn p (referred (kind.Record fields))
      refers = subst (AreOwn p) (sym (record_refers fields)) own

  open_from : (o w : Option ℕ) (g : ℕ) → owner_by o w ≡ owner.Interface g → o ≡ Some g
  open_from (Some at) w g is = cc
  open_from None (Some w) g is = cc
  open_from None None g is = cc

  lower : (g f j : ℕ) → f < suc g → cond (g == f) None (Some f) ≡ Some j → j < g
  lower g f j below is = by (g == f) (Decides-eqb g f) is where
    by : (b : Bool) → Decides b (g ≡ f) → cond b None (Some f) ≡ Some j → j < g
    by true told is = cc
    by false told is =
        let same : f ≡ j = same-some f j is in
        elim (cases_lt f g) [
          | inl less ↦ subst (λ (n : ℕ). n < g) same less
          | inr past ↦ let equal : g ≡ f = omega (arith, below, past) in let wrong : false ≡ true = told.1 equal in cc
        ]

  -- a type of another interface, or of an earlier one
  used-named : (f id : ℕ) (name : List ℕ) → type_at p name f ≡ Some id → IsNamedKind (things p) (open_owner p) (kind.Type_ (type.Id id))
  used-named f id name found =
      let P : TypeDef → Type 0 = λ (d : TypeDef). (d.name ≡ Some name) × (d.owner ≡ owner.Interface f) in
      let is_type : IsTypeOf p.types (owner.Interface f) name id = interface_type-is p sound name f id found in
      let there = SomeAt-is P p.types id is_type in
      let interface = step-of (λ (i : Interface). lookup (bytes_eq name) i.types) (slice_get p.interfaces f) id found in
      let named : IsNamed p.interfaces f = SomeAt-of (λ (i : Interface). IsSome i.name) p.interfaces f interface.0 interface.1 (sound.good.interfaces f interface.0 interface.1).named in
      let within : f < length p.interfaces = slice_get_within p.interfaces f interface.0 interface.1 in
      record {
        known = λ is. cc;
        earlier = one (some-within P p.types id is_type);
        alias = SomeAt-of (λ (d : TypeDef). IsSome d.name × ((d.owner ≡ open_owner p) ⊎ IsNamedInterface p.interfaces d.owner)) p.types id there.0 there.1
            (subst IsSome (sym there.2.0) refl, inr (subst (IsNamedInterface p.interfaces) (sym there.2.1) named));
        own = Each-nil (IsOwn p.types (open_owner p));
        uses = λ g target j d owned is at dep.
            let same : id ≡ target = same-some id target is in
            let one_type : d ≡ there.0 = same_at p.types target d there.0 at (subst (λ (n : ℕ). slice_get p.types n ≡ Some there.0) same there.1) in
            let of : d.owner ≡ owner.Interface f = ap (λ (e : TypeDef). e.owner) one_type ∙ there.2.1 in
            let leads : other_owner (owner.Interface g) (owner.Interface f) ≡ Some j = sym (ap (λ (by : TypeOwner). other_owner by d.owner) owned ∙ ap (other_owner (owner.Interface g)) of) ∙ dep in
            let opened = open_interface-is p g sound (open_from (open_interface p) (open_world p) g owned) in
            lower g f j (subst (λ (n : ℕ). f < n) opened.last within) leads;
      }
    where
      one : id < length p.types → Each (λ n. n < length p.types) (id ∷ [])
      one below zero x at = subst (λ (n : ℕ). n < length p.types) (same-some id x at) below
      one below (suc i) x at = cc

  -- ---- interfaces that paths name

  interface_is : (it : AstItem) (id : ℕ) → interface_of it ≡ Some id → it ≡ foreign.Interface id
  interface_is (foreign.Interface i) id is = ap foreign.Interface (same-some i id is)
  interface_is (foreign.World w) id is = cc

  bare_named : (name : List ℕ) (id : ℕ) → IsNameOnly p.interfaces p.worlds name (foreign.Interface id) → IsNamed p.interfaces id
  bare_named name id some =
      SomeAt-moved (IsNameOnlyInterface name) (λ (i : Interface). IsSome i.name) p.interfaces p.interfaces id (λ x at h. (x, at, subst IsSome (sym h.0) refl)) some

  interface-there : (from : ParsedUsePath) (id : ℕ) → interface_named p from ≡ Some id → IsNamed p.interfaces id
  interface-there (path.Name name) id is =
      let place = lookup-at (bytes_eq name) p.interface_ids id is in
      let interface = get_at p.interfaces id (sound.interfaces_there place.0 (place.1, id) place.2) in
      SomeAt-of (λ (i : Interface). IsSome i.name) p.interfaces id interface.0 interface.1 (sound.good.interfaces id interface.0 interface.1).named
  interface-there (path.Package parent name) id is =
      let it = step-of interface_of (foreign_named p parent name) id is in
      let items = step-of (λ (es : List ForeignItem). option_map (λ (n : AstItem × List Stability). n.0) (lookup (bytes_eq name) es)) (lookup (same_package parent) p.foreign.deps) it.0 it.1 in
      let noted = map-of (λ (n : AstItem × List Stability). n.0) (lookup (bytes_eq name) items.0) it.0 items.2 in
      let in_deps = lookup-at (same_package parent) p.foreign.deps items.0 items.1 in
      let in_items = lookup-at (bytes_eq name) items.0 noted.0 noted.1 in
      let bare = sound.known.bare in_deps.0 (in_deps.1, items.0) in_deps.2 in_items.0 (in_items.1, noted.0) in_items.2 in
      let same : noted.0.0 ≡ foreign.Interface id = noted.2 ∙ interface_is it.0 id it.2 in
      bare_named in_items.1 id (subst (IsNameOnly p.interfaces p.worlds in_items.1) same bare.0)

  exported-entry : (label : Option (List ℕ)) (id : ℕ) (here : LineContext) → IsNamed p.interfaces id → IsExport p.interfaces (key_of label id) (interface_entry id here)
  exported-entry None id here named = (refl, named)
  exported-entry (Some label) id here named = some-within (λ (i : Interface). IsSome i.name) p.interfaces id named

  imported-entry : (label : Option (List ℕ)) (id w : ℕ) (here : LineContext) → IsNamed p.interfaces id → IsImport p.interfaces p.types w (key_of label id) (interface_entry id here)
  imported-entry None id w here named = (refl, named)
  imported-entry (Some label) id w here named = some-within (λ (i : Interface). IsSome i.name) p.interfaces id named

-- ---- lines

module _ (p : Draft) (sound : IsSound p) (here : LineContext) (q : Draft) where
  type_line : (name : List ℕ) (text : TypeText) → with_type_line p name text here ≡ Some q → IsSound q
  type_line name text made =
      let k = step-of (λ (m : TypeDefKind × Draft). with_named m.1 name m.0 here) (kind_made p text here) q made in
      let one = kind-made p sound text here k.0 k.1 in
      sound-named k.0.1 one.0.sound name k.0.0 here q (made-named k.0.1 one.0.sound k.0.0 one.1) k.0.1.scope k.2

  record_line : (name : List ℕ) (fields : List TypedName) → with_record p name fields here ≡ Some q → IsSound q
  record_line name fields made =
      let fs = step-of (λ (m : List Field × Draft). with_named m.1 name (kind.Record m.0) here) (each_made (field_made here) fields p) q made in
      let one = fields-made here fields p fs.0 sound fs.1 in
      sound-named fs.0.1 one.0.sound name (kind.Record fs.0.0) here q (record-named fs.0.1 one.0.sound fs.0.0 one.1) fs.0.1.scope fs.2

  use_line : (from : ParsedUsePath) (name new : List ℕ) → with_use p from name new here ≡ Some q → IsSound q
  use_line from name new made =
      let id = step-of (λ (i : ℕ). with_named p new (kind.Type_ (type.Id i)) here) (used_type p from name) q made in
      let f = step-of (type_at p name) (interface_named p from) id.0 id.1 in
      sound-named p sound new (kind.Type_ (type.Id id.0)) here q (used-named p sound f.0 id.0 name f.2) p.scope id.2

  function_line : (said : Signature) → with_function_line p said here ≡ Some q → IsSound q
  function_line said made =
      let f = step-of (λ (m : Function × Draft). with_function m.1 m.0) (function_made p said here) q made in
      let one = function-made p sound said here f.0 f.1 in
      sound-function f.0.1 one.0.sound f.0.0 q one.1 f.2

  import_line : (label : Option (List ℕ)) (from : ParsedUsePath) → with_import_line p label from here ≡ Some q → IsSound q
  import_line label from made =
      let id = step-of (λ (i : ℕ). with_import p (key_of label i) (interface_entry i here)) (interface_named p from) q made in
      let there = interface-there p sound from id.0 id.1 in
      sound-import p sound (key_of label id.0) (interface_entry id.0 here) q (λ w owned. (imported-entry p sound label id.0 w here there, tt)) id.2

  export_line : (label : Option (List ℕ)) (from : ParsedUsePath) → with_export_line p label from here ≡ Some q → IsSound q
  export_line label from made =
      let id = step-of (λ (i : ℕ). with_export p (key_of label i) (interface_entry i here)) (interface_named p from) q made in
      let there = interface-there p sound from id.0 id.1 in
      sound-export p sound (key_of label id.0) (interface_entry id.0 here) q (λ w owned. (exported-entry p sound label id.0 here there, tt)) id.2

  imported_function : (said : Signature) → with_imported_function p said here ≡ Some q → IsSound q
  imported_function said made =
      let f = step-of (λ (m : Function × Draft). with_import m.1 (key.Name m.0.name) (item.Function m.0)) (function_made p said here) q made in
      let one = function-made p sound said here f.0 f.1 in
      sound-import f.0.1 one.0.sound (key.Name f.0.0.name) (item.Function f.0.0) q (λ w owned. (refl, subst (λ (by : TypeOwner). UsesOwn f.0.1.types by f.0.0) owned one.1)) f.2

  exported_function : (said : Signature) → with_exported_function p said here ≡ Some q → IsSound q
  exported_function said made =
      let f = step-of (λ (m : Function × Draft). with_export m.1 (key.Name m.0.name) (item.Function m.0)) (function_made p said here) q made in
      let one = function-made p sound said here f.0 f.1 in
      sound-export f.0.1 one.0.sound (key.Name f.0.0.name) (item.Function f.0.0) q (λ w owned. (refl, subst (λ (by : TypeOwner). UsesOwn f.0.1.types by f.0.0) owned one.1)) f.2

  include_line : (from : ParsedUsePath) (names : List IncludeName) → with_include_line p from names here ≡ Some q → IsSound q
  include_line from names made =
      let id = step-of (λ (i : ℕ). with_include p (include_item i names here)) (world_named p from) q made in
      sound-include p sound (include_item id.0 names here) q id.2

  -- what a line says, added
  gated_line : (said : PackageLine) → with_gated_line p said here ≡ Some q → IsSound q
  gated_line (says.Interface name) made = sound-interface p sound name here q made
  gated_line (says.World name) made = sound-world p sound name here q made
  gated_line (says.Type_ name text) made = type_line name text made
  gated_line (says.Record name fields) made = record_line name fields made
  gated_line (says.Resource name) made = sound-named p sound name kind.Resource here q (resource-named p sound) p.scope made
  gated_line (says.Use from name new) made = use_line from name new made
  gated_line (says.Function said) made = function_line said made
  gated_line (says.Import label from) made = import_line label from made
  gated_line (says.Export label from) made = export_line label from made
  gated_line (says.ImportFunction said) made = imported_function said made
  gated_line (says.ExportFunction said) made = exported_function said made
  gated_line (says.Include from names) made = include_line from names made

-- a line leaves a package sound
pub line-sound : (p q : Draft) (said : PackageLine) (gate : Stability) (line : List ℕ) → IsSound p → with_line p said gate line ≡ Some q → IsSound q
line-sound p q said gate line sound made =
    let span = step-of (λ (s : OptionalSpan). with_gated_line (with_text p line) said (record { gate = gate; span = s })) (span_after (length p.contents) line) q made in
    gated_line (with_text p line) sound (record { gate = gate; span = span.0 }) q said span.2
