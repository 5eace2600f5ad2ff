-- What is written is a text of JSON: its numbers are numbers, and it nests less than a reader allows.
use Rattle.std.proofs.Common.{◌∙◌, ℕ, suc, ◌<◌, ◌≤◌, ◌^◌, List, [], ◌∷◌, ◌++◌, map, Option, Some, None, refl, sym, subst, ap, codes, arith}
use Rattle.wit_names.specs.PackageName.{package_name_text}
use Rattle.wit_json.specs.Worlds.{entry_name}
use Rattle.wit_json_reading.specs.Reading.{instead_of}
use Rattle.std.specs.Option.{option_map, option_map_or}
use Rattle.std.specs.Prelude.{IfSome, ⊤}
use Rattle.json.specs.Json.{Json, document, Members, max_depth}
use Rattle.json.specs.Json as json
use Rattle.json.specs.Tree.{HasNumbers, ItemsHaveNumbers, MembersHaveNumbers, depth, items_depth, members_depth}
use Rattle.json.specs.Value.{items_of}
use Rattle.json.proofs.Printed.Decimals.{IsNumber-decimal}
use Rattle.json.proofs.Printed.Trees.{document-print}
use Rattle.wit_names.specs.declared.package_name.PackageName.{PackageName}
use Rattle.wit_data.specs.Each.{Each}
use Rattle.wit_data.specs.Foreign.{ForeignItem}
use Rattle.wit_data.specs.declared.function.Function.{Function}
use Rattle.wit_data.specs.declared.function.FunctionKind.{FunctionKind}
use Rattle.wit_data.specs.declared.function.FunctionKind.TheVariants as function
use Rattle.wit_data.specs.declared.function.Param.{Param}
use Rattle.wit_data.specs.declared.interface.Interface.{Interface}
use Rattle.wit_data.specs.declared.stability.Docs.{Docs}
use Rattle.wit_data.specs.declared.stability.Stability.{Stability}
use Rattle.wit_data.specs.declared.stability.Stability.TheVariants.{Unknown, Stable, Unstable}
use Rattle.wit_data.specs.declared.types.Case.{Case}
use Rattle.wit_data.specs.declared.types.EnumCase.{EnumCase}
use Rattle.wit_data.specs.declared.types.Field.{Field}
use Rattle.wit_data.specs.declared.types.Flag.{Flag}
use Rattle.wit_data.specs.declared.types.Handle.{Handle}
use Rattle.wit_data.specs.declared.types.Handle.TheVariants.{Own, Borrow}
use Rattle.wit_data.specs.declared.types.TypeDef.{TypeDef}
use Rattle.wit_data.specs.declared.types.TypeDefKind.{TypeDefKind}
use Rattle.wit_data.specs.declared.types.TypeDefKind.TheVariants as kind
use Rattle.wit_data.specs.declared.types.TypeOwner.{TypeOwner}
use Rattle.wit_data.specs.declared.types.TypeOwner.TheVariants as owner
use Rattle.wit_data.specs.declared.types.Type_.{Type_}
use Rattle.wit_data.specs.declared.types.Type_.TheVariants as type
use Rattle.wit_data.specs.declared.unresolved.AstItem.{AstItem}
use Rattle.wit_data.specs.declared.unresolved.AstItem.TheVariants as ast
use Rattle.wit_data.specs.declared.unresolved.UnresolvedPackage.{UnresolvedPackage}
use Rattle.wit_data.specs.declared.unresolved.UnresolvedPackageGroup.{UnresolvedPackageGroup}
use Rattle.wit_sources.specs.SourceMap.{files_of}
use Rattle.wit_data.specs.declared.world.IncludeName.{IncludeName}
use Rattle.wit_data.specs.declared.world.World.{World}
use Rattle.wit_data.specs.declared.world.WorldInclude.{WorldInclude}
use Rattle.wit_data.specs.declared.world.WorldItem.{WorldItem}
use Rattle.wit_data.specs.declared.world.WorldItem.TheVariants as item
use Rattle.wit_data.specs.declared.world.WorldKey.{WorldKey}
use Rattle.wit_json.specs.Details.{json_of_range, json_of_span}
use Rattle.wit_json.specs.Functions.{json_of_function_kind}
use Rattle.wit_json.specs.Gates.{json_of_stability}
use Rattle.wit_json.specs.Graph.{compact, json_of_package_name}
use Rattle.wit_json.specs.Groups.{json_of_group}
use Rattle.wit_json.specs.Types.{json_of_handle, json_of_owner, json_of_result, json_of_type}
use Rattle.wit_json.specs.Unresolved.{json_of_ast_item, json_of_foreign_item, json_of_gate, json_of_include, json_of_include_name, json_of_unresolved, whole_case, whole_enum_case, whole_field, whole_flag, whole_function, whole_interface, whole_item, whole_kind, whole_param, whole_type, whole_world}
use Rattle.wit_json.specs.Values as written
use Rattle.wit_json.specs.Values.{Member, json_of_number, json_of_text, json_of_version, members_of, null_or, object, object_under_names, optional, pair, tagged, object_by}
use Rattle.wit_json_graphs.specs.Writable.{AreWritableEntries, AreWritableItems, IsWritableAstItem, IsWritableCase, IsWritableField, IsWritableFunction, IsWritableFunctionKind, IsWritableGroup, IsWritableHandle, IsWritableInclude, IsWritableInterface, IsWritableItem, IsWritableKind, IsWritableOwner, IsWritablePackage, IsWritableParam, IsWritableSpan, IsWritableType, IsWritableTypeDef, IsWritableWorld}
use Rattle.wit_json.specs.Whole.{json_of_file, json_of_sources}
use Rattle.wit_json_graphs.specs.laws.ReadBack.{GroupTextsReadBack, TextsReadBack}
use Rattle.wit_json_reading.specs.Documents.{if_document}
use Rattle.wit_json_reading.specs.Stops.{stop_in}
use Rattle.wit_json_reading.specs.Groups.{read_group}
use Rattle.wit_json_reading.specs.Packages.{read_package}
use Rattle.wit_json_graphs.proofs.Packages.{packages_read_back}
use Rattle.wit_json_graphs.proofs.Sources.{groups_read_back}
use Rattle.wit_json_graphs.proofs.Slots.{Slot, joined, members_are, slots, json_of_docs}
use Rattle.wit_json_reading.specs.declared.fault.Expected.TheVariants as expected

-- numbers are numbers, and arrays and objects nest no deeper than d
record IsPlain (d : ℕ) (j : Json) : Type 0 where
  numbers : HasNumbers j
  shallow : depth j ≤ d

up : {a : ℕ} (b : ℕ) {j : Json} → a ≤ b → IsPlain a j → IsPlain b j
up {a} b {j} less plain = record {
  numbers = plain.numbers;
  shallow = omega (arith, less, plain.shallow);
}

up_option : {a : ℕ} (b : ℕ) (o : Option Json) → a ≤ b → IfSome o (IsPlain a) → IfSome o (IsPlain b)
up_option b None less plain = tt
up_option b (Some j) less plain = up b less plain

-- ---- small values

plain_text : (d : ℕ) (text : List ℕ) → IsPlain d (json_of_text text)
plain_text d text = record {
  numbers = tt;
  shallow = omega arith;
}

plain_null : (d : ℕ) → IsPlain d json.null
plain_null d = record {
  numbers = tt;
  shallow = omega arith;
}

plain_number : (d n : ℕ) → n < 2 ^ 64 → IsPlain d (json_of_number n)
plain_number d n fits = record {
  numbers = IsNumber-decimal n fits;
  shallow = omega arith;
}

-- ---- objects and lists

record ArePlain (d : ℕ) (ms : List Member) : Type 0 where
  numbers : MembersHaveNumbers (members_of ms)
  shallow : members_depth (members_of ms) ≤ d

no_members : (d : ℕ) → ArePlain d []
no_members d = record {
  numbers = tt;
  shallow = omega arith;
}

one_member : (d : ℕ) (name : List ℕ) (j : Json) (ms : List Member) → IsPlain d j → ArePlain d ms → ArePlain d ((name, j) ∷ ms)
one_member d name j ms plain others = record {
  numbers = (plain.numbers, others.numbers);
  shallow = omega (arith, plain.shallow, others.shallow);
}

plain_object : (d : ℕ) (ms : List Member) → ArePlain d ms → IsPlain (suc d) (object ms)
plain_object d ms plain = record {
  numbers = plain.numbers;
  shallow = omega (arith, plain.shallow);
}

one_slot : (d : ℕ) (name : List ℕ) (o : Option Json) (ms : List Member) → IfSome o (IsPlain d) → ArePlain d ms → ArePlain d (optional name o ++ ms)
one_slot d name None ms plain others = others
one_slot d name (Some j) ms plain others = one_member d name j ms plain others

abbrev Holds : ℕ → List Slot → Type 0
Holds d [] = ⊤
Holds d (s ∷ ss) = IfSome s.1 (IsPlain d) × Holds d ss

plain_members : (d : ℕ) (ss : List Slot) → Holds d ss → ArePlain d (joined ss)
plain_members d [] plain = no_members d
plain_members d (s ∷ ss) plain = one_slot d s.0 s.1 (joined ss) plain.0 (plain_members d ss plain.1)

plain_slots : (d : ℕ) (ss : List Slot) → Holds d ss → IsPlain (suc d) (slots ss)
plain_slots d ss plain = subst (λ (ms : List Member). IsPlain (suc d) (object ms)) (sym (members_are ss)) (plain_object d (joined ss) (plain_members d ss plain))

plain_tagged : (d : ℕ) (name : List ℕ) (j : Json) → IsPlain d j → IsPlain (suc d) (tagged name j)
plain_tagged d name j plain = plain_object d ((name, j) ∷ []) (one_member d name j [] plain (no_members d))

module _ {A : Type 0} where
  plain_entries : (d : ℕ) (f : A → Member) (es : List A) → Each (λ e. IsPlain d (f e).1) es → ArePlain d (map f es)
  plain_entries d f [] each = no_members d
  plain_entries d f (e ∷ es) each = one_member d (f e).0 (f e).1 (map f es) (each 0 e refl) (plain_entries d f es (λ i y at. each (suc i) y at))

  plain_table : (d : ℕ) (f : A → Member) (es : List A) → Each (λ e. IsPlain d (f e).1) es → IsPlain (suc d) (object (map f es))
  plain_table d f es each = plain_object d (map f es) (plain_entries d f es each)

  items_numbers : (d : ℕ) (w : A → Json) (xs : List A) → Each (λ x. IsPlain d (w x)) xs → ItemsHaveNumbers (items_of (map w xs))
  items_numbers d w [] each = tt
  items_numbers d w (x ∷ xs) each = ((each 0 x refl).numbers, items_numbers d w xs (λ i y at. each (suc i) y at))

  items_shallow : (d : ℕ) (w : A → Json) (xs : List A) → Each (λ x. IsPlain d (w x)) xs → items_depth (items_of (map w xs)) ≤ d
  items_shallow d w [] each = omega arith
  items_shallow d w (x ∷ xs) each = omega (arith, (each 0 x refl).shallow, items_shallow d w xs (λ i y at. each (suc i) y at))

  plain_list : (d : ℕ) (w : A → Json) (xs : List A) → Each (λ x. IsPlain d (w x)) xs → IsPlain (suc d) (written.list_of w xs)
  plain_list d w xs each = record {
    numbers = items_numbers d w xs each;
    shallow = omega (arith, items_shallow d w xs each);
  }

plain_pair : (d : ℕ) (a b : Json) → IsPlain d a → IsPlain d b → IsPlain (suc d) (pair a b)
plain_pair d a b first second = record {
  numbers = (first.numbers, (second.numbers, tt));
  shallow = omega (arith, first.shallow, second.shallow);
}

-- ---- spans, docs, gates

texts : (d : ℕ) (o : Option (List ℕ)) → IfSome (option_map json_of_text o) (IsPlain d)
texts d None = tt
texts d (Some text) = plain_text d text

null_or_text : (d : ℕ) (o : Option (List ℕ)) → IsPlain d (null_or json_of_text o)
null_or_text d None = plain_null d
null_or_text d (Some text) = plain_text d text

range : (d a b : ℕ) → a ≤ b → b < 2 ^ 32 → IsPlain (suc d) (json_of_range (a, b))
range d a b ordered fits = plain_pair d (json_of_number a) (json_of_number b) (plain_number d a (omega arith)) (plain_number d b (omega arith))

spans : (d : ℕ) (span : Option (ℕ × ℕ)) → IsWritableSpan span → IfSome (option_map json_of_range span) (IsPlain (suc d))
spans d None fits = tt
spans d (Some r) fits = range d r.0 r.1 fits.0 fits.1

place : (d : ℕ) (span : Option (ℕ × ℕ)) → IsWritableSpan span → IsPlain (suc d) (json_of_span span)
place d None fits = plain_null (suc d)
place d (Some r) fits = range d r.0 r.1 fits.0 fits.1

docs_from : (d : ℕ) (contents : Option (List ℕ)) → IfSome (json_of_docs (record { contents = contents })) (IsPlain (suc d))
docs_from d None = tt
docs_from d (Some text) = plain_tagged d (codes "contents") (json_of_text text) (plain_text d text)

docs : (d : ℕ) (it : Docs) → IfSome (json_of_docs it) (IsPlain (suc d))
docs d it = docs_from d it.contents

versions : (d : ℕ) (o : Option (ℕ × ℕ × ℕ × List ℕ × List ℕ)) → IfSome (option_map json_of_version o) (IsPlain d)
versions d None = tt
versions d (Some version) = plain_text d _

gates : (d : ℕ) (gate : Stability) → IfSome (json_of_stability gate) (IsPlain (suc (suc d)))
gates d Unknown = tt
gates d (Stable since deprecated) =
    plain_tagged (suc d) (codes "stable") _ (plain_slots d ((codes "since", Some (json_of_version since)) ∷ (codes "deprecated", option_map json_of_version deprecated) ∷ []) (plain_text d _, (versions d deprecated, tt)))
gates d (Unstable feature deprecated) =
    plain_tagged (suc d) (codes "unstable") _ (plain_slots d ((codes "feature", Some (json_of_text feature)) ∷ (codes "deprecated", option_map json_of_version deprecated) ∷ []) (plain_text d _, (versions d deprecated, tt)))

gate_or_null : (d : ℕ) (gate : Stability) → IsPlain (suc (suc d)) (json_of_gate gate)
gate_or_null d Unknown = plain_null (suc (suc d))
gate_or_null d (Stable since deprecated) = gates d (Stable since deprecated)
gate_or_null d (Unstable feature deprecated) = gates d (Unstable feature deprecated)

-- ---- types

plain_type : (d : ℕ) (ty : Type_) → IsWritableType ty → IsPlain d (json_of_type ty)
plain_type d type.Bool fits = plain_text d _
plain_type d type.U8 fits = plain_text d _
plain_type d type.U16 fits = plain_text d _
plain_type d type.U32 fits = plain_text d _
plain_type d type.U64 fits = plain_text d _
plain_type d type.S8 fits = plain_text d _
plain_type d type.S16 fits = plain_text d _
plain_type d type.S32 fits = plain_text d _
plain_type d type.S64 fits = plain_text d _
plain_type d type.F32 fits = plain_text d _
plain_type d type.F64 fits = plain_text d _
plain_type d type.Char fits = plain_text d _
plain_type d type.String fits = plain_text d _
plain_type d type.ErrorContext fits = plain_text d _
plain_type d (type.Id id) fits = plain_number d id fits

types : (d : ℕ) (o : Option Type_) → IfSome o IsWritableType → IfSome (option_map json_of_type o) (IsPlain d)
types d None fits = tt
types d (Some ty) fits = plain_type d ty fits

type_or_null : (d : ℕ) (o : Option Type_) → IfSome o IsWritableType → IsPlain d (null_or json_of_type o)
type_or_null d None fits = plain_null d
type_or_null d (Some ty) fits = plain_type d ty fits

plain_field : (f : Field) → IsWritableField f → IsPlain 4 (whole_field f)
plain_field f fits =
    plain_slots 3
    ((codes "name", Some (json_of_text f.name)) ∷ (codes "type", Some (json_of_type f.ty)) ∷ (codes "docs", json_of_docs f.docs) ∷ (codes "span", option_map json_of_range f.span) ∷ [])
    (plain_text 3 f.name, (plain_type 3 f.ty fits.0, (docs 2 f.docs, (spans 2 f.span fits.1, tt))))

plain_case : (c : Case) → IsWritableCase c → IsPlain 4 (whole_case c)
plain_case c fits =
    plain_slots 3
    ((codes "name", Some (json_of_text c.name)) ∷ (codes "type", Some (null_or json_of_type c.ty)) ∷ (codes "docs", json_of_docs c.docs) ∷ (codes "span", option_map json_of_range c.span) ∷ [])
    (plain_text 3 c.name, (type_or_null 3 c.ty fits.0, (docs 2 c.docs, (spans 2 c.span fits.1, tt))))

plain_flag : (f : Flag) → IsWritableSpan f.span → IsPlain 4 (whole_flag f)
plain_flag f fits =
    plain_slots 3 ((codes "name", Some (json_of_text f.name)) ∷ (codes "docs", json_of_docs f.docs) ∷ (codes "span", option_map json_of_range f.span) ∷ [])
    (plain_text 3 f.name, (docs 2 f.docs, (spans 2 f.span fits, tt)))

plain_enum_case : (c : EnumCase) → IsWritableSpan c.span → IsPlain 4 (whole_enum_case c)
plain_enum_case c fits =
    plain_slots 3 ((codes "name", Some (json_of_text c.name)) ∷ (codes "docs", json_of_docs c.docs) ∷ (codes "span", option_map json_of_range c.span) ∷ [])
    (plain_text 3 c.name, (docs 2 c.docs, (spans 2 c.span fits, tt)))

plain_handle : (handle : Handle) → IsWritableHandle handle → IsPlain 6 (json_of_handle handle)
plain_handle (Own id) fits = plain_tagged 5 (codes "own") (json_of_number id) (plain_number 5 id fits)
plain_handle (Borrow id) fits = plain_tagged 5 (codes "borrow") (json_of_number id) (plain_number 5 id fits)

plain_owner : (o : TypeOwner) → IsWritableOwner o → IsPlain 7 (json_of_owner o)
plain_owner (owner.World id) fits = plain_tagged 6 (codes "world") (json_of_number id) (plain_number 6 id fits)
plain_owner (owner.Interface id) fits = plain_tagged 6 (codes "interface") (json_of_number id) (plain_number 6 id fits)
plain_owner owner.None fits = plain_null 7

plain_kind : (k : TypeDefKind) → IsWritableKind k → IsPlain 7 (whole_kind k)
plain_kind (kind.Record fields) fits =
    plain_tagged 6 (codes "record") _ (plain_tagged 5 (codes "fields") _ (plain_list 4 whole_field fields (λ i f at. plain_field f (fits i f at))))
plain_kind kind.Resource fits = plain_text 7 _
plain_kind (kind.Handle handle) fits = plain_tagged 6 (codes "handle") (json_of_handle handle) (plain_handle handle fits)
plain_kind (kind.Flags flags) fits = plain_tagged 6 (codes "flags") _ (plain_tagged 5 (codes "flags") _ (plain_list 4 whole_flag flags (λ i f at. plain_flag f (fits i f at))))
plain_kind (kind.Tuple ts) fits = plain_tagged 6 (codes "tuple") _ (plain_tagged 5 (codes "types") _ (plain_list 4 json_of_type ts (λ i t at. plain_type 4 t (fits i t at))))
plain_kind (kind.Variant cases) fits = plain_tagged 6 (codes "variant") _ (plain_tagged 5 (codes "cases") _ (plain_list 4 whole_case cases (λ i c at. plain_case c (fits i c at))))
plain_kind (kind.Enum cases) fits = plain_tagged 6 (codes "enum") _ (plain_tagged 5 (codes "cases") _ (plain_list 4 whole_enum_case cases (λ i c at. plain_enum_case c (fits i c at))))
plain_kind (kind.Option ty) fits = plain_tagged 6 (codes "option") (json_of_type ty) (plain_type 6 ty fits)
plain_kind (kind.Result_ ok err) fits =
    plain_tagged 6 (codes "result") (json_of_result ok err)
    (plain_slots 5 ((codes "ok", Some (null_or json_of_type ok)) ∷ (codes "err", Some (null_or json_of_type err)) ∷ []) (type_or_null 5 ok fits.0, (type_or_null 5 err fits.1, tt)))
plain_kind (kind.List ty) fits = plain_tagged 6 (codes "list") (json_of_type ty) (plain_type 6 ty fits)
plain_kind (kind.Map key value) fits = plain_tagged 6 (codes "map") _ (plain_pair 5 (json_of_type key) (json_of_type value) (plain_type 5 key fits.0) (plain_type 5 value fits.1))
plain_kind (kind.FixedLengthList ty len) fits =
    plain_tagged 6 (codes "fixed-length-list") _ (plain_pair 5 (json_of_type ty) (json_of_number len) (plain_type 5 ty fits.0) (plain_number 5 len (omega (arith, fits.1))))
plain_kind (kind.Future ty) fits = plain_tagged 6 (codes "future") _ (type_or_null 6 ty fits)
plain_kind (kind.Stream ty) fits = plain_tagged 6 (codes "stream") _ (type_or_null 6 ty fits)
plain_kind (kind.Type_ ty) fits = plain_tagged 6 (codes "type") (json_of_type ty) (plain_type 6 ty fits)
plain_kind kind.Unknown fits = plain_text 7 _

plain_type_def : (def : TypeDef) → IsWritableTypeDef def → IsPlain 8 (whole_type def)
plain_type_def def fits =
    plain_slots 7
    ((codes "name", Some (null_or json_of_text def.name)) ∷ (codes "kind", Some (whole_kind def.kind)) ∷ (codes "owner", Some (json_of_owner def.owner))
    ∷ (codes "docs", json_of_docs def.docs) ∷ (codes "stability", json_of_stability def.stability) ∷ (codes "span", option_map json_of_range def.span)
    ∷ (codes "external-id", option_map json_of_text def.external_id) ∷ [])
    (null_or_text 7 def.name, (plain_kind def.kind fits.kind, (plain_owner def.owner fits.owner, (docs 6 def.docs, (gates 5 def.stability, (spans 6 def.span fits.span, (texts 7 def.external_id, tt)))))))

-- ---- functions

plain_function_kind : (k : FunctionKind) → IsWritableFunctionKind k → IsPlain 4 (json_of_function_kind k)
plain_function_kind function.Freestanding fits = plain_text 4 _
plain_function_kind function.AsyncFreestanding fits = plain_text 4 _
plain_function_kind (function.Method id) fits = plain_tagged 3 _ _ (plain_number 3 id fits)
plain_function_kind (function.AsyncMethod id) fits = plain_tagged 3 _ _ (plain_number 3 id fits)
plain_function_kind (function.Static id) fits = plain_tagged 3 _ _ (plain_number 3 id fits)
plain_function_kind (function.AsyncStatic id) fits = plain_tagged 3 _ _ (plain_number 3 id fits)
plain_function_kind (function.Constructor id) fits = plain_tagged 3 _ _ (plain_number 3 id fits)
plain_function_kind function.Getter fits = plain_text 4 _
plain_function_kind function.Setter fits = plain_text 4 _
plain_function_kind (function.MethodGetter id) fits = plain_tagged 3 _ _ (plain_number 3 id fits)
plain_function_kind (function.MethodSetter id) fits = plain_tagged 3 _ _ (plain_number 3 id fits)
plain_function_kind (function.StaticGetter id) fits = plain_tagged 3 _ _ (plain_number 3 id fits)
plain_function_kind (function.StaticSetter id) fits = plain_tagged 3 _ _ (plain_number 3 id fits)

plain_param : (p : Param) → IsWritableParam p → IsPlain 3 (whole_param p)
plain_param p fits =
    plain_slots 2 ((codes "name", Some (json_of_text p.name)) ∷ (codes "type", Some (json_of_type p.ty)) ∷ (codes "span", option_map json_of_range p.span) ∷ [])
    (plain_text 2 p.name, (plain_type 2 p.ty fits.0, (spans 1 p.span fits.1, tt)))

plain_function : (f : Function) → IsWritableFunction f → IsPlain 5 (whole_function f)
plain_function f fits =
    plain_slots 4
    ((codes "name", Some (json_of_text f.name)) ∷ (codes "kind", Some (json_of_function_kind f.kind)) ∷ (codes "params", Some (written.list_of whole_param f.params))
    ∷ (codes "result", option_map json_of_type f.result_) ∷ (codes "docs", json_of_docs f.docs) ∷ (codes "stability", json_of_stability f.stability)
    ∷ (codes "span", option_map json_of_range f.span) ∷ (codes "external-id", option_map json_of_text f.external_id) ∷ []) (
      plain_text 4 f.name,
      (
        plain_function_kind f.kind fits.kind,
        (
          plain_list 3 whole_param f.params (λ i p at. plain_param p (fits.params i p at)),
          (types 4 f.result_ fits.result_, (docs 3 f.docs, (gates 2 f.stability, (spans 3 f.span fits.span, (texts 4 f.external_id, tt))))),
        ),
      ),
    )

-- ---- interfaces and worlds

plain_interface : (interface : Interface) → IsWritableInterface interface → IsPlain 8 (whole_interface interface)
plain_interface i fits =
    plain_slots 7
    ((codes "name", Some (null_or json_of_text i.name)) ∷ (codes "types", Some (object_under_names json_of_number i.types))
    ∷ (codes "functions", Some (object_under_names whole_function i.functions)) ∷ (codes "docs", json_of_docs i.docs) ∷ (codes "stability", json_of_stability i.stability)
    ∷ (codes "span", option_map json_of_range i.span) ∷ []) (
      null_or_text 7 i.name,
      (
        plain_table 6 (λ (e : List ℕ × ℕ). (e.0, json_of_number e.1)) i.types (λ n e at. plain_number 6 e.1 (fits.types n e at)),
        (
          plain_table 6 (λ (e : List ℕ × Function). (e.0, whole_function e.1)) i.functions (λ n e at. up 6 (omega arith) (plain_function e.1 (fits.functions n e at))),
          (docs 6 i.docs, (gates 5 i.stability, (spans 6 i.span fits.span, tt))),
        ),
      ),
    )

plain_type_entry : (id : ℕ) (span : Option (ℕ × ℕ)) → id < 2 ^ 64 → IsWritableSpan span → IsPlain 6 (whole_item (item.Type_ id span))
plain_type_entry id None fits place = plain_tagged 5 (codes "type") _ (plain_number 5 id fits)
plain_type_entry id (Some r) fits place =
    plain_tagged 5 (codes "type") _
    (plain_slots 4 ((codes "id", Some (json_of_number id)) ∷ (codes "span", Some (json_of_range r)) ∷ []) (plain_number 4 id fits, (range 3 r.0 r.1 place.0 place.1, tt)))

plain_item : (it : WorldItem) → IsWritableItem it → IsPlain 6 (whole_item it)
plain_item (item.Interface id stability docs_ span external_id) fits =
    plain_tagged 5 (codes "interface") _
    (plain_slots 4
    ((codes "id", Some (json_of_number id)) ∷ (codes "stability", json_of_stability stability) ∷ (codes "docs", json_of_docs docs_) ∷ (codes "span", option_map json_of_range span)
    ∷ (codes "external-id", option_map json_of_text external_id) ∷ [])
    (plain_number 4 id fits.0, (gates 2 stability, (docs 3 docs_, (spans 3 span fits.2, (texts 4 external_id, tt))))))
plain_item (item.Function f) fits = plain_tagged 5 (codes "function") (whole_function f) (plain_function f fits)
plain_item (item.Type_ id span) fits = plain_type_entry id span fits.0 fits.1

plain_world_entries : (es : List (WorldKey × WorldItem)) → AreWritableEntries es → IsPlain 7 (object_by entry_name whole_item es)
plain_world_entries es fits = plain_table 6 _ es (λ i e at. plain_item e.1 (fits.items i e at))

plain_include_name : (name : IncludeName) → IsPlain 5 (json_of_include_name name)
plain_include_name n = plain_slots 4 ((codes "name", Some (json_of_text n.name)) ∷ (codes "as", Some (json_of_text n.as_)) ∷ []) (plain_text 4 n.name, (plain_text 4 n.as_, tt))

plain_include : (include : WorldInclude) → IsWritableInclude include → IsPlain 7 (json_of_include include)
plain_include i fits =
    plain_slots 6
    ((codes "id", Some (json_of_number i.id)) ∷ (codes "names", Some (written.list_of json_of_include_name i.names)) ∷ (codes "stability", json_of_stability i.stability)
    ∷ (codes "span", option_map json_of_range i.span) ∷ [])
    (plain_number 6 i.id fits.id, (plain_list 5 json_of_include_name i.names (λ n name at. plain_include_name name), (gates 4 i.stability, (spans 5 i.span fits.span, tt))))

plain_world : (world : World) → IsWritableWorld world → IsPlain 9 (whole_world world)
plain_world w fits =
    plain_slots 8
    ((codes "name", Some (json_of_text w.name)) ∷ (codes "imports", Some (object_by entry_name whole_item w.imports)) ∷ (codes "exports", Some (object_by entry_name whole_item w.exports))
    ∷ (codes "includes", Some (written.list_of json_of_include w.includes)) ∷ (codes "docs", json_of_docs w.docs) ∷ (codes "stability", json_of_stability w.stability)
    ∷ (codes "span", option_map json_of_range w.span) ∷ []) (
      plain_text 8 w.name,
      (
        up 8 (omega arith) (plain_world_entries w.imports fits.imports),
        (
          up 8 (omega arith) (plain_world_entries w.exports fits.exports),
          (plain_list 7 json_of_include w.includes (λ n i at. plain_include i (fits.includes n i at)), (docs 7 w.docs, (gates 6 w.stability, (spans 7 w.span fits.span, tt)))),
        ),
      ),
    )

-- ---- what is named of other packages

plain_ast_item : (it : AstItem) → IsWritableAstItem it → IsPlain 5 (json_of_ast_item it)
plain_ast_item (ast.Interface id) fits = plain_tagged 4 (codes "interface") (json_of_number id) (plain_number 4 id fits)
plain_ast_item (ast.World id) fits = plain_tagged 4 (codes "world") (json_of_number id) (plain_number 4 id fits)

plain_foreign_item : (named : AstItem × List Stability) → IsWritableAstItem named.0 → IsPlain 6 (json_of_foreign_item named)
plain_foreign_item named fits =
    plain_pair 5 (json_of_ast_item named.0) (written.list_of json_of_gate named.1) (plain_ast_item named.0 fits) (plain_list 4 json_of_gate named.1 (λ i gate at. gate_or_null 2 gate))

plain_deps : (es : List (PackageName × List ForeignItem)) → Each (λ (e : PackageName × List ForeignItem). AreWritableItems e.1) es → IsPlain 8 (object_by package_name_text (object_under_names json_of_foreign_item) es)
plain_deps es fits = plain_table 7 _ es (λ i e at. plain_table 6 _ e.1 (λ n it there. plain_foreign_item it.1 ((fits i e at).items n it there)))

-- ---- packages

abbrev resource : ℕ × Option (ℕ × ℕ) → Json
resource r = pair (json_of_number r.0) (json_of_span r.1)

plain_unresolved : (p : UnresolvedPackage) → IsWritablePackage p → IsPlain 11 (json_of_unresolved p)
plain_unresolved p fits =
    plain_slots 10
    ((codes "name", Some (json_of_package_name p.name)) ∷ (codes "span", option_map json_of_range p.package_name_span) ∷ (codes "docs", json_of_docs p.docs)
    ∷ (codes "worlds", Some (written.list_of whole_world p.worlds)) ∷ (codes "interfaces", Some (written.list_of whole_interface p.interfaces))
    ∷ (codes "types", Some (written.list_of whole_type p.types)) ∷ (codes "foreign-deps", Some (object_by package_name_text (object_under_names json_of_foreign_item) p.foreign_deps))
    ∷ (codes "foreign-dep-spans", Some (written.list_of json_of_span p.foreign_dep_spans)) ∷ (codes "unknown-type-spans", Some (written.list_of json_of_span p.unknown_type_spans))
    ∷ (codes "required-resources", Some (written.list_of resource p.required_resource_types)) ∷ []) (
      plain_text 10 _,
      (
        spans 9 p.package_name_span fits.span,
        (
          docs 9 p.docs,
          (
            plain_list 9 whole_world p.worlds (λ i w at. plain_world w (fits.worlds i w at)),
            (
              plain_list 9 whole_interface p.interfaces (λ n i at. up 9 (omega arith) (plain_interface i (fits.interfaces n i at))),
              (
                plain_list 9 whole_type p.types (λ i def at. up 9 (omega arith) (plain_type_def def (fits.types i def at))),
                (
                  up 10 (omega arith) (plain_deps p.foreign_deps fits.items),
                  (
                    plain_list 9 json_of_span p.foreign_dep_spans (λ i span at. place 8 span (fits.dep_spans i span at)),
                    (
                      plain_list 9 json_of_span p.unknown_type_spans (λ i span at. place 8 span (fits.unknown_spans i span at)),
                      (
                        plain_list 9 resource p.required_resource_types
                            (λ i r at. plain_pair 8 (json_of_number r.0) (json_of_span r.1) (plain_number 8 r.0 (fits.resources i r at).0) (place 7 r.1 (fits.resources i r at).1)),
                        tt,
                      ),
                    ),
                  ),
                ),
              ),
            ),
          ),
        ),
      ),
    )

pub texts_read_back : TextsReadBack
texts_read_back p fits =
    let plain = plain_unresolved p fits in
    ap (if_document read_package (stop_in (compact (json_of_unresolved p)))) (document-print (json_of_unresolved p) plain.numbers (omega (arith, plain.shallow))) ∙ packages_read_back p fits

-- ---- groups

plain_files : (files : List (List ℕ × List ℕ)) → IsPlain 11 (written.list_of json_of_file files)
plain_files files =
    up 11 (omega arith) (plain_list 1 json_of_file files
    (λ i file at. plain_slots 0 ((codes "path", Some (json_of_text file.0)) ∷ (codes "text", Some (json_of_text file.1)) ∷ []) (plain_text 0 file.0, (plain_text 0 file.1, tt))))

plain_group : (g : UnresolvedPackageGroup) → IsWritableGroup g → IsPlain 13 (json_of_group g)
plain_group g fits =
    plain_slots 12
    ((codes "main", Some (json_of_unresolved g.main)) ∷ (codes "nested", Some (written.list_of json_of_unresolved g.nested)) ∷ (codes "sources", Some (json_of_sources g.source_map)) ∷ []) (
      up 12 (omega arith) (plain_unresolved g.main fits.main),
      (
        plain_list 11 json_of_unresolved g.nested (λ i p at. plain_unresolved p (fits.nested i p at)),
        (up 12 (omega arith) (plain_files (files_of g.source_map.files)), tt),
      ),
    )

pub group_texts_read_back : GroupTextsReadBack
group_texts_read_back g fits =
    let plain = plain_group g fits in
    ap (if_document read_group (stop_in (compact (json_of_group g)))) (document-print (json_of_group g) plain.numbers (omega (arith, plain.shallow))) ∙ groups_read_back g fits
