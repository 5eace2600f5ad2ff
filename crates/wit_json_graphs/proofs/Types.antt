-- Types read back.
use Rattle.std.proofs.Common.{◌≡◌, ℕ, List, [], ◌∷◌, Option, Some, None, Ok, refl, ap, codes, ◌∙◌}
use Rattle.wit_json_reading.specs.Objects.{read_variant}
use Rattle.std.specs.Option.{option_map}
use Rattle.std.specs.Prelude.{IfSome}
use Rattle.json.specs.Json.{Json}
use Rattle.wit_data.specs.declared.stability.Docs.{Docs}
use Rattle.wit_data.specs.declared.stability.Stability.{Stability}
use Rattle.wit_data.specs.declared.types.Case.{Case}
use Rattle.wit_data.specs.declared.types.EnumCase.{EnumCase}
use Rattle.wit_data.specs.declared.types.Field.{Field}
use Rattle.wit_data.specs.declared.types.Flag.{Flag}
use Rattle.wit_data.specs.declared.types.Handle.{Handle}
use Rattle.wit_data.specs.declared.types.Handle.TheVariants.{Own, Borrow}
use Rattle.wit_data.specs.declared.types.TypeDef.{TypeDef}
use Rattle.wit_data.specs.declared.types.TypeDefKind.{TypeDefKind}
use Rattle.wit_data.specs.declared.types.TypeDefKind.TheVariants as kind
use Rattle.wit_data.specs.declared.types.TypeOwner.{TypeOwner}
use Rattle.wit_data.specs.declared.types.TypeOwner.TheVariants as owner
use Rattle.wit_data.specs.declared.types.Type_.{Type_}
use Rattle.wit_data.specs.declared.types.Type_.TheVariants as type
use Rattle.wit_json.specs.Details.{json_of_range}
use Rattle.wit_json.specs.Gates.{json_of_stability}
use Rattle.wit_json.specs.Types.{json_of_handle, json_of_owner, json_of_result, json_of_type}
use Rattle.wit_json.specs.Unresolved.{whole_case, whole_enum_case, whole_field, whole_flag, whole_kind, whole_type}
use Rattle.wit_json.specs.Values as written
use Rattle.wit_json.specs.Values.{json_of_number, json_of_text, null_or, pair, tagged}
use Rattle.wit_json_graphs.specs.Writable.{IsWritableCase, IsWritableField, IsWritableHandle, IsWritableKind, IsWritableOwner, IsWritableSpan, IsWritableType, IsWritableTypeDef}
use Rattle.wit_json_reading.specs.Reading.{◌>>=◌, read_list}
use Rattle.wit_json_reading.specs.Types.{by_id, read_case, read_enum_case, read_field, read_flag, read_handle_by, read_kind_by, read_kind, read_owner_by, read_owner, read_result, read_type_def, read_type}
use Rattle.wit_json_reading.specs.Values.{nullable, read_number, read_small_number, read_text}
use Rattle.wit_json_reading.specs.declared.fault.Expected.TheVariants as expected
use Rattle.wit_json_graphs.proofs.Slots.{Slot, get_slot, only_slots, slots, json_of_docs}
use Rattle.wit_json_graphs.proofs.Small.{reads_docs, reads_number, reads_small, reads_span_member, reads_stability, reads_texts}
use Rattle.wit_json_graphs.proofs.Steps.{all_1, all_3, all_4, all_5, all_8, reads_alone, reads_list, reads_optional, reads_pair, reads_required, reads_variant, followed}

pub reads_type : (ty : Type_) → IsWritableType ty → read_type (json_of_type ty) ≡ Ok ty
unfolding read_type
reads_type type.Bool fits = refl
reads_type type.U8 fits = refl
reads_type type.U16 fits = refl
reads_type type.U32 fits = refl
reads_type type.U64 fits = refl
reads_type type.S8 fits = refl
reads_type type.S16 fits = refl
reads_type type.S32 fits = refl
reads_type type.S64 fits = refl
reads_type type.F32 fits = refl
reads_type type.F64 fits = refl
reads_type type.Char fits = refl
reads_type type.String fits = refl
reads_type type.ErrorContext fits = refl
reads_type (type.Id id) fits = ap by_id (reads_number id fits)

-- no type is written as null
not_null : (ty : Type_) → nullable read_type (json_of_type ty) ≡ (read_type (json_of_type ty) >>= λ x. Ok (Some x))
not_null type.Bool = refl
not_null type.U8 = refl
not_null type.U16 = refl
not_null type.U32 = refl
not_null type.U64 = refl
not_null type.S8 = refl
not_null type.S16 = refl
not_null type.S32 = refl
not_null type.S64 = refl
not_null type.F32 = refl
not_null type.F64 = refl
not_null type.Char = refl
not_null type.String = refl
not_null type.ErrorContext = refl
not_null (type.Id id) = refl

pub reads_nullable : (ty : Option Type_) → IfSome ty IsWritableType → nullable read_type (null_or json_of_type ty) ≡ Ok ty
reads_nullable None fits = refl
reads_nullable (Some ty) fits = not_null ty ∙ followed (read_type (json_of_type ty)) _ ty (Ok (Some ty)) (reads_type ty fits) refl

pub reads_types : (ty : Option Type_) → IfSome ty IsWritableType → IfSome ty (λ t. read_type (json_of_type t) ≡ Ok t)
reads_types None fits = tt
reads_types (Some ty) fits = reads_type ty fits

pub reads_name : (name : Option (List ℕ)) → nullable read_text (null_or json_of_text name) ≡ Ok name
reads_name None = refl
reads_name (Some name) = refl

-- ---- parts of types

reads_field : (f : Field) → IsWritableField f → read_field (whole_field f) ≡ Ok f
unfolding read_field
reads_field f fits =
    let ss : List Slot =
    (codes "name", Some (json_of_text f.name)) ∷ (codes "type", Some (json_of_type f.ty)) ∷ (codes "docs", json_of_docs f.docs)
    ∷ (codes "span", option_map json_of_range f.span) ∷ [] in
    let j = slots ss in
    all_5 (λ (_ : Unit {0}) (name : List ℕ) (ty : Type_) (docs : Docs) (span : Option (ℕ × ℕ)). let it : Field = record { name = name; ty = ty; docs = docs; span = span } in it)
    (only_slots (codes "name" ∷ codes "type" ∷ codes "docs" ∷ codes "span" ∷ []) ss refl)
    (reads_required read_text (codes "name") j (json_of_text f.name) f.name (get_slot (codes "name") ss) refl)
    (reads_required read_type (codes "type") j (json_of_type f.ty) f.ty (get_slot (codes "type") ss) (reads_type f.ty fits.0))
    (reads_docs f.docs j (get_slot (codes "docs") ss))
    (reads_span_member f.span j fits.1 (get_slot (codes "span") ss))

reads_case : (c : Case) → IsWritableCase c → read_case (whole_case c) ≡ Ok c
unfolding read_case
reads_case c fits =
    let ss : List Slot =
    (codes "name", Some (json_of_text c.name)) ∷ (codes "type", Some (null_or json_of_type c.ty)) ∷ (codes "docs", json_of_docs c.docs)
    ∷ (codes "span", option_map json_of_range c.span) ∷ [] in
    let j = slots ss in
    all_5 (λ (_ : Unit {0}) (name : List ℕ) (ty : Option Type_) (docs : Docs) (span : Option (ℕ × ℕ)). let it : Case = record { name = name; ty = ty; docs = docs; span = span } in it)
    (only_slots (codes "name" ∷ codes "type" ∷ codes "docs" ∷ codes "span" ∷ []) ss refl)
    (reads_required read_text (codes "name") j (json_of_text c.name) c.name (get_slot (codes "name") ss) refl)
    (reads_required (nullable read_type) (codes "type") j (null_or json_of_type c.ty) c.ty (get_slot (codes "type") ss) (reads_nullable c.ty fits.0))
    (reads_docs c.docs j (get_slot (codes "docs") ss))
    (reads_span_member c.span j fits.1 (get_slot (codes "span") ss))

reads_flag : (f : Flag) → IsWritableSpan f.span → read_flag (whole_flag f) ≡ Ok f
unfolding read_flag
reads_flag f fits =
    let ss : List Slot = (codes "name", Some (json_of_text f.name)) ∷ (codes "docs", json_of_docs f.docs) ∷ (codes "span", option_map json_of_range f.span) ∷ [] in
    let j = slots ss in
    all_4 (λ (_ : Unit {0}) (name : List ℕ) (docs : Docs) (span : Option (ℕ × ℕ)). let it : Flag = record { name = name; docs = docs; span = span } in it)
    (only_slots (codes "name" ∷ codes "docs" ∷ codes "span" ∷ []) ss refl)
    (reads_required read_text (codes "name") j (json_of_text f.name) f.name (get_slot (codes "name") ss) refl)
    (reads_docs f.docs j (get_slot (codes "docs") ss))
    (reads_span_member f.span j fits (get_slot (codes "span") ss))

reads_enum_case : (c : EnumCase) → IsWritableSpan c.span → read_enum_case (whole_enum_case c) ≡ Ok c
unfolding read_enum_case
reads_enum_case c fits =
    let ss : List Slot = (codes "name", Some (json_of_text c.name)) ∷ (codes "docs", json_of_docs c.docs) ∷ (codes "span", option_map json_of_range c.span) ∷ [] in
    let j = slots ss in
    all_4 (λ (_ : Unit {0}) (name : List ℕ) (docs : Docs) (span : Option (ℕ × ℕ)). let it : EnumCase = record { name = name; docs = docs; span = span } in it)
    (only_slots (codes "name" ∷ codes "docs" ∷ codes "span" ∷ []) ss refl)
    (reads_required read_text (codes "name") j (json_of_text c.name) c.name (get_slot (codes "name") ss) refl)
    (reads_docs c.docs j (get_slot (codes "docs") ss))
    (reads_span_member c.span j fits (get_slot (codes "span") ss))

reads_handle : (handle : Handle) → IsWritableHandle handle → read_variant read_handle_by expected.Handle (json_of_handle handle) ≡ Ok handle
reads_handle (Own id) fits =
    reads_variant read_handle_by expected.Handle (codes "own") (json_of_number id) (Own id) (followed (read_number (json_of_number id)) _ id (Ok (Own id)) (reads_number id fits) refl)
reads_handle (Borrow id) fits =
    reads_variant read_handle_by expected.Handle (codes "borrow") (json_of_number id) (Borrow id) (followed (read_number (json_of_number id)) _ id (Ok (Borrow id)) (reads_number id fits) refl)

reads_owner : (o : TypeOwner) → IsWritableOwner o → read_owner (json_of_owner o) ≡ Ok o
unfolding read_owner
reads_owner (owner.World id) fits =
    reads_variant read_owner_by expected.Owner (codes "world") (json_of_number id) (owner.World id) (followed (read_number (json_of_number id)) _ id (Ok (owner.World id)) (reads_number id fits) refl)
reads_owner (owner.Interface id) fits =
    reads_variant read_owner_by expected.Owner (codes "interface") (json_of_number id) (owner.Interface id)
    (followed (read_number (json_of_number id)) _ id (Ok (owner.Interface id)) (reads_number id fits) refl)
reads_owner owner.None fits = refl

reads_result : (ok err : Option Type_) → IfSome ok IsWritableType → IfSome err IsWritableType → read_result (json_of_result ok err) ≡ Ok (kind.Result_ ok err)
unfolding read_result
reads_result ok err fits fits_too =
    let ss : List Slot = (codes "ok", Some (null_or json_of_type ok)) ∷ (codes "err", Some (null_or json_of_type err)) ∷ [] in
    let j = slots ss in
    all_3 (λ (_ : Unit {0}) (x : Option Type_) (y : Option Type_). kind.Result_ x y)
    (only_slots (codes "ok" ∷ codes "err" ∷ []) ss refl)
    (reads_required (nullable read_type) (codes "ok") j (null_or json_of_type ok) ok (get_slot (codes "ok") ss) (reads_nullable ok fits))
    (reads_required (nullable read_type) (codes "err") j (null_or json_of_type err) err (get_slot (codes "err") ss) (reads_nullable err fits_too))

-- ---- kinds

reads_kind_by : (name : List ℕ) (j : Json) (k : TypeDefKind) → read_kind_by name j ≡ Ok k → read_kind (tagged name j) ≡ Ok k
unfolding read_kind
reads_kind_by name j k reads = reads_variant read_kind_by expected.TypeKind name j k reads

pub reads_kind : (k : TypeDefKind) → IsWritableKind k → read_kind (whole_kind k) ≡ Ok k
unfolding read_kind read_kind_by
reads_kind (kind.Record fields) fits =
    let j : Json = written.list_of whole_field fields in
    reads_kind_by (codes "record") (tagged (codes "fields") j) (kind.Record fields)
    (all_1 (λ it. kind.Record it) (reads_alone (read_list read_field) (codes "fields") j fields refl refl (reads_list read_field whole_field fields (λ i x at. reads_field x (fits i x at)))))
reads_kind kind.Resource fits = refl
reads_kind (kind.Handle handle) fits = reads_kind_by (codes "handle") (json_of_handle handle) (kind.Handle handle) (all_1 (λ it. kind.Handle it) (reads_handle handle fits))
reads_kind (kind.Flags flags) fits =
    let j : Json = written.list_of whole_flag flags in
    reads_kind_by (codes "flags") (tagged (codes "flags") j) (kind.Flags flags)
    (all_1 (λ it. kind.Flags it) (reads_alone (read_list read_flag) (codes "flags") j flags refl refl (reads_list read_flag whole_flag flags (λ i x at. reads_flag x (fits i x at)))))
reads_kind (kind.Tuple types) fits =
    let j : Json = written.list_of json_of_type types in
    reads_kind_by (codes "tuple") (tagged (codes "types") j) (kind.Tuple types)
    (all_1 (λ it. kind.Tuple it) (reads_alone (read_list read_type) (codes "types") j types refl refl (reads_list read_type json_of_type types (λ i x at. reads_type x (fits i x at)))))
reads_kind (kind.Variant cases) fits =
    let j : Json = written.list_of whole_case cases in
    reads_kind_by (codes "variant") (tagged (codes "cases") j) (kind.Variant cases)
    (all_1 (λ it. kind.Variant it) (reads_alone (read_list read_case) (codes "cases") j cases refl refl (reads_list read_case whole_case cases (λ i x at. reads_case x (fits i x at)))))
reads_kind (kind.Enum cases) fits =
    let j : Json = written.list_of whole_enum_case cases in
    reads_kind_by (codes "enum") (tagged (codes "cases") j) (kind.Enum cases)
    (all_1 (λ it. kind.Enum it) (reads_alone (read_list read_enum_case) (codes "cases") j cases refl refl (reads_list read_enum_case whole_enum_case cases (λ i x at. reads_enum_case x (fits i x at)))))
reads_kind (kind.Option ty) fits = reads_kind_by (codes "option") (json_of_type ty) (kind.Option ty) (all_1 (λ it. kind.Option it) (reads_type ty fits))
reads_kind (kind.Result_ ok err) fits = reads_kind_by (codes "result") (json_of_result ok err) (kind.Result_ ok err) (reads_result ok err fits.0 fits.1)
reads_kind (kind.List ty) fits = reads_kind_by (codes "list") (json_of_type ty) (kind.List ty) (all_1 (λ it. kind.List it) (reads_type ty fits))
reads_kind (kind.Map key value) fits =
    reads_kind_by (codes "map") (pair (json_of_type key) (json_of_type value)) (kind.Map key value)
    (all_1 (λ (parts : Type_ × Type_). kind.Map parts.0 parts.1)
    (reads_pair read_type read_type (json_of_type key) (json_of_type value) key value (reads_type key fits.0) (reads_type value fits.1)))
reads_kind (kind.FixedLengthList ty len) fits =
    reads_kind_by (codes "fixed-length-list") (pair (json_of_type ty) (json_of_number len)) (kind.FixedLengthList ty len)
    (all_1 (λ (parts : Type_ × ℕ). kind.FixedLengthList parts.0 parts.1)
    (reads_pair read_type read_small_number (json_of_type ty) (json_of_number len) ty len (reads_type ty fits.0) (reads_small len fits.1)))
reads_kind (kind.Future ty) fits = reads_kind_by (codes "future") (null_or json_of_type ty) (kind.Future ty) (all_1 (λ it. kind.Future it) (reads_nullable ty fits))
reads_kind (kind.Stream ty) fits = reads_kind_by (codes "stream") (null_or json_of_type ty) (kind.Stream ty) (all_1 (λ it. kind.Stream it) (reads_nullable ty fits))
reads_kind (kind.Type_ ty) fits = reads_kind_by (codes "type") (json_of_type ty) (kind.Type_ ty) (all_1 (λ it. kind.Type_ it) (reads_type ty fits))
reads_kind kind.Unknown fits = refl

-- ---- types

pub reads_type_def : (def : TypeDef) → IsWritableTypeDef def → read_type_def (whole_type def) ≡ Ok def
unfolding read_type_def
reads_type_def def fits =
    let ss : List Slot =
    (codes "name", Some (null_or json_of_text def.name)) ∷ (codes "kind", Some (whole_kind def.kind)) ∷ (codes "owner", Some (json_of_owner def.owner))
    ∷ (codes "docs", json_of_docs def.docs) ∷ (codes "stability", json_of_stability def.stability) ∷ (codes "span", option_map json_of_range def.span)
    ∷ (codes "external-id", option_map json_of_text def.external_id) ∷ [] in
    let j = slots ss in
    all_8 (λ (_ : Unit {0}) (name : Option (List ℕ)) (k : TypeDefKind) (o : TypeOwner) (docs : Docs) (stability : Stability) (span : Option (ℕ × ℕ)) (external_id : Option (List ℕ)).
    let it : TypeDef = record { name = name; kind = k; owner = o; docs = docs; stability = stability; span = span; external_id = external_id } in it)
    (only_slots (codes "name" ∷ codes "kind" ∷ codes "owner" ∷ codes "docs" ∷ codes "stability" ∷ codes "span" ∷ codes "external-id" ∷ []) ss refl)
    (reads_required (nullable read_text) (codes "name") j (null_or json_of_text def.name) def.name (get_slot (codes "name") ss) (reads_name def.name))
    (reads_required read_kind (codes "kind") j (whole_kind def.kind) def.kind (get_slot (codes "kind") ss) (reads_kind def.kind fits.kind))
    (reads_required read_owner (codes "owner") j (json_of_owner def.owner) def.owner (get_slot (codes "owner") ss) (reads_owner def.owner fits.owner))
    (reads_docs def.docs j (get_slot (codes "docs") ss))
    (reads_stability def.stability j fits.gate (get_slot (codes "stability") ss))
    (reads_span_member def.span j fits.span (get_slot (codes "span") ss))
    (reads_optional read_text json_of_text (codes "external-id") j def.external_id (get_slot (codes "external-id") ss) (reads_texts def.external_id))
