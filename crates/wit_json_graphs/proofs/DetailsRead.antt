-- Details complete what has none.
use Rattle.std.proofs.Common.{◌≡◌, ◌∙◌, ℕ, suc, true, List, [], ◌∷◌, ◌++◌, map, Option, Some, None, Ok, refl, sym, ap, codes, bytes_eq, Bool, if◌then◌else◌}
use Rattle.wit_data.specs.declared.stability.Stability.{Stability}
use Rattle.std.specs.Prelude.{IfSome}
use Rattle.std.specs.Option.{option_map}
use Rattle.std.proofs.lemmas.Slice.Eq.{bytes_eq-Decides}
use Rattle.json.specs.Json.{Json}
use Rattle.json.specs.Value.{items_of}
use Rattle.wit_data.specs.Each.{Each}
use Rattle.wit_data.specs.declared.function.Function.{Function}
use Rattle.wit_data.specs.declared.function.Param.{Param}
use Rattle.wit_data.specs.declared.interface.Interface.{Interface}
use Rattle.wit_data.specs.declared.stability.Docs.{Docs}
use Rattle.wit_data.specs.declared.types.Case.{Case}
use Rattle.wit_data.specs.declared.types.EnumCase.{EnumCase}
use Rattle.wit_data.specs.declared.types.Field.{Field}
use Rattle.wit_data.specs.declared.types.Flag.{Flag}
use Rattle.wit_data.specs.declared.types.TypeDef.{TypeDef}
use Rattle.wit_data.specs.declared.types.TypeDefKind.{TypeDefKind}
use Rattle.wit_data.specs.declared.types.TypeDefKind.TheVariants as kind
use Rattle.wit_data.specs.declared.world.World.{World}
use Rattle.wit_data.specs.declared.world.WorldItem.{WorldItem}
use Rattle.wit_data.specs.declared.world.WorldItem.TheVariants as item
use Rattle.wit_data.specs.declared.world.WorldKey.{WorldKey}
use Rattle.wit_json.specs.Details.{external_id_member, function_details, interface_details, item_details, json_of_range, json_of_span, parts_member, span_member, type_details, world_details}
use Rattle.wit_json.specs.Values as written
use Rattle.wit_json.specs.Values.{Member, json_of_text, members_of, object, object_under_names, optional, object_by}
use Rattle.wit_json.specs.Worlds.{entry_name}
use Rattle.wit_json_graphs.specs.Details.{entries_with, entry_with, function_with_details, interface_with, item_with, kind_with, list_with, span_alone, table_with, things_with, type_with_details, world_with, with_span}
use Rattle.wit_json_graphs.specs.Writable.{AreWritableEntries, IsWritableCase, IsWritableField, IsWritableFunction, IsWritableInterface, IsWritableItem, IsWritableKind, IsWritableParam, IsWritableSpan, IsWritableTypeDef, IsWritableWorld}
use Rattle.wit_json_reading.specs.Gates.{read_place, read_span}
use Rattle.wit_json_reading.specs.Reading.{Reading, ◌>>=◌, only, under, instead_of}
use Rattle.wit_json_reading.specs.Values.{read_text}
use Rattle.wit_json_reading.specs.declared.fault.Step.TheVariants as step
use Rattle.wit_json_graphs.proofs.Bare.{at_value, bare_case, bare_enum_case, bare_field, bare_flag, bare_function, bare_kind, bare_param, bare_type, no_more}
use Rattle.wit_json_graphs.proofs.BareThings.{bare_entries, bare_functions, bare_interface, bare_item, bare_world}
use Rattle.wit_json_graphs.proofs.Slots.{Slot, get_slot, only_slots, slots, json_of_docs}
use Rattle.wit_json_graphs.proofs.Small.{reads_docs, reads_span, reads_span_member, reads_texts}
use Rattle.wit_json_graphs.proofs.Steps.{all_1, all_3, all_4, reads_optional, reads_required, followed, all_2}
use Rattle.wit_json_reading.specs.declared.fault.Expected.TheVariants as expected

-- ---- lists and tables

module _ {A : Type 0} (f : A → Json → Reading A) (b : A → A) (w : A → Json) where
  things_complete : (n : ℕ) (xs : List A) → Each (λ x. f (b x) (w x) ≡ Ok x) xs → things_with f n (map b xs) (items_of (map w xs)) ≡ Ok xs
  things_complete n [] each = refl
  things_complete n (x ∷ xs) each =
      followed (under (step.Item n) (f (b x) (w x))) _ x (Ok (x ∷ xs)) (ap (under (step.Item n)) (each 0 x refl))
      (followed (things_with f (suc n) (map b xs) (items_of (map w xs))) _ xs (Ok (x ∷ xs)) (things_complete (suc n) xs (λ i y at. each (suc i) y at)) refl)

  pub list_complete : (xs : List A) → Each (λ x. f (b x) (w x) ≡ Ok x) xs → list_with f (map b xs) (written.list_of w xs) ≡ Ok xs
  list_complete xs each = things_complete 0 xs each

module _ {K A : Type 0} (name : K → List ℕ) (f : A → Json → Reading A) (b : A → A) (w : A → Json) where
  abbrev member_of : K × A → List ℕ × Json
  member_of e = (name e.0, w e.1)

  pub entries_complete : (es : List (K × A)) → Each (λ (e : K × A). f (b e.1) (w e.1) ≡ Ok e.1) es
      → entries_with name f (map (at_value b) es) (members_of (map member_of es)) ≡ Ok es
  entries_complete [] each = refl
  entries_complete (e ∷ es) each =
      let same : bytes_eq (name e.0) (name e.0) ≡ true = (bytes_eq-Decides (name e.0) (name e.0)).1 refl in
      rw same (followed (under (step.Member (name e.0)) (f (b e.1) (w e.1))) _ e.1 (Ok (e ∷ es)) (ap (under (step.Member (name e.0))) (each 0 e refl))
      (followed (entries_with name f (map (at_value b) es) (members_of (map member_of es))) _ es (Ok (e ∷ es)) (entries_complete es (λ i y at. each (suc i) y at)) refl))

-- ---- types

abbrev field_with : Field → Json → Reading Field
field_with = with_span (λ (f : Field) span. record f { span = span })

abbrev flag_with : Flag → Json → Reading Flag
flag_with = with_span (λ (f : Flag) span. record f { span = span })

abbrev case_with : Case → Json → Reading Case
case_with = with_span (λ (c : Case) span. record c { span = span })

abbrev enum_case_with : EnumCase → Json → Reading EnumCase
enum_case_with = with_span (λ (c : EnumCase) span. record c { span = span })

abbrev param_with : Param → Json → Reading Param
param_with = with_span (λ (p : Param) span. record p { span = span })

field_complete : (f : Field) → IsWritableField f → field_with (bare_field f) (json_of_span f.span) ≡ Ok f
field_complete f fits = followed (read_place (json_of_span f.span)) _ f.span (Ok f) (reads_span f.span fits.1) refl

flag_complete : (f : Flag) → IsWritableSpan f.span → flag_with (bare_flag f) (json_of_span f.span) ≡ Ok f
flag_complete f fits = followed (read_place (json_of_span f.span)) _ f.span (Ok f) (reads_span f.span fits) refl

case_complete : (c : Case) → IsWritableCase c → case_with (bare_case c) (json_of_span c.span) ≡ Ok c
case_complete c fits = followed (read_place (json_of_span c.span)) _ c.span (Ok c) (reads_span c.span fits.1) refl

enum_case_complete : (c : EnumCase) → IsWritableSpan c.span → enum_case_with (bare_enum_case c) (json_of_span c.span) ≡ Ok c
enum_case_complete c fits = followed (read_place (json_of_span c.span)) _ c.span (Ok c) (reads_span c.span fits) refl

-- the parts of a type that has some
abbrev parts_slot : TypeDefKind → Option Json
parts_slot (kind.Record fields) = Some (written.list_of (λ (f : Field). json_of_span f.span) fields)
parts_slot (kind.Flags flags) = Some (written.list_of (λ (f : Flag). json_of_span f.span) flags)
parts_slot (kind.Variant cases) = Some (written.list_of (λ (c : Case). json_of_span c.span) cases)
parts_slot (kind.Enum cases) = Some (written.list_of (λ (c : EnumCase). json_of_span c.span) cases)
parts_slot _ = None

abbrev type_slots : Option (ℕ × ℕ) → Option (List ℕ) → TypeDefKind → List Slot
type_slots span external_id k =
    (codes "span", option_map json_of_range span) ∷ (codes "external-id", option_map json_of_text external_id) ∷ (codes "parts", parts_slot k) ∷ []

-- no member but a span and an external id
no_parts : (span : Option (ℕ × ℕ)) (external_id : Option (List ℕ)) (k : TypeDefKind) → parts_slot k ≡ None
    → only (codes "span" ∷ codes "external-id" ∷ []) (slots (type_slots span external_id k)) ≡ Ok tt
no_parts span external_id k none =
    let two : List Slot = (codes "span", option_map json_of_range span) ∷ (codes "external-id", option_map json_of_text external_id) ∷ [] in
    let three : Option Json → List Slot =
    λ parts. (codes "span", option_map json_of_range span) ∷ (codes "external-id", option_map json_of_text external_id) ∷ (codes "parts", parts) ∷ [] in
    ap (λ (parts : Option Json). only (codes "span" ∷ codes "external-id" ∷ []) (slots (three parts))) none
    ∙ ap (only (codes "span" ∷ codes "external-id" ∷ [])) (sym (no_more (span_member span ++ external_id_member external_id)))
    ∙ only_slots (codes "span" ∷ codes "external-id" ∷ []) two refl

plain_complete : (span : Option (ℕ × ℕ)) (external_id : Option (List ℕ)) (k : TypeDefKind) → parts_slot k ≡ None
    → (only (codes "span" ∷ codes "external-id" ∷ []) (slots (type_slots span external_id k)) >>= λ _. Ok k) ≡ Ok k
plain_complete span external_id k none = all_1 (λ (_ : Unit {0}). k) (no_parts span external_id k none)

kind_complete : (span : Option (ℕ × ℕ)) (external_id : Option (List ℕ)) (k : TypeDefKind) → IsWritableKind k
    → kind_with (bare_kind k) (slots (type_slots span external_id k)) ≡ Ok k
unfolding kind_with
kind_complete span external_id (kind.Record fields) fits =
    let ss = type_slots span external_id (kind.Record fields) in
    all_1 (λ it. kind.Record it) (reads_required (list_with field_with (map bare_field fields)) (codes "parts") (slots ss) (written.list_of (λ (f : Field). json_of_span f.span) fields) fields
    (get_slot (codes "parts") ss) (list_complete field_with bare_field (λ (f : Field). json_of_span f.span) fields (λ i f at. field_complete f (fits i f at))))
kind_complete span external_id kind.Resource fits = plain_complete span external_id kind.Resource refl
kind_complete span external_id (kind.Handle handle) fits = plain_complete span external_id (kind.Handle handle) refl
kind_complete span external_id (kind.Flags flags) fits =
    let ss = type_slots span external_id (kind.Flags flags) in
    all_1 (λ it. kind.Flags it) (reads_required (list_with flag_with (map bare_flag flags)) (codes "parts") (slots ss) (written.list_of (λ (f : Flag). json_of_span f.span) flags) flags
    (get_slot (codes "parts") ss) (list_complete flag_with bare_flag (λ (f : Flag). json_of_span f.span) flags (λ i f at. flag_complete f (fits i f at))))
kind_complete span external_id (kind.Tuple types) fits = plain_complete span external_id (kind.Tuple types) refl
kind_complete span external_id (kind.Variant cases) fits =
    let ss = type_slots span external_id (kind.Variant cases) in
    all_1 (λ it. kind.Variant it) (reads_required (list_with case_with (map bare_case cases)) (codes "parts") (slots ss) (written.list_of (λ (c : Case). json_of_span c.span) cases) cases
    (get_slot (codes "parts") ss) (list_complete case_with bare_case (λ (c : Case). json_of_span c.span) cases (λ i c at. case_complete c (fits i c at))))
kind_complete span external_id (kind.Enum cases) fits =
    let ss = type_slots span external_id (kind.Enum cases) in
    all_1 (λ it. kind.Enum it) (reads_required (list_with enum_case_with (map bare_enum_case cases)) (codes "parts") (slots ss) (written.list_of (λ (c : EnumCase). json_of_span c.span) cases) cases
    (get_slot (codes "parts") ss) (list_complete enum_case_with bare_enum_case (λ (c : EnumCase). json_of_span c.span) cases (λ i c at. enum_case_complete c (fits i c at))))
kind_complete span external_id (kind.Option ty) fits = plain_complete span external_id (kind.Option ty) refl
kind_complete span external_id (kind.Result_ ok err) fits = plain_complete span external_id (kind.Result_ ok err) refl
kind_complete span external_id (kind.List ty) fits = plain_complete span external_id (kind.List ty) refl
kind_complete span external_id (kind.Map key value) fits = plain_complete span external_id (kind.Map key value) refl
kind_complete span external_id (kind.FixedLengthList ty len) fits = plain_complete span external_id (kind.FixedLengthList ty len) refl
kind_complete span external_id (kind.Future ty) fits = plain_complete span external_id (kind.Future ty) refl
kind_complete span external_id (kind.Stream ty) fits = plain_complete span external_id (kind.Stream ty) refl
kind_complete span external_id (kind.Type_ ty) fits = plain_complete span external_id (kind.Type_ ty) refl
kind_complete span external_id kind.Unknown fits = plain_complete span external_id kind.Unknown refl

-- what is written of the parts
parts_are : (k : TypeDefKind) → parts_member k ≡ optional (codes "parts") (parts_slot k)
parts_are (kind.Record fields) = refl
parts_are kind.Resource = refl
parts_are (kind.Handle handle) = refl
parts_are (kind.Flags flags) = refl
parts_are (kind.Tuple types) = refl
parts_are (kind.Variant cases) = refl
parts_are (kind.Enum cases) = refl
parts_are (kind.Option ty) = refl
parts_are (kind.Result_ ok err) = refl
parts_are (kind.List ty) = refl
parts_are (kind.Map key value) = refl
parts_are (kind.FixedLengthList ty len) = refl
parts_are (kind.Future ty) = refl
parts_are (kind.Stream ty) = refl
parts_are (kind.Type_ ty) = refl
parts_are kind.Unknown = refl

details_are : (def : TypeDef) → type_details def ≡ slots (type_slots def.span def.external_id def.kind)
details_are def = ap (λ (ms : List Member). object (span_member def.span ++ external_id_member def.external_id ++ ms)) (parts_are def.kind)

pub type_complete : (def : TypeDef) → IsWritableTypeDef def → type_with_details (bare_type def) (type_details def) ≡ Ok def
unfolding type_with_details
type_complete def fits =
    let ss = type_slots def.span def.external_id def.kind in
    let j = slots ss in
    ap (type_with_details (bare_type def)) (details_are def)
    ∙ all_4 (λ (_ : Unit {0}) (span : Option (ℕ × ℕ)) (external_id : Option (List ℕ)) (k : TypeDefKind).
    let it : TypeDef = record def { span = span; external_id = external_id; kind = k } in it)
    (only_slots (codes "span" ∷ codes "external-id" ∷ codes "parts" ∷ []) ss refl)
    (reads_span_member def.span j fits.span (get_slot (codes "span") ss))
    (reads_optional read_text json_of_text (codes "external-id") j def.external_id (get_slot (codes "external-id") ss) (reads_texts def.external_id))
    (kind_complete def.span def.external_id def.kind fits.kind)

-- ---- functions and interfaces

param_complete : (p : Param) → IsWritableParam p → param_with (bare_param p) (json_of_span p.span) ≡ Ok p
param_complete p fits = followed (read_place (json_of_span p.span)) _ p.span (Ok p) (reads_span p.span fits.1) refl

pub function_complete : (f : Function) → IsWritableFunction f → function_with_details (bare_function f) (function_details f) ≡ Ok f
unfolding function_with_details
function_complete f fits =
    let ss : List Slot =
    (codes "span", option_map json_of_range f.span) ∷ (codes "external-id", option_map json_of_text f.external_id)
    ∷ (codes "params", Some (written.list_of (λ (p : Param). json_of_span p.span) f.params)) ∷ [] in
    let j = slots ss in
    all_4 (λ (_ : Unit {0}) (span : Option (ℕ × ℕ)) (external_id : Option (List ℕ)) (params : List Param).
    let it : Function = record f { span = span; external_id = external_id; params = params } in it)
    (only_slots (codes "span" ∷ codes "external-id" ∷ codes "params" ∷ []) ss refl)
    (reads_span_member f.span j fits.span (get_slot (codes "span") ss))
    (reads_optional read_text json_of_text (codes "external-id") j f.external_id (get_slot (codes "external-id") ss) (reads_texts f.external_id))
    (reads_required (list_with param_with (map bare_param f.params)) (codes "params") j (written.list_of (λ (p : Param). json_of_span p.span) f.params) f.params (get_slot (codes "params") ss)
    (list_complete param_with bare_param (λ (p : Param). json_of_span p.span) f.params (λ i p at. param_complete p (fits.params i p at))))

pub interface_complete : (interface : Interface) → IsWritableInterface interface → interface_with (bare_interface interface) (interface_details interface) ≡ Ok interface
unfolding interface_with
interface_complete i fits =
    let ss : List Slot = (codes "span", option_map json_of_range i.span) ∷ (codes "functions", Some (object_under_names function_details i.functions)) ∷ [] in
    let j = slots ss in
    all_3 (λ (_ : Unit {0}) (span : Option (ℕ × ℕ)) (functions : List (List ℕ × Function)). let it : Interface = record i { span = span; functions = functions } in it)
    (only_slots (codes "span" ∷ codes "functions" ∷ []) ss refl)
    (reads_span_member i.span j fits.span (get_slot (codes "span") ss))
    (reads_required (table_with (λ (name : List ℕ). name) function_with_details (bare_functions i.functions)) (codes "functions") j (object_under_names function_details i.functions) i.functions (get_slot (codes "functions") ss)
    (entries_complete (λ (name : List ℕ). name) function_with_details bare_function function_details i.functions (λ n e at. function_complete e.1 (fits.functions n e at))))

-- ---- worlds

entry_complete : (docs : Docs) (span : Option (ℕ × ℕ)) (external_id : Option (List ℕ)) → IsWritableSpan span
    → entry_with (slots ((codes "docs", json_of_docs docs) ∷ (codes "span", option_map json_of_range span) ∷ (codes "external-id", option_map json_of_text external_id) ∷ [])) ≡ Ok (docs, span, external_id)
unfolding entry_with
entry_complete docs span external_id fits =
    let ss : List Slot = (codes "docs", json_of_docs docs) ∷ (codes "span", option_map json_of_range span) ∷ (codes "external-id", option_map json_of_text external_id) ∷ [] in
    let j = slots ss in
    all_4 (λ (_ : Unit {0}) (docs : Docs) (span : Option (ℕ × ℕ)) (external_id : Option (List ℕ)). (docs, span, external_id))
    (only_slots (codes "docs" ∷ codes "span" ∷ codes "external-id" ∷ []) ss refl)
    (reads_docs docs j (get_slot (codes "docs") ss))
    (reads_span_member span j fits (get_slot (codes "span") ss))
    (reads_optional read_text json_of_text (codes "external-id") j external_id (get_slot (codes "external-id") ss) (reads_texts external_id))

span_complete : (span : Option (ℕ × ℕ)) → IsWritableSpan span → span_alone (slots ((codes "span", option_map json_of_range span) ∷ [])) ≡ Ok span
unfolding span_alone
span_complete span fits =
    let ss : List Slot = (codes "span", option_map json_of_range span) ∷ [] in
    followed (only (codes "span" ∷ []) (slots ss)) (λ _. read_span (slots ss)) tt (Ok span) (only_slots (codes "span" ∷ []) ss refl)
    (reads_span_member span (slots ss) fits (get_slot (codes "span") ss))

item_complete : (it : WorldItem) → IsWritableItem it → item_with (bare_item it) (item_details it) ≡ Ok it
unfolding item_with
item_complete (item.Interface id stability docs span external_id) fits =
    all_1 (λ (e : Docs × Option (ℕ × ℕ) × Option (List ℕ)). item.Interface id stability e.0 e.1 e.2) (entry_complete docs span external_id fits.2)
item_complete (item.Function f) fits = all_1 (λ (g : Function). item.Function g) (function_complete f fits)
item_complete (item.Type_ id span) fits = all_1 (λ (s : Option (ℕ × ℕ)). item.Type_ id s) (span_complete span fits.1)

items_complete : (es : List (WorldKey × WorldItem)) → AreWritableEntries es → table_with entry_name item_with (bare_entries es) (object_by entry_name item_details es) ≡ Ok es
items_complete es fits = entries_complete entry_name item_with bare_item item_details es (λ i e at. item_complete e.1 (fits.items i e at))

-- a world that includes nothing
abbrev without_includes : World → World
without_includes world = record world { includes = [] }

includes_none : (world : World) → world.includes ≡ [] → without_includes world ≡ world
includes_none world none = ap (λ is. let it : World = record world { includes = is } in it) (sym none)

complete_alone : (world : World) → IsWritableWorld world → world_with (bare_world world) (world_details world) ≡ Ok (without_includes world)
unfolding world_with
complete_alone w fits =
    let ss : List Slot =
    (codes "span", option_map json_of_range w.span) ∷ (codes "imports", Some (object_by entry_name item_details w.imports)) ∷ (codes "exports", Some (object_by entry_name item_details w.exports)) ∷ [] in
    let j = slots ss in
    all_4 (λ (_ : Unit {0}) (span : Option (ℕ × ℕ)) (imports exports : List (WorldKey × WorldItem)).
    let it : World = record (without_includes w) { span = span; imports = imports; exports = exports } in it)
    (only_slots (codes "span" ∷ codes "imports" ∷ codes "exports" ∷ []) ss refl)
    (reads_span_member w.span j fits.span (get_slot (codes "span") ss))
    (reads_required (table_with entry_name item_with (bare_entries w.imports)) (codes "imports") j (object_by entry_name item_details w.imports) w.imports (get_slot (codes "imports") ss) (items_complete w.imports fits.imports))
    (reads_required (table_with entry_name item_with (bare_entries w.exports)) (codes "exports") j (object_by entry_name item_details w.exports) w.exports (get_slot (codes "exports") ss) (items_complete w.exports fits.exports))

pub world_complete : (world : World) → IsWritableWorld world → world.includes ≡ [] → world_with (bare_world world) (world_details world) ≡ Ok world
world_complete world fits none = complete_alone world fits ∙ ap Ok (includes_none world none)
