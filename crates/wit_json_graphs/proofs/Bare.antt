-- The layout of a graph reads as the graph without what its details have: spans, external ids, and the docs of entries.
use Rattle.std.proofs.Common.{◌≡◌, ◌∙◌, ℕ, zero, suc, List, [], ◌∷◌, ◌++◌, length, map, Option, Some, None, Ok, refl, sym, ap, subst, codes, slice_get, append-nil}
use Rattle.std.specs.Option.{option_map}
use Rattle.json.specs.Json.{Json}
use Rattle.json.specs.Json as json
use Rattle.json.specs.Value.{items_of}
use Rattle.wit_values.specs.Table.{HasDistinctKeys}
use Rattle.wit_data.specs.Each.{Each}
use Rattle.wit_data.specs.declared.function.Function.{Function}
use Rattle.wit_data.specs.declared.function.Param.{Param}
use Rattle.wit_data.specs.declared.stability.Docs.{Docs}
use Rattle.wit_data.specs.declared.types.Case.{Case}
use Rattle.wit_data.specs.declared.types.EnumCase.{EnumCase}
use Rattle.wit_data.specs.declared.types.Field.{Field}
use Rattle.wit_data.specs.declared.types.Flag.{Flag}
use Rattle.wit_data.specs.declared.types.TypeDef.{TypeDef}
use Rattle.wit_data.specs.declared.types.TypeDefKind.{TypeDefKind}
use Rattle.wit_data.specs.declared.types.TypeDefKind.TheVariants as kind
use Rattle.wit_json.specs.Functions.{json_of_function, json_of_function_kind, json_of_param}
use Rattle.wit_json.specs.Gates.{docs_member, stability_member}
use Rattle.wit_json.specs.Types.{json_of_case, json_of_enum_case, json_of_field, json_of_flag, json_of_kind, json_of_owner, json_of_type, json_of_type_def}
use Rattle.wit_json.specs.Unresolved.{whole_case, whole_enum_case, whole_field, whole_flag, whole_function, whole_kind, whole_param, whole_type}
use Rattle.wit_json.specs.Values as written
use Rattle.wit_json.specs.Values.{Member, json_of_text, member, null_or, object, optional, tagged}
use Rattle.wit_json_graphs.specs.Writable.{IsWritableCase, IsWritableField, IsWritableFunction, IsWritableKind, IsWritableParam, IsWritableSpan, IsWritableTypeDef}
use Rattle.wit_json_reading.specs.Functions.{read_function}
use Rattle.wit_json_reading.specs.Types.{read_type_def}
use Rattle.wit_json_graphs.proofs.Functions.{reads_function}
use Rattle.wit_json_graphs.proofs.Types.{reads_type_def}

-- ---- lists and tables

-- a pair with f at its second part
abbrev pub at_value : {K A : Type 0} → (A → A) → K × A → K × A
at_value f e = (e.0, f e.1)

module _ {A B : Type 0} where
  pub maps_same : (f : A → B) (g : A → B) (b : A → A) → ((x : A) → f x ≡ g (b x)) → (xs : List A) → map f xs ≡ map g (map b xs)
  maps_same f g b same [] = refl
  maps_same f g b same (x ∷ xs) = ap (λ (y : B). y ∷ map f xs) (same x) ∙ ap (λ (ys : List B). g (b x) ∷ ys) (maps_same f g b same xs)

module _ {A : Type 0} where
  pub lists_same : (f g : A → Json) (b : A → A) → ((x : A) → f x ≡ g (b x)) → (xs : List A) → written.list_of f xs ≡ written.list_of g (map b xs)
  lists_same f g b same xs = ap (λ (js : List Json). json.array (items_of js)) (maps_same f g b same xs)

  pub each_of_map : (P Q : A → Type 0) (b : A → A) → ((x : A) → P x → Q (b x)) → (xs : List A) → Each P xs → Each Q (map b xs)
  each_of_map P Q b leads [] each i y at = cc
  each_of_map P Q b leads (x ∷ xs) each zero y at = let same : b x ≡ y = cc in subst Q same (leads x (each 0 x refl))
  each_of_map P Q b leads (x ∷ xs) each (suc i) y at = each_of_map P Q b leads xs (λ n z there. each (suc n) z there) i y at

module _ {K A : Type 0} (b : A → A) where
  key_there : (es : List (K × A)) (i : ℕ) (d : K × A) → slice_get (map (at_value b) es) i ≡ Some d → (e : K × A) × (slice_get es i ≡ Some e) × (e.0 ≡ d.0)
  key_there [] i d at = cc
  key_there (e ∷ es) zero d at = let same : (e.0, b e.1) ≡ d = cc in (e, refl, ap (λ (p : K × A). p.0) same)
  key_there (e ∷ es) (suc i) d at = key_there es i d at

  pub keys_stay : (es : List (K × A)) → HasDistinctKeys es → HasDistinctKeys (map (at_value b) es)
  keys_stay es distinct i j d e first second same =
      let p = key_there es i d first in
      let q = key_there es j e second in
      distinct i j p.0 q.0 p.1 q.1 (p.2 ∙ same ∙ sym q.2)

-- ---- members that are left out

pub no_more : (ms : List Member) → object ms ≡ object (ms ++ [])
no_more ms = ap object (sym (append-nil ms))

pub no_two_more : (ms : List Member) → object ms ≡ object (ms ++ [] ++ [])
no_two_more ms = no_more ms ∙ no_more (ms ++ [])

-- ---- types

abbrev pub bare_field : Field → Field
bare_field f = record f { span = None }

abbrev pub bare_case : Case → Case
bare_case c = record c { span = None }

abbrev pub bare_flag : Flag → Flag
bare_flag f = record f { span = None }

abbrev pub bare_enum_case : EnumCase → EnumCase
bare_enum_case c = record c { span = None }

abbrev pub bare_kind : TypeDefKind → TypeDefKind
bare_kind (kind.Record fields) = kind.Record (map bare_field fields)
bare_kind (kind.Flags flags) = kind.Flags (map bare_flag flags)
bare_kind (kind.Variant cases) = kind.Variant (map bare_case cases)
bare_kind (kind.Enum cases) = kind.Enum (map bare_enum_case cases)
bare_kind k = k

abbrev pub bare_type : TypeDef → TypeDef
bare_type def = record def { kind = bare_kind def.kind; span = None; external_id = None }

field_is : (f : Field) → json_of_field f ≡ whole_field (bare_field f)
field_is f = no_more (member (codes "name") (json_of_text f.name) ++ member (codes "type") (json_of_type f.ty) ++ docs_member f.docs)

case_is : (c : Case) → json_of_case c ≡ whole_case (bare_case c)
case_is c = no_more (member (codes "name") (json_of_text c.name) ++ member (codes "type") (null_or json_of_type c.ty) ++ docs_member c.docs)

flag_is : (f : Flag) → json_of_flag f ≡ whole_flag (bare_flag f)
flag_is f = no_more (member (codes "name") (json_of_text f.name) ++ docs_member f.docs)

enum_case_is : (c : EnumCase) → json_of_enum_case c ≡ whole_enum_case (bare_enum_case c)
enum_case_is c = no_more (member (codes "name") (json_of_text c.name) ++ docs_member c.docs)

kind_is : (k : TypeDefKind) → json_of_kind k ≡ whole_kind (bare_kind k)
kind_is (kind.Record fields) = ap (λ (j : Json). tagged (codes "record") (tagged (codes "fields") j)) (lists_same json_of_field whole_field bare_field field_is fields)
kind_is kind.Resource = refl
kind_is (kind.Handle handle) = refl
kind_is (kind.Flags flags) = ap (λ (j : Json). tagged (codes "flags") (tagged (codes "flags") j)) (lists_same json_of_flag whole_flag bare_flag flag_is flags)
kind_is (kind.Tuple types) = refl
kind_is (kind.Variant cases) = ap (λ (j : Json). tagged (codes "variant") (tagged (codes "cases") j)) (lists_same json_of_case whole_case bare_case case_is cases)
kind_is (kind.Enum cases) = ap (λ (j : Json). tagged (codes "enum") (tagged (codes "cases") j)) (lists_same json_of_enum_case whole_enum_case bare_enum_case enum_case_is cases)
kind_is (kind.Option ty) = refl
kind_is (kind.Result_ ok err) = refl
kind_is (kind.List ty) = refl
kind_is (kind.Map key value) = refl
kind_is (kind.FixedLengthList ty len) = refl
kind_is (kind.Future ty) = refl
kind_is (kind.Stream ty) = refl
kind_is (kind.Type_ ty) = refl
kind_is kind.Unknown = refl

kind_fits : (k : TypeDefKind) → IsWritableKind k → IsWritableKind (bare_kind k)
kind_fits (kind.Record fields) fits = each_of_map IsWritableField IsWritableField bare_field (λ (f : Field) (it : IsWritableField f). (it.0, tt)) fields fits
kind_fits kind.Resource fits = fits
kind_fits (kind.Handle handle) fits = fits
kind_fits (kind.Flags flags) fits = each_of_map (λ (f : Flag). IsWritableSpan f.span) (λ (f : Flag). IsWritableSpan f.span) bare_flag (λ (f : Flag) (it : IsWritableSpan f.span). tt) flags fits
kind_fits (kind.Tuple types) fits = fits
kind_fits (kind.Variant cases) fits = each_of_map IsWritableCase IsWritableCase bare_case (λ (c : Case) (it : IsWritableCase c). (it.0, tt)) cases fits
kind_fits (kind.Enum cases) fits = each_of_map (λ (c : EnumCase). IsWritableSpan c.span) (λ (c : EnumCase). IsWritableSpan c.span) bare_enum_case (λ (c : EnumCase) (it : IsWritableSpan c.span). tt) cases fits
kind_fits (kind.Option ty) fits = fits
kind_fits (kind.Result_ ok err) fits = fits
kind_fits (kind.List ty) fits = fits
kind_fits (kind.Map key value) fits = fits
kind_fits (kind.FixedLengthList ty len) fits = fits
kind_fits (kind.Future ty) fits = fits
kind_fits (kind.Stream ty) fits = fits
kind_fits (kind.Type_ ty) fits = fits
kind_fits kind.Unknown fits = fits

abbrev type_from : TypeDef → Json → Json
type_from def k =
    object (member (codes "name") (null_or json_of_text def.name) ++ member (codes "kind") k ++ member (codes "owner") (json_of_owner def.owner) ++ docs_member def.docs
    ++ stability_member def.stability)

pub type_is : (def : TypeDef) → json_of_type_def def ≡ whole_type (bare_type def)
type_is def =
    ap (type_from def) (kind_is def.kind)
    ∙ no_two_more (member (codes "name") (null_or json_of_text def.name) ++ member (codes "kind") (whole_kind (bare_kind def.kind)) ++ member (codes "owner") (json_of_owner def.owner)
    ++ docs_member def.docs ++ stability_member def.stability)

pub type_fits : (def : TypeDef) → IsWritableTypeDef def → IsWritableTypeDef (bare_type def)
type_fits def fits = record {
  kind = kind_fits def.kind fits.kind;
  owner = fits.owner;
  gate = fits.gate;
  span = tt;
}

pub reads_bare_type : (def : TypeDef) → IsWritableTypeDef def → read_type_def (json_of_type_def def) ≡ Ok (bare_type def)
reads_bare_type def fits = ap read_type_def (type_is def) ∙ reads_type_def (bare_type def) (type_fits def fits)

-- ---- functions

abbrev pub bare_param : Param → Param
bare_param p = record p { span = None }

abbrev pub bare_function : Function → Function
bare_function f = record f { params = map bare_param f.params; span = None; external_id = None }

param_is : (p : Param) → json_of_param p ≡ whole_param (bare_param p)
param_is p = no_more (member (codes "name") (json_of_text p.name) ++ member (codes "type") (json_of_type p.ty))

abbrev function_from : Function → Json → Json
function_from f params =
    object (member (codes "name") (json_of_text f.name) ++ member (codes "kind") (json_of_function_kind f.kind) ++ member (codes "params") params
    ++ optional (codes "result") (option_map json_of_type f.result_) ++ docs_member f.docs ++ stability_member f.stability)

pub function_is : (f : Function) → json_of_function f ≡ whole_function (bare_function f)
function_is f =
    ap (function_from f) (lists_same json_of_param whole_param bare_param param_is f.params)
    ∙ no_two_more (member (codes "name") (json_of_text f.name) ++ member (codes "kind") (json_of_function_kind f.kind)
    ++ member (codes "params") (written.list_of whole_param (map bare_param f.params)) ++ optional (codes "result") (option_map json_of_type f.result_) ++ docs_member f.docs
    ++ stability_member f.stability)

pub function_fits : (f : Function) → IsWritableFunction f → IsWritableFunction (bare_function f)
function_fits f fits = record {
  kind = fits.kind;
  params = each_of_map IsWritableParam IsWritableParam bare_param (λ (p : Param) (it : IsWritableParam p). (it.0, tt)) f.params fits.params;
  result_ = fits.result_;
  gate = fits.gate;
  span = tt;
}

pub reads_bare_function : (f : Function) → IsWritableFunction f → read_function (json_of_function f) ≡ Ok (bare_function f)
reads_bare_function f fits = ap read_function (function_is f) ∙ reads_function (bare_function f) (function_fits f fits)
