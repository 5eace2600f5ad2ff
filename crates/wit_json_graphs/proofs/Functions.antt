-- Functions read back.
use Rattle.std.proofs.Common.{◌≡◌, ℕ, List, [], ◌∷◌, Option, Some, Ok, refl, codes}
use Rattle.std.specs.Option.{option_map}
use Rattle.wit_data.specs.declared.function.Function.{Function}
use Rattle.wit_data.specs.declared.function.FunctionKind.{FunctionKind}
use Rattle.wit_data.specs.declared.function.FunctionKind.TheVariants as function
use Rattle.wit_data.specs.declared.function.Param.{Param}
use Rattle.wit_data.specs.declared.stability.Docs.{Docs}
use Rattle.wit_data.specs.declared.stability.Stability.{Stability}
use Rattle.wit_data.specs.declared.types.Type_.{Type_}
use Rattle.wit_json.specs.Details.{json_of_range}
use Rattle.wit_json.specs.Functions.{json_of_function_kind}
use Rattle.wit_json.specs.Gates.{json_of_stability}
use Rattle.wit_json.specs.Types.{json_of_type}
use Rattle.wit_json.specs.Unresolved.{whole_function, whole_param}
use Rattle.wit_json.specs.Values as written
use Rattle.wit_json.specs.Values.{json_of_number, json_of_text, tagged}
use Rattle.wit_json_graphs.specs.Writable.{IsWritableFunction, IsWritableFunctionKind, IsWritableId, IsWritableParam}
use Rattle.wit_json_reading.specs.Functions.{read_function_kind, read_function, read_param, read_resource_kind}
use Rattle.wit_json_reading.specs.Reading.{read_list, ◌>>=◌}
use Rattle.wit_json_reading.specs.Types.{read_type}
use Rattle.wit_json_reading.specs.Values.{read_number, read_text}
use Rattle.wit_json_reading.specs.declared.fault.Expected.TheVariants as expected
use Rattle.wit_json_graphs.proofs.Slots.{Slot, get_slot, only_slots, slots, json_of_docs}
use Rattle.wit_json_graphs.proofs.Small.{reads_docs, reads_number, reads_span_member, reads_stability, reads_texts}
use Rattle.wit_json_graphs.proofs.Steps.{all_4, all_9, reads_list, reads_optional, reads_required, reads_variant, followed}
use Rattle.wit_json_graphs.proofs.Types.{reads_type, reads_types}

-- the kind of a resource's function
of_resource : (name : List ℕ) (id : ℕ) (k : FunctionKind) → IsWritableId id → read_resource_kind name id ≡ Ok k → read_function_kind (tagged name (json_of_number id)) ≡ Ok k
unfolding read_function_kind
of_resource name id k fits named =
    reads_variant (λ name it. read_number it >>= λ id. read_resource_kind name id) expected.FunctionKind name (json_of_number id) k (followed (read_number (json_of_number id)) (λ it. read_resource_kind name it) id (Ok k) (reads_number id fits) named)

reads_function_kind : (k : FunctionKind) → IsWritableFunctionKind k → read_function_kind (json_of_function_kind k) ≡ Ok k
unfolding read_function_kind
reads_function_kind function.Freestanding fits = refl
reads_function_kind function.AsyncFreestanding fits = refl
reads_function_kind (function.Method id) fits = of_resource (codes "method") id (function.Method id) fits refl
reads_function_kind (function.AsyncMethod id) fits = of_resource (codes "async-method") id (function.AsyncMethod id) fits refl
reads_function_kind (function.Static id) fits = of_resource (codes "static") id (function.Static id) fits refl
reads_function_kind (function.AsyncStatic id) fits = of_resource (codes "async-static") id (function.AsyncStatic id) fits refl
reads_function_kind (function.Constructor id) fits = of_resource (codes "constructor") id (function.Constructor id) fits refl
reads_function_kind function.Getter fits = refl
reads_function_kind function.Setter fits = refl
reads_function_kind (function.MethodGetter id) fits = of_resource (codes "method-getter") id (function.MethodGetter id) fits refl
reads_function_kind (function.MethodSetter id) fits = of_resource (codes "method-setter") id (function.MethodSetter id) fits refl
reads_function_kind (function.StaticGetter id) fits = of_resource (codes "static-getter") id (function.StaticGetter id) fits refl
reads_function_kind (function.StaticSetter id) fits = of_resource (codes "static-setter") id (function.StaticSetter id) fits refl

reads_param : (p : Param) → IsWritableParam p → read_param (whole_param p) ≡ Ok p
unfolding read_param
reads_param p fits =
    let ss : List Slot = (codes "name", Some (json_of_text p.name)) ∷ (codes "type", Some (json_of_type p.ty)) ∷ (codes "span", option_map json_of_range p.span) ∷ [] in
    let j = slots ss in
    all_4 (λ (_ : Unit {0}) (name : List ℕ) (ty : Type_) (span : Option (ℕ × ℕ)). let it : Param = record { name = name; ty = ty; span = span } in it)
    (only_slots (codes "name" ∷ codes "type" ∷ codes "span" ∷ []) ss refl)
    (reads_required read_text (codes "name") j (json_of_text p.name) p.name (get_slot (codes "name") ss) refl)
    (reads_required read_type (codes "type") j (json_of_type p.ty) p.ty (get_slot (codes "type") ss) (reads_type p.ty fits.0))
    (reads_span_member p.span j fits.1 (get_slot (codes "span") ss))

pub reads_function : (f : Function) → IsWritableFunction f → read_function (whole_function f) ≡ Ok f
unfolding read_function
reads_function f fits =
    let ss : List Slot =
    (codes "name", Some (json_of_text f.name)) ∷ (codes "kind", Some (json_of_function_kind f.kind)) ∷ (codes "params", Some (written.list_of whole_param f.params))
    ∷ (codes "result", option_map json_of_type f.result_) ∷ (codes "docs", json_of_docs f.docs) ∷ (codes "stability", json_of_stability f.stability)
    ∷ (codes "span", option_map json_of_range f.span) ∷ (codes "external-id", option_map json_of_text f.external_id) ∷ [] in
    let j = slots ss in
    all_9 (λ (_ : Unit {0}) (name : List ℕ) (kind : FunctionKind) (params : List Param) (result : Option Type_) (docs : Docs) (stability : Stability) (span : Option (ℕ × ℕ)) (external_id : Option (List ℕ)).
    let it : Function = record { name = name; kind = kind; params = params; result_ = result; docs = docs; stability = stability; span = span; external_id = external_id } in it)
    (only_slots (codes "name" ∷ codes "kind" ∷ codes "params" ∷ codes "result" ∷ codes "docs" ∷ codes "stability" ∷ codes "span" ∷ codes "external-id" ∷ []) ss refl)
    (reads_required read_text (codes "name") j (json_of_text f.name) f.name (get_slot (codes "name") ss) refl)
    (reads_required read_function_kind (codes "kind") j (json_of_function_kind f.kind) f.kind (get_slot (codes "kind") ss) (reads_function_kind f.kind fits.kind))
    (reads_required (read_list read_param) (codes "params") j (written.list_of whole_param f.params) f.params (get_slot (codes "params") ss)
    (reads_list read_param whole_param f.params (λ i p at. reads_param p (fits.params i p at))))
    (reads_optional read_type json_of_type (codes "result") j f.result_ (get_slot (codes "result") ss) (reads_types f.result_ fits.result_))
    (reads_docs f.docs j (get_slot (codes "docs") ss))
    (reads_stability f.stability j fits.gate (get_slot (codes "stability") ss))
    (reads_span_member f.span j fits.span (get_slot (codes "span") ss))
    (reads_optional read_text json_of_text (codes "external-id") j f.external_id (get_slot (codes "external-id") ss) (reads_texts f.external_id))
