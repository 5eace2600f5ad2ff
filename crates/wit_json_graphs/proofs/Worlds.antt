-- Interfaces and worlds read back.
use Rattle.std.proofs.Common.{◌≡◌, ◌∙◌, ℕ, suc, Bool, false, List, [], ◌∷◌, ◌++◌, map, Option, Some, None, Ok, refl, sym, ap, subst, codes, if◌then◌else◌, append-nil, append_assoc}
use Rattle.wit_json_reading.specs.Objects.{read_variant}
use Rattle.std.specs.Map.{lookup}
use Rattle.std.specs.Option.{option_map}
use Rattle.std.specs.Prelude.{IfSome, is_some}
use Rattle.json.specs.Find.{get}
use Rattle.json.specs.Json.{Json}
use Rattle.wit_values.specs.Table.{HasDistinctKeys}
use Rattle.wit_data.specs.Each.{Each}
use Rattle.wit_data.specs.facts.WorldKeyFacts.{key_is, same_key}
use Rattle.wit_data.specs.declared.function.Function.{Function}
use Rattle.wit_data.specs.declared.interface.Interface.{Interface}
use Rattle.wit_data.specs.declared.stability.Docs.{Docs}
use Rattle.wit_data.specs.declared.stability.Stability.{Stability}
use Rattle.wit_data.specs.declared.world.IncludeName.{IncludeName}
use Rattle.wit_data.specs.declared.world.World.{World}
use Rattle.wit_data.specs.declared.world.WorldInclude.{WorldInclude}
use Rattle.wit_data.specs.declared.world.WorldItem.{WorldItem}
use Rattle.wit_data.specs.declared.world.WorldItem.TheVariants as item
use Rattle.wit_data.specs.declared.world.WorldKey.{WorldKey}
use Rattle.wit_json.specs.Details.{json_of_range}
use Rattle.wit_json.specs.Gates.{json_of_stability}
use Rattle.wit_json.specs.Unresolved.{json_of_include, json_of_include_name, whole_function, whole_interface, whole_interface_entry, whole_item, whole_type_entry, whole_world}
use Rattle.wit_json.specs.Values as written
use Rattle.wit_json.specs.Values.{json_of_number, json_of_text, members_of, null_or, object_under_names, object_by}
use Rattle.wit_json.specs.Worlds.{entry_name}
use Rattle.wit_json_graphs.specs.Writable.{AreWritableEntries, FitsKey, IsWritableGate, IsWritableId, IsWritableInclude, IsWritableInterface, IsWritableItem, IsWritableSpan, IsWritableWorld}
use Rattle.wit_json_reading.specs.Functions.{read_function}
use Rattle.wit_json_reading.specs.Reading.{instead_of, read_list, read_optional, under, read_leaving_out, read_or, ◌>>=◌}
use Rattle.wit_json_reading.specs.Tables.{read_named}
use Rattle.wit_json_reading.specs.Values.{nullable, read_number, read_text}
use Rattle.wit_json_reading.specs.Worlds.{entries_from, read_entries, read_include_name, read_include, read_interface_entry, read_interface, read_item_by, read_key, names_differ, read_placed_type, with_entry, read_world}
use Rattle.wit_json_reading.specs.declared.fault.Expected.TheVariants as expected
use Rattle.wit_json_reading.specs.declared.fault.Step.TheVariants as step
use Rattle.wit_json_graphs.proofs.Functions.{reads_function}
use Rattle.wit_json_graphs.proofs.Keys.{reads_differ, reads_key, writable_key}
use Rattle.wit_json_graphs.proofs.Slots.{Slot, get_slot, only_slots, slots, json_of_docs}
use Rattle.wit_json_graphs.proofs.Small.{reads_docs, reads_number, reads_span_member, reads_stability, reads_texts}
use Rattle.wit_json_graphs.proofs.Steps.{all_3, all_5, all_6, all_8, all_9, is_new, reads_list, reads_named, reads_optional, reads_required, reads_variant, reads_without, followed}
use Rattle.wit_json_graphs.proofs.Types.{reads_name}
use Rattle.wit_data.specs.declared.world.WorldKey.TheVariants as key

-- ---- the package that something belongs to

reads_no_home : (j : Json) → get (codes "package") j ≡ None → read_or (nullable read_number) None (codes "package") j ≡ Ok None
unfolding read_or
reads_no_home j there =
    followed (read_optional (nullable read_number) (codes "package") j) _ None (Ok None) (reads_optional (nullable read_number) (null_or json_of_number) (codes "package") j None there tt) refl

reads_home_or_null : (home : Option ℕ) → IfSome home IsWritableId → nullable read_number (null_or json_of_number home) ≡ Ok home
reads_home_or_null None fits = refl
reads_home_or_null (Some id) fits = followed (read_number (json_of_number id)) _ id (Ok (Some id)) (reads_number id fits) refl

pub reads_home : (home : Option ℕ) (j : Json) → IfSome home IsWritableId → get (codes "package") j ≡ Some (null_or json_of_number home) → read_or (nullable read_number) None (codes "package") j ≡ Ok home
unfolding read_or
reads_home home j fits there =
    followed (read_optional (nullable read_number) (codes "package") j) _ (Some home) (Ok home)
    (reads_optional (nullable read_number) (null_or json_of_number) (codes "package") j (Some home) there (reads_home_or_null home fits)) refl

-- ---- interfaces

-- an interface read_leaving_out its package
abbrev alone : Interface → Interface
alone interface = record interface { «package» = None }

is_alone : (interface : Interface) → interface.«package» ≡ None → alone interface ≡ interface
is_alone interface unplaced = ap (λ (p : Option ℕ). let it : Interface = record interface { «package» = p } in it) (sym unplaced)

reads_alone_interface : (interface : Interface) → IsWritableInterface interface → read_interface (whole_interface interface) ≡ Ok (alone interface)
unfolding read_interface
reads_alone_interface i fits =
    let ss : List Slot =
    (codes "name", Some (null_or json_of_text i.name)) ∷ (codes "types", Some (object_under_names json_of_number i.types))
    ∷ (codes "functions", Some (object_under_names whole_function i.functions)) ∷ (codes "docs", json_of_docs i.docs) ∷ (codes "stability", json_of_stability i.stability)
    ∷ (codes "span", option_map json_of_range i.span) ∷ [] in
    let j = slots ss in
    all_8 (λ (_ : Unit {0}) (name : Option (List ℕ)) (types : List (List ℕ × ℕ)) (functions : List (List ℕ × Function)) (docs : Docs) (stability : Stability) (home : Option ℕ)
    (span : Option (ℕ × ℕ)).
    let it : Interface = record { name = name; types = types; functions = functions; docs = docs; stability = stability; «package» = home; span = span } in it)
    (only_slots (codes "name" ∷ codes "types" ∷ codes "functions" ∷ codes "docs" ∷ codes "stability" ∷ codes "package" ∷ codes "span" ∷ []) ss refl)
    (reads_required (nullable read_text) (codes "name") j (null_or json_of_text i.name) i.name (get_slot (codes "name") ss) (reads_name i.name))
    (reads_required (read_named read_number) (codes "types") j (object_under_names json_of_number i.types) i.types (get_slot (codes "types") ss)
    (reads_named read_number json_of_number i.types fits.types_differ (λ n e at. reads_number e.1 (fits.types n e at))))
    (reads_required (read_named read_function) (codes "functions") j (object_under_names whole_function i.functions) i.functions (get_slot (codes "functions") ss)
    (reads_named read_function whole_function i.functions fits.functions_differ (λ n e at. reads_function e.1 (fits.functions n e at))))
    (reads_docs i.docs j (get_slot (codes "docs") ss))
    (reads_stability i.stability j fits.gate (get_slot (codes "stability") ss))
    (reads_no_home j (get_slot (codes "package") ss))
    (reads_span_member i.span j fits.span (get_slot (codes "span") ss))

-- it names no package
unplaced_interface : (interface : Interface) → get (codes "package") (whole_interface interface) ≡ None
unplaced_interface i =
    get_slot (codes "package") ((codes "name", Some (null_or json_of_text i.name)) ∷ (codes "types", Some (object_under_names json_of_number i.types))
    ∷ (codes "functions", Some (object_under_names whole_function i.functions)) ∷ (codes "docs", json_of_docs i.docs) ∷ (codes "stability", json_of_stability i.stability)
    ∷ (codes "span", option_map json_of_range i.span) ∷ [])

pub reads_interface : (interface : Interface) → IsWritableInterface interface → interface.«package» ≡ None
    → read_leaving_out (codes "package") read_interface (whole_interface interface) ≡ Ok interface
reads_interface interface fits unplaced =
    reads_without read_interface (codes "package") (whole_interface interface) interface (unplaced_interface interface)
    (reads_alone_interface interface fits ∙ ap Ok (is_alone interface unplaced))

-- ---- entries

reads_interface_entry : (id : ℕ) (stability : Stability) (docs : Docs) (span : Option (ℕ × ℕ)) (external_id : Option (List ℕ)) → IsWritableId id → IsWritableGate stability → IsWritableSpan span
    → read_interface_entry (whole_interface_entry id stability docs span external_id) ≡ Ok (item.Interface id stability docs span external_id)
unfolding read_interface_entry
reads_interface_entry id stability docs span external_id fits gate place =
    let ss : List Slot =
    (codes "id", Some (json_of_number id)) ∷ (codes "stability", json_of_stability stability) ∷ (codes "docs", json_of_docs docs) ∷ (codes "span", option_map json_of_range span)
    ∷ (codes "external-id", option_map json_of_text external_id) ∷ [] in
    let j = slots ss in
    all_6 (λ (_ : Unit {0}) (id : ℕ) (stability : Stability) (docs : Docs) (span : Option (ℕ × ℕ)) (external_id : Option (List ℕ)). item.Interface id stability docs span external_id)
    (only_slots (codes "id" ∷ codes "stability" ∷ codes "docs" ∷ codes "span" ∷ codes "external-id" ∷ []) ss refl)
    (reads_required read_number (codes "id") j (json_of_number id) id (get_slot (codes "id") ss) (reads_number id fits))
    (reads_stability stability j gate (get_slot (codes "stability") ss))
    (reads_docs docs j (get_slot (codes "docs") ss))
    (reads_span_member span j place (get_slot (codes "span") ss))
    (reads_optional read_text json_of_text (codes "external-id") j external_id (get_slot (codes "external-id") ss) (reads_texts external_id))

reads_placed_type : (id : ℕ) (range : ℕ × ℕ) → IsWritableId id → IsWritableSpan (Some range) → read_placed_type (whole_type_entry id (Some range)) ≡ Ok (item.Type_ id (Some range))
unfolding read_placed_type
reads_placed_type id range fits place =
    let ss : List Slot = (codes "id", Some (json_of_number id)) ∷ (codes "span", Some (json_of_range range)) ∷ [] in
    let j = slots ss in
    all_3 (λ (_ : Unit {0}) (id : ℕ) (span : Option (ℕ × ℕ)). item.Type_ id span)
    (only_slots (codes "id" ∷ codes "span" ∷ []) ss refl)
    (reads_required read_number (codes "id") j (json_of_number id) id (get_slot (codes "id") ss) (reads_number id fits))
    (reads_span_member (Some range) j place (get_slot (codes "span") ss))

reads_item : (it : WorldItem) → IsWritableItem it → read_variant read_item_by expected.Entry (whole_item it) ≡ Ok it
reads_item (item.Interface id stability docs span external_id) fits =
    reads_variant read_item_by expected.Entry (codes "interface") (whole_interface_entry id stability docs span external_id) (item.Interface id stability docs span external_id)
    (reads_interface_entry id stability docs span external_id fits.0 fits.1 fits.2)
reads_item (item.Function f) fits =
    reads_variant read_item_by expected.Entry (codes "function") (whole_function f) (item.Function f) (followed (read_function (whole_function f)) _ f (Ok (item.Function f)) (reads_function f fits) refl)
reads_item (item.Type_ id None) fits =
    reads_variant read_item_by expected.Entry (codes "type") (json_of_number id) (item.Type_ id None) (followed (read_number (json_of_number id)) _ id (Ok (item.Type_ id None)) (reads_number id fits.0) refl)
reads_item (item.Type_ id (Some range)) fits = reads_variant read_item_by expected.Entry (codes "type") (whole_type_entry id (Some range)) (item.Type_ id (Some range)) (reads_placed_type id range fits.0 fits.1)

abbrev member_of : WorldKey × WorldItem → List ℕ × Json
member_of e = (entry_name e.0, whole_item e.1)

one_entry : (name : List ℕ) (it : WorldItem) (k : WorldKey) (before : List (WorldKey × WorldItem)) → read_key name it ≡ k → is_some (lookup (same_key k) before) ≡ false
    → with_entry name it before ≡ Ok (before ++ (k, it) ∷ [])
one_entry name it k before named new =
    ap (λ (l : WorldKey). if is_some (lookup (same_key l) before) then under (step.Member name) (instead_of expected.NoSecondMember) else Ok (before ++ (l, it) ∷ [])) named
    ∙ ap (λ (b : Bool). if b then under (step.Member name) (instead_of expected.NoSecondMember) else Ok (before ++ (k, it) ∷ [])) new

reads_entries : (before es : List (WorldKey × WorldItem)) → HasDistinctKeys (before ++ es) → Each (λ (e : WorldKey × WorldItem). FitsKey e.0 e.1) es
    → Each (λ (e : WorldKey × WorldItem). IsWritableItem e.1) es → entries_from before (members_of (map member_of es)) ≡ Ok (before ++ es)
reads_entries before [] distinct fit items = ap Ok (sym (append-nil before))
reads_entries before (e ∷ es) distinct fit items =
    let new : is_some (lookup (same_key e.0) before) ≡ false = is_new (λ a b. (key_is a b).0) before es e distinct in
    let longer : (before ++ e ∷ []) ++ es ≡ before ++ e ∷ es = append_assoc before (e ∷ []) es in
    let named : read_key (entry_name e.0) e.1 ≡ e.0 = reads_key e.0 e.1 (fit 0 e refl) (items 0 e refl) in
    followed (under (step.Member (entry_name e.0)) (read_variant read_item_by expected.Entry (whole_item e.1)) >>= λ entry. with_entry (entry_name e.0) entry before) (λ more. entries_from more (members_of (map member_of es))) (before ++ e ∷ []) (Ok (before ++ e ∷ es))
    (followed (under (step.Member (entry_name e.0)) (read_variant read_item_by expected.Entry (whole_item e.1))) _ e.1 (Ok (before ++ e ∷ [])) (ap (under (step.Member (entry_name e.0))) (reads_item e.1 (items 0 e refl)))
    (one_entry (entry_name e.0) e.1 e.0 before named new))
    (reads_entries (before ++ e ∷ []) es (subst (λ (all : List (WorldKey × WorldItem)). HasDistinctKeys all) (sym longer) distinct) (λ i y at. fit (suc i) y at) (λ i y at. items (suc i) y at)
    ∙ ap Ok longer)

pub reads_world_entries : (es : List (WorldKey × WorldItem)) → AreWritableEntries es → read_entries (object_by entry_name whole_item es) ≡ Ok es
reads_world_entries es fits =
    followed (names_differ [] (members_of (map member_of es))) (λ _. entries_from [] (members_of (map member_of es))) tt (Ok es)
    (reads_differ whole_item [] es fits.differ (λ i e at. writable_key e.0 e.1 (fits.fit i e at) (fits.items i e at)))
    (reads_entries [] es fits.differ fits.fit fits.items)

-- ---- worlds

reads_include_name : (name : IncludeName) → read_include_name (json_of_include_name name) ≡ Ok name
unfolding read_include_name
reads_include_name n =
    let ss : List Slot = (codes "name", Some (json_of_text n.name)) ∷ (codes "as", Some (json_of_text n.as_)) ∷ [] in
    let j = slots ss in
    all_3 (λ (_ : Unit {0}) (name as_ : List ℕ). let it : IncludeName = record { name = name; as_ = as_ } in it)
    (only_slots (codes "name" ∷ codes "as" ∷ []) ss refl)
    (reads_required read_text (codes "name") j (json_of_text n.name) n.name (get_slot (codes "name") ss) refl)
    (reads_required read_text (codes "as") j (json_of_text n.as_) n.as_ (get_slot (codes "as") ss) refl)

reads_include : (include : WorldInclude) → IsWritableInclude include → read_include (json_of_include include) ≡ Ok include
unfolding read_include
reads_include i fits =
    let ss : List Slot =
    (codes "id", Some (json_of_number i.id)) ∷ (codes "names", Some (written.list_of json_of_include_name i.names)) ∷ (codes "stability", json_of_stability i.stability)
    ∷ (codes "span", option_map json_of_range i.span) ∷ [] in
    let j = slots ss in
    all_5 (λ (_ : Unit {0}) (id : ℕ) (names : List IncludeName) (stability : Stability) (span : Option (ℕ × ℕ)). let it : WorldInclude = record { stability = stability; id = id; names = names; span = span } in it)
    (only_slots (codes "id" ∷ codes "names" ∷ codes "stability" ∷ codes "span" ∷ []) ss refl)
    (reads_required read_number (codes "id") j (json_of_number i.id) i.id (get_slot (codes "id") ss) (reads_number i.id fits.id))
    (reads_required (read_list read_include_name) (codes "names") j (written.list_of json_of_include_name i.names) i.names (get_slot (codes "names") ss)
    (reads_list read_include_name json_of_include_name i.names (λ n name at. reads_include_name name)))
    (reads_stability i.stability j fits.gate (get_slot (codes "stability") ss))
    (reads_span_member i.span j fits.span (get_slot (codes "span") ss))

reads_includes : (includes : List WorldInclude) (j : Json) → Each IsWritableInclude includes → get (codes "includes") j ≡ Some (written.list_of json_of_include includes)
    → read_or (read_list read_include) [] (codes "includes") j ≡ Ok includes
unfolding read_or
reads_includes includes j fits there =
    followed (read_optional (read_list read_include) (codes "includes") j) _ (Some includes) (Ok includes)
    (reads_optional (read_list read_include) (written.list_of json_of_include) (codes "includes") j (Some includes) there
    (reads_list read_include json_of_include includes (λ n i at. reads_include i (fits n i at)))) refl

-- a world read_leaving_out its package
abbrev alone_world : World → World
alone_world world = record world { «package» = None }

is_alone_world : (world : World) → world.«package» ≡ None → alone_world world ≡ world
is_alone_world world unplaced = ap (λ (p : Option ℕ). let it : World = record world { «package» = p } in it) (sym unplaced)

reads_alone_world : (world : World) → IsWritableWorld world → read_world (whole_world world) ≡ Ok (alone_world world)
unfolding read_world
reads_alone_world w fits =
    let ss : List Slot =
    (codes "name", Some (json_of_text w.name)) ∷ (codes "imports", Some (object_by entry_name whole_item w.imports)) ∷ (codes "exports", Some (object_by entry_name whole_item w.exports))
    ∷ (codes "includes", Some (written.list_of json_of_include w.includes)) ∷ (codes "docs", json_of_docs w.docs) ∷ (codes "stability", json_of_stability w.stability)
    ∷ (codes "span", option_map json_of_range w.span) ∷ [] in
    let j = slots ss in
    all_9 (λ (_ : Unit {0}) (name : List ℕ) (imports exports : List (WorldKey × WorldItem)) (includes : List WorldInclude) (docs : Docs) (stability : Stability) (home : Option ℕ)
    (span : Option (ℕ × ℕ)).
    let it : World = record { name = name; imports = imports; exports = exports; docs = docs; stability = stability; «package» = home; includes = includes; span = span } in it)
    (only_slots (codes "name" ∷ codes "imports" ∷ codes "exports" ∷ codes "includes" ∷ codes "docs" ∷ codes "stability" ∷ codes "package" ∷ codes "span" ∷ []) ss refl)
    (reads_required read_text (codes "name") j (json_of_text w.name) w.name (get_slot (codes "name") ss) refl)
    (reads_required read_entries (codes "imports") j (object_by entry_name whole_item w.imports) w.imports (get_slot (codes "imports") ss) (reads_world_entries w.imports fits.imports))
    (reads_required read_entries (codes "exports") j (object_by entry_name whole_item w.exports) w.exports (get_slot (codes "exports") ss) (reads_world_entries w.exports fits.exports))
    (reads_includes w.includes j fits.includes (get_slot (codes "includes") ss))
    (reads_docs w.docs j (get_slot (codes "docs") ss))
    (reads_stability w.stability j fits.gate (get_slot (codes "stability") ss))
    (reads_no_home j (get_slot (codes "package") ss))
    (reads_span_member w.span j fits.span (get_slot (codes "span") ss))

-- it names no package
unplaced_world : (world : World) → get (codes "package") (whole_world world) ≡ None
unplaced_world w =
    get_slot (codes "package") ((codes "name", Some (json_of_text w.name)) ∷ (codes "imports", Some (object_by entry_name whole_item w.imports)) ∷ (codes "exports", Some (object_by entry_name whole_item w.exports))
    ∷ (codes "includes", Some (written.list_of json_of_include w.includes)) ∷ (codes "docs", json_of_docs w.docs) ∷ (codes "stability", json_of_stability w.stability)
    ∷ (codes "span", option_map json_of_range w.span) ∷ [])

pub reads_world : (world : World) → IsWritableWorld world → world.«package» ≡ None → read_leaving_out (codes "package") read_world (whole_world world) ≡ Ok world
reads_world world fits unplaced =
    reads_without read_world (codes "package") (whole_world world) world (unplaced_world world)
    (reads_alone_world world fits ∙ ap Ok (is_alone_world world unplaced))
