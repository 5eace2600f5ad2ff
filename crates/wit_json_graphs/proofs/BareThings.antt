-- The layout of interfaces, worlds and packages reads as these read_leaving_out what their details have.
use Rattle.std.proofs.Common.{◌≡◌, ◌∙◌, ℕ, suc, Bool, false, List, [], ◌∷◌, ◌++◌, length, map, Option, Some, None, Ok, refl, sym, ap, subst, codes, if◌then◌else◌, is_some, append-nil, append_assoc}
use Rattle.std.specs.Option.{option_map}
use Rattle.std.specs.Map.{lookup}
use Rattle.std.specs.Prelude.{IfSome}
use Rattle.json.specs.Find.{get}
use Rattle.json.specs.Json.{Json}
use Rattle.wit_values.specs.Table.{HasDistinctKeys}
use Rattle.wit_names.specs.PackageName.{same_package}
use Rattle.wit_names.specs.facts.PackageNameFacts.{same_name}
use Rattle.wit_names.specs.declared.package_name.PackageName.{PackageName}
use Rattle.wit_data.specs.Each.{Each}
use Rattle.wit_data.specs.declared.function.Function.{Function}
use Rattle.wit_data.specs.declared.interface.Interface.{Interface}
use Rattle.wit_data.specs.declared.stability.Docs.{Docs}
use Rattle.wit_data.specs.declared.stability.Stability.{Stability}
use Rattle.wit_data.specs.declared.world.World.{World}
use Rattle.wit_data.specs.declared.world.WorldInclude.{WorldInclude}
use Rattle.wit_data.specs.declared.world.WorldItem.{WorldItem}
use Rattle.wit_data.specs.declared.world.WorldItem.TheVariants as item
use Rattle.wit_data.specs.declared.world.WorldKey.{WorldKey}
use Rattle.wit_data.specs.declared.world.WorldKey.TheVariants as key
use Rattle.wit_graph_data.specs.declared.graph.Package.{Package}
use Rattle.wit_json.specs.Functions.{json_of_function}
use Rattle.wit_json.specs.Gates.{json_of_stability, stability_member}
use Rattle.wit_json.specs.Graph.{json_of_package, json_of_package_name}
use Rattle.wit_json.specs.Unresolved.{whole_function, whole_item}
use Rattle.wit_json.specs.Values.{Member, json_of_number, json_of_text, member, null_or, object, object_under_names, tagged, object_by}
use Rattle.wit_json.specs.Worlds.{entry_name, json_of_interface, json_of_item, json_of_world}
use Rattle.wit_json_graphs.specs.Writable.{AreWritableEntries, FitsKey, IsWritableFunction, IsWritableHome, IsWritableId, IsWritableInterface, IsWritableItem, IsWritableWorld, in_order}
use Rattle.wit_json_reading.specs.Functions.{read_function}
use Rattle.wit_json_reading.specs.Graphs.{read_graph_package, homes_from, with_home}
use Rattle.wit_json_reading.specs.Packages.{read_package_name}
use Rattle.wit_json_reading.specs.Reading.{instead_of, read_list, read_optional, under, read_leaving_out, read_or}
use Rattle.wit_json_reading.specs.Tables.{read_named}
use Rattle.wit_json_reading.specs.Values.{nullable, read_number, read_text}
use Rattle.wit_json_reading.specs.Worlds.{read_entries, read_include, read_interface, read_world}
use Rattle.wit_json_reading.specs.declared.fault.Expected.TheVariants as expected
use Rattle.wit_json_reading.specs.declared.fault.Step.TheVariants as step
use Rattle.wit_json_graphs.proofs.Bare.{at_value, bare_function, each_of_map, function_fits, function_is, keys_stay, maps_same, no_more, no_two_more}
use Rattle.wit_json_graphs.proofs.Functions.{reads_function}
use Rattle.wit_json_graphs.proofs.Packages.{reads_name_value}
use Rattle.wit_json_graphs.proofs.Slots.{Slot, get_slot, only_slots, slots, json_of_docs}
use Rattle.wit_json_graphs.proofs.Small.{reads_docs, reads_number, reads_span_member, reads_stability}
use Rattle.wit_json_graphs.proofs.Steps.{all_5, all_8, all_9, is_new, reads_named, reads_optional, reads_required, reads_without, followed}
use Rattle.wit_json_graphs.proofs.Types.{reads_name}
use Rattle.wit_json_graphs.proofs.Worlds.{reads_home, reads_world_entries}

-- ---- interfaces

abbrev pub bare_functions : List (List ℕ × Function) → List (List ℕ × Function)
bare_functions fs = map (at_value bare_function) fs

abbrev pub bare_interface : Interface → Interface
bare_interface interface = record interface { functions = bare_functions interface.functions; span = None }

reads_functions : (fs : List (List ℕ × Function)) → HasDistinctKeys fs → Each (λ (e : List ℕ × Function). IsWritableFunction e.1) fs
    → read_named read_function (object_under_names json_of_function fs) ≡ Ok (bare_functions fs)
reads_functions fs distinct fits =
    ap (λ (ms : List Member). read_named read_function (object ms))
    (maps_same (λ (e : List ℕ × Function). (e.0, json_of_function e.1)) (λ (e : List ℕ × Function). (e.0, whole_function e.1)) (at_value bare_function)
    (λ (e : List ℕ × Function). ap (λ (j : Json). (e.0, j)) (function_is e.1)) fs)
    ∙ reads_named read_function whole_function (bare_functions fs) (keys_stay bare_function fs distinct)
    (λ i e at. reads_function e.1 (each_of_map (λ (e : List ℕ × Function). IsWritableFunction e.1) (λ (e : List ℕ × Function). IsWritableFunction e.1) (at_value bare_function)
    (λ (e : List ℕ × Function) (it : IsWritableFunction e.1). function_fits e.1 it) fs fits i e at))

pub reads_bare_interface : (interface : Interface) → IsWritableInterface interface → IfSome interface.«package» IsWritableId
    → read_interface (json_of_interface interface) ≡ Ok (bare_interface interface)
unfolding read_interface
reads_bare_interface i fits placed =
    let ss : List Slot =
    (codes "name", Some (null_or json_of_text i.name)) ∷ (codes "types", Some (object_under_names json_of_number i.types))
    ∷ (codes "functions", Some (object_under_names json_of_function i.functions)) ∷ (codes "docs", json_of_docs i.docs) ∷ (codes "stability", json_of_stability i.stability)
    ∷ (codes "package", Some (null_or json_of_number i.«package»)) ∷ [] in
    let j = slots ss in
    all_8 (λ (_ : Unit {0}) (name : Option (List ℕ)) (types : List (List ℕ × ℕ)) (functions : List (List ℕ × Function)) (docs : Docs) (stability : Stability) (home : Option ℕ)
    (span : Option (ℕ × ℕ)).
    let it : Interface = record { name = name; types = types; functions = functions; docs = docs; stability = stability; «package» = home; span = span } in it)
    (only_slots (codes "name" ∷ codes "types" ∷ codes "functions" ∷ codes "docs" ∷ codes "stability" ∷ codes "package" ∷ codes "span" ∷ []) ss refl)
    (reads_required (nullable read_text) (codes "name") j (null_or json_of_text i.name) i.name (get_slot (codes "name") ss) (reads_name i.name))
    (reads_required (read_named read_number) (codes "types") j (object_under_names json_of_number i.types) i.types (get_slot (codes "types") ss)
    (reads_named read_number json_of_number i.types fits.types_differ (λ n e at. reads_number e.1 (fits.types n e at))))
    (reads_required (read_named read_function) (codes "functions") j (object_under_names json_of_function i.functions) (bare_functions i.functions) (get_slot (codes "functions") ss)
    (reads_functions i.functions fits.functions_differ fits.functions))
    (reads_docs i.docs j (get_slot (codes "docs") ss))
    (reads_stability i.stability j fits.gate (get_slot (codes "stability") ss))
    (reads_home i.«package» j placed (get_slot (codes "package") ss))
    (reads_span_member None j tt (get_slot (codes "span") ss))

-- ---- entries

abbrev pub no_docs : Docs
no_docs = record { contents = None }

abbrev pub bare_item : WorldItem → WorldItem
bare_item (item.Interface id stability docs span external_id) = item.Interface id stability no_docs None None
bare_item (item.Function f) = item.Function (bare_function f)
bare_item (item.Type_ id span) = item.Type_ id None

abbrev pub bare_entries : List (WorldKey × WorldItem) → List (WorldKey × WorldItem)
bare_entries es = map (at_value bare_item) es

item_is : (it : WorldItem) → json_of_item it ≡ whole_item (bare_item it)
item_is (item.Interface id stability docs span external_id) =
    ap (tagged (codes "interface"))
    (no_two_more (member (codes "id") (json_of_number id) ++ stability_member stability) ∙ no_more (member (codes "id") (json_of_number id) ++ stability_member stability ++ [] ++ []))
item_is (item.Function f) = ap (tagged (codes "function")) (function_is f)
item_is (item.Type_ id span) = refl

fits_key : (k : WorldKey) (it : WorldItem) → FitsKey k it → FitsKey k (bare_item it)
fits_key (key.Name label) it fits = fits
fits_key (key.Interface id) (item.Interface other stability docs span external_id) fits = fits
fits_key (key.Interface id) (item.Function f) fits = fits
fits_key (key.Interface id) (item.Type_ other span) fits = fits

item_fits : (it : WorldItem) → IsWritableItem it → IsWritableItem (bare_item it)
item_fits (item.Interface id stability docs span external_id) fits = (fits.0, fits.1, tt)
item_fits (item.Function f) fits = function_fits f fits
item_fits (item.Type_ id span) fits = (fits.0, tt)

entries_fit : (es : List (WorldKey × WorldItem)) → AreWritableEntries es → AreWritableEntries (bare_entries es)
entries_fit es fits = record {
  differ = keys_stay bare_item es fits.differ;
  fit = each_of_map (λ (e : WorldKey × WorldItem). FitsKey e.0 e.1) (λ (e : WorldKey × WorldItem). FitsKey e.0 e.1) (at_value bare_item)
      (λ (e : WorldKey × WorldItem) (it : FitsKey e.0 e.1). fits_key e.0 e.1 it) es fits.fit;
  items = each_of_map (λ (e : WorldKey × WorldItem). IsWritableItem e.1) (λ (e : WorldKey × WorldItem). IsWritableItem e.1) (at_value bare_item)
      (λ (e : WorldKey × WorldItem) (it : IsWritableItem e.1). item_fits e.1 it) es fits.items;
}

pub entries_are : (es : List (WorldKey × WorldItem)) → object_by entry_name json_of_item es ≡ object_by entry_name whole_item (bare_entries es)
entries_are es =
    ap object (maps_same (λ (e : WorldKey × WorldItem). (entry_name e.0, json_of_item e.1)) (λ (e : WorldKey × WorldItem). (entry_name e.0, whole_item e.1)) (at_value bare_item)
    (λ (e : WorldKey × WorldItem). ap (λ (j : Json). (entry_name e.0, j)) (item_is e.1)) es)

reads_bare_entries : (es : List (WorldKey × WorldItem)) → AreWritableEntries es → read_entries (object_by entry_name json_of_item es) ≡ Ok (bare_entries es)
reads_bare_entries es fits = ap read_entries (entries_are es) ∙ reads_world_entries (bare_entries es) (entries_fit es fits)

-- ---- worlds

-- a world read_leaving_out what its details have; it includes nothing
abbrev pub bare_world : World → World
bare_world world = record world { imports = bare_entries world.imports; exports = bare_entries world.exports; includes = []; span = None }

reads_no_includes : (j : Json) → get (codes "includes") j ≡ None → read_or (read_list read_include) [] (codes "includes") j ≡ Ok []
unfolding read_or
reads_no_includes j there =
    followed (read_optional (read_list read_include) (codes "includes") j) _ None (Ok []) (reads_optional (read_list read_include) (λ (is : List WorldInclude). json_of_text []) (codes "includes") j None there tt) refl

reads_placed_world : (world : World) → IsWritableWorld world → IfSome world.«package» IsWritableId → read_world (json_of_world world) ≡ Ok (bare_world world)
unfolding read_world
reads_placed_world w fits placed =
    let ss : List Slot =
    (codes "name", Some (json_of_text w.name)) ∷ (codes "imports", Some (object_by entry_name json_of_item w.imports)) ∷ (codes "exports", Some (object_by entry_name json_of_item w.exports))
    ∷ (codes "package", Some (null_or json_of_number w.«package»)) ∷ (codes "docs", json_of_docs w.docs) ∷ (codes "stability", json_of_stability w.stability) ∷ [] in
    let j = slots ss in
    all_9 (λ (_ : Unit {0}) (name : List ℕ) (imports exports : List (WorldKey × WorldItem)) (includes : List WorldInclude) (docs : Docs) (stability : Stability) (home : Option ℕ)
    (span : Option (ℕ × ℕ)).
    let it : World = record { name = name; imports = imports; exports = exports; docs = docs; stability = stability; «package» = home; includes = includes; span = span } in it)
    (only_slots (codes "name" ∷ codes "imports" ∷ codes "exports" ∷ codes "includes" ∷ codes "docs" ∷ codes "stability" ∷ codes "package" ∷ codes "span" ∷ []) ss refl)
    (reads_required read_text (codes "name") j (json_of_text w.name) w.name (get_slot (codes "name") ss) refl)
    (reads_required read_entries (codes "imports") j (object_by entry_name json_of_item w.imports) (bare_entries w.imports) (get_slot (codes "imports") ss) (reads_bare_entries w.imports fits.imports))
    (reads_required read_entries (codes "exports") j (object_by entry_name json_of_item w.exports) (bare_entries w.exports) (get_slot (codes "exports") ss) (reads_bare_entries w.exports fits.exports))
    (reads_no_includes j (get_slot (codes "includes") ss))
    (reads_docs w.docs j (get_slot (codes "docs") ss))
    (reads_stability w.stability j fits.gate (get_slot (codes "stability") ss))
    (reads_home w.«package» j placed (get_slot (codes "package") ss))
    (reads_span_member None j tt (get_slot (codes "span") ss))

-- it includes nothing
includes_nothing : (world : World) → get (codes "includes") (json_of_world world) ≡ None
includes_nothing w =
    get_slot (codes "includes") ((codes "name", Some (json_of_text w.name)) ∷ (codes "imports", Some (object_by entry_name json_of_item w.imports)) ∷ (codes "exports", Some (object_by entry_name json_of_item w.exports))
    ∷ (codes "package", Some (null_or json_of_number w.«package»)) ∷ (codes "docs", json_of_docs w.docs) ∷ (codes "stability", json_of_stability w.stability) ∷ [])

pub reads_bare_world : (world : World) → IsWritableWorld world → IfSome world.«package» IsWritableId
    → read_leaving_out (codes "includes") read_world (json_of_world world) ≡ Ok (bare_world world)
reads_bare_world world fits placed =
    reads_without read_world (codes "includes") (json_of_world world) (bare_world world) (includes_nothing world) (reads_placed_world world fits placed)

-- ---- packages

pub reads_home_package : (home : Package) → IsWritableHome home → read_graph_package (json_of_package home) ≡ Ok home
unfolding read_graph_package
reads_home_package p fits =
    let ss : List Slot =
    (codes "name", Some (json_of_package_name p.name)) ∷ (codes "docs", json_of_docs p.docs) ∷ (codes "interfaces", Some (object_under_names json_of_number p.interfaces))
    ∷ (codes "worlds", Some (object_under_names json_of_number p.worlds)) ∷ [] in
    let j = slots ss in
    all_5 (λ (_ : Unit {0}) (name : PackageName) (docs : Docs) (interfaces worlds : List (List ℕ × ℕ)).
    let it : Package = record { name = name; docs = docs; interfaces = interfaces; worlds = worlds } in it)
    (only_slots (codes "name" ∷ codes "docs" ∷ codes "interfaces" ∷ codes "worlds" ∷ []) ss refl)
    (reads_required read_package_name (codes "name") j (json_of_package_name p.name) p.name (get_slot (codes "name") ss) (reads_name_value p.name fits.name))
    (reads_docs p.docs j (get_slot (codes "docs") ss))
    (reads_required (read_named read_number) (codes "interfaces") j (object_under_names json_of_number p.interfaces) p.interfaces (get_slot (codes "interfaces") ss)
    (reads_named read_number json_of_number p.interfaces fits.interfaces_differ (λ n e at. reads_number e.1 (fits.interfaces n e at))))
    (reads_required (read_named read_number) (codes "worlds") j (object_under_names json_of_number p.worlds) p.worlds (get_slot (codes "worlds") ss)
    (reads_named read_number json_of_number p.worlds fits.worlds_differ (λ n e at. reads_number e.1 (fits.worlds n e at))))

-- ---- the names of packages

abbrev Homes : Type 0
Homes = List (PackageName × ℕ)

length-push : (done : Homes) (e : PackageName × ℕ) → length (done ++ e ∷ []) ≡ suc (length done)
length-push [] e = refl
length-push (d ∷ done) e = ap suc (length-push done e)

one_home : (home : Package) (done : Homes) → is_some (lookup (same_package home.name) done) ≡ false → with_home home done ≡ Ok (done ++ (home.name, length done) ∷ [])
one_home home done new =
    ap (λ (b : Bool). if b then under (step.Item (length done)) (under (step.Member (codes "name")) (instead_of expected.NewName)) else Ok (done ++ (home.name, length done) ∷ [])) new

reads_homes_from : (done : Homes) (n : ℕ) (homes : List Package) → length done ≡ n → HasDistinctKeys (done ++ in_order n homes) → homes_from done homes ≡ Ok (done ++ in_order n homes)
reads_homes_from done n [] many distinct = ap Ok (sym (append-nil done))
reads_homes_from done n (home ∷ homes) many distinct =
    let new : is_some (lookup (same_package home.name) done) ≡ false = is_new same_name done (in_order (suc n) homes) (home.name, n) distinct in
    let longer : (done ++ (home.name, n) ∷ []) ++ in_order (suc n) homes ≡ done ++ (home.name, n) ∷ in_order (suc n) homes = append_assoc done ((home.name, n) ∷ []) (in_order (suc n) homes) in
    followed (with_home home done) (λ more. homes_from more homes) (done ++ (home.name, n) ∷ []) (Ok (done ++ (home.name, n) ∷ in_order (suc n) homes))
    (one_home home done new ∙ ap (λ (m : ℕ). Ok (done ++ (home.name, m) ∷ [])) many)
    (reads_homes_from (done ++ (home.name, n) ∷ []) (suc n) homes (length-push done (home.name, n) ∙ ap suc many) (subst (λ (all : Homes). HasDistinctKeys all) (sym longer) distinct) ∙ ap Ok longer)

pub reads_homes : (homes : List Package) → HasDistinctKeys (in_order 0 homes) → homes_from [] homes ≡ Ok (in_order 0 homes)
reads_homes homes distinct = reads_homes_from [] 0 homes refl distinct
