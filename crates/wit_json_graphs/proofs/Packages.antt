-- Unresolved packages read back.
use Rattle.std.proofs.Common.{◌≡◌, ◌∙◌, ℕ, suc, ◌+◌, ◌==◌, ◌||◌, Bool, true, false, cond, not, List, [], ◌∷◌, ◌++◌, map, length, take, drop, Option, Some, None, Ok, refl, sym, ap, subst, codes, if◌then◌else◌, append-nil, append_assoc, arith}
use Rattle.std.specs.List.{after_first, before_first, list_any, position_or_len, prefix_len}
use Rattle.std.specs.Map.{lookup}
use Rattle.std.specs.Option.{option_map}
use Rattle.std.specs.Prelude.{IfSome, is_some}
use Rattle.json.specs.Json.{Json}
use Rattle.semver.specs.Grammar.{IsValid}
use Rattle.semver.specs.Identifiers.{parts_text}
use Rattle.semver.specs.Parse.{version_parts}
use Rattle.semver.proofs.Grammar.{version_parts-complete}
use Rattle.wit_values.specs.Table.{HasDistinctKeys}
use Rattle.wit_values.specs.Version.{Parts}
use Rattle.wit_names.specs.PackageName.{package_name_text, same_package, version_suffix}
use Rattle.wit_names.specs.facts.PackageNameFacts.{same_name}
use Rattle.wit_names.specs.declared.package_name.PackageName.{PackageName}
use Rattle.wit_data.specs.Each.{Each}
use Rattle.wit_data.specs.Foreign.{ForeignItem}
use Rattle.wit_data.specs.declared.stability.Stability.{Stability}
use Rattle.wit_data.specs.declared.interface.Interface.{Interface}
use Rattle.wit_data.specs.declared.stability.Docs.{Docs}
use Rattle.wit_data.specs.declared.types.TypeDef.{TypeDef}
use Rattle.wit_data.specs.declared.unresolved.AstItem.{AstItem}
use Rattle.wit_data.specs.declared.unresolved.AstItem.TheVariants as ast
use Rattle.wit_data.specs.declared.unresolved.UnresolvedPackage.{UnresolvedPackage}
use Rattle.wit_data.specs.declared.world.World.{World}
use Rattle.wit_json.specs.Details.{json_of_range, json_of_span}
use Rattle.wit_json.specs.Graph.{json_of_package_name}
use Rattle.wit_json.specs.Unresolved.{json_of_ast_item, json_of_foreign_item, json_of_gate, whole_interface, whole_type, whole_world}
use Rattle.wit_json.specs.Values as written
use Rattle.wit_json.specs.Values.{json_of_number, members_of, object_under_names, pair, object_by, tagged}
use Rattle.wit_json_graphs.specs.Writable.{AreWritableItems, IsWritableAstItem, IsWritableGate, IsWritableName}
use Rattle.wit_json_graphs.specs.laws.ReadBack.{PackagesReadBack}
use Rattle.wit_json_reading.specs.Gates.{read_any_gate, read_place}
use Rattle.wit_json_reading.specs.Objects.{read_pair, read_variant}
use Rattle.wit_json_reading.specs.Packages.{read_ast_item_by, read_dep, deps_from, read_deps, read_foreign_item, name_in, read_package_name, read_package, version_behind}
use Rattle.wit_json_reading.specs.Reading.{◌>>=◌, instead_of, read_list, under, read_leaving_out}
use Rattle.wit_json_reading.specs.Tables.{read_named}
use Rattle.wit_json_reading.specs.Types.{read_type_def}
use Rattle.wit_json_reading.specs.Values.{read_number, version_in}
use Rattle.wit_json_reading.specs.Worlds.{read_interface, read_world}
use Rattle.wit_json_reading.specs.declared.fault.Expected.TheVariants as expected
use Rattle.wit_json_reading.specs.declared.fault.Step.TheVariants as step
use Rattle.wit_json_graphs.proofs.Slots.{Slot, get_slot, only_slots, slots, json_of_docs}
use Rattle.wit_json_graphs.proofs.Small.{reads_docs, reads_gate, reads_number, reads_span, reads_span_member}
use Rattle.wit_json_graphs.proofs.Steps.{all_11, is_new, reads_list, reads_named, reads_pair, reads_required, reads_variant, followed}
use Rattle.wit_json_graphs.proofs.Types.{reads_type_def}
use Rattle.wit_json_graphs.proofs.Worlds.{reads_interface, reads_world}
use Rattle.json.specs.Json as json

-- ---- texts in two parts

neither : (a b : Bool) → (a || b) ≡ false → (a ≡ false) × (b ≡ false)
neither true b h = cc
neither false b h = (refl, h)

module _ (mark : ℕ) where
  abbrev is_mark : ℕ → Bool
  is_mark b = b == mark

  -- no mark stands in front of the first
  marked_at : (xs rest : List ℕ) → list_any is_mark xs ≡ false → is_mark mark ≡ true → position_or_len is_mark (xs ++ mark ∷ rest) ≡ length xs
  marked_at [] rest none own = ap (λ (b : Bool). cond (not b) (1 + prefix_len (λ x. not (is_mark x)) rest) 0) own
  marked_at (x ∷ xs) rest none own =
      let parts = neither (is_mark x) (list_any is_mark xs) none in
      ap (λ (b : Bool). cond (not b) (1 + prefix_len (λ y. not (is_mark y)) (xs ++ mark ∷ rest)) 0) parts.0 ∙ ap (λ (n : ℕ). 1 + n) (marked_at xs rest parts.1 own) ∙ omega arith

  taken : (xs rest : List ℕ) → take (length xs) (xs ++ mark ∷ rest) ≡ xs
  taken [] rest = refl
  taken (x ∷ xs) rest = ap (λ (ys : List ℕ). x ∷ ys) (taken xs rest)

  dropped : (xs rest : List ℕ) → drop (length xs + 1) (xs ++ mark ∷ rest) ≡ rest
  dropped [] rest = refl
  dropped (x ∷ xs) rest =
      let next : suc (length xs) + 1 ≡ suc (length xs + 1) = omega arith in
      ap (λ (n : ℕ). drop n (x ∷ (xs ++ mark ∷ rest))) next ∙ dropped xs rest

  has_mark : (xs rest : List ℕ) → is_mark mark ≡ true → list_any is_mark (xs ++ mark ∷ rest) ≡ true
  has_mark [] rest own = ap (λ (b : Bool). b || list_any is_mark rest) own
  has_mark (x ∷ xs) rest own = by (is_mark x) (has_mark xs rest own)
    where
      by : (b : Bool) → list_any is_mark (xs ++ mark ∷ rest) ≡ true → (b || list_any is_mark (xs ++ mark ∷ rest)) ≡ true
      by true others = refl
      by false others = others

  front : (xs rest : List ℕ) → list_any is_mark xs ≡ false → is_mark mark ≡ true → before_first is_mark (xs ++ mark ∷ rest) ≡ xs
  front xs rest none own = ap (λ (n : ℕ). take n (xs ++ mark ∷ rest)) (marked_at xs rest none own) ∙ taken xs rest

  back : (xs rest : List ℕ) → list_any is_mark xs ≡ false → is_mark mark ≡ true → after_first is_mark (xs ++ mark ∷ rest) ≡ rest
  back xs rest none own = ap (λ (n : ℕ). drop (n + 1) (xs ++ mark ∷ rest)) (marked_at xs rest none own) ∙ dropped xs rest

  no_mark : (xs : List ℕ) → list_any is_mark xs ≡ false → position_or_len is_mark xs ≡ length xs
  no_mark [] none = refl
  no_mark (x ∷ xs) none =
      let parts = neither (is_mark x) (list_any is_mark xs) none in
      ap (λ (b : Bool). cond (not b) (1 + prefix_len (λ y. not (is_mark y)) xs) 0) parts.0 ∙ ap (λ (n : ℕ). 1 + n) (no_mark xs parts.1) ∙ omega arith

  all_taken : (xs : List ℕ) → take (length xs) xs ≡ xs
  all_taken [] = refl
  all_taken (x ∷ xs) = ap (λ (ys : List ℕ). x ∷ ys) (all_taken xs)

  whole : (xs : List ℕ) → list_any is_mark xs ≡ false → before_first is_mark xs ≡ xs
  whole xs none = ap (λ (n : ℕ). take n xs) (no_mark xs none) ∙ all_taken xs

-- ---- names of packages

abbrev a_name : List ℕ → List ℕ → Option Parts → PackageName
a_name namespace own version = record { namespace = namespace; name = own; version = version }

reads_behind : (own : List ℕ) (version : Option Parts) → list_any (λ b. b == 64) own ≡ false → IfSome version IsValid → version_behind (own ++ version_suffix version) ≡ Ok version
reads_behind own None none valid =
    ap version_behind (append-nil own) ∙ ap (λ (b : Bool). if b then (version_in (version_parts (after_first (λ b. b == 64) own)) >>= λ version. Ok (Some version)) else Ok None) none
reads_behind own (Some version) none valid =
    let text = own ++ 64 ∷ parts_text version in
    ap (λ (b : Bool). if b then (version_in (version_parts (after_first (λ b. b == 64) text)) >>= λ version. Ok (Some version)) else Ok None) (has_mark 64 own (parts_text version) refl)
    ∙ ap (λ (t : List ℕ). version_in (version_parts t) >>= λ version. Ok (Some version)) (back 64 own (parts_text version) none refl)
    ∙ ap (λ r. version_in r >>= λ version. Ok (Some version)) (version_parts-complete version valid)

own_part : (own : List ℕ) (version : Option Parts) → list_any (λ b. b == 64) own ≡ false → before_first (λ b. b == 64) (own ++ version_suffix version) ≡ own
own_part own None none = ap (before_first (λ b. b == 64)) (append-nil own) ∙ whole 64 own none
own_part own (Some version) none = front 64 own (parts_text version) none refl

reads_name_in : (namespace own : List ℕ) (version : Option Parts) → list_any (λ b. b == 64) own ≡ false → IfSome version IsValid
    → name_in namespace (own ++ version_suffix version) ≡ Ok (a_name namespace own version)
reads_name_in namespace own version none valid =
    followed (version_behind (own ++ version_suffix version)) _ version (Ok (a_name namespace own version)) (reads_behind own version none valid)
    (ap (λ (it : List ℕ). Ok (a_name namespace it version)) (own_part own version none))

pub reads_package_name : (name : PackageName) → IsWritableName name → read_package_name (json.string (package_name_text name)) ≡ Ok name
unfolding read_package_name
reads_package_name name fits =
    let rest = name.name ++ version_suffix name.version in
    let text = name.namespace ++ 58 ∷ rest in
    ap (λ (b : Bool). if b then name_in (before_first (λ b. b == 58) text) (after_first (λ b. b == 58) text) else instead_of expected.PackageName) (has_mark 58 name.namespace rest refl)
    ∙ ap (λ (it : List ℕ). name_in it (after_first (λ b. b == 58) text)) (front 58 name.namespace rest fits.namespace refl)
    ∙ ap (name_in name.namespace) (back 58 name.namespace rest fits.namespace refl) ∙ reads_name_in name.namespace name.name name.version fits.own fits.version

pub reads_name_value : (name : PackageName) → IsWritableName name → read_package_name (json_of_package_name name) ≡ Ok name
unfolding read_package_name
reads_name_value name fits = reads_package_name name fits

-- ---- what is named of other packages

reads_ast_item : (it : AstItem) → IsWritableAstItem it → read_variant read_ast_item_by expected.ForeignItem (json_of_ast_item it) ≡ Ok it
reads_ast_item (ast.Interface id) fits =
    reads_variant read_ast_item_by expected.ForeignItem (codes "interface") (json_of_number id) (ast.Interface id)
    (followed (read_number (json_of_number id)) _ id (Ok (ast.Interface id)) (reads_number id fits) refl)
reads_ast_item (ast.World id) fits =
    reads_variant read_ast_item_by expected.ForeignItem (codes "world") (json_of_number id) (ast.World id) (followed (read_number (json_of_number id)) _ id (Ok (ast.World id)) (reads_number id fits) refl)

reads_foreign_item : (named : AstItem × List Stability) → IsWritableAstItem named.0 → Each IsWritableGate named.1 → read_foreign_item (json_of_foreign_item named) ≡ Ok named
reads_foreign_item named fits gates =
    reads_pair (read_variant read_ast_item_by expected.ForeignItem) (read_list read_any_gate) (json_of_ast_item named.0) (written.list_of json_of_gate named.1) named.0 named.1 (reads_ast_item named.0 fits)
    (reads_list read_any_gate json_of_gate named.1 (λ i gate at. reads_gate gate (gates i gate at)))

reads_foreign_items : (items : List ForeignItem) → AreWritableItems items → read_named read_foreign_item (object_under_names json_of_foreign_item items) ≡ Ok items
reads_foreign_items items fits =
    reads_named read_foreign_item json_of_foreign_item items fits.differ (λ i e at. reads_foreign_item e.1 (fits.items i e at) (fits.gates i e at))

abbrev Dep : Type 0
Dep = PackageName × List ForeignItem

abbrev member_of : Dep → List ℕ × Json
member_of e = (package_name_text e.0, object_under_names json_of_foreign_item e.1)

one_dep : (e : Dep) (before : List Dep) → IsWritableName e.0 → AreWritableItems e.1 → is_some (lookup (same_package e.0) before) ≡ false
    → read_dep (package_name_text e.0) (object_under_names json_of_foreign_item e.1) before ≡ Ok (before ++ e ∷ [])
one_dep e before name items new =
    let text = package_name_text e.0 in
    followed (under (step.Member text) (read_package_name (json.string text))) _ e.0 (Ok (before ++ e ∷ [])) (ap (under (step.Member text)) (reads_package_name e.0 name))
    (followed (under (step.Member text) (read_named read_foreign_item (object_under_names json_of_foreign_item e.1))) _ e.1 (Ok (before ++ e ∷ []))
    (ap (under (step.Member text)) (reads_foreign_items e.1 items))
    (ap (λ (b : Bool). if b then under (step.Member text) (instead_of expected.NoSecondMember) else Ok (before ++ e ∷ [])) new))

reads_deps_from : (before es : List Dep) → HasDistinctKeys (before ++ es) → Each (λ (e : Dep). IsWritableName e.0) es → Each (λ (e : Dep). AreWritableItems e.1) es
    → deps_from before (members_of (map member_of es)) ≡ Ok (before ++ es)
reads_deps_from before [] distinct names items = ap Ok (sym (append-nil before))
reads_deps_from before (e ∷ es) distinct names items =
    let new : is_some (lookup (same_package e.0) before) ≡ false = is_new same_name before es e distinct in
    let longer : (before ++ e ∷ []) ++ es ≡ before ++ e ∷ es = append_assoc before (e ∷ []) es in
    followed (read_dep (package_name_text e.0) (object_under_names json_of_foreign_item e.1) before) _ (before ++ e ∷ []) (Ok (before ++ e ∷ es)) (one_dep e before (names 0 e refl) (items 0 e refl) new)
    (reads_deps_from (before ++ e ∷ []) es (subst (λ (all : List Dep). HasDistinctKeys all) (sym longer) distinct) (λ i y at. names (suc i) y at) (λ i y at. items (suc i) y at) ∙ ap Ok longer)

reads_deps : (es : List Dep) → HasDistinctKeys es → Each (λ (e : Dep). IsWritableName e.0) es → Each (λ (e : Dep). AreWritableItems e.1) es → read_deps (object_by package_name_text (object_under_names json_of_foreign_item) es) ≡ Ok es
reads_deps es distinct names items = reads_deps_from [] es distinct names items

-- ---- packages

abbrev resource : ℕ × Option (ℕ × ℕ) → Json
resource r = pair (json_of_number r.0) (json_of_span r.1)

pub packages_read_back : PackagesReadBack
unfolding read_package
packages_read_back p fits =
    let ss : List Slot =
    (codes "name", Some (json_of_package_name p.name)) ∷ (codes "span", option_map json_of_range p.package_name_span) ∷ (codes "docs", json_of_docs p.docs)
    ∷ (codes "worlds", Some (written.list_of whole_world p.worlds)) ∷ (codes "interfaces", Some (written.list_of whole_interface p.interfaces))
    ∷ (codes "types", Some (written.list_of whole_type p.types)) ∷ (codes "foreign-deps", Some (object_by package_name_text (object_under_names json_of_foreign_item) p.foreign_deps))
    ∷ (codes "foreign-dep-spans", Some (written.list_of json_of_span p.foreign_dep_spans)) ∷ (codes "unknown-type-spans", Some (written.list_of json_of_span p.unknown_type_spans))
    ∷ (codes "required-resources", Some (written.list_of resource p.required_resource_types)) ∷ [] in
    let j = slots ss in
    all_11 (λ (_ : Unit {0}) (name : PackageName) (span : Option (ℕ × ℕ)) (docs : Docs) (worlds : List World) (interfaces : List Interface) (types : List TypeDef) (deps : List Dep)
    (dep_spans unknown_spans : List (Option (ℕ × ℕ))) (resources : List (ℕ × Option (ℕ × ℕ))).
    let it : UnresolvedPackage = record {
      name = name;
      package_name_span = span;
      docs = docs;
      worlds = worlds;
      interfaces = interfaces;
      types = types;
      foreign_deps = deps;
      foreign_dep_spans = dep_spans;
      unknown_type_spans = unknown_spans;
      required_resource_types = resources;
    } in
    it)
    (only_slots (codes "name" ∷ codes "span" ∷ codes "docs" ∷ codes "worlds" ∷ codes "interfaces" ∷ codes "types" ∷ codes "foreign-deps" ∷ codes "foreign-dep-spans" ∷ codes "unknown-type-spans"
    ∷ codes "required-resources" ∷ []) ss refl)
    (reads_required read_package_name (codes "name") j (json_of_package_name p.name) p.name (get_slot (codes "name") ss) (reads_name_value p.name fits.name))
    (reads_span_member p.package_name_span j fits.span (get_slot (codes "span") ss))
    (reads_docs p.docs j (get_slot (codes "docs") ss))
    (reads_required (read_list (read_leaving_out (codes "package") read_world)) (codes "worlds") j (written.list_of whole_world p.worlds) p.worlds (get_slot (codes "worlds") ss)
    (reads_list (read_leaving_out (codes "package") read_world) whole_world p.worlds (λ i w at. reads_world w (fits.worlds i w at) (fits.worlds_alone i w at))))
    (reads_required (read_list (read_leaving_out (codes "package") read_interface)) (codes "interfaces") j (written.list_of whole_interface p.interfaces) p.interfaces
    (get_slot (codes "interfaces") ss)
    (reads_list (read_leaving_out (codes "package") read_interface) whole_interface p.interfaces (λ n i at. reads_interface i (fits.interfaces n i at) (fits.interfaces_alone n i at))))
    (reads_required (read_list read_type_def) (codes "types") j (written.list_of whole_type p.types) p.types (get_slot (codes "types") ss)
    (reads_list read_type_def whole_type p.types (λ i def at. reads_type_def def (fits.types i def at))))
    (reads_required read_deps (codes "foreign-deps") j (object_by package_name_text (object_under_names json_of_foreign_item) p.foreign_deps) p.foreign_deps (get_slot (codes "foreign-deps") ss)
    (reads_deps p.foreign_deps fits.packages_differ fits.packages fits.items))
    (reads_required (read_list read_place) (codes "foreign-dep-spans") j (written.list_of json_of_span p.foreign_dep_spans) p.foreign_dep_spans (get_slot (codes "foreign-dep-spans") ss)
    (reads_list read_place json_of_span p.foreign_dep_spans (λ i span at. reads_span span (fits.dep_spans i span at))))
    (reads_required (read_list read_place) (codes "unknown-type-spans") j (written.list_of json_of_span p.unknown_type_spans) p.unknown_type_spans (get_slot (codes "unknown-type-spans") ss)
    (reads_list read_place json_of_span p.unknown_type_spans (λ i span at. reads_span span (fits.unknown_spans i span at))))
    (reads_required (read_list (read_pair read_number read_place)) (codes "required-resources") j (written.list_of resource p.required_resource_types) p.required_resource_types
    (get_slot (codes "required-resources") ss)
    (reads_list (read_pair read_number read_place) resource p.required_resource_types
    (λ i it at. reads_pair read_number read_place (json_of_number it.0) (json_of_span it.1) it.0 it.1 (reads_number it.0 (fits.resources i it at).0)
    (reads_span it.1 (fits.resources i it at).1))))
