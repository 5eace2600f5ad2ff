-- What worlds export and import after they were transformed, and after they were transformed back.
use Rattle.std.proofs.Common.{◌≡◌, ◌∙◌, ◌⊎◌, inl, inr, ℕ, Bool, true, false, List, [], ◌∷◌, ◌++◌, length, Option, None, Some, slice_get, refl, sym, ap, subst, arith, Contains}
use Rattle.std.specs.Map.{keys_of}
use Rattle.std.specs.Option.{option_map_or}
use Rattle.std.specs.Prelude.{◌↔◌, flat_map}
use Rattle.std.proofs.lemmas.Option.{slice_get_within}
use Rattle.wit_values.specs.facts.Lists.{slice_get-set}
use Rattle.wit_data.specs.Each.{Each}
use Rattle.wit_data.specs.Entries.{IsExport}
use Rattle.wit_data.specs.declared.world.World.{World}
use Rattle.wit_data.specs.declared.world.WorldItem.{WorldItem}
use Rattle.wit_data.specs.declared.world.WorldKey.{WorldKey}
use Rattle.wit_data.specs.declared.world.WorldItem.TheVariants as item
use Rattle.wit_data.specs.declared.world.WorldKey.TheVariants as key
use Rattle.wit_digraph.specs.facts.MemberFacts.{Contains-flat_map, Contains-flat_map_cases, Contains-here, Contains-nil}
use Rattle.wit_digraph.specs.Relation.{IsPath, direct}
use Rattle.wit_elaboration.specs.facts.Classes.{by_class_in, in_by_class}
use Rattle.wit_elaboration.specs.facts.Filters.{Contains-filter, Contains-filtered}
use Rattle.wit_elaboration.specs.Elaboration.{graph_uses}
use Rattle.wit_elaboration.specs.Entries.{Entry, by_class, key_interface, keyed_interfaces, item_interface, role_of}
use Rattle.wit_elaboration.specs.laws.Imports.{roots_of}
use Rattle.wit_elaboration.specs.laws.KeptByElaboration.{IsListedWithoutSpan, is_label, labelled, listed_without_span}
use Rattle.wit_elaboration.specs.Valid.{IsValid}
use Rattle.wit_graph_data.specs.declared.graph.Graph.{Graph}
use Rattle.wit_graph_data.specs.declared.error_kind.ResolveErrorKind.{ResolveErrorKind}
use Rattle.wit_graph_theory.specs.facts.EntryFacts.{instance_interface, key_entry, one_of, root_interface}
use Rattle.wit_graph_theory.specs.facts.ListFacts.{Contains-map, Contains-map_cases, contained_at, get_at, place_of, same_at}
use Rattle.wit_graph_theory.specs.facts.LawsOfElaboration.{LawsOfElaboration}
use Rattle.wit_transform.proofs.Accepted.{IsAcceptedTransformation, exportized_accepted, importized_accepted, importized_valid}
use Rattle.wit_transform.specs.facts.Distinct.{entry_of_key, key_of_entry}
use Rattle.wit_transform.specs.facts.ListsFrom.{answered_from, answered_into}
use Rattle.wit_transform.proofs.NamedInterfaces.{import_uses}
use Rattle.wit_transform.specs.facts.TransformedWorlds.{in_order, is_elaborated, listed}
use Rattle.wit_transform.specs.Transformed.{IsExportizeCause, imports_at, WorldLists, entries_by_answer, exportized, importized, transformed, transformed_at, type_entries}
use Rattle.wit_transform.specs.laws.TransformLaws.{AreFormerExports, ExportizedImportsNothing, ImportizedExportsNothing, ImportizedThenExportized, IsBehind}
use Rattle.wit_elaboration.specs.steps.Parts.{exported_interfaces}
use Rattle.wit_transform.specs.steps.Parts.{transformed_world}

inside : {X : Type 0} (x y : X) → Some x ≡ Some y → x ≡ y
inside x y h = cc

-- ---- the transformed world, at its place

world_at : (g : Graph) (w : ℕ) (f : World → WorldLists) (new : World) → slice_get (transformed g w f).worlds w ≡ Some new → (old : World) × (slice_get g.worlds w ≡ Some old) × (new ≡ transformed_world g old (f old))
world_at g w f new at = by (slice_get g.worlds w) refl at
  where
    by : (o : Option World) → slice_get g.worlds w ≡ o → slice_get (option_map_or (λ (world : World). transformed_at g w world (f world)) o g).worlds w ≡ Some new
        → (old : World) × (slice_get g.worlds w ≡ Some old) × (new ≡ transformed_world g old (f old))
    by None none here = let never : None ≡ Some new = sym none ∙ here in cc
    by (Some old) there here = (old, there, sym (inside (transformed_world g old (f old)) new (sym (slice_get-set g.worlds w old (transformed_world g old (f old)) there) ∙ here)))

transformed_is : (g : Graph) (w : ℕ) (f : World → WorldLists) (old : World) → slice_get g.worlds w ≡ Some old → transformed g w f ≡ transformed_at g w old (f old)
transformed_is g w f old there = ap (λ (o : Option World). option_map_or (λ (world : World). transformed_at g w world (f world)) o g) there

pub importized_exports_nothing : ImportizedExportsNothing
importized_exports_nothing g w out new at = let from = world_at g w (importized out) new at in ap (λ (world : World). world.exports) from.2

-- ---- all answers are true

no_members : (es : List Entry) → ((e : Entry) → Contains es e → ⊥) → es ≡ []
no_members [] never = refl
no_members (e ∷ es) never = absurd (never e (Contains-here e es))

module _ (es : List Entry) (answers : List Bool) (count : length answers ≡ length es) (all : Each (λ (answer : Bool). answer ≡ true) answers) where
  none_false : (e : Entry) → Contains (entries_by_answer false es answers) e → ⊥
  none_false e has = let from = answered_from false es answers e has in let is : false ≡ true = all from.0 false from.2 in cc

  all_true : (e : Entry) → Contains es e → Contains (entries_by_answer true es answers) e
  all_true e has =
      let place = place_of es e has in
      let within = slice_get_within es place.0 e place.1 in
      let answer = get_at answers place.0 (omega arith) in
      answered_into true es answers place.0 e place.1 (answer.1 ∙ ap Some (all place.0 answer.0 answer.1))

module _ (laws : LawsOfElaboration) (g : Graph) (valid : IsValid g) (w : ℕ) (answers : List Bool) (out : Option (List ℕ)) (count : length answers ≡ length (imports_at g w)) (all : Each (λ (answer : Bool). answer ≡ true) answers)
    (clear : (error : ResolveErrorKind) → IsExportizeCause g w answers out error → ⊥) where
  nothing_imported : (old : World) → slice_get g.worlds w ≡ Some old → (transformed_world g old (exportized answers out old)).imports ≡ []
  nothing_imported old there =
      let many : length answers ≡ length old.imports = count ∙ ap (λ (o : Option World). length (option_map_or (λ (world : World). world.imports) o [])) there in
      let accepted = exportized_accepted laws g valid w out answers clear old there many in
      let transform = exportized answers out old in
      no_members (transformed_world g old transform).imports (λ e has.
      elim ((laws.entries g.types (graph_uses g) (listed g valid w old there transform accepted.from) (transformed_world g old transform) e valid.no_cycles.uses (in_order g valid w old there transform accepted.from)
      (is_elaborated g valid w old there transform accepted.from laws accepted.no_conflict)).0 has) [
        | inl stays ↦ none_false old.imports answers many all stays.0 stays.1
        | inr made ↦ elim made.4 [
          | inl need ↦
              let x = Contains-flat_map_cases (λ (e : Entry). item_interface e.1) transform.exports need.0 need.2 in
              let user = answered_from true old.imports answers x.0 x.1.0 in
              let used = import_uses g valid w old there transform accepted.from laws accepted.no_conflict x.0 need.0 need.1 (contained_at old.imports user.0 x.0 user.1) (instance_interface g.types x.0.1 need.0 x.1.1) need.3 in
              let entry = key_entry old.imports need.1 used in
              need.4 (Contains-flat_map (λ (e : Entry). key_interface e.0) transform.exports entry.0 need.1 (all_true old.imports answers many all entry.0 entry.1)
              (subst (λ (k : WorldKey). Contains (key_interface k) need.1) (sym entry.2) (Contains-here need.1 [])))
          | inr reached ↦
              let root = Contains-flat_map_cases (λ (e : Entry). roots_of (graph_uses g) e.0 (role_of g.types e.1)) transform.imports reached.0 reached.1 in
              none_false old.imports answers many all root.0 root.1.0
        ]
      ])

pub exportized_imports_nothing : LawsOfElaboration → ExportizedImportsNothing
exportized_imports_nothing laws g w answers out new valid count all clear at =
    let from = world_at g w (exportized answers out) new at in
    ap (λ (world : World). world.imports) from.2 ∙ nothing_imported laws g valid w answers out count all clear from.0 from.1

-- ---- transformed twice

-- all entries are answered true
keys_all : (es : List Entry) (answers : List Bool) → length answers ≡ length es → Each (λ (answer : Bool). answer ≡ true) answers → (k : WorldKey)
    → Contains (keys_of (entries_by_answer true es answers)) k ↔ Contains (keys_of es) k
keys_all es answers count all k = (
  λ has.
      let entry = entry_of_key (entries_by_answer true es answers) k has in
      let from = answered_from true es answers entry.0 entry.1 in
      subst (Contains (keys_of es)) entry.2 (key_of_entry es entry.0 (contained_at es from.0 entry.0 from.1)),
  λ has.
      let entry = entry_of_key es k has in
      subst (Contains (keys_of (entries_by_answer true es answers))) entry.2 (key_of_entry (entries_by_answer true es answers) entry.0 (all_true es answers count all entry.0 entry.1)),
)

is_name : (k : WorldKey) (label : List ℕ) → k ≡ key.Name label → is_label k ≡ true
is_name k label same = ap is_label same

id_key : (es : List Entry) (j : ℕ) → Contains (keys_of es) (key.Interface j) ↔ Contains (keyed_interfaces es) j
id_key es j = (
  λ has.
      let entry = entry_of_key es (key.Interface j) has in
      Contains-flat_map (λ (e : Entry). key_interface e.0) es entry.0 j entry.1 (subst (λ (k : WorldKey). Contains (key_interface k) j) (sym entry.2) (Contains-here j [])),
  λ has. let entry = key_entry es j has in subst (Contains (keys_of es)) entry.2 (key_of_entry es entry.0 entry.1),
)

module _ (laws : LawsOfElaboration) (g : Graph) (valid : IsValid g) (w : ℕ) (old : World) (there : slice_get g.worlds w ≡ Some old) (out : Option (List ℕ))
    (no_types : type_entries old.imports ≡ []) (accepted : IsAcceptedTransformation g w old (importized out old)) where
  abbrev transform : WorldLists
  transform = importized out old

  abbrev mid : World
  mid = transformed_world g old transform

  abbrev before : World
  before = listed g valid w old there transform accepted.from

  imports_are : transform.imports ≡ old.exports
  imports_are = ap (λ (es : List Entry). es ++ old.exports) no_types

  -- what is imported under a label was exported under it
  label_from : (e : Entry) → Contains mid.imports e → is_label e.0 ≡ true → IsListedWithoutSpan old.exports e
  label_from e has label =
      let stays = laws.labels g.types (graph_uses g) before mid valid.no_cycles.uses (in_order g valid w old there transform accepted.from) accepted.from.distinct_imports (is_elaborated g valid w old there transform accepted.from laws accepted.no_conflict) in
      let under = Contains-filtered (λ (e : Entry). is_label e.0) mid.imports e has label in
      let from = Contains-map_cases listed_without_span (labelled (by_class g.types transform.imports)) e (subst (λ (es : List Entry). Contains es e) stays under) in
      let sorted = (Contains-filter (λ (e : Entry). is_label e.0) (by_class g.types transform.imports) from.0 from.1).0 in
      (from.0, subst (λ (es : List Entry). Contains es from.0) imports_are (by_class_in g.types transform.imports from.0 sorted), sym from.2)

  -- the labels of the imports are those that were exported
  label_kept : (label : List ℕ) → Contains (keys_of mid.imports) (key.Name label) ↔ Contains (keys_of old.exports) (key.Name label)
  label_kept label =
      let stays = laws.labels g.types (graph_uses g) before mid valid.no_cycles.uses (in_order g valid w old there transform accepted.from) accepted.from.distinct_imports (is_elaborated g valid w old there transform accepted.from laws accepted.no_conflict) in (
        λ has.
            let entry = entry_of_key mid.imports (key.Name label) has in
            let from = label_from entry.0 entry.1 (is_name entry.0.0 label entry.2) in
            subst (Contains (keys_of old.exports)) (sym (ap (λ (e : Entry). e.0) from.2) ∙ entry.2) (key_of_entry old.exports from.0 from.1),
        λ has.
            let entry = entry_of_key old.exports (key.Name label) has in
            let sorted = in_by_class g.types transform.imports entry.0 (subst (λ (es : List Entry). Contains es entry.0) (sym imports_are) entry.1) in
            let under = Contains-filtered (λ (e : Entry). is_label e.0) (by_class g.types transform.imports) entry.0 sorted (is_name entry.0.0 label entry.2) in
            let among : Contains (labelled mid.imports) (listed_without_span entry.0) = subst (λ (es : List Entry). Contains es (listed_without_span entry.0)) (sym stays) (Contains-map listed_without_span (labelled (by_class g.types transform.imports)) entry.0 under) in
            subst (Contains (keys_of mid.imports)) entry.2 (key_of_entry mid.imports (listed_without_span entry.0) (Contains-filter (λ (e : Entry). is_label e.0) mid.imports (listed_without_span entry.0) among).0),
      )

  -- where an import begins that was an export: at its own key, or at a use of it
  began : (e : Entry) → Contains old.exports e → (r : ℕ) → Contains (roots_of (graph_uses g) e.0 (role_of g.types e.1)) r → (x : ℕ) × Contains (item_interface e.1) x × (((e.0 ≡ key.Interface x) × (x ≡ r)) ⊎ Contains (direct (graph_uses g) x) r)
  began e has r root =
      let place = place_of old.exports e has in
      by e.0 e.1 (valid.well_formed.worlds.exports w old there place.0 e place.1) root
    where
      by : (k : WorldKey) (held : WorldItem) → IsExport g.interfaces k held → Contains (roots_of (graph_uses g) k (role_of g.types held)) r
          → (x : ℕ) × Contains (item_interface held) x × (((k ≡ key.Interface x) × (x ≡ r)) ⊎ Contains (direct (graph_uses g) x) r)
      by (key.Interface f) (item.Interface i stability docs span external_id) is root = (i, Contains-here i [], inl (ap key.Interface (sym is.0), one_of i r root))
      by (key.Name name) (item.Interface i stability docs span external_id) is root = (i, Contains-here i [], inr root)
      by k (item.Function f) is root = let never = root_interface g.types (graph_uses g) k (item.Function f) r root in let none = never.1 in cc
      by (key.Interface f) (item.Type_ t span) is root = absurd is
      by (key.Name name) (item.Type_ t span) is root = absurd is

  -- the interfaces under their own keys are those that were so exported, and what is behind
  id_kept : (j : ℕ) → Contains (keyed_interfaces mid.imports) j ↔ (Contains (keys_of old.exports) (key.Interface j) ⊎ IsBehind (graph_uses g) old.exports j)
  id_kept j =
      let imported = laws.exact g.types (graph_uses g) before mid j valid.no_cycles.uses (in_order g valid w old there transform accepted.from) (is_elaborated g valid w old there transform accepted.from laws accepted.no_conflict) in (
        λ has. elim (imported.0 has) [
          | inl need ↦ absurd (Contains-nil need.2)
          | inr reached ↦
              let e = Contains-flat_map_cases (λ (e : Entry). roots_of (graph_uses g) e.0 (role_of g.types e.1)) transform.imports reached.0 reached.1 in
              let export = subst (λ (es : List Entry). Contains es e.0) imports_are e.1.0 in
              let start = began e.0 export reached.0 e.1.1 in
              let instance = Contains-flat_map (λ (e : Entry). item_interface e.1) old.exports e.0 start.0 export start.1 in
              elim start.2 [
                | inl own ↦ from_own e.0 export start.0 own.0 instance reached.2.0 (subst (λ (x : ℕ). IsPath (graph_uses g) x reached.2.0 j) (sym own.1) reached.2.1)
                | inr edge ↦ inr (start.0, reached.0, instance, edge, reached.2)
              ]
        ],
        λ either. imported.1 (inr (elim either [
          | inl own ↦
              let entry = entry_of_key old.exports (key.Interface j) own in
              let root : Contains (roots_of (graph_uses g) entry.0.0 (role_of g.types entry.0.1)) j = own_root entry.0.0 entry.0.1 entry.2 (export_is entry.0 entry.1) in
              (j, in_roots entry.0 entry.1 j root, ([], refl))
          | inr behind ↦
              let e = Contains-flat_map_cases (λ (e : Entry). item_interface e.1) old.exports behind.0 behind.2 in
              elim (behind_root e.0.0 e.0.1 behind.0 (export_is e.0 e.1.0) e.1.1) [
                | inl root ↦ (behind.0, in_roots e.0 e.1.0 behind.0 root, (behind.1 ∷ behind.4.0, (behind.3, behind.4.1)))
                | inr roots ↦ (behind.1, in_roots e.0 e.1.0 behind.1 (roots behind.1 behind.3), behind.4)
              ]
        ])),
      )
    where
      from_own : (e : Entry) → Contains old.exports e → (x : ℕ) → e.0 ≡ key.Interface x → Contains (exported_interfaces old.exports) x → (path : List ℕ) → IsPath (graph_uses g) x path j
          → Contains (keys_of old.exports) (key.Interface j) ⊎ IsBehind (graph_uses g) old.exports j
      from_own e export x own instance [] same = inl (subst (Contains (keys_of old.exports)) (own ∙ ap key.Interface same) (key_of_entry old.exports e export))
      from_own e export x own instance (d ∷ path) leads = inr (x, d, instance, leads.0, (path, leads.1))

      export_is : (e : Entry) → Contains old.exports e → IsExport g.interfaces e.0 e.1
      export_is e has = let place = place_of old.exports e has in valid.well_formed.worlds.exports w old there place.0 e place.1

      in_roots : (e : Entry) → Contains old.exports e → (r : ℕ) → Contains (roots_of (graph_uses g) e.0 (role_of g.types e.1)) r → Contains (flat_map (λ (e : Entry). roots_of (graph_uses g) e.0 (role_of g.types e.1)) transform.imports) r
      in_roots e has r root = Contains-flat_map (λ (e : Entry). roots_of (graph_uses g) e.0 (role_of g.types e.1)) transform.imports e r (subst (λ (es : List Entry). Contains es e) (sym imports_are) has) root

      own_root : (k : WorldKey) (held : WorldItem) → k ≡ key.Interface j → IsExport g.interfaces k held → Contains (roots_of (graph_uses g) k (role_of g.types held)) j
      own_root (key.Name name) held same is = cc
      own_root (key.Interface f) (item.Interface i stability docs span external_id) same is = let one : f ≡ j = cc in subst (λ (x : ℕ). Contains (i ∷ []) x) (is.0 ∙ one) (Contains-here i [])
      own_root (key.Interface f) (item.Function fn) same is = absurd is
      own_root (key.Interface f) (item.Type_ t span) same is = absurd is

      behind_root : (k : WorldKey) (held : WorldItem) (x : ℕ) → IsExport g.interfaces k held → Contains (item_interface held) x
          → Contains (roots_of (graph_uses g) k (role_of g.types held)) x ⊎ ((d : ℕ) → Contains (direct (graph_uses g) x) d → Contains (roots_of (graph_uses g) k (role_of g.types held)) d)
      behind_root (key.Interface f) (item.Interface i stability docs span external_id) x is has = inl has
      behind_root (key.Name name) (item.Interface i stability docs span external_id) x is has = inr (λ d edge. subst (λ (y : ℕ). Contains (direct (graph_uses g) y) d) (sym (one_of i x has)) edge)
      behind_root k (item.Function f) x is has = absurd (Contains-nil has)
      behind_root k (item.Type_ t span) x is has = absurd (Contains-nil has)

  kept : (k : WorldKey) → Contains (keys_of mid.imports) k ↔ (Contains (keys_of old.exports) k ⊎ ((j : ℕ) × (k ≡ key.Interface j) × IsBehind (graph_uses g) old.exports j))
  kept (key.Name label) = (
    λ has. inl ((label_kept label).0 has),
    λ either. elim either [ inl own ↦ (label_kept label).1 own | inr behind ↦ let never = behind.1 in cc ],
  )
  kept (key.Interface j) = (
    λ has. elim ((id_kept j).0 ((id_key mid.imports j).0 has)) [ inl own ↦ inl own | inr behind ↦ inr (j, refl, behind) ],
    λ either. (id_key mid.imports j).1 ((id_kept j).1 (elim either [
      | inl own ↦ inl own
      | inr behind ↦ let same : j ≡ behind.0 = cc in inr (subst (IsBehind (graph_uses g) old.exports) (sym same) behind.2)
    ])),
  )

  abbrev between : Graph
  between = transformed_at g w old transform

  mid_there : slice_get between.worlds w ≡ Some mid
  mid_there = slice_get-set g.worlds w old mid there

  module _ (valid_between : IsValid between) (answers : List Bool) (again : Option (List ℕ)) where
    transformed_back : length answers ≡ length (imports_at between w) → Each (λ (answer : Bool). answer ≡ true) answers → ((error : ResolveErrorKind) → IsExportizeCause between w answers again error → ⊥)
        → (new : World) → slice_get (transformed between w (exportized answers again)).worlds w ≡ Some new → AreFormerExports (graph_uses g) old.exports new.exports
    transformed_back count all clear new at =
        let many : length answers ≡ length mid.imports = count ∙ ap (λ (o : Option World). length (option_map_or (λ (world : World). world.imports) o [])) mid_there in
        let second = exportized_accepted laws between valid_between w again answers clear mid mid_there many in
        let from = world_at between w (exportized answers again) new at in
        let same : from.0 ≡ mid = same_at between.worlds w w from.0 mid refl from.1 mid_there in
        let new_is : new ≡ transformed_world between mid (exportized answers again mid) = from.2 ∙ ap (λ (x : World). transformed_world between x (exportized answers again x)) same in
        let last = listed between valid_between w mid mid_there (exportized answers again mid) second.from in
        let sound = in_order between valid_between w mid mid_there (exportized answers again mid) second.from in
        let made = is_elaborated between valid_between w mid mid_there (exportized answers again mid) second.from laws second.no_conflict in record {
          keys = λ k.
              let keys = laws.exports between.types (graph_uses between) last (transformed_world between mid (exportized answers again mid)) k valid_between.no_cycles.uses sound made in
              let moved = keys_all mid.imports answers many all k in
              let stay = kept k in (
                λ has. stay.0 (moved.0 (keys.0 (subst (λ (x : World). Contains (keys_of x.exports) k) new_is has))),
                λ either. subst (λ (x : World). Contains (keys_of x.exports) k) (sym new_is) (keys.1 (moved.1 (stay.1 either))),
              );
          labels = λ e has label.
              elim ((laws.entries between.types (graph_uses between) last (transformed_world between mid (exportized answers again mid)) e valid_between.no_cycles.uses sound made).1 (subst (λ (x : World). Contains x.exports e) new_is has)) [
                | inl stays ↦ let user = answered_from true mid.imports answers e stays in label_from e (contained_at mid.imports user.0 e user.1) label
                | inr dependency ↦ let never : true ≡ false = sym label ∙ ap (λ (x : Entry). is_label x.0) dependency.2 in cc
              ];
        }

pub importized_then_exportized : LawsOfElaboration → ImportizedThenExportized
importized_then_exportized laws g w old new out again answers valid there no_types clear =
    let accepted = importized_accepted laws g valid w out clear old there in
    let at = transformed_is g w (importized out) old there in
    let valid_between = subst IsValid at (importized_valid laws g valid w out clear) in
    subst (λ (h : Graph). length answers ≡ length (imports_at h w) → Each (λ (answer : Bool). answer ≡ true) answers → ((error : ResolveErrorKind) → IsExportizeCause h w answers again error → ⊥)
    → slice_get (transformed h w (exportized answers again)).worlds w ≡ Some new
    → AreFormerExports (graph_uses g) old.exports new.exports) (sym at)
    (λ count all clear_again found. transformed_back laws g valid w old there out no_types accepted valid_between answers again count all clear_again new found)
