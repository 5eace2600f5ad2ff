-- Tests that compute whether something is wrong with a small include, and with the labels of a small list.
use Rattle.std.proofs.Common.{◌≡◌, ◌∙◌, ◌⊎◌, ℕ, ◌<◌, zero, suc, Bool, true, not, ◌&&◌, List, [], ◌∷◌, ◌++◌, map, take, Some, slice_get, refl, sym, ap, subst, inl, inr, arith, Contains, append_assoc}
use Rattle.std.proofs.lemmas.Bool.{and_parts, both_ways, not-true}
use Rattle.std.proofs.lemmas.List.{append-nil}
use Rattle.std.proofs.lemmas.Map.Views.{Contains-from_any, list_any-from_Contains}
use Rattle.std.specs.Cmp.Lexicographic.{nat_list_eq_equiv}
use Rattle.std.specs.List.{list_all, list_any}
use Rattle.std.specs.Map.{keys_of}
use Rattle.std.specs.Prelude.{codes, bytes_eq}
use Rattle.wit_values.specs.facts.Lists.{differ}
use Rattle.wit_data.specs.Entries.{Entry}
use Rattle.wit_data.specs.facts.WorldKeyFacts.{key_is, key_laws, same_key}
use Rattle.wit_data.specs.declared.function.Function.{Function}
use Rattle.wit_data.specs.declared.world.IncludeName.{IncludeName}
use Rattle.wit_data.specs.declared.stability.Stability.{Stability}
use Rattle.wit_data.specs.declared.world.World.{World}
use Rattle.wit_data.specs.declared.world.WorldInclude.{WorldInclude}
use Rattle.wit_data.specs.declared.world.WorldKey.{WorldKey}
use Rattle.wit_data.specs.declared.world.WorldItem.TheVariants as item
use Rattle.wit_data.specs.declared.world.WorldKey.TheVariants as key
use Rattle.wit_graph_theory.specs.facts.ListFacts.{Contains-map, contained_at}
use Rattle.wit_graph_theory.specs.facts.OptionFacts.{some_same}
use Rattle.wit_graph_theory.specs.examples.TestFacts.{all_are, implied, implies, none_in}
use Rattle.wit_elaboration.specs.Elaboration.{graph_uses}
use Rattle.wit_elaboration.specs.Imported.{HasTransitiveConflict}
use Rattle.wit_labels.specs.Setters.{getter_label, is_setter_label, setters_placed}
use Rattle.wit_labels.specs.Strong.{strong_key}
use Rattle.wit_labels.specs.declared.strong.StrongKey.{StrongKey}
use Rattle.wit_graph_data.specs.declared.error_kind.ResolveErrorKind.{ResolveErrorKind}
use Rattle.wit_graph_data.specs.declared.error_kind.ResolveErrorKind.TheVariants.{InvalidTransitiveDependency, ItemShadowing}
use Rattle.wit_link_spec.specs.Addition.{Addition}
use Rattle.wit_link_spec.specs.Gates.{OptionalSpan}
use Rattle.wit_link_spec.specs.Include.{EntryLists, PartiallyLinked, lists_of, with_entry_lists}
use Rattle.wit_link_spec.specs.WorldReasons.{IsFinishCause, IsIncludeCause, IsJoinCause, IsLabelCause, IsListCause, IsShadowed, conflict_4, mismatch_8, no_getter_18, not_strongly_unique_17, of_exports, of_imports, rename_unmatched_16, renamed_key, shadowing_7}
use Rattle.wit_link_spec.specs.WorldReasons as world
use Rattle.wit_remap_spec.specs.Joined.{HasStability}
use Rattle.wit_link_spec.specs.Reasons.{IsResolved}
use Rattle.examples_resolve.proofs.OfGraphs.Matching.{AreLists, ClashAt, LabelIsTaken, LonelySetterAt, StabilitiesAreApart, conflict_in, taken_of}
use Rattle.examples_resolve.proofs.OfGraphs.AtWorlds.{AtInclude, HaveLists, IsCauseAtFinish, IsCauseAtInclude, IsMet, fine_where, include_same, lists_are, made, met, of_finish, of_include, of_labels, refused_where, whole_same, written}
use Rattle.wit_elaboration.specs.steps.Parts.{exported_keys}
use Rattle.wit_link_spec.specs.steps.Parts.{begun_whole, home_of, image_at, AtWorld, IncludeIsAccepted, WorldIsAccepted}

-- ---- labels that come

-- is no label among those seen, or among those before it?
abbrev pub are_new : List WorldKey → List WorldKey → Bool
are_new seen [] = true
are_new seen (key.Name n ∷ ks) = not (list_any (same_key (key.Name n)) seen) && are_new (seen ++ key.Name n ∷ []) ks
are_new seen (key.Interface i ∷ ks) = are_new (seen ++ key.Interface i ∷ []) ks

rest_new : (k : WorldKey) (seen ks : List WorldKey) → are_new seen (k ∷ ks) ≡ true → are_new (seen ++ k ∷ []) ks ≡ true
rest_new (key.Name n) seen ks h = (and_parts (not (list_any (same_key (key.Name n)) seen)) (are_new (seen ++ key.Name n ∷ []) ks) h).1
rest_new (key.Interface i) seen ks h = h

none_shadowed : (seen brought : List WorldKey) (j : ℕ) (n : List ℕ) → slice_get brought j ≡ Some (key.Name n) → Contains (seen ++ take j brought) (key.Name n) → are_new seen brought ≡ true → ⊥
none_shadowed seen [] j n is there new = cc
none_shadowed seen (b ∷ brought) zero n is there new =
    let same : b ≡ key.Name n = some_same b (key.Name n) is in
    let here : are_new seen (key.Name n ∷ brought) ≡ true = subst (λ (k : WorldKey). are_new seen (k ∷ brought) ≡ true) same new in
    let inside : Contains seen (key.Name n) = subst (λ (ks : List WorldKey). Contains ks (key.Name n)) (append-nil seen) there in
    let off = not-true _ (and_parts (not (list_any (same_key (key.Name n)) seen)) (are_new (seen ++ key.Name n ∷ []) brought) here).0 in
    both_ways _ off (list_any-from_Contains key_laws (key.Name n) seen inside)
none_shadowed seen (b ∷ brought) (suc j) n is there new =
    none_shadowed (seen ++ b ∷ []) brought j n is (subst (λ (ks : List WorldKey). Contains ks (key.Name n)) (sym (append_assoc seen (b ∷ []) (take j brought))) there) (rest_new b seen brought new)

abbrev labels_come : WorldInclude → List Entry → List Entry → Bool
labels_come include current brought = are_new (keys_of current) (map (λ (e : Entry). renamed_key include.names e.0) brought)

-- ---- interfaces that come

-- is no key of the one list a key of the other?
abbrev none_common : List Entry → List Entry → Bool
none_common current brought = list_all (λ (e : Entry). not (list_any (same_key e.0) (keys_of current))) brought

apart : (current brought : List Entry) (i : ℕ) (has brings : Stability) → HasStability current i has → HasStability brought i brings → none_common current brought ≡ true → ⊥
apart current brought i has brings (docs, place, external_id, there) (docs', place', external_id', comes) none =
    let off = not-true _ (all_are (λ (e : Entry). not (list_any (same_key e.0) (keys_of current))) brought none _ comes) in
    both_ways _ off (list_any-from_Contains key_laws (key.Interface i) (keys_of current) (Contains-map (λ (e : Entry). e.0) current _ there))

-- ---- an include

module _ (a : Addition) (k j : ℕ) (y : AtInclude a k j) where
  -- what is told of both lists is told of either, at each sight of the include
  of_lists : (P : List Entry → List Entry → Type 0) → P y.before.lists.imports y.old.imports → P y.before.lists.exports y.old.exports → (x : AtInclude a k j) (current brought : List Entry)
      → AreLists x.before.lists (lists_of x.old) current brought → P current brought
  of_lists P imports exports x current brought lists =
      let same = include_same a k j x y in
      elim lists [
        | inl both ↦
            subst (λ (es : List Entry). P es brought) (sym (both.0 ∙ ap (λ (l : EntryLists). l.imports) same.lists_are))
            (subst (P y.before.lists.imports) (sym (both.1 ∙ ap (λ (w : World). w.imports) same.old_is)) imports)
        | inr both ↦
            subst (λ (es : List Entry). P es brought) (sym (both.0 ∙ ap (λ (l : EntryLists). l.exports) same.lists_are))
            (subst (P y.before.lists.exports) (sym (both.1 ∙ ap (λ (w : World). w.exports) same.old_is)) exports)
      ]

  untaken : labels_come y.include y.before.lists.imports y.old.imports ≡ true → labels_come y.include y.before.lists.exports y.old.exports ≡ true
      → (x : AtInclude a k j) (name : List ℕ) → LabelIsTaken x.before x.include x.old name → ⊥
  untaken imports exports x name c =
      let same = include_same a k j x y in
      let shadowed : IsShadowed c.current (map (λ (e : Entry). renamed_key y.include.names e.0) c.brought) name =
      subst (λ (i : WorldInclude). IsShadowed c.current (map (λ (e : Entry). renamed_key i.names e.0) c.brought) name) same.include_is c.shadowed in
      let new : labels_come y.include c.current c.brought ≡ true = of_lists (λ (current brought : List Entry). labels_come y.include current brought ≡ true) imports exports x c.current c.brought c.lists in
      none_shadowed (keys_of c.current) (map (λ (e : Entry). renamed_key y.include.names e.0) c.brought) shadowed.0 name shadowed.1 shadowed.2 new

  pub unshadowed : labels_come y.include y.before.lists.imports y.old.imports ≡ true → labels_come y.include y.before.lists.exports y.old.exports ≡ true
      → (span : OptionalSpan) (word name : List ℕ) → IsCauseAtInclude a k j (ItemShadowing span word name) → ⊥
  unshadowed imports exports span word name c = untaken imports exports c.at name (taken_of _ _ _ _ span word name c.cause)

  agrees : none_common y.before.lists.imports y.old.imports ≡ true → none_common y.before.lists.exports y.old.exports ≡ true
      → (x : AtInclude a k j) (brings has : Stability) → StabilitiesAreApart (home_of a) x.before x.old brings has → ⊥
  agrees imports exports x brings has c =
      apart c.current c.brought c.i has brings c.there c.comes (of_lists (λ (current brought : List Entry). none_common current brought ≡ true) imports exports x c.current c.brought c.lists)

  without_names : y.include.names ≡ [] → (x : AtInclude a k j) (i : ℕ) (name : IncludeName) → slice_get x.include.names i ≡ Some name → ⊥
  without_names none x i name is =
      no_name i (subst (λ (names : List IncludeName). slice_get names i ≡ Some name) (ap (λ (i : WorldInclude). i.names) (include_same a k j x y).include_is ∙ none) is)
    where
      no_name : (i : ℕ) → slice_get [] i ≡ Some name → ⊥
      no_name i is = cc

  -- what the include passes
  pub record Passes : Type 0 where
    pub import_labels : labels_come y.include y.before.lists.imports y.old.imports ≡ true
    pub export_labels : labels_come y.include y.before.lists.exports y.old.exports ≡ true
    pub import_keys : none_common y.before.lists.imports y.old.imports ≡ true
    pub export_keys : none_common y.before.lists.exports y.old.exports ≡ true
    pub names : y.include.names ≡ []

  pub fine : Passes → IncludeIsAccepted a k j
  fine p = fine_where a k j (λ error c. none c.at error c.cause)
    where
      joins : (x : AtInclude a k j) (other : Bool) (word : List ℕ) (current brought : List Entry) (error : ResolveErrorKind) → AreLists x.before.lists (lists_of x.old) current brought
          → IsJoinCause other x.include word current brought error → ⊥
      joins x other word current brought _ lists (shadowing_7 name is) = untaken p.import_labels p.export_labels x name (record { current = current; brought = brought; lists = lists; shadowed = is })
      joins x other word current brought _ lists (mismatch_8 i brings has comes there differ counts) =
          apart current brought i has brings there comes (of_lists (λ (now old : List Entry). none_common now old ≡ true) p.import_keys p.export_keys x current brought lists)

      none : (x : AtInclude a k j) (error : ResolveErrorKind) → IsIncludeCause (home_of a) x.before x.include x.old error → ⊥
      none x error (of_imports _ is) = joins x _ _ x.before.lists.imports x.old.imports error (inl (refl, refl)) is
      none x error (of_exports _ is) = joins x _ _ x.before.lists.exports x.old.exports error (inr (refl, refl)) is
      none x _ (rename_unmatched_16 i name is earlier unmatched) = without_names p.names x i name is

-- ---- the lists of a world

module _ (a : Addition) (k : ℕ) (y : AtWorld a k) where
  -- both lists of the world pass a test, with its includes
  pub record BothPass (test : List Entry → Bool) : Type 0 where
    pub imports : test (begun_whole a k y).lists.imports ≡ true
    pub exports : test (begun_whole a k y).lists.exports ≡ true

  -- then each list passes by which its labels are told
  list_passes : (test : List Entry → Bool) → BothPass test → (lists : EntryLists) → HaveLists a k lists → (entries : List Entry) → (entries ≡ lists.imports) ⊎ (entries ≡ lists.exports) → test entries ≡ true
  list_passes test both lists have entries (inl import) =
      subst (λ (es : List Entry). test es ≡ true) (sym (import ∙ ap (λ (l : EntryLists). l.imports) (lists_are a k y lists have))) both.imports
  list_passes test both lists have entries (inr export) =
      subst (λ (es : List Entry). test es ≡ true) (sym (export ∙ ap (λ (l : EntryLists). l.exports) (lists_are a k y lists have))) both.exports

  -- what passes a test passes a weaker one
  pub both_weaker : (test other : List Entry → Bool) → ((es : List Entry) → test es ≡ true → other es ≡ true) → BothPass test → BothPass other
  both_weaker test other weaker both = record { imports = weaker _ both.imports; exports = weaker _ both.exports }

-- ---- labels that are not strongly unique

abbrev pub names_differ : WorldKey → WorldKey → Bool
names_differ (key.Name n) (key.Name m) = not (bytes_eq (strong_key n).name (strong_key m).name)
names_differ (key.Name n) (key.Interface i) = true
names_differ (key.Interface i) k = true

-- do all labels of a list have different names?
abbrev all_differ : List WorldKey → Bool
all_differ [] = true
all_differ (k ∷ ks) = list_all (names_differ k) ks && all_differ ks

same_names : (n m : List ℕ) → strong_key n ≡ strong_key m → names_differ (key.Name m) (key.Name n) ≡ true → ⊥
same_names n m same apart =
    let off = not-true _ apart in
    both_ways _ off (subst (λ (z : List ℕ). bytes_eq (strong_key m).name z ≡ true) (ap (λ (s : StrongKey). s.name) (sym same)) (nat_list_eq_equiv.refl (strong_key m).name))

no_clash : (keys : List WorldKey) (i j : ℕ) (n m : List ℕ) → i < j → slice_get keys i ≡ Some (key.Name m) → slice_get keys j ≡ Some (key.Name n) → strong_key n ≡ strong_key m
    → all_differ keys ≡ true → ⊥
no_clash [] i j n m below first second same all = cc
no_clash (k ∷ ks) zero zero n m below first second same all = absurd (omega (arith, below))
no_clash (k ∷ ks) zero (suc j) n m below first second same all =
    let is : k ≡ key.Name m = some_same k (key.Name m) first in
    let passes : names_differ k (key.Name n) ≡ true = all_are (names_differ k) ks (and_parts (list_all (names_differ k) ks) (all_differ ks) all).0 (key.Name n) (contained_at ks j (key.Name n) second) in
    same_names n m same (subst (λ (x : WorldKey). names_differ x (key.Name n) ≡ true) is passes)
no_clash (k ∷ ks) (suc i) zero n m below first second same all = absurd (omega (arith, below))
no_clash (k ∷ ks) (suc i) (suc j) n m below first second same all = no_clash ks i j n m (omega (arith, below)) first second same (and_parts (list_all (names_differ k) ks) (all_differ ks) all).1

-- ---- setters and getters

-- is the entry no setter, or is its getter among the keys?
abbrev pub getter_there : List WorldKey → Entry → Bool
getter_there keys (key.Name label, item.Function f) = implies (is_setter_label label) (list_any (same_key (key.Name (getter_label label))) keys)
getter_there keys (key.Name label, item.Interface i note docs span external_id) = true
getter_there keys (key.Name label, item.Type_ t span) = true
getter_there keys (key.Interface i, held) = true

has_getters : (entries : List Entry) (label : List ℕ) (f : Function) → Contains entries (key.Name label, item.Function f) → is_setter_label label ≡ true
    → (Contains (keys_of entries) (key.Name (getter_label label)) → ⊥) → list_all (getter_there (keys_of entries)) entries ≡ true → ⊥
has_getters entries label f inside setter absent all =
    let passes : getter_there (keys_of entries) (key.Name label, item.Function f) ≡ true = all_are (getter_there (keys_of entries)) entries all (key.Name label, item.Function f) inside in
    absent (Contains-from_any (λ j k h. (key_is j k).0 h) (key.Name (getter_label label)) (keys_of entries) (implied (is_setter_label label) (list_any (same_key (key.Name (getter_label label))) (keys_of entries)) passes setter))

abbrev pub getters_there : List Entry → Bool
getters_there entries = list_all (getter_there (keys_of entries)) entries

-- ---- a conflict

-- a conflict is one of what is begun
pub conflict_of : (a : Addition) (k : ℕ) (y : AtWorld a k) (span : OptionalSpan) (name : List ℕ) → IsCauseAtFinish a k (InvalidTransitiveDependency span name)
    → HasTransitiveConflict (graph_uses (begun_whole a k y).graph) (setters_placed (begun_whole a k y).lists.exports)
conflict_of a k y span name c =
    subst (λ (b : PartiallyLinked). HasTransitiveConflict (graph_uses b.graph) (setters_placed b.lists.exports)) (c.whole_is ∙ whole_same a k c.at y) (conflict_in _ _ span name c.cause).conflict

-- ---- a world with which nothing is wrong

abbrev pub labels_differ : List Entry → Bool
labels_differ entries = all_differ (keys_of entries)

abbrev pub is_plain : List Entry → Bool
is_plain entries = labels_differ entries && getters_there entries

module _ (a : Addition) (k : ℕ) (y : AtWorld a k) where
  pub none_alike : BothPass a k y labels_differ → ClashAt a k → ⊥
  none_alike both c =
      no_clash (keys_of c.entries) c.clash.0 c.clash.1 c.n c.m c.clash.2 c.clash.3 c.clash.4 c.clash.5 (list_passes a k y labels_differ both c.lists c.have c.entries c.list)

  pub none_lacks : BothPass a k y getters_there → LonelySetterAt a k → ⊥
  none_lacks both c = has_getters c.entries c.label c.f c.setter.0 c.setter.1 c.absent (list_passes a k y getters_there both c.lists c.have c.entries c.list)

  -- both lists are plain, and it exports no interface under its own key
  pub record IsPlain : Type 0 where
    pub lists : BothPass a k y is_plain
    pub no_exports : exported_keys (setters_placed (begun_whole a k y).lists.exports) ≡ []

  plain_labels : IsPlain → ClashAt a k → ⊥
  plain_labels p = none_alike (both_weaker a k y is_plain labels_differ (λ es passes. (and_parts (labels_differ es) (getters_there es) passes).0) p.lists)

  plain_getters : IsPlain → LonelySetterAt a k → ⊥
  plain_getters p = none_lacks (both_weaker a k y is_plain getters_there (λ es passes. (and_parts (labels_differ es) (getters_there es) passes).1) p.lists)

  plain_exports : IsPlain → (span : OptionalSpan) (name : List ℕ) → IsCauseAtFinish a k (InvalidTransitiveDependency span name) → ⊥
  plain_exports p span name c =
      let found = conflict_of a k y span name c in
      none_in found.4.1 (subst (λ (is : List ℕ). Contains is found.4.1) p.no_exports found.4.3)

  -- then no cause holds against it, where its includes are accepted
  pub plain_accepted : IsPlain → (IsResolved a → (j : ℕ) → IncludeIsAccepted a k j) → WorldIsAccepted a k
  plain_accepted p includes error c = none (met a k error c)
    where
      in_list : (word : List ℕ) (entries : List Entry) (lists : EntryLists) → HaveLists a k lists → (entries ≡ lists.imports) ⊎ (entries ≡ lists.exports) → (called : List ℕ) (e : ResolveErrorKind) → IsListCause called word entries e → ⊥
      in_list word entries lists have list called _ (not_strongly_unique_17 n m is) = plain_labels p (record { lists = lists; have = have; n = n; m = m; entries = entries; list = list; clash = is })
      in_list word entries lists have list called _ (no_getter_18 label f has setter absent) =
          plain_getters p (record { lists = lists; have = have; label = label; f = f; entries = entries; list = list; setter = (has, setter); absent = absent })

      in_world : (w : World) (lists : EntryLists) → HaveLists a k lists → lists_of w ≡ lists → IsLabelCause w error → ⊥
      in_world w lists have are (inl is) = in_list (codes "import") w.imports lists have (inl (ap (λ (l : EntryLists). l.imports) are)) w.name error is
      in_world w lists have are (inr is) = in_list (codes "export") w.exports lists have (inr (ap (λ (l : EntryLists). l.exports) are)) w.name error is

      finishing : (e : ResolveErrorKind) → e ≡ error → (is : IsCauseAtFinish a k error) → IsResolved a → ((j : ℕ) → IncludeIsAccepted a k j)
          → IsFinishCause is.whole.graph (with_entry_lists (image_at a is.at.id is.at.world) is.whole.lists) e → ⊥
      finishing _ same is image accepted (conflict_4 name conflict name_is) =
          plain_exports p _ name (record { at = is.at; whole = is.whole; whole_is = is.whole_is; cause = conflict_4 name conflict name_is })
      finishing e same is image accepted (world.of_labels _ why) =
          in_world (with_entry_lists (image_at a is.at.id is.at.world) is.whole.lists) (begun_whole a k is.at).lists (made is.at image accepted) (ap (λ (b : PartiallyLinked). b.lists) is.whole_is)
          (subst (IsLabelCause (with_entry_lists (image_at a is.at.id is.at.world) is.whole.lists)) same why)

      none : IsMet a k error → ⊥
      none (of_include j image earlier is) = refused_where a k j error is (includes image j)
      none (of_finish image accepted is) = finishing error refl is image accepted is.cause
      none (of_labels at without why) = in_world (image_at a at.id at.world) (lists_of (image_at a at.id at.world)) (written at without) refl why
