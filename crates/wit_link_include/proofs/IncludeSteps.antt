-- What the steps of an include tell of the lists, as reasons of the include.
use Rattle.std.proofs.Common.{◌≡◌, ◌∙◌, ◌⊎◌, inl, inr, ℕ, zero, suc, Bool, ◌&&◌, true, false, not, is_some, List, [], ◌∷◌, map, length, nat_eq, Option, Some, None, slice_get, refl, arith, sym, ap, subst, Contains, codes, if◌then◌else◌}
use Rattle.std.specs.Cmp.{nat_eq_equiv}
use Rattle.std.specs.List.{AllByRecursion, list_any}
use Rattle.std.specs.Map.{keys_of}
use Rattle.std.specs.Option.{option_map_or}
use Rattle.wit_values.specs.facts.Lists.{AllByRecursion-at, differ, slice_get-behind}
use Rattle.wit_values.specs.Table.{HasDistinctKeys}
use Rattle.wit_sources.specs.Span.{moved_by}
use Rattle.wit_data.specs.Entries.{Entry, IsExport, interfaces_in_worlds, is_unnamed}
use Rattle.wit_data.specs.Ownership.{IsNamed}
use Rattle.wit_data.specs.Kind.{type_references}
use Rattle.wit_data.specs.declared.world.IncludeName.{IncludeName}
use Rattle.wit_data.specs.declared.interface.Interface.{Interface}
use Rattle.wit_data.specs.declared.stability.Stability.{Stability}
use Rattle.wit_data.specs.declared.types.TypeDef.{TypeDef}
use Rattle.wit_data.specs.declared.world.World.{World}
use Rattle.wit_data.specs.declared.world.WorldInclude.{WorldInclude}
use Rattle.wit_data.specs.declared.world.WorldItem.{WorldItem}
use Rattle.wit_data.specs.declared.world.WorldKey.{WorldKey}
use Rattle.wit_data.specs.declared.world.WorldItem.TheVariants as item
use Rattle.wit_data.specs.declared.world.WorldKey.TheVariants as key
use Rattle.wit_digraph.specs.Relation.{IsPath, direct}
use Rattle.wit_elaboration.specs.Sound.{IsUnderOwnKey}
use Rattle.wit_graph_data.specs.Error.{NoCause}
use Rattle.wit_graph_data.specs.declared.cause.Cause.TheVariants as cause
use Rattle.wit_graph_data.specs.declared.graph.Graph.{Graph}
use Rattle.wit_graph_data.specs.declared.error_kind.ResolveErrorKind.{ResolveErrorKind}
use Rattle.wit_graph_data.specs.declared.error_kind.ResolveErrorKind.TheVariants.{OutOfMemory, Semantic}
use Rattle.wit_graph_theory.specs.facts.Good.{IsGoodWorld}
use Rattle.wit_remap_spec.specs.Image.{Maps, entry_image, item_image, key_image}
use Rattle.wit_graph_theory.specs.facts.ListFacts.{Contains-map, Contains-map_cases, contained_at, found_at, from_map, place_of, same_at}
use Rattle.wit_labels.specs.Rename.{renamed_label}
use Rattle.wit_link_spec.specs.Gates.{OptionalSpan}
use Rattle.wit_link_spec.specs.Include.{PartiallyLinked, belongs_to, copy_maps, is_other_package, is_owned_within, joined_entries, lists_of, with_copies, with_entry_lists, with_world_included}
use Rattle.wit_remap_spec.specs.Joined.{include_stability, Disagree, HasStability}
use Rattle.wit_link_spec.specs.WorldReasons.{IsCauseOfInclude, IsIncludeCause, IsJoinCause, IsShadowed, mismatch_8, of_exports, of_imports, rename_unmatched_16, renamed_key, shadowing_7}
use Rattle.wit_link_spec.specs.laws.StageFacts.{CanInclude}
use Rattle.wit_link_include.specs.steps.Included.{StayApart, AreRenamed, ComeOnce, HaveOwnKeys, IsFirstUnmatched, IsJoinError, JoinIsAccepted, StandsWith, item_shadowing_7, stability_mismatch_8}
use Rattle.wit_link_spec.specs.steps.Parts.{before_includes, interface_copy, rename_text, with_one}

-- ---- a list of a good world

-- under the key of an interface stands that interface, which has a name; no key comes twice
pub record IsKeyed (interfaces : List Interface) (entries : List Entry) : Type 0 where
  pub exports : (i f : ℕ) (held : WorldItem) → slice_get entries i ≡ Some (key.Interface f, held) → IsExport interfaces (key.Interface f) held
  pub distinct : HasDistinctKeys entries

pub imports_keyed : (g : Graph) (from : ℕ) (old : World) → IsGoodWorld g.types g.interfaces from old → IsKeyed g.interfaces old.imports
imports_keyed g from old good = record { exports = λ i f held at. (good.imports i (key.Interface f, held) at).is; distinct = good.distinct_imports }

pub exports_keyed : (g : Graph) (from : ℕ) (old : World) → IsGoodWorld g.types g.interfaces from old → IsKeyed g.interfaces old.exports
exports_keyed g from old good = record { exports = λ i f held at. (good.exports i (key.Interface f, held) at).is; distinct = good.distinct_exports }

export_named : (interfaces : List Interface) (f : ℕ) (held : WorldItem) → IsExport interfaces (key.Interface f) held → IsNamed interfaces f
export_named interfaces f (item.Interface id stability docs span external_id) is = is.1
export_named interfaces f (item.Function function) is = absurd is
export_named interfaces f (item.Type_ t span) is = absurd is

-- ---- what is brought

module _ (g : Graph) (from : ℕ) (old : World) (names : List IncludeName) (into home : ℕ) where
  -- what things are remapped to
  abbrev pub go : Maps
  go = copy_maps g from old names into home

  abbrev pub bring : List Entry → List Entry
  bring entries = map (entry_image go from) entries

  -- an interface with a name stays
  named_stays : (f : ℕ) → IsNamed g.interfaces f → interface_copy g old f ≡ f
  named_stays f named =
      let at = found_at (λ (interface : Interface). is_some interface.name ≡ true) g.interfaces f named in
      let none : is_unnamed g.interfaces f ≡ false = ap (λ (o : Option Interface). option_map_or (λ (interface : Interface). not (is_some interface.name)) o false) at.1 ∙ ap not at.2 in
      let stays : belongs_to g old f ≡ false = ap (λ (b : Bool). b && list_any (nat_eq f) (interfaces_in_worlds (old ∷ []))) none in
      rw stays refl

  key_remapped : (entries : List Entry) → IsKeyed g.interfaces entries → (i : ℕ) (k : WorldKey) (held : WorldItem) → slice_get entries i ≡ Some (k, held) → key_image go from k ≡ renamed_key names k
  key_remapped entries keyed i (key.Name label) held at = ap (λ (b : Bool). key.Name (if b then renamed_label names label else label)) (nat_eq_equiv.refl from)
  key_remapped entries keyed i (key.Interface f) held at = ap key.Interface (named_stays f (export_named g.interfaces f held (keyed.exports i f held at)))

  keys_mapped : (f : Entry → Entry) (h : Entry → WorldKey) (xs : List Entry) → ((i : ℕ) (e : Entry) → slice_get xs i ≡ Some e → (f e).0 ≡ h e) → keys_of (map f xs) ≡ map h xs
  keys_mapped f h [] each = refl
  keys_mapped f h (x ∷ xs) each = rw (each 0 x refl, keys_mapped f h xs (λ i. each (suc i))) refl

  -- the keys that are brought are the renamed ones
  pub brought_keys : (entries : List Entry) → IsKeyed g.interfaces entries → keys_of (bring entries) ≡ map (λ (e : Entry). renamed_key names e.0) entries
  brought_keys entries keyed = keys_mapped (entry_image go from) (λ (e : Entry). renamed_key names e.0) entries (λ i e at. key_remapped entries keyed i e.0 e.1 at)

  -- the key of an interface that is brought was there
  key_was : (entries : List Entry) → IsKeyed g.interfaces entries → (i : ℕ) (k : WorldKey) (held : WorldItem) (n : ℕ) → slice_get entries i ≡ Some (k, held) → key_image go from k ≡ key.Interface n → k ≡ key.Interface n
  key_was entries keyed i (key.Name label) held n at same = cc
  key_was entries keyed i (key.Interface f) held n at same = sym (key_remapped entries keyed i (key.Interface f) held at) ∙ same

  pub come_once : (entries : List Entry) → IsKeyed g.interfaces entries → ComeOnce (bring entries)
  come_once entries keyed i j n v w first second =
      let one = from_map (entry_image go from) entries i (key.Interface n, v) first in
      let two = from_map (entry_image go from) entries j (key.Interface n, w) second in
      let first_key = key_was entries keyed i one.0.0 one.0.1 n one.1 (ap (λ (e : Entry). e.0) one.2) in
      let second_key = key_was entries keyed j two.0.0 two.0.1 n two.1 (ap (λ (e : Entry). e.0) two.2) in
      keyed.distinct i j one.0 two.0 one.1 two.1 (first_key ∙ sym second_key)

  -- ---- stabilities

  -- what comes with a stability came with it
  came_with : (entries : List Entry) → IsKeyed g.interfaces entries → (n : ℕ) (stability : Stability) → StandsWith (bring entries) n stability → HasStability entries n stability
  came_with entries keyed n stability stands =
      let from' = Contains-map_cases (entry_image go from) entries (key.Interface n, item.Interface stands.0 stability stands.1 stands.2 stands.3) stands.4 in
      let place = place_of entries from'.0 from'.1 in
      back place.0 from'.0.0 from'.0.1 place.1 (ap (λ (e : Entry). e.0) from'.2) (ap (λ (e : Entry). e.1) from'.2)
    where
      back : (i : ℕ) (k : WorldKey) (held : WorldItem) → slice_get entries i ≡ Some (k, held) → key_image go from k ≡ key.Interface n
          → item_image go from held ≡ item.Interface stands.0 stability stands.1 stands.2 stands.3 → HasStability entries n stability
      back i k (item.Interface id found docs span external_id) at called is =
          let was : k ≡ key.Interface n = key_was entries keyed i k (item.Interface id found docs span external_id) n at called in
          let here : slice_get entries i ≡ Some (key.Interface n, item.Interface id found docs span external_id) = at ∙ ap (λ (x : WorldKey). Some (x, item.Interface id found docs span external_id)) was in
          let own : id ≡ n = (keyed.exports i n (item.Interface id found docs span external_id) here).0 in
          let known : found ≡ stability = cc in
          let there : slice_get entries i ≡ Some (key.Interface n, item.Interface n stability docs span external_id) =
          here ∙ ap (λ (x : ℕ). Some (key.Interface n, item.Interface x found docs span external_id)) own ∙ ap (λ (s : Stability). Some (key.Interface n, item.Interface n s docs span external_id)) known in
          (docs, span, external_id, contained_at entries i (key.Interface n, item.Interface n stability docs span external_id) there)
      back i k (item.Function f) at called is = cc
      back i k (item.Type_ t span) at called is = cc

  comes_with : (entries : List Entry) → IsKeyed g.interfaces entries → (n : ℕ) (stability : Stability) → HasStability entries n stability → StandsWith (bring entries) n stability
  comes_with entries keyed n stability has =
      let e : Entry = (key.Interface n, item.Interface n stability has.0 has.1 has.2) in
      let place = place_of entries e has.3 in
      let stays : interface_copy g old n ≡ n = named_stays n (export_named g.interfaces n e.1 (keyed.exports place.0 n e.1 place.1)) in (
        interface_copy g old n,
        has.0,
        moved_by 0 has.1,
        has.2,
        subst (λ (x : ℕ). Contains (bring entries) (key.Interface x, item.Interface (interface_copy g old n) stability has.0 (moved_by 0 has.1) has.2)) stays (Contains-map (entry_image go from) entries e has.3),
      )

-- what stands under the key of an interface is that one
stands_own : (entries : List Entry) → AllByRecursion (λ (e : Entry). IsUnderOwnKey e.0 e.1) entries → (n : ℕ) (stability : Stability) → StandsWith entries n stability → HasStability entries n stability
stands_own entries own n stability stands =
    let e : Entry = (key.Interface n, item.Interface stands.0 stability stands.1 stands.2 stands.3) in
    let place = place_of entries e stands.4 in
    let is : stands.0 ∷ [] ≡ n ∷ [] = AllByRecursion-at (λ (d : Entry). IsUnderOwnKey d.0 d.1) entries place.0 e own place.1 in
    let same : stands.0 ≡ n = cc in
    (stands.1, stands.2, stands.3, subst (λ (x : ℕ). Contains entries (key.Interface n, item.Interface x stability stands.1 stands.2 stands.3)) same stands.4)

own_stands : (entries : List Entry) (n : ℕ) (stability : Stability) → HasStability entries n stability → StandsWith entries n stability
own_stands entries n stability has = (n, has.0, has.1, has.2, has.3)

-- ---- reasons of one list are reasons of the include

list_cause : (g : Graph) (include : WorldInclude) (old : World) (home : ℕ) (other : Bool) (word : List ℕ) (current brought : List Entry) (kind : ResolveErrorKind) → IsKeyed g.interfaces brought
    → AllByRecursion (λ (e : Entry). IsUnderOwnKey e.0 e.1) current → IsJoinError other include.span word current (bring g include.id old include.names (length g.worlds) home brought) kind
    → IsJoinCause other include word current brought kind
list_cause g include old home other word current brought _ keyed own (item_shadowing_7 name is) =
    shadowing_7 name (subst (λ (ks : List WorldKey). IsShadowed current ks name) (brought_keys g include.id old include.names (length g.worlds) home brought keyed) is)
list_cause g include old home other word current brought _ keyed own (stability_mismatch_8 brings has is) =
    mismatch_8 is.i brings has (came_with g include.id old include.names (length g.worlds) home brought keyed is.i brings is.comes) (stands_own current own is.i has is.there) is.apart is.counts

-- ---- an include of which no list is refused, and no renaming

list_accepted : (g : Graph) (include : WorldInclude) (old : World) (home : ℕ) (other : Bool) (word : List ℕ) (current brought : List Entry) → IsKeyed g.interfaces brought
    → JoinIsAccepted other include.span word current (bring g include.id old include.names (length g.worlds) home brought) → NoCause (IsJoinCause other include word current brought)
list_accepted g include old home other word current brought keyed can _ (shadowing_7 name is) =
    can.no_cause _ (item_shadowing_7 name (subst (λ (ks : List WorldKey). IsShadowed current ks name) (sym (brought_keys g include.id old include.names (length g.worlds) home brought keyed)) is))
list_accepted g include old home other word current brought keyed can _ (mismatch_8 i brings has comes there apart counts) =
    can.no_cause _ (stability_mismatch_8 brings has (record {
      i = i;
      there = own_stands current i has there;
      comes = comes_with g include.id old include.names (length g.worlds) home brought keyed i brings comes;
      apart = apart;
      counts = counts;
    }))

-- what is told of both lists
pub record ListsJoin (g : Graph) (include : WorldInclude) (old world : World) (home : ℕ) : Type 0 where
  pub imports : JoinIsAccepted (is_other_package old.package home) include.span (codes "import") world.imports (bring g include.id old include.names (length g.worlds) home old.imports)
  pub exports : JoinIsAccepted (is_other_package old.package home) include.span (codes "export") world.exports (bring g include.id old include.names (length g.worlds) home old.exports)
  pub names : AreRenamed old include.names

not_a_cause : (g : Graph) (include : WorldInclude) (old world : World) (home : ℕ) → IsGoodWorld g.types g.interfaces include.id old → ListsJoin g include old world home
    → (kind : ResolveErrorKind) → IsIncludeCause home (before_includes g world) include old kind → ⊥
not_a_cause g include old world home good join kind (of_imports _ is) =
    list_accepted g include old home (is_other_package old.package home) (codes "import") world.imports old.imports (imports_keyed g include.id old good) join.imports kind is
not_a_cause g include old world home good join kind (of_exports _ is) =
    list_accepted g include old home (is_other_package old.package home) (codes "export") world.exports old.exports (exports_keyed g include.id old good) join.exports kind is
not_a_cause g include old world home good join _ (rename_unmatched_16 j name is earlier unmatched) = unmatched (join.names j name is)

-- so no cause holds against it
pub include_is_accepted : (g : Graph) (include : WorldInclude) (old world : World) (home : ℕ) → slice_get g.worlds include.id ≡ Some old → IsGoodWorld g.types g.interfaces include.id old → ListsJoin g include old world home
    → NoCause (IsCauseOfInclude home (before_includes g world) include)
include_is_accepted g include old world home at good join kind is =
    not_a_cause g include old world home good join kind (subst (λ (w : World). IsIncludeCause home (before_includes g world) include w kind) (same_at g.worlds include.id include.id is.0 old refl is.1 at) is.2)

-- ---- what it asks of the graph

no-place : (k : ℕ) → Contains [] k → ⊥
no-place k has = absurd (omega (arith, has.1))

direct_none : (types : List TypeDef) (t : ℕ) → slice_get types t ≡ None → direct (type_references types) t ≡ []
direct_none [] t none = refl
direct_none (x ∷ xs) zero none = cc
direct_none (x ∷ xs) (suc t) none = direct_none xs t none

not_false : (b : Bool) → not b ≡ false → b ≡ true
not_false true h = refl
not_false false h = cc

-- types with names that don't go with the world stay apart from what does
pub stay_apart : (g : Graph) (from : ℕ) (old : World) → CanInclude g from old → StayApart g from old
stay_apart g from old can t o named apart reaches = by (slice_get g.types t) refl
  where
    nowhere : (path : List ℕ) → slice_get g.types t ≡ None → IsPath (type_references g.types) t path o → t ≡ o
    nowhere [] none is = is
    nowhere (k ∷ path) none is = absurd (no-place k (subst (λ (l : List ℕ). Contains l k) (direct_none g.types t none) is.0))

    by : (found : Option TypeDef) → slice_get g.types t ≡ found → is_owned_within g from old o ≡ false
    by None none = subst (λ (x : ℕ). is_owned_within g from old x ≡ false) (nowhere reaches.0 none reaches.1) apart
    by (Some def) at =
        let called : not (is_some def.name) ≡ false = sym (ap (λ (d : Option TypeDef). option_map_or (λ (x : TypeDef). not (is_some x.name)) d false) at) ∙ named in
        can.apart t o def at (not_false (is_some def.name) called) apart reaches

-- ---- the steps together

-- what the steps of an include have made: the graph with the copies, what is brought, and whether it comes from another package
pub record IsStep (g : Graph) (include : WorldInclude) (home : ℕ) (g' : Graph) (imports exports : List Entry) (other : Bool) : Type 0 where
  pub old : World
  pub at : slice_get g.worlds include.id ≡ Some old
  pub good : IsGoodWorld g.types g.interfaces include.id old
  pub graph : g' ≡ with_copies g include.id old (go g include.id old include.names (length g.worlds) home)
  pub imports_are : imports ≡ bring g include.id old include.names (length g.worlds) home old.imports
  pub exports_are : exports ≡ bring g include.id old include.names (length g.worlds) home old.exports
  pub other_is : other ≡ is_other_package old.package home

one_is : (g : Graph) (include : WorldInclude) (home : ℕ) (world old : World) → slice_get g.worlds include.id ≡ Some old
    → with_one home (before_includes g world) include ≡ with_world_included home (length g.worlds) include.names include.id old (before_includes g world)
one_is g include home world old at =
    ap (λ (o : Option World). option_map_or (λ (w : World). with_world_included home (length g.worlds) include.names include.id w (before_includes g world)) o (before_includes g world)) at

module _ (g : Graph) (include : WorldInclude) (home : ℕ) (world : World) (g' : Graph) (imports exports : List Entry) (other : Bool) (step : IsStep g include home g' imports exports other) where
  pub step_graph : g' ≡ (with_one home (before_includes g world) include).graph
  step_graph = step.graph ∙ sym (ap (λ (b : PartiallyLinked). b.graph) (one_is g include home world step.old step.at))

  pub step_world : (new : World) → new ≡ record world { imports = joined_entries other world.imports imports; exports = joined_entries other world.exports exports }
      → new ≡ with_entry_lists world (with_one home (before_includes g world) include).lists
  step_world new is =
      is ∙ ap (λ (l : List Entry). record world { imports = joined_entries other world.imports l; exports = joined_entries other world.exports exports }) step.imports_are
      ∙ ap (λ (l : List Entry). record world { imports = joined_entries other world.imports (bring g include.id step.old include.names (length g.worlds) home step.old.imports); exports = joined_entries other world.exports l }) step.exports_are
      ∙ ap (λ (b : Bool). record world { imports = joined_entries b world.imports (bring g include.id step.old include.names (length g.worlds) home step.old.imports); exports = joined_entries b world.exports (bring g include.id step.old include.names (length g.worlds) home step.old.exports) }) step.other_is
      ∙ sym (ap (λ (b : PartiallyLinked). with_entry_lists world b.lists) (one_is g include home world step.old step.at))

  told_of : (P : Bool → List Entry → Type 0) (l l' : List Entry) → l ≡ l' → P other l → P (is_other_package step.old.package home) l'
  told_of P l l' same p = subst (λ (b : Bool). P b l') step.other_is (subst (P other) same p)

  pub step_fine : (old : World) → slice_get g.worlds include.id ≡ Some old → AreRenamed old include.names → JoinIsAccepted other include.span (codes "import") world.imports imports → JoinIsAccepted other include.span (codes "export") world.exports exports → NoCause (IsCauseOfInclude home (before_includes g world) include)
  step_fine old at names imports_fine exports_fine =
      include_is_accepted g include step.old world home step.at step.good (record {
        imports = told_of (λ (b : Bool) (l : List Entry). JoinIsAccepted b include.span (codes "import") world.imports l) imports _ step.imports_are imports_fine;
        exports = told_of (λ (b : Bool) (l : List Entry). JoinIsAccepted b include.span (codes "export") world.exports l) exports _ step.exports_are exports_fine;
        names = subst (λ (w : World). AreRenamed w include.names) (same_at g.worlds include.id include.id old step.old refl at step.at) names;
      })

  pub step_cause : HaveOwnKeys (lists_of world) → (kind : ResolveErrorKind)
      → (kind ≡ OutOfMemory) ⊎ (IsJoinError other include.span (codes "import") world.imports imports kind ⊎ IsJoinError other include.span (codes "export") world.exports exports kind)
      → (kind ≡ OutOfMemory) ⊎ IsCauseOfInclude home (before_includes g world) include kind
  step_cause own kind (inl memory) = inl memory
  step_cause own kind (inr (inl is)) =
      inr (
        step.old,
        step.at,
        of_imports kind (list_cause g include step.old home (is_other_package step.old.package home) (codes "import") world.imports step.old.imports kind (imports_keyed g include.id step.old step.good) own.imports
            (told_of (λ (b : Bool) (l : List Entry). IsJoinError b include.span (codes "import") world.imports l kind) imports _ step.imports_are is)),
      )
  step_cause own kind (inr (inr is)) =
      inr (
        step.old,
        step.at,
        of_exports kind (list_cause g include step.old home (is_other_package step.old.package home) (codes "export") world.exports step.old.exports kind (exports_keyed g include.id step.old step.good) own.exports
            (told_of (λ (b : Bool) (l : List Entry). IsJoinError b include.span (codes "export") world.exports l kind) exports _ step.exports_are is)),
      )

  pub step_imports_once : ComeOnce imports
  step_imports_once = subst (λ (l : List Entry). ComeOnce l) (sym step.imports_are) (come_once g include.id step.old include.names (length g.worlds) home step.old.imports (imports_keyed g include.id step.old step.good))

  pub step_exports_once : ComeOnce exports
  step_exports_once = subst (λ (l : List Entry). ComeOnce l) (sym step.exports_are) (come_once g include.id step.old include.names (length g.worlds) home step.old.exports (exports_keyed g include.id step.old step.good))

-- the world that was looked at is the one that is there
same_old : (g g' : Graph) (from : ℕ) (old old' : World) (m : Maps) → g' ≡ with_copies g from old m → slice_get g.worlds from ≡ Some old → slice_get g'.worlds from ≡ Some old' → old' ≡ old
same_old g g' from old old' m is at at' = same_at g.worlds from from old' old refl (subst (λ (h : Graph). slice_get h.worlds from ≡ Some old') is at') at

-- what is brought, by the maps of the copies
brought_is : (m m' : Maps) (from from' : ℕ) (entries entries' new : List Entry) → m' ≡ m → from' ≡ from → entries' ≡ entries → new ≡ map (entry_image m' from') entries' → new ≡ map (entry_image m from) entries
brought_is m m' from from' entries entries' new maps froms same is =
    is ∙ ap (λ (x : Maps). map (entry_image x from') entries') maps ∙ ap (λ (x : ℕ). map (entry_image m x) entries') froms ∙ ap (map (entry_image m from)) same

-- what the calls of an include answer, from the number of the world that includes on: the maps and the origin of the copies, the
-- world as it is there again, and its entries under the maps
module _ (g : Graph) (include : WorldInclude) (home into : ℕ) (old again : World) (g' : Graph) (m : Maps) (from : ℕ) (imports exports : List Entry) (other : Bool) where
  pub step_is : slice_get g.worlds include.id ≡ Some old → IsGoodWorld g.types g.interfaces include.id old → into ≡ length g.worlds
      → g' ≡ with_copies g include.id old (go g include.id old include.names into home) → m ≡ go g include.id old include.names into home → from ≡ include.id
      → slice_get g'.worlds include.id ≡ Some again → imports ≡ map (entry_image m from) again.imports → exports ≡ map (entry_image m from) again.exports → other ≡ is_other_package again.package home
      → IsStep g include home g' imports exports other
  step_is at good into_is copied maps froms there imports_are exports_are other_is =
      let maps_now : Maps = go g include.id old include.names (length g.worlds) home in
      let graph_is : g' ≡ with_copies g include.id old maps_now = copied ∙ ap (λ (n : ℕ). with_copies g include.id old (go g include.id old include.names n home)) into_is in
      let maps_are : m ≡ maps_now = maps ∙ ap (λ (n : ℕ). go g include.id old include.names n home) into_is in
      let same : again ≡ old = same_old g g' include.id old again maps_now graph_is at there in
      record {
        old = old;
        at = at;
        good = good;
        graph = graph_is;
        imports_are = brought_is maps_now m include.id from old.imports again.imports imports maps_are froms (ap (λ (w : World). w.imports) same) imports_are;
        exports_are = brought_is maps_now m include.id from old.exports again.exports exports maps_are froms (ap (λ (w : World). w.exports) same) exports_are;
        other_is = other_is ∙ ap (λ (w : World). is_other_package w.package home) same;
      }

-- a renaming that is refused
pub names_cause : (g : Graph) (include : WorldInclude) (home : ℕ) (world old : World) (kind : ResolveErrorKind) → slice_get g.worlds include.id ≡ Some old
    → (kind ≡ OutOfMemory) ⊎ ((name : IncludeName) × IsFirstUnmatched old include.names name × (kind ≡ Semantic include.span (rename_text name.name) cause.RenameUnmatched))
    → (kind ≡ OutOfMemory) ⊎ IsCauseOfInclude home (before_includes g world) include kind
names_cause g include home world old kind at (inl memory) = inl memory
names_cause g include home world old kind at (inr is) =
    inr (old, at, subst (IsIncludeCause home (before_includes g world) include old) (sym is.2) (rename_unmatched_16 is.1.j is.0 is.1.is is.1.earlier is.1.unmatched))
