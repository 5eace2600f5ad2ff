-- Tests of small merges that compute: what passes has no reason of that kind.
use Rattle.std.proofs.Common.{◌≡◌, ◌∙◌, ℕ, ◌+◌, ◌<◌, ◌≤◌, Bool, true, false, not, ◌&&◌, List, [], ◌∷◌, inl, inr, length, map, nat_eq, nat_lt, Option, Some, None, slice_get, option_and_then, refl, sym, ap, subst, arith, Contains}
use Rattle.std.proofs.lemmas.Bool.{and_parts, eqb-true, false≢true, ltb-true}
use Rattle.std.proofs.lemmas.List.Elements.{Contains-append_right}
use Rattle.std.proofs.lemmas.Slice.Eq.{bytes_eq-Decides}
use Rattle.std.specs.List.{list_all}
use Rattle.std.specs.Option.{option_eq, option_map_or}
use Rattle.std.specs.Str.{bytes_eq}
use Rattle.wit_digraph.specs.facts.MemberFacts.{Contains-cons_cases, Contains-here, Contains-nil}
use Rattle.wit_digraph.specs.Relation.{direct}
use Rattle.wit_data.specs.Entries.{Entry, item_interface, entries_of}
use Rattle.wit_data.specs.Kind.{named_option}
use Rattle.wit_data.specs.declared.function.Function.{Function}
use Rattle.wit_data.specs.declared.interface.Interface.{Interface}
use Rattle.wit_data.specs.declared.stability.Stability.{Stability}
use Rattle.wit_data.specs.declared.types.TypeDef.{TypeDef}
use Rattle.wit_data.specs.declared.types.TypeDefKind.{TypeDefKind}
use Rattle.wit_data.specs.declared.world.World.{World}
use Rattle.wit_data.specs.declared.world.WorldItem.{WorldItem}
use Rattle.wit_data.specs.declared.stability.Stability.TheVariants.{Unknown, Stable, Unstable}
use Rattle.wit_data.specs.declared.types.Handle.TheVariants.{Borrow, Own}
use Rattle.wit_data.specs.declared.types.TypeDefKind.TheVariants as kind
use Rattle.wit_data.specs.declared.world.WorldItem.TheVariants as item
use Rattle.wit_data.specs.declared.world.WorldKey.TheVariants as key
use Rattle.wit_elaboration.specs.Elaboration.{graph_uses}
use Rattle.wit_graph_data.specs.Queries.{type_contents}
use Rattle.wit_graph_data.specs.declared.cause.Cause.TheVariants as cause
use Rattle.wit_graph_data.specs.declared.error_kind.ResolveErrorKind.TheVariants.{Semantic}
use Rattle.wit_graph_theory.specs.examples.AgreementFacts.{functions_pass, interfaces_accepted}
use Rattle.wit_elaboration.specs.AllElaborated.{HasWorldInConflict}
use Rattle.wit_remap_spec.specs.FunctionMismatch.{HaveFunctionMismatch}
use Rattle.wit_remap_spec.specs.Image.{function_image}
use Rattle.wit_graph_theory.specs.facts.ListFacts.{contained_at, found_at}
use Rattle.wit_graph_theory.specs.examples.TestFacts.{all_are, all_at, all_uses, at_are, falls, implied, implies, is_empty, no_cycle, none_some, nothing_in, some_passes}
use Rattle.wit_link_spec.specs.Gates.{OptionalSpan}
use Rattle.wit_remap_spec.specs.Borrows.{HoldsBorrow}
use Rattle.wit_remap_spec.specs.Joined.{Disagree, HasStability}
use Rattle.wit_merge_spec.specs.Cause.{EntriesDiffer, ItemsDiffer, same_sort, AreJoined, HasNoMismatch, IsMergeCause, MergeIsAccepted, MergeReturnsBorrow}
use Rattle.wit_merge_spec.specs.Cause as merging
use Rattle.wit_merge_spec.specs.Matches.{FirstDiffers, GraphMerge, Pair, TypePair, counterpart_interface, counterpart_item, counterpart_type, counterpart_world, matched_interface, matched_world, type_pairs}
use Rattle.wit_merge_spec.specs.MismatchText.{side_word}
use Rattle.wit_merge_spec.specs.Merged.{merge_maps, moved_functions, joined_graph}
use Rattle.wit_merge_spec.specs.facts.DifferenceFacts.{same_no_first}
use Rattle.wit_merge_spec.specs.Structure.{Feature, structure}
use Rattle.wit_merge_laws.specs.facts.InterfacesStand.{option_is, option_so}
use Rattle.wit_elaboration.specs.steps.Parts.{exported_interfaces, graph_package_uses}
use Rattle.wit_merge_spec.specs.steps.Parts.{StructuresDiffer, graph_spans, MergeOverflows, StabilitiesMismatch}

-- ---- interfaces

abbrev interface_test : GraphMerge → ℕ → Interface → Bool
interface_test m i from = option_map_or (functions_pass from) (matched_interface m i) true

abbrev interfaces_pass : GraphMerge → Bool
interfaces_pass m = all_at (interface_test m) m.other.interfaces

module _ (m : GraphMerge) (all : interfaces_pass m ≡ true) where
  pair_fine : (p : Pair (counterpart_interface m) m.other.interfaces m.graph.interfaces) (text : List ℕ) → HaveFunctionMismatch p.from p.into text → ⊥
  pair_fine p text apart =
      let beside : matched_interface m p.x ≡ Some p.into = ap (λ (o : Option ℕ). option_and_then (slice_get m.graph.interfaces) o) p.matched ∙ p.into_is in
      interfaces_accepted p.from p.into (some_passes (functions_pass p.from) true (matched_interface m p.x) p.into beside (at_are (interface_test m) m.other.interfaces all p.x p.from p.from_is)) text apart

-- ---- worlds

-- does an item agree with the one under its key?
abbrev items_pass : GraphMerge → WorldItem → WorldItem → Bool
items_pass m from there = same_sort from there && list_all (λ i. list_all (λ i'. option_eq nat_eq (counterpart_interface m i) (Some i')) (item_interface there)) (item_interface from)

abbrev entries_pass : GraphMerge → List Entry → List Entry → Bool
entries_pass m from into = nat_eq (length from) (length into) && list_all (λ (e : Entry). option_map_or (items_pass m e.1) (counterpart_item m into e.0) false) from

abbrev world_test : GraphMerge → ℕ → World → Bool
world_test m w from = option_map_or (λ (into : World). entries_pass m from.imports into.imports && entries_pass m from.exports into.exports) (matched_world m w) true

abbrev worlds_pass : GraphMerge → Bool
worlds_pass m = all_at (world_test m) m.other.worlds

one_in : (xs : List ℕ) (i : ℕ) → xs ≡ i ∷ [] → Contains xs i
one_in xs i same = subst (λ (l : List ℕ). Contains l i) (sym same) (contained_at (i ∷ []) 0 i refl)

there_passes : {X : Type 0} (test : X → Bool) (o : Option X) → option_map_or test o false ≡ true → o ≡ None → ⊥
there_passes test None passes none = false≢true passes
there_passes test (Some x) passes none = none_some x (sym none)

-- ---- types

-- the structures of the types that are compared, of either graph
abbrev pub structures_from : GraphMerge → List (List Feature)
structures_from m = map (λ (p : TypePair). structure m.other.types (counterpart_type m) p.from) (type_pairs m)

abbrev pub structures_into : GraphMerge → List (List Feature)
structures_into m = map (λ (p : TypePair). structure m.graph.types Some p.into) (type_pairs m)

same_each : (f g : TypePair → List Feature) (ps : List TypePair) → map f ps ≡ map g ps → (p : TypePair) → Contains ps p → f p ≡ g p
same_each f g [] same p among = absurd (Contains-nil among)
same_each f g (q ∷ ps) same p among = elim (Contains-cons_cases q p ps among) [
  | inl is ↦ let heads : f q ≡ g q = cc in subst (λ (r : TypePair). f r ≡ g r) is heads
  | inr there ↦ let tails : map f ps ≡ map g ps = cc in same_each f g ps tails p there
]

types_fine : (m : GraphMerge) → structures_from m ≡ structures_into m → (message : List ℕ) → FirstDiffers (StructuresDiffer m) (type_pairs m) message → ⊥
types_fine m same message first =
    let among : Contains (type_pairs m) first.pair = subst (λ (l : List TypePair). Contains l first.pair) (sym first.first.are) (Contains-append_right first.first.before (first.pair ∷ first.first.after) first.pair (Contains-here first.pair first.first.after)) in
    let alike = same_each (λ (p : TypePair). structure m.other.types (counterpart_type m) p.from) (λ (p : TypePair). structure m.graph.types Some p.into) (type_pairs m) same first.pair among in
    same_no_first _ _ first.first.is.1.x first.first.is.1.y alike first.first.is.1.first

module _ (m : GraphMerge) (interfaces : interfaces_pass m ≡ true) where
  items_fine : (from there : WorldItem) → items_pass m from there ≡ true → (text : List ℕ) → ItemsDiffer m from there text → ⊥
  items_fine from there all _ (merging.sorts off) = false≢true (sym off ∙ (and_parts _ _ all).0)
  items_fine from there all _ (merging.interfaces i i' from_is there_is apart) =
      let one = all_are (λ i. list_all (λ i'. option_eq nat_eq (counterpart_interface m i) (Some i')) (item_interface there)) (item_interface from) (and_parts (same_sort from there) _ all).1 i (one_in (item_interface from) i from_is) in
      let two = all_are (λ i'. option_eq nat_eq (counterpart_interface m i) (Some i')) (item_interface there) one i' (one_in (item_interface there) i' there_is) in
      apart (option_is (counterpart_interface m i) i' two)
  items_fine from there all _ (merging.unnamed text p from_is there_is nameless apart) = pair_fine m interfaces p text apart

  entries_fine : (word : List ℕ) (from into : List Entry) → entries_pass m from into ≡ true → (text : List ℕ) → EntriesDiffer m word from into text → ⊥
  entries_fine word from into all _ (merging.count apart) = apart (eqb-true _ _ (and_parts (nat_eq (length from) (length into)) _ all).0)
  entries_fine word from into all _ (merging.absent e listed none) =
      there_passes (items_pass m e.1) (counterpart_item m into e.0) (all_are (λ (e : Entry). option_map_or (items_pass m e.1) (counterpart_item m into e.0) false) from (and_parts (nat_eq (length from) (length into)) _ all).1 e listed) none
  entries_fine word from into all _ (merging.apart e there text listed is apart) =
      items_fine e.1 there
      (some_passes (items_pass m e.1) false (counterpart_item m into e.0) there is
      (all_are (λ (e : Entry). option_map_or (items_pass m e.1) (counterpart_item m into e.0) false) from (and_parts (nat_eq (length from) (length into)) _ all).1 e listed)) text apart

  module _ (worlds : worlds_pass m ≡ true) (types : structures_from m ≡ structures_into m) where
    -- what passes differs in nothing
    pub are_one : HasNoMismatch m
    are_one _ (merging.interfaces p home there name text named of is differs) = pair_fine m interfaces p text differs
    are_one _ (merging.types message first) = types_fine m types message first
    are_one _ (merging.worlds p home there exported text of is differs) = by exported differs
      where
        beside : matched_world m p.x ≡ Some p.into
        beside = ap (λ (o : Option ℕ). option_and_then (slice_get m.graph.worlds) o) p.matched ∙ p.into_is

        both : (entries_pass m p.from.imports p.into.imports ≡ true) × (entries_pass m p.from.exports p.into.exports ≡ true)
        both = and_parts _ _ (some_passes (λ (into : World). entries_pass m p.from.imports into.imports && entries_pass m p.from.exports into.exports) true (matched_world m p.x) p.into beside (at_are (world_test m) m.other.worlds worlds p.x p.from p.from_is))

        by : (exported : Bool) → EntriesDiffer m (side_word exported) (entries_of exported p.from) (entries_of exported p.into) text → ⊥
        by false differs = entries_fine (side_word false) p.from.imports p.into.imports both.0 text differs
        by true differs = entries_fine (side_word true) p.from.exports p.into.exports both.1 text differs

-- ---- a conflict

-- the exported interfaces use nothing
abbrev exports_fine : List (List ℕ) → World → Bool
exports_fine uses world = list_all (λ x. is_empty (direct uses x)) (exported_interfaces world.exports)

abbrev pub no_needs : GraphMerge → Bool
no_needs m = list_all (exports_fine (graph_uses (joined_graph m))) (joined_graph m).worlds

pub in_no_conflict : (m : GraphMerge) → no_needs m ≡ true → (span : OptionalSpan) (name : List ℕ) → HasWorldInConflict (joined_graph m) span name → ⊥
in_no_conflict m all span name c =
    let world = all_are (exports_fine (graph_uses (joined_graph m))) (joined_graph m).worlds all c.world c.there in
    nothing_in (direct (graph_uses (joined_graph m)) c.conflict.0) c.conflict.1
    (all_are (λ x. is_empty (direct (graph_uses (joined_graph m)) x)) (exported_interfaces c.world.exports) world c.conflict.0 c.conflict.2) c.conflict.3

-- ---- stabilities

-- one of two is unknown, or both are the same gate
abbrev may_join : Stability → Stability → Bool
may_join Unknown into = true
may_join from Unknown = true
may_join (Unstable feature None) (Unstable other None) = bytes_eq feature other
may_join from into = false

join : (from into : Stability) → may_join from into ≡ true → Disagree from into → ⊥
join Unknown into all apart = apart.from_known refl
join (Stable since deprecated) Unknown all apart = apart.into_known refl
join (Unstable feature deprecated) Unknown all apart = apart.into_known refl
join (Unstable feature None) (Unstable other None) all apart = apart.differ (ap (λ (f : List ℕ). Unstable f None) ((bytes_eq-Decides feature other).0 all))
join (Unstable feature (Some version)) (Unstable other deprecated) all apart = absurd (false≢true all)
join (Unstable feature None) (Unstable other (Some version)) all apart = absurd (false≢true all)
join (Unstable feature deprecated) (Stable since deprecated') all apart = absurd (false≢true all)
join (Stable since deprecated) (Stable other deprecated') all apart = absurd (false≢true all)
join (Stable since deprecated) (Unstable other deprecated') all apart = absurd (false≢true all)

-- do the stabilities of two entries join, where they stand under the keys of matched interfaces?
abbrev keyed_join : GraphMerge → Entry → Entry → Bool
keyed_join m (key.Interface i, item.Interface j from docs span external_id) (key.Interface i', item.Interface j' into docs' span' external_id') =
    implies (option_eq nat_eq (counterpart_interface m i) (Some i')) (may_join from into)
keyed_join m e e' = true

abbrev entries_join : GraphMerge → List Entry → List Entry → Bool
entries_join m from into = list_all (λ (e : Entry). list_all (keyed_join m e) into) from

abbrev worlds_join : GraphMerge → World → World → Bool
worlds_join m from into = may_join from.stability into.stability && (entries_join m from.imports into.imports && entries_join m from.exports into.exports)

-- does each thing pass with the one that is matched with it?
abbrev pairs_pass : {X : Type 0} → (X → X → Bool) → (ℕ → Option ℕ) → List X → List X → Bool
pairs_pass test found others ours = all_at (λ x from. option_map_or (test from) (option_and_then (slice_get ours) (found x)) true) others

pair_passes : {X : Type 0} (test : X → X → Bool) (found : ℕ → Option ℕ) (others ours : List X) → pairs_pass test found others ours ≡ true → (p : Pair found others ours) → test p.from p.into ≡ true
pair_passes {X} test found others ours all p =
    some_passes (test p.from) true (option_and_then (slice_get ours) (found p.x)) p.into (ap (λ (o : Option ℕ). option_and_then (slice_get ours) o) p.matched ∙ p.into_is)
    (at_are (λ x (from : X). option_map_or (test from) (option_and_then (slice_get ours) (found x)) true) others all p.x p.from p.from_is)

-- do all the stabilities of matched things join?
pub record GatesJoin (m : GraphMerge) : Type 0 where
  pub types : pairs_pass (λ (from into : TypeDef). may_join from.stability into.stability) (counterpart_type m) m.other.types m.graph.types ≡ true
  pub interfaces : pairs_pass (λ (from into : Interface). may_join from.stability into.stability) (counterpart_interface m) m.other.interfaces m.graph.interfaces ≡ true
  pub worlds : pairs_pass (worlds_join m) (counterpart_world m) m.other.worlds m.graph.worlds ≡ true

entries_fit : (m : GraphMerge) (from into : List Entry) → entries_join m from into ≡ true → (i i' : ℕ) (brings has : Stability) → counterpart_interface m i ≡ Some i' → HasStability from i brings → HasStability into i' has → may_join brings has ≡ true
entries_fit m from into all i i' brings has matched comes there =
    let e : Entry = (key.Interface i, item.Interface i brings comes.0 comes.1 comes.2) in
    let e' : Entry = (key.Interface i', item.Interface i' has there.0 there.1 there.2) in
    implied (option_eq nat_eq (counterpart_interface m i) (Some i')) (may_join brings has)
    (all_are (keyed_join m e) into (all_are (λ (d : Entry). list_all (keyed_join m d) into) from all e comes.3) e' there.3) (option_so (counterpart_interface m i) i' matched)

pub joined_accepted : (m : GraphMerge) → GatesJoin m → (from into : Stability) → StabilitiesMismatch m from into → ⊥
joined_accepted m all from into c = join from into (by from into c.joined) c.apart
  where
    sides : (from into : World) → worlds_join m from into ≡ true → (exported : Bool) → entries_join m (entries_of exported from) (entries_of exported into) ≡ true
    sides from into both false = (and_parts _ _ (and_parts (may_join from.stability into.stability) _ both).1).0
    sides from into both true = (and_parts _ _ (and_parts (may_join from.stability into.stability) _ both).1).1

    by : (from into : Stability) → AreJoined m from into → may_join from into ≡ true
    by _ _ (merging.types p) = pair_passes (λ (from into : TypeDef). may_join from.stability into.stability) (counterpart_type m) m.other.types m.graph.types all.types p
    by _ _ (merging.interfaces p) = pair_passes (λ (from into : Interface). may_join from.stability into.stability) (counterpart_interface m) m.other.interfaces m.graph.interfaces all.interfaces p
    by _ _ (merging.worlds p) = (and_parts (may_join p.from.stability p.into.stability) _ (pair_passes (worlds_join m) (counterpart_world m) m.other.worlds m.graph.worlds all.worlds p)).0
    by _ _ (merging.entries p exported i i' from into matched comes there) =
        entries_fit m (entries_of exported p.from) (entries_of exported p.into) (sides p.from p.into (pair_passes (worlds_join m) (counterpart_world m) m.other.worlds m.graph.worlds all.worlds p) exported) i i' from into matched comes there

-- ---- results

abbrev is_borrow : TypeDefKind → Bool
is_borrow (kind.Handle (Borrow r)) = true
is_borrow (kind.Handle (Own r)) = false
is_borrow _ = false

-- the type is there, holds nothing and is no borrow
abbrev holds_none : List TypeDef → ℕ → Bool
holds_none types t = is_empty (direct (type_contents types) t) && option_map_or (λ (def : TypeDef). not (is_borrow def.kind)) (slice_get types t) false

borrows_nothing : (types : List TypeDef) (t : ℕ) → holds_none types t ≡ true → HoldsBorrow types t → ⊥
borrows_nothing types t all (b, ([], same), is) =
    let found = found_at (λ (def : TypeDef). (r : ℕ) × (def.kind ≡ kind.Handle (Borrow r))) types b is in
    let passes = some_passes (λ (def : TypeDef). not (is_borrow def.kind)) false (slice_get types t) found.0 (ap (slice_get types) same ∙ found.1) (and_parts (is_empty (direct (type_contents types) t)) _ all).1 in
    false≢true (sym (ap (λ (k : TypeDefKind). not (is_borrow k)) found.2.1) ∙ passes)
borrows_nothing types t all (b, (k ∷ path, leads), is) = nothing_in (direct (type_contents types) t) k (and_parts (is_empty (direct (type_contents types) t)) _ all).0 leads.0

abbrev pub returns_none : GraphMerge → Bool
returns_none m = list_all (λ (f : Function). list_all (holds_none (joined_graph m).types) (named_option (function_image (merge_maps m) f).result_)) (moved_functions m)

pub results_fine : (m : GraphMerge) → returns_none m ≡ true → (message : List ℕ) → MergeReturnsBorrow m message → ⊥
results_fine m all message c =
    borrows_nothing (joined_graph m).types c.t'
    (all_are (holds_none (joined_graph m).types) (named_option (function_image (merge_maps m) c.f).result_)
    (all_are (λ (f : Function). list_all (holds_none (joined_graph m).types) (named_option (function_image (merge_maps m) f).result_)) (moved_functions m) all c.f c.moved) c.t' c.result_is) c.holds

-- ---- places

abbrev ends_before : ℕ → OptionalSpan → Bool
ends_before offset None = true
ends_before offset (Some (from, to)) = nat_lt (to + offset) 4294967296

abbrev pub all_fit : GraphMerge → Bool
all_fit m = list_all (ends_before m.offset) (graph_spans m.other)

pub fits : (m : GraphMerge) → all_fit m ≡ true → MergeOverflows m → ⊥
fits m all c =
    let passes : ends_before m.offset (Some (c.from, c.to)) ≡ true = all_are (ends_before m.offset) (graph_spans m.other) all (Some (c.from, c.to)) c.known in
    let below : c.to + m.offset < 4294967296 = ltb-true (c.to + m.offset) 4294967296 passes in
    let past : 4294967296 ≤ c.to + m.offset = c.past in
    absurd (omega (arith, below, past))

-- ---- all of it

pub record Passes (m : GraphMerge) : Type 0 where
  pub interfaces : interfaces_pass m ≡ true
  pub worlds : worlds_pass m ≡ true
  pub types : structures_from m ≡ structures_into m
  pub rank : ℕ → ℕ
  pub uses : all_uses (falls rank) (graph_uses (joined_graph m)) ≡ true
  pub packages : all_uses (falls (λ p. p)) (graph_package_uses (joined_graph m)) ≡ true
  pub exports : no_needs m ≡ true
  pub gates : GatesJoin m
  pub results : returns_none m ≡ true
  pub spans : all_fit m ≡ true

pub can_merge : (m : GraphMerge) → Passes m → MergeIsAccepted m
can_merge m p _ (merging.conflict_4 span name one c) = in_no_conflict m p.exports span name c
can_merge m p _ (merging.package_cycle_6 home one c) = no_cycle (λ p. p) (graph_package_uses (joined_graph m)) p.packages c.p c.q c.on_cycle
can_merge m p _ (merging.mismatch_8 from into joined apart) = joined_accepted m p.gates from into (record { joined = joined; apart = apart })
can_merge m p _ (merging.borrow_in_result_15 message one c) = results_fine m p.results message c
can_merge m p _ (merging.interface_cycle_22 message one c) = no_cycle p.rank (graph_uses (joined_graph m)) p.uses c.i c.j c.on_cycle
can_merge m p _ (merging.merge_mismatch_24 message c) = are_one m p.interfaces p.worlds p.types message c
can_merge m p _ (merging.offset_overflow_27 from to known past) = fits m p.spans (record { from = from; to = to; known = known; past = past })

-- what differs in nothing is told nothing of
pub differs_in_nothing : (m : GraphMerge) → interfaces_pass m ≡ true → worlds_pass m ≡ true → structures_from m ≡ structures_into m → (span : OptionalSpan) (message : List ℕ) → IsMergeCause m (Semantic span message cause.MergeMismatch) → ⊥
differs_in_nothing m interfaces worlds types _ _ (merging.merge_mismatch_24 message c) = are_one m interfaces worlds types message c
