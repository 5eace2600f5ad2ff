-- The steps that look for a mismatch: what is looked up, the loops, and from what they tell to the definitions.
use Rattle.std.proofs.Common.{◌≡◌, ◌≢◌, ◌∙◌, ℕ, ◌+◌, ◌<◌, ◌≤◌, true, false, List, [], ◌∷◌, ◌++◌, append_assoc, length, Option, Some, None, option_and_then, slice_get, refl, sym, ap, subst, arith, below_more, codes, Contains, IfNone}
use Rattle.std.proofs.lemmas.Option.{slice_get_within}
use Rattle.std.proofs.lemmas.Bool.{false≢true}
use Rattle.std.proofs.lemmas.List.Elements.{Contains-append_right}
use Rattle.wit_data.specs.Entries.{Entry, item_interface}
use Rattle.wit_names.specs.PackageName.{package_name_text}
use Rattle.wit_data.specs.declared.interface.Interface.{Interface}
use Rattle.wit_names.specs.declared.package_name.PackageName.{PackageName}
use Rattle.wit_data.specs.declared.world.WorldItem.{WorldItem}
use Rattle.wit_digraph.specs.facts.MemberFacts.{Contains-here}
use Rattle.wit_graph_data.specs.declared.graph.Package.{Package}
use Rattle.wit_remap_spec.specs.FunctionMismatch.{HaveFunctionMismatch}
use Rattle.wit_graph_theory.specs.facts.ListFacts.{contained_at, place_of}
use Rattle.wit_graph_theory.specs.facts.OptionFacts.{some_parts, some_same, some_whole}
use Rattle.wit_merge_spec.specs.Cause as agreement
use Rattle.wit_merge_spec.specs.Cause.{EntriesDiffer, GraphsDiffer, ItemsDiffer, same_sort, HasNoMismatch}
use Rattle.wit_merge_spec.specs.Matches.{GraphMerge, Pair, TypePair, counterpart_interface, counterpart_world, type_pairs}
use Rattle.wit_merge_spec.specs.MismatchText.{entry_link, linked, part_links}
use Rattle.wit_merge_match.specs.steps.Differing as differing
use Rattle.wit_merge_match.specs.steps.Differing.{DifferAt, EntryDiffers, HeldDiffer, InterfaceDiffersAt, InterfacesDiffer, PartDiffers, WorldDiffersAt, WorldsDiffer}
use Rattle.wit_merge_match.specs.steps.Structures.{FirstMismatch, NoneDiffer}
use Rattle.wit_merge_spec.specs.steps.Parts.{type_link, entry_count_text, other_interface_text, other_sort_text}

-- what follows where there is nothing
pub if_none : {X P Q : Type 0} → (P → Q) → (o : Option X) → IfNone o P → IfNone o Q
if_none follows None h = follows h
if_none follows (Some x) h = h

-- ---- messages

pub entry_text : (word key text : List ℕ) → word ++ (codes " `" ++ (key ++ (codes "` didn't match target world: " ++ text))) ≡ linked (entry_link word key ∷ []) text
entry_text word key text = simp append_assoc

pub type_text : (name text : List ℕ) → codes "mismatch in type `" ++ (name ++ (codes "`: " ++ text)) ≡ linked (type_link name ∷ []) text
type_text name text = simp append_assoc

pub part_text : (home : PackageName) (sort name text : List ℕ)
    → codes "failed to merge package `" ++ (package_name_text home ++ (codes "` into existing copy: failed to merge " ++ (sort ++ (codes " `" ++ (name ++ (codes "`: " ++ text)))))) ≡ linked (part_links home sort name) text
part_text home sort name text = simp append_assoc

-- ---- loops

-- nothing is told of the first n places
abbrev pub NoneBelow : {Y : Type 0} → (ℕ → Y → Type 0) → ℕ → Type 0
NoneBelow {Y} Differ n = (k : ℕ) → k < n → (y : Y) → Differ k y → ⊥

pub none_next : {Y : Type 0} (Differ : ℕ → Y → Type 0) (n : ℕ) → NoneBelow Differ n → ((y : Y) → Differ n y → ⊥) → NoneBelow Differ (n + 1)
none_next {Y} Differ n before here = below_more (λ (k : ℕ). (y : Y) → Differ k y → ⊥) n before here

-- ---- things side by side

module _ {X Y : Type 0} (found : ℕ → Option ℕ) (others ours : List X) (Differ : X → X → Y → Type 0) where
  -- the two don't differ
  pub alike : (i : ℕ) (a b : X) → Some a ≡ slice_get others i → Some b ≡ option_and_then (slice_get ours) (found i) → ((y : Y) → Differ a b y → ⊥)
      → (y : Y) → DifferAt found others ours Differ i y → ⊥
  alike i a b a_is b_is none y d =
      let first : d.from ≡ a = some_same d.from a (sym d.from_is ∙ sym a_is) in
      let second : d.into ≡ b = some_same d.into b (sym d.into_is ∙ sym b_is) in
      none y (subst (λ (x : X). Differ a x y) second (subst (λ (x : X). Differ x d.into y) first d.differ))

  -- none of all does
  pub none_anywhere : (n : ℕ) → length others ≤ n → NoneBelow (DifferAt found others ours Differ) n → (i : ℕ) (y : Y) → DifferAt found others ours Differ i y → ⊥
  none_anywhere n reached below i y d = let within : i < length others = slice_get_within others i d.from d.from_is in below i (omega arith) y d

  -- so of pairs
  pub to_pair : (i : ℕ) (y : Y) → DifferAt found others ours Differ i y → (p : Pair found others ours) × Differ p.from p.into y
  to_pair i y d =
      let parts = some_parts (slice_get ours) (found i) d.into d.into_is in
      (record { x = i; from = d.from; x' = parts.0; into = d.into; from_is = d.from_is; matched = parts.1; into_is = parts.2 }, d.differ)

  pub from_pair : (p : Pair found others ours) (y : Y) → Differ p.from p.into y → DifferAt found others ours Differ p.x y
  from_pair p y differ = record { from = p.from; into = p.into; from_is = p.from_is; into_is = some_whole (slice_get ours) (found p.x) p.x' p.into p.matched p.into_is; differ = differ }

-- parts that differ in nothing
pub part_alike : (packages : List Package) (sort : List ℕ) (home : Option ℕ) (name : Option (List ℕ)) (Differ : List ℕ → Type 0) → ((text : List ℕ) → Differ text → ⊥)
    → (message : List ℕ) → PartDiffers packages sort home name Differ message → ⊥
part_alike packages sort home name Differ none message d = none d.text d.differ

-- ---- interfaces of entries

module _ (m : GraphMerge) (i i' : ℕ) where
  pub held_alike : counterpart_interface m i ≡ Some i' → (a b : Interface) → Some a ≡ slice_get m.other.interfaces i → Some b ≡ slice_get m.graph.interfaces i'
      → (a.name ≡ None → (text : List ℕ) → HaveFunctionMismatch a b text → ⊥) → (text : List ℕ) → HeldDiffer m i i' text → ⊥
  held_alike matched a b a_is b_is none text (differing.apart not_matched told) = not_matched matched
  held_alike matched a b a_is b_is none text (differing.unnamed from into from_is into_is same nameless apart) =
      let first : from ≡ a = some_same from a (sym from_is ∙ sym a_is) in
      let second : into ≡ b = some_same into b (sym into_is ∙ sym b_is) in
      none (subst (λ (x : Interface). x.name ≡ None) first nameless) text
      (subst (λ (x : Interface). HaveFunctionMismatch a x text) second (subst (λ (x : Interface). HaveFunctionMismatch x into text) first apart))

-- ---- items

module _ (m : GraphMerge) (from into : WorldItem) where
  pub sorts_differ : same_sort from into ≡ false → (text : List ℕ) → text ≡ other_sort_text → ItemsDiffer m from into text
  sorts_differ off text told = subst (ItemsDiffer m from into) (sym told) (agreement.sorts off)

  module _ (i i' : ℕ) (from_is : item_interface from ≡ i ∷ []) (into_is : item_interface into ≡ i' ∷ []) where
    pub interfaces_differ : (text : List ℕ) → HeldDiffer m i i' text → ItemsDiffer m from into text
    interfaces_differ text (differing.apart not_matched told) = subst (ItemsDiffer m from into) (sym told) (agreement.interfaces i i' from_is into_is not_matched)
    interfaces_differ text (differing.unnamed a b a_is b_is matched nameless apart) =
        agreement.unnamed text (record { x = i; from = a; x' = i'; into = b; from_is = a_is; matched = matched; into_is = b_is }) from_is into_is nameless apart

    pub interfaces_alike : same_sort from into ≡ true → ((text : List ℕ) → HeldDiffer m i i' text → ⊥) → (text : List ℕ) → ItemsDiffer m from into text → ⊥
    interfaces_alike one none _ (agreement.sorts off) = false≢true (sym off ∙ one)
    interfaces_alike one none _ (agreement.interfaces j j' j_is j'_is not_matched) =
        let first : j ≡ i = cc in
        let second : j' ≡ i' = cc in
        none other_interface_text
        (differing.apart (subst (λ (k : ℕ). counterpart_interface m i ≢ Some k) second (subst (λ (k : ℕ). counterpart_interface m k ≢ Some j') first not_matched)) refl)
    interfaces_alike one none _ (agreement.unnamed text p j_is j'_is nameless apart) =
        let first : p.x ≡ i = cc in
        let second : p.x' ≡ i' = cc in
        none text
        (differing.unnamed p.from p.into (subst (λ (k : ℕ). slice_get m.other.interfaces k ≡ Some p.from) first p.from_is)
        (subst (λ (k : ℕ). slice_get m.graph.interfaces k ≡ Some p.into) second p.into_is)
        (subst (λ (k : ℕ). counterpart_interface m i ≡ Some k) second (subst (λ (k : ℕ). counterpart_interface m k ≡ Some p.x') first p.matched)) nameless apart)

-- ---- entries

module _ (m : GraphMerge) (word : List ℕ) (into : List Entry) where
  module _ (from : List Entry) where
    -- what differs in the entry at a place
    abbrev pub EntryDiffersAt : ℕ → List ℕ → Type 0
    EntryDiffersAt n text = (e : Entry) × (slice_get from n ≡ Some e) × EntryDiffers m word into e.0 e.1 text

    pub entry_at_alike : (n : ℕ) (e : Entry) → slice_get from n ≡ Some e → ((text : List ℕ) → EntryDiffers m word into e.0 e.1 text → ⊥) → (text : List ℕ) → EntryDiffersAt n text → ⊥
    entry_at_alike n e at none text d =
        let same : d.0 ≡ e = some_same d.0 e (sym d.1 ∙ at) in
        none text (subst (λ (x : Entry). EntryDiffers m word into x.0 x.1 text) same d.2)

    pub counts_differ : length from ≢ length into → (text : List ℕ) → text ≡ entry_count_text word → EntriesDiffer m word from into text
    counts_differ apart text told = subst (EntriesDiffer m word from into) (sym told) (agreement.count apart)

    pub entry_differs : (n : ℕ) (e : Entry) → slice_get from n ≡ Some e → (text : List ℕ) → EntryDiffers m word into e.0 e.1 text → EntriesDiffer m word from into text
    entry_differs n e at text (differing.absent missing told) = subst (EntriesDiffer m word from into) (sym told) (agreement.absent e (contained_at from n e at) missing)
    entry_differs n e at text (differing.apart there ending found apart told) =
        subst (EntriesDiffer m word from into) (sym told) (agreement.apart e there ending (contained_at from n e at) found apart)

    pub entries_alike : (n : ℕ) → length from ≡ length into → length from ≤ n → NoneBelow EntryDiffersAt n → (text : List ℕ) → EntriesDiffer m word from into text → ⊥
    entries_alike n same reached below _ (agreement.count apart) = apart same
    entries_alike n same reached below _ (agreement.absent e listed missing) =
        let place = place_of from e listed in
        let within : place.0 < length from = slice_get_within from place.0 e place.1 in
        below place.0 (omega arith) _ (e, place.1, differing.absent missing refl)
    entries_alike n same reached below _ (agreement.apart e there text listed found apart) =
        let place = place_of from e listed in
        let within : place.0 < length from = slice_get_within from place.0 e place.1 in
        below place.0 (omega arith) _ (e, place.1, differing.apart there text found apart refl)

-- ---- graphs

module _ (m : GraphMerge) where
  pub interface_differs : (i : ℕ) (message : List ℕ) → InterfaceDiffersAt m i message → GraphsDiffer m message
  interface_differs i message at =
      let pair = to_pair (counterpart_interface m) m.other.interfaces m.graph.interfaces (InterfacesDiffer m) i message at in
      let d = pair.1 in
      let home = some_parts (slice_get m.other.packages) pair.0.from.package d.there d.there_is in
      subst (GraphsDiffer m) (sym d.message_is) (agreement.interfaces pair.0 home.0 d.there d.called d.text d.called_is home.1 home.2 d.differ)

  pub world_differs : (w : ℕ) (message : List ℕ) → WorldDiffersAt m w message → GraphsDiffer m message
  world_differs w message at =
      let pair = to_pair (counterpart_world m) m.other.worlds m.graph.worlds (WorldsDiffer m) w message at in
      let d = pair.1 in
      let home = some_parts (slice_get m.other.packages) pair.0.from.package d.there d.there_is in
      let called : d.called ≡ pair.0.from.name = some_same d.called pair.0.from.name (sym d.called_is) in
      subst (GraphsDiffer m) (sym (d.message_is ∙ ap (λ (name : List ℕ). linked (part_links d.there.name (codes "world") name) d.text) called))
      (agreement.worlds pair.0 home.0 d.there d.differ.exported d.text home.1 home.2 d.differ.differ)

  -- of matched types the first that differ
  pub types_differ : (message : List ℕ) → FirstMismatch m (type_pairs m) message → GraphsDiffer m message
  types_differ message first = agreement.types message first

  pub are_one : ((i : ℕ) (message : List ℕ) → InterfaceDiffersAt m i message → ⊥) → ((w : ℕ) (message : List ℕ) → WorldDiffersAt m w message → ⊥) → NoneDiffer m (type_pairs m) → HasNoMismatch m
  are_one interfaces worlds types _ (agreement.interfaces p home there name text named of is apart) =
      interfaces p.x _
      (from_pair (counterpart_interface m) m.other.interfaces m.graph.interfaces (InterfacesDiffer m) p _
      (record { there = there; there_is = some_whole (slice_get m.other.packages) p.from.package home there of is; called = name; called_is = named; text = text; differ = apart; message_is = refl }))
  are_one interfaces worlds types _ (agreement.worlds p home there exported text of is d) =
      worlds p.x _
      (from_pair (counterpart_world m) m.other.worlds m.graph.worlds (WorldsDiffer m) p _
      (record {
        there = there;
        there_is = some_whole (slice_get m.other.packages) p.from.package home there of is;
        called = p.from.name;
        called_is = refl;
        text = text;
        differ = record { exported = exported; differ = d };
        message_is = refl;
      }))
  are_one interfaces worlds types _ (agreement.types message first) =
      let among : Contains (type_pairs m) first.pair = subst (λ (l : List TypePair). Contains l first.pair) (sym first.first.are) (Contains-append_right first.first.before (first.pair ∷ first.first.after) first.pair (Contains-here first.pair first.first.after)) in
      types first.pair first.first.is.0 among first.first.is.1
