-- The cause of each error: of one error there is one alone.
use Rattle.std.proofs.Common.{◌≡◌, ◌∙◌, ◌⊎◌, inl, inr, ℕ, Bool, true, false, List, [], ◌∷◌, map, Some, slice_get, refl, sym, ap, Contains}
use Rattle.std.proofs.lemmas.Bool.{false≢true}
use Rattle.std.specs.Prelude.{nat_eq}
use Rattle.std.specs.List.{list_any}
use Rattle.std.specs.Map.{keys_of}
use Rattle.wit_data.specs.Entries.{Entry}
use Rattle.wit_data.specs.declared.function.Function.{Function}
use Rattle.wit_data.specs.declared.world.IncludeName.{IncludeName}
use Rattle.wit_names.specs.declared.package_name.PackageName.{PackageName}
use Rattle.wit_data.specs.declared.stability.Stability.{Stability}
use Rattle.wit_data.specs.declared.world.World.{World}
use Rattle.wit_data.specs.declared.world.WorldInclude.{WorldInclude}
use Rattle.wit_data.specs.declared.world.WorldItem.TheVariants as item
use Rattle.wit_data.specs.declared.world.WorldKey.TheVariants as key
use Rattle.wit_graph_data.specs.Error.{error_number}
use Rattle.wit_graph_data.specs.declared.cause.Cause.TheVariants as cause
use Rattle.wit_graph_data.specs.declared.graph.Graph.{Graph}
use Rattle.wit_graph_data.specs.declared.error_kind.ResolveErrorKind.{ResolveErrorKind}
use Rattle.wit_graph_data.specs.declared.error_kind.ResolveErrorKind.TheVariants.{PackageNotFound, WorldNotFound, InterfaceNotFound, InvalidTransitiveDependency, DuplicatePackage, ItemShadowing, StabilityMismatch, Semantic, OffsetOverflow, OutOfMemory}
use Rattle.wit_labels.specs.Setters.{getter_label, is_setter_label}
use Rattle.wit_labels.specs.Strong.{Clashes}
use Rattle.wit_link_spec.specs.Addition.{Addition}
use Rattle.wit_link_spec.specs.Cause.{IsAdditionCause}
use Rattle.wit_link_spec.specs.facts.Linked.{IncludeIsReached}
use Rattle.wit_link_spec.specs.Cause as reason
use Rattle.wit_link_spec.specs.WorldReasons.{IsCauseAtWorld, IsFinishCause, IsIncludeCause, IsJoinCause, IsLabelCause, IsListCause, IsRenamed, IsShadowed, renamed_key}
use Rattle.wit_remap_spec.specs.Joined.{include_stability, Disagree, HasStability}
use Rattle.wit_link_spec.specs.Gates.{OptionalSpan}
use Rattle.wit_link_spec.specs.Include.{EntryLists, PartiallyLinked, is_other_package, lists_of, with_entry_lists}
use Rattle.wit_link_spec.specs.Reasons.{ForeignTypeMissing, HasExcludedOwner, IsDuplicate, IsNoResource, IsUnreleased, LacksInterface, LacksPackage, LacksVersion, LacksWorld, RefersToExcluded, ReturnsBorrow}
use Rattle.wit_link_spec.specs.WorldReasons as world
use Rattle.examples_resolve.proofs.OfGraphs.AtWorlds.{HaveLists, IsCauseAtFinish, IsCauseAtInclude, IsMet, made, met, of_finish, of_include, of_labels, written}
use Rattle.wit_link_spec.specs.steps.Parts.{begun_whole, image_at, AdditionOverflows, WorldIsInConflict, IsReached}

-- ---- an include, and a world that is finished

-- one list of a world, and the other that is brought to it
abbrev pub AreLists : EntryLists → EntryLists → List Entry → List Entry → Type 0
AreLists now old current brought = ((current ≡ now.imports) × (brought ≡ old.imports)) ⊎ ((current ≡ now.exports) × (brought ≡ old.exports))

-- a label is brought that is there
pub record LabelIsTaken (b : PartiallyLinked) (include : WorldInclude) (old : World) (name : List ℕ) : Type 0 where
  pub current : List Entry
  pub brought : List Entry
  pub lists : AreLists b.lists (lists_of old) current brought
  pub shadowed : IsShadowed current (map (λ (e : Entry). renamed_key include.names e.0) brought) name

-- an interface is brought that is there with another stability
pub record StabilitiesAreApart (home : ℕ) (b : PartiallyLinked) (old : World) (brings has : Stability) : Type 0 where
  pub current : List Entry
  pub brought : List Entry
  pub lists : AreLists b.lists (lists_of old) current brought
  pub i : ℕ
  pub comes : HasStability brought i brings
  pub there : HasStability current i has
  pub apart : Disagree brings has
  pub counts : include_stability (is_other_package old.package home) brings has ≡ brings

module _ (home : ℕ) (b : PartiallyLinked) (i : WorldInclude) (old : World) where
  taken_in : (other : Bool) (current brought : List Entry) (span : OptionalSpan) (word called name : List ℕ) → AreLists b.lists (lists_of old) current brought
      → IsJoinCause other i called current brought (ItemShadowing span word name) → LabelIsTaken b i old name
  taken_in other current brought _ _ _ _ lists (world.shadowing_7 name is) = record { current = current; brought = brought; lists = lists; shadowed = is }

  pub taken_of : (span : OptionalSpan) (word name : List ℕ) → IsIncludeCause home b i old (ItemShadowing span word name) → LabelIsTaken b i old name
  taken_of span word name (world.of_imports _ is) = taken_in _ b.lists.imports old.imports span word _ name (inl (refl, refl)) is
  taken_of span word name (world.of_exports _ is) = taken_in _ b.lists.exports old.exports span word _ name (inr (refl, refl)) is

  apart_in : (current brought : List Entry) (span : OptionalSpan) (word : List ℕ) (brings has : Stability) → AreLists b.lists (lists_of old) current brought
      → IsJoinCause (is_other_package old.package home) i word current brought (StabilityMismatch span brings has) → StabilitiesAreApart home b old brings has
  apart_in current brought _ _ _ _ lists (world.mismatch_8 at brings has comes there apart counts) =
      record { current = current; brought = brought; lists = lists; i = at; comes = comes; there = there; apart = apart; counts = counts }

  pub apart_of : (span : OptionalSpan) (brings has : Stability) → IsIncludeCause home b i old (StabilityMismatch span brings has) → StabilitiesAreApart home b old brings has
  apart_of span brings has (world.of_imports _ is) = apart_in b.lists.imports old.imports span _ brings has (inl (refl, refl)) is
  apart_of span brings has (world.of_exports _ is) = apart_in b.lists.exports old.exports span _ brings has (inr (refl, refl)) is

  join_number : (other : Bool) (word : List ℕ) (current brought : List Entry) (numbers : List ℕ) → list_any (nat_eq 7) numbers ≡ true → list_any (nat_eq 8) numbers ≡ true → (error : ResolveErrorKind)
      → IsJoinCause other i word current brought error → list_any (nat_eq (error_number error)) numbers ≡ true
  join_number other word current brought numbers seven eight _ (world.shadowing_7 name is) = seven
  join_number other word current brought numbers seven eight _ (world.mismatch_8 at brings has comes there apart counts) = eight

  no_join : (other : Bool) (word : List ℕ) (current brought : List Entry) (span : OptionalSpan) (message : List ℕ) → IsJoinCause other i word current brought (Semantic span message cause.RenameUnmatched) → ⊥
  no_join other word current brought span message is = false≢true (join_number other word current brought (7 ∷ 8 ∷ []) refl refl (Semantic span message cause.RenameUnmatched) is)

  -- a renaming is of no label
  pub unmatched_of : (span : OptionalSpan) (message : List ℕ) → IsIncludeCause home b i old (Semantic span message cause.RenameUnmatched)
      → (j : ℕ) × (name : IncludeName) × (slice_get i.names j ≡ Some name) × (IsRenamed old name → ⊥)
  unmatched_of span message (world.of_imports _ is) = absurd (no_join _ _ _ _ span message is)
  unmatched_of span message (world.of_exports _ is) = absurd (no_join _ _ _ _ span message is)
  unmatched_of _ _ (world.rename_unmatched_16 j name is earlier unmatched) = (j, name, is, unmatched)

  include_number : (numbers : List ℕ) → list_any (nat_eq 7) numbers ≡ true → list_any (nat_eq 8) numbers ≡ true → list_any (nat_eq 16) numbers ≡ true → (error : ResolveErrorKind) → IsIncludeCause home b i old error
      → list_any (nat_eq (error_number error)) numbers ≡ true
  include_number numbers seven eight sixteen error (world.of_imports _ is) = join_number _ _ _ _ numbers seven eight error is
  include_number numbers seven eight sixteen error (world.of_exports _ is) = join_number _ _ _ _ numbers seven eight error is
  include_number numbers seven eight sixteen _ (world.rename_unmatched_16 j name is earlier unmatched) = sixteen

list_number : (called word : List ℕ) (entries : List Entry) (numbers : List ℕ) → list_any (nat_eq 17) numbers ≡ true → list_any (nat_eq 18) numbers ≡ true → (error : ResolveErrorKind) → IsListCause called word entries error
    → list_any (nat_eq (error_number error)) numbers ≡ true
list_number called word entries numbers seventeen eighteen _ (world.not_strongly_unique_17 n m is) = seventeen
list_number called word entries numbers seventeen eighteen _ (world.no_getter_18 label f has setter absent) = eighteen

label_number : (w : World) (numbers : List ℕ) → list_any (nat_eq 17) numbers ≡ true → list_any (nat_eq 18) numbers ≡ true → (error : ResolveErrorKind) → IsLabelCause w error → list_any (nat_eq (error_number error)) numbers ≡ true
label_number w numbers seventeen eighteen error (inl is) = list_number _ _ _ numbers seventeen eighteen error is
label_number w numbers seventeen eighteen error (inr is) = list_number _ _ _ numbers seventeen eighteen error is

module _ (g : Graph) (w : World) where
  finish_number : (numbers : List ℕ) → list_any (nat_eq 4) numbers ≡ true → list_any (nat_eq 17) numbers ≡ true → list_any (nat_eq 18) numbers ≡ true → (error : ResolveErrorKind) → IsFinishCause g w error
      → list_any (nat_eq (error_number error)) numbers ≡ true
  finish_number numbers four seventeen eighteen _ (world.conflict_4 name conflict name_is) = four
  finish_number numbers four seventeen eighteen error (world.of_labels _ is) = label_number w numbers seventeen eighteen error is

  pub conflict_in : (span : OptionalSpan) (name : List ℕ) → IsFinishCause g w (InvalidTransitiveDependency span name) → WorldIsInConflict g w name
  conflict_in _ _ (world.conflict_4 name conflict name_is) = record { conflict = conflict; name_is = name_is }
  conflict_in span name (world.of_labels _ is) = absurd (false≢true (label_number w (17 ∷ 18 ∷ []) refl refl (InvalidTransitiveDependency span name) is))

-- ---- a world

-- labels of world k that are not strongly unique
pub record ClashAt (a : Addition) (k : ℕ) : Type 0 where
  pub lists : EntryLists
  pub have : HaveLists a k lists
  pub n : List ℕ
  pub m : List ℕ
  pub entries : List Entry
  pub list : (entries ≡ lists.imports) ⊎ (entries ≡ lists.exports)
  pub clash : Clashes (keys_of entries) n m

-- a setter of world k without a getter
pub record LonelySetterAt (a : Addition) (k : ℕ) : Type 0 where
  pub lists : EntryLists
  pub have : HaveLists a k lists
  pub label : List ℕ
  pub f : Function
  pub entries : List Entry
  pub list : (entries ≡ lists.imports) ⊎ (entries ≡ lists.exports)
  pub setter : Contains entries (key.Name label, item.Function f) × (is_setter_label label ≡ true)
  pub absent : Contains (keys_of entries) (key.Name (getter_label label)) → ⊥

module _ (a : Addition) (k : ℕ) where
  clash_in : (lists : EntryLists) → HaveLists a k lists → (w : World) → lists_of w ≡ lists → (span : OptionalSpan) (message : List ℕ) → IsLabelCause w (Semantic span message cause.NotStronglyUnique) → ClashAt a k
  clash_in lists have w are _ _ (inl (world.not_strongly_unique_17 n m is)) =
      record { lists = lists; have = have; n = n; m = m; entries = w.imports; list = inl (ap (λ (l : EntryLists). l.imports) are); clash = is }
  clash_in lists have w are _ _ (inr (world.not_strongly_unique_17 n m is)) =
      record { lists = lists; have = have; n = n; m = m; entries = w.exports; list = inr (ap (λ (l : EntryLists). l.exports) are); clash = is }

  pub clash_met : (span : OptionalSpan) (message : List ℕ) → IsMet a k (Semantic span message cause.NotStronglyUnique) → ClashAt a k
  clash_met span message (of_include j image earlier c) =
      absurd (false≢true (include_number _ _ _ _ (7 ∷ 8 ∷ 16 ∷ []) refl refl refl (Semantic span message cause.NotStronglyUnique) c.cause))
  clash_met span message (of_finish image fine c) = by c.cause
    where
      by : IsFinishCause c.whole.graph (with_entry_lists (image_at a c.at.id c.at.world) c.whole.lists) (Semantic span message cause.NotStronglyUnique) → ClashAt a k
      by (world.of_labels _ is) =
          clash_in (begun_whole a k c.at).lists (made c.at image fine) (with_entry_lists (image_at a c.at.id c.at.world) c.whole.lists) (ap (λ (b : PartiallyLinked). b.lists) c.whole_is) span message is
  clash_met span message (of_labels at none is) = clash_in (lists_of (image_at a at.id at.world)) (written at none) (image_at a at.id at.world) refl span message is

  pub clash_at : (span : OptionalSpan) (message : List ℕ) → IsCauseAtWorld a k (Semantic span message cause.NotStronglyUnique) → ClashAt a k
  clash_at span message c = clash_met span message (met a k _ c)

  alone_in : (lists : EntryLists) → HaveLists a k lists → (w : World) → lists_of w ≡ lists → (span : OptionalSpan) (message : List ℕ) → IsLabelCause w (Semantic span message cause.NoGetter) → LonelySetterAt a k
  alone_in lists have w are _ _ (inl (world.no_getter_18 label f has setter absent)) =
      record { lists = lists; have = have; label = label; f = f; entries = w.imports; list = inl (ap (λ (l : EntryLists). l.imports) are); setter = (has, setter); absent = absent }
  alone_in lists have w are _ _ (inr (world.no_getter_18 label f has setter absent)) =
      record { lists = lists; have = have; label = label; f = f; entries = w.exports; list = inr (ap (λ (l : EntryLists). l.exports) are); setter = (has, setter); absent = absent }

  pub lonely_met : (span : OptionalSpan) (message : List ℕ) → IsMet a k (Semantic span message cause.NoGetter) → LonelySetterAt a k
  lonely_met span message (of_include j image earlier c) =
      absurd (false≢true (include_number _ _ _ _ (7 ∷ 8 ∷ 16 ∷ []) refl refl refl (Semantic span message cause.NoGetter) c.cause))
  lonely_met span message (of_finish image fine c) = by c.cause
    where
      by : IsFinishCause c.whole.graph (with_entry_lists (image_at a c.at.id c.at.world) c.whole.lists) (Semantic span message cause.NoGetter) → LonelySetterAt a k
      by (world.of_labels _ is) =
          alone_in (begun_whole a k c.at).lists (made c.at image fine) (with_entry_lists (image_at a c.at.id c.at.world) c.whole.lists) (ap (λ (b : PartiallyLinked). b.lists) c.whole_is) span message is
  lonely_met span message (of_labels at none is) = alone_in (lists_of (image_at a at.id at.world)) (written at none) (image_at a at.id at.world) refl span message is

  pub lonely_at : (span : OptionalSpan) (message : List ℕ) → IsCauseAtWorld a k (Semantic span message cause.NoGetter) → LonelySetterAt a k
  lonely_at span message c = lonely_met span message (met a k _ c)

  finish_at : (span : OptionalSpan) (name : List ℕ) → IsCauseAtWorld a k (InvalidTransitiveDependency span name) → IsCauseAtFinish a k (InvalidTransitiveDependency span name)
  finish_at span name c = by (met a k _ c)
    where
      by : IsMet a k (InvalidTransitiveDependency span name) → IsCauseAtFinish a k (InvalidTransitiveDependency span name)
      by (of_include j image earlier is) = absurd (false≢true (include_number _ _ _ _ (7 ∷ 8 ∷ 16 ∷ []) refl refl refl (InvalidTransitiveDependency span name) is.cause))
      by (of_finish image fine is) = is
      by (of_labels at none is) = absurd (false≢true (label_number (image_at a at.id at.world) (17 ∷ 18 ∷ []) refl refl (InvalidTransitiveDependency span name) is))

  world_number : (error : ResolveErrorKind) → IsCauseAtWorld a k error → list_any (nat_eq (error_number error)) (4 ∷ 7 ∷ 8 ∷ 16 ∷ 17 ∷ 18 ∷ []) ≡ true
  world_number error c = by (met a k error c)
    where
      by : IsMet a k error → list_any (nat_eq (error_number error)) (4 ∷ 7 ∷ 8 ∷ 16 ∷ 17 ∷ 18 ∷ []) ≡ true
      by (of_include j image earlier is) = include_number _ _ _ _ (4 ∷ 7 ∷ 8 ∷ 16 ∷ 17 ∷ 18 ∷ []) refl refl refl error is.cause
      by (of_finish image fine is) = finish_number _ _ (4 ∷ 7 ∷ 8 ∷ 16 ∷ 17 ∷ 18 ∷ []) refl refl refl error is.cause
      by (of_labels at none is) = label_number (image_at a at.id at.world) (4 ∷ 7 ∷ 8 ∷ 16 ∷ 17 ∷ 18 ∷ []) refl refl error is

  -- an error of another number is told of no world
  not_of_world : (error : ResolveErrorKind) → list_any (nat_eq (error_number error)) (4 ∷ 7 ∷ 8 ∷ 16 ∷ 17 ∷ 18 ∷ []) ≡ false → IsCauseAtWorld a k error → ⊥
  not_of_world error other c = differ_bools (list_any (nat_eq (error_number error)) (4 ∷ 7 ∷ 8 ∷ 16 ∷ 17 ∷ 18 ∷ [])) other (world_number error c)
    where
      differ_bools : (b : Bool) → b ≡ false → b ≡ true → ⊥
      differ_bools true off on = cc
      differ_bools false off on = cc

-- ---- the addition

module _ (a : Addition) where
  pub of_package : (span : OptionalSpan) (requested : PackageName) (known : List PackageName) → IsAdditionCause a (PackageNotFound span requested known) → LacksPackage a span requested known
  of_package _ _ _ (reason.package_not_found_1 span requested known c) = c
  of_package span requested known (reason.of_world k _ reached c) = absurd (not_of_world a k _ refl c)

  pub of_world : (span : OptionalSpan) (requested : List ℕ) (home : PackageName) → IsAdditionCause a (WorldNotFound span requested home) → LacksWorld a span requested home
  of_world _ _ _ (reason.world_not_found_2 span requested home c) = c
  of_world span requested home (reason.of_world k _ reached c) = absurd (not_of_world a k _ refl c)

  pub of_interface : (span : OptionalSpan) (requested : List ℕ) (home : PackageName) → IsAdditionCause a (InterfaceNotFound span requested home) → LacksInterface a span requested home
  of_interface _ _ _ (reason.interface_not_found_3 span requested home c) = c
  of_interface span requested home (reason.of_world k _ reached c) = absurd (not_of_world a k _ refl c)

  pub of_conflict : (span : OptionalSpan) (name : List ℕ) → IsAdditionCause a (InvalidTransitiveDependency span name) → (k : ℕ) × IsCauseAtFinish a k (InvalidTransitiveDependency span name)
  of_conflict span name (reason.of_world k _ reached c) = (k, finish_at a k span name c)

  pub of_duplicate : (name : PackageName) (span1 span2 : OptionalSpan) → IsAdditionCause a (DuplicatePackage name span1 span2) → IsDuplicate a name span1 span2
  of_duplicate _ _ _ (reason.duplicate_5 name span1 span2 c) = c
  of_duplicate name span1 span2 (reason.of_world k _ reached c) = absurd (not_of_world a k _ refl c)

  -- of an include
  abbrev FoundAtInclude : ResolveErrorKind → Type 0
  FoundAtInclude error = (k : ℕ) × (j : ℕ) × IncludeIsReached a k j × IsCauseAtInclude a k j error

  at_include : (k : ℕ) (error : ResolveErrorKind) → list_any (nat_eq (error_number error)) (4 ∷ 17 ∷ 18 ∷ []) ≡ false → IsReached a k → IsMet a k error → FoundAtInclude error
  at_include k error other reached (of_include j image earlier is) = (k, j, record { has_image = image; worlds = reached; includes = earlier }, is)
  at_include k error other reached (of_finish image fine is) = absurd (false≢true (sym other ∙ finish_number _ _ (4 ∷ 17 ∷ 18 ∷ []) refl refl refl error is.cause))
  at_include k error other reached (of_labels at none is) = absurd (false≢true (sym other ∙ label_number (image_at a at.id at.world) (4 ∷ 17 ∷ 18 ∷ []) refl refl error is))

  pub of_shadowing : (span : OptionalSpan) (word name : List ℕ) → IsAdditionCause a (ItemShadowing span word name) → FoundAtInclude (ItemShadowing span word name)
  of_shadowing span word name (reason.of_world k _ reached c) = at_include k _ refl reached (met a k _ c)

  pub of_mismatch : (span : OptionalSpan) (from into : Stability) → IsAdditionCause a (StabilityMismatch span from into) → FoundAtInclude (StabilityMismatch span from into)
  of_mismatch span from into (reason.of_world k _ reached c) = at_include k _ refl reached (met a k _ c)

  pub of_version : (span : OptionalSpan) (message : List ℕ) → IsAdditionCause a (Semantic span message cause.GateWithoutVersion) → LacksVersion a span message
  of_version _ _ (reason.gate_without_version_9 span message c) = c
  of_version span message (reason.of_world k _ reached c) = absurd (not_of_world a k _ refl c)

  pub of_unreleased : (span : OptionalSpan) (message : List ℕ) → IsAdditionCause a (Semantic span message cause.GateUnreleased) → IsUnreleased a span message
  of_unreleased _ _ (reason.gate_unreleased_10 span message c) = c
  of_unreleased span message (reason.of_world k _ reached c) = absurd (not_of_world a k _ refl c)

  pub of_excluded : (span : OptionalSpan) (message : List ℕ) → IsAdditionCause a (Semantic span message cause.Excluded) → RefersToExcluded a span message
  of_excluded _ _ (reason.excluded_11 span message c) = c
  of_excluded span message (reason.of_world k _ reached c) = absurd (not_of_world a k _ refl c)

  pub of_excluded_owner : (span : OptionalSpan) (message : List ℕ) → IsAdditionCause a (Semantic span message cause.ExcludedOwner) → HasExcludedOwner a span message
  of_excluded_owner _ _ (reason.excluded_owner_12 span message c) = c
  of_excluded_owner span message (reason.of_world k _ reached c) = absurd (not_of_world a k _ refl c)

  pub of_type : (span : OptionalSpan) (message : List ℕ) → IsAdditionCause a (Semantic span message cause.TypeNotDefined) → ForeignTypeMissing a span message
  of_type _ _ (reason.type_not_defined_13 span message c) = c
  of_type span message (reason.of_world k _ reached c) = absurd (not_of_world a k _ refl c)

  pub of_resource : (span : OptionalSpan) (message : List ℕ) → IsAdditionCause a (Semantic span message cause.NotAResource) → IsNoResource a span message
  of_resource _ _ (reason.not_a_resource_14 span message c) = c
  of_resource span message (reason.of_world k _ reached c) = absurd (not_of_world a k _ refl c)

  pub of_borrow : (span : OptionalSpan) (message : List ℕ) → IsAdditionCause a (Semantic span message cause.BorrowInResult) → ReturnsBorrow a span message
  of_borrow _ _ (reason.borrow_in_result_15 span message c) = c
  of_borrow span message (reason.of_world k _ reached c) = absurd (not_of_world a k _ refl c)

  pub of_rename : (span : OptionalSpan) (message : List ℕ) → IsAdditionCause a (Semantic span message cause.RenameUnmatched) → FoundAtInclude (Semantic span message cause.RenameUnmatched)
  of_rename span message (reason.of_world k _ reached c) = at_include k _ refl reached (met a k _ c)

  pub of_alike : (span : OptionalSpan) (message : List ℕ) → IsAdditionCause a (Semantic span message cause.NotStronglyUnique) → (k : ℕ) × IsReached a k × ClashAt a k
  of_alike span message (reason.of_world k _ reached c) = (k, reached, clash_at a k span message c)

  pub of_getter : (span : OptionalSpan) (message : List ℕ) → IsAdditionCause a (Semantic span message cause.NoGetter) → (k : ℕ) × LonelySetterAt a k
  of_getter span message (reason.of_world k _ reached c) = (k, lonely_at a k span message c)

  pub of_overflow : IsAdditionCause a OffsetOverflow → AdditionOverflows a
  of_overflow (reason.offset_overflow_27 from to known past) = record { from = from; to = to; known = known; past = past }
  of_overflow (reason.of_world k _ reached c) = absurd (not_of_world a k _ refl c)

  pub no_memory : IsAdditionCause a OutOfMemory → ⊥
  no_memory (reason.of_world k _ reached c) = not_of_world a k _ refl c
