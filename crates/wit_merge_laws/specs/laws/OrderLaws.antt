-- Laws of merging graphs that agree in all that a merge demands: agreement has no direction, merging in either order
-- gives the same names, labels and keys, and what leads to a resource still does.
use Rattle.std.specs.Prelude.{◌≡◌, ◌↔◌, ℕ, Bool, true, List, Contains}
use Rattle.wit_data.specs.Each.{SomeAt}
use Rattle.wit_data.specs.Entries.{Entry, entries_of}
use Rattle.wit_names.specs.declared.package_name.PackageName.{PackageName}
use Rattle.wit_data.specs.declared.world.World.{World}
use Rattle.wit_data.specs.declared.world.WorldItem.{WorldItem}
use Rattle.wit_data.specs.declared.world.WorldKey.{WorldKey}
use Rattle.wit_data.specs.declared.world.WorldKey.TheVariants as key
use Rattle.wit_elaboration.specs.Valid.{IsValid}
use Rattle.wit_graph_data.specs.declared.graph.Graph.{Graph}
use Rattle.wit_remap_spec.specs.Resources.{leads_to_resource}
use Rattle.wit_merge_spec.specs.Cause.{same_sort, HasNoMismatch, MergeIsAccepted}
use Rattle.wit_merge_spec.specs.Matches.{GraphMerge}
use Rattle.wit_merge_spec.specs.Merged.{merged_type, merged}
use Rattle.wit_merge_laws.specs.facts.JoinedGood.{MergeCanElaborate}
use Rattle.wit_merge_laws.specs.laws.MergingLaws.{merge_of_graphs}
use Rattle.wit_merge_laws.specs.laws.Names.{HasLabel, HaveSameNames, IsInterface, IsWorld, Label}

-- if nothing differs between two graphs one way, nothing differs the other way
abbrev pub AgreementIsSymmetric : Type 0
AgreementIsSymmetric =
    (g h : Graph) (offset back : ℕ) → IsValid g → IsValid h
    → HasNoMismatch (merge_of_graphs g h offset) → HasNoMismatch (merge_of_graphs h g back)

-- ---- the order of a merge

-- an item stands under a label of a world
pub record StandsUnder (g : Graph) (l : Label) (held : WorldItem) : Type 0 where
  pub w : ℕ
  pub of : IsWorld g l.home l.world w
  pub stands : HasLabel g w l.exported l.label held

-- a key of a world without its ids: a label, or the key of an interface by its name. The two are never the same, whatever
-- their texts
pub data Key : Type 0 where
  under_label : List ℕ → Key
  under_interface : PackageName → List ℕ → Key

-- key k of a world of the graph is this one
abbrev pub IsKey : Graph → Key → WorldKey → Type 0
IsKey g (under_label text) k = k ≡ key.Name text
IsKey g (under_interface of name) k = (i : ℕ) × IsInterface g of name i × (k ≡ key.Interface i)

-- a world has an entry under this key among its exports or its imports
pub record HasKey (g : Graph) (home : PackageName) (world : List ℕ) (exported : Bool)
    (under : Key) : Type 0 where
  pub w : ℕ
  pub of : IsWorld g home world w
  pub entry : Entry
  pub listed : SomeAt g.worlds w (λ (there : World). Contains (entries_of exported there) entry)
  pub key_is : IsKey g under entry.0

-- two graphs are alike but for ids, order and what their things carry: the same names; under each label things of one
-- sort; each world with the same labels and keys
pub record AreAlike (g h : Graph) : Type 0 where
  pub names : HaveSameNames g h
  pub sorts : (l : Label) (held held' : WorldItem) → StandsUnder g l held → StandsUnder h l held'
      → same_sort held held' ≡ true
  pub keys : (home : PackageName) (world : List ℕ) (exported : Bool) (under : Key)
      → HasKey g home world exported under ↔ HasKey h home world exported under

-- where merging succeeds in either order, both orders give the same
abbrev pub MergesAreAlike : Type 0
MergesAreAlike =
    (g h : Graph) (offset back : ℕ) → IsValid g → IsValid h
    → MergeIsAccepted (merge_of_graphs g h offset) → MergeIsAccepted (merge_of_graphs h g back)
    → AreAlike (merged (merge_of_graphs g h offset)) (merged (merge_of_graphs h g back))

-- so they do where two graphs agree, and in their merged graph no interface would use itself and no world is in conflict:
-- whatever else refuses either order
abbrev pub MergingIsOrderFree : Type 0
MergingIsOrderFree =
    (g h : Graph) (offset back : ℕ) → IsValid g → IsValid h
    → HasNoMismatch (merge_of_graphs g h offset) → MergeCanElaborate (merge_of_graphs g h offset)
    → AreAlike (merged (merge_of_graphs g h offset)) (merged (merge_of_graphs h g back))

-- since then the merged graph of the other order has neither
abbrev pub EitherOrderElaborates : Type 0
EitherOrderElaborates =
    (g h : Graph) (offset back : ℕ) → IsValid g → IsValid h
    → HasNoMismatch (merge_of_graphs g h offset) → MergeCanElaborate (merge_of_graphs g h offset)
    → MergeCanElaborate (merge_of_graphs h g back)

-- ---- resources

-- a type of either graph that is a resource, or leads to one by aliases, still does where it is in the merged graph; so
-- does each that is the argument of an `own` or a `borrow`
abbrev pub ResourcesStay : Type 0
ResourcesStay = (m : GraphMerge) (t : ℕ) → IsValid m.graph → IsValid m.other → HasNoMismatch m
    → (leads_to_resource m.graph.types t ≡ true → leads_to_resource (merged m).types t ≡ true)
    × (leads_to_resource m.other.types t ≡ true
    → leads_to_resource (merged m).types (merged_type m t) ≡ true)
