-- Turned worlds: a world whose exports become its imports, or whose imports become its exports.
-- Source: `importize` and `exportize` of wit-parser 0.263.0.
use Rattle.std.specs.Prelude.{ℕ, ◌≡◌, Bool, true, false, not, List, [], ◌∷◌, ◌++◌, Option, Some, None, codes, filter, filter_map, map, nat_eq, slice_get, slice_set, Contains, if◌then◌else◌, zip, ◌≢◌, length, unwrap_or}
use Rattle.std.specs.Map.{keys_of}
use Rattle.std.specs.Option.{option_map_or}
use Rattle.wit_data.specs.declared.world.World.{World}
use Rattle.wit_data.specs.declared.world.WorldItem.{WorldItem}
use Rattle.wit_data.specs.declared.world.WorldKey.{WorldKey}
use Rattle.wit_data.specs.declared.world.WorldItem.TheVariants as item
use Rattle.wit_data.specs.declared.world.WorldKey.TheVariants as key
use Rattle.wit_elaboration.specs.Elaboration.{elaborated_world, graph_uses}
use Rattle.wit_elaboration.specs.Entries.{Entry}
use Rattle.wit_graph_data.specs.declared.graph.Graph.{Graph}
use Rattle.wit_graph_data.specs.declared.graph.Package.{Package}
use Rattle.std.specs.Borrow.{Bor}
use Rattle.std.specs.Fn.{Shared}
use Rattle.wit_names.specs.PackageName.{package_name_text}
use Rattle.wit_names.specs.declared.package_name.PackageName.{PackageName}
use Rattle.wit_graph_data.specs.Error.{NoCause}
use Rattle.wit_graph_data.specs.declared.cause.Cause.TheVariants.{LabelClash, NameTaken, TypeExported}
use Rattle.wit_graph_data.specs.declared.error_kind.ResolveErrorKind.{ResolveErrorKind}
use Rattle.wit_graph_data.specs.declared.error_kind.ResolveErrorKind.TheVariants.{InvalidTransitiveDependency, Semantic}
use Rattle.wit_elaboration.specs.Imported.{HasTransitiveConflict, IsRefusedName}

-- what a world transformation makes of a world: its new name, and its new lists before they are elaborated
pub record WorldLists : Type 0 where
  pub name : List ℕ
  pub imports : List Entry
  pub exports : List Entry

-- ---- exports become imports

-- is the item a type?
abbrev pub is_type : WorldItem → Bool
is_type (item.Interface i stability docs span external_id) = false
is_type (item.Function function) = false
is_type (item.Type_ t span) = true

-- the types among some entries
abbrev pub type_entries : List Entry → List Entry
type_entries entries = filter (λ (e : Entry). is_type e.1) entries

-- the new name is the one that is given, be it empty, or else the old one with a suffix; of the imports the types alone
-- stay, and behind them stand all exports
abbrev pub importized : Option (List ℕ) → World → WorldLists
importized out world = record {
  name = unwrap_or out (world.name ++ codes "-importized");
  imports = type_entries world.imports ++ world.exports;
  exports = [];
}

-- ---- imports become exports

-- the entries for which this was answered, where there is an answer for each in order
abbrev pub entries_by_answer : Bool → List Entry → List Bool → List Entry
entries_by_answer answer entries answers =
    filter_map (λ (p : Entry × Bool). if (if answer then p.1 else not p.1) then Some p.0 else None)
    (zip entries answers)

-- the imports for which true was answered become the exports, the others stay; the former exports are dropped
abbrev pub exportized : List Bool → Option (List ℕ) → World → WorldLists
exportized answers out world = record {
  name = unwrap_or out (world.name ++ codes "-exportized");
  imports = entries_by_answer false world.imports answers;
  exports = entries_by_answer true world.imports answers;
}

-- ---- the transformed graph

-- the packages, of which this one has world w last in its table, under its new name
abbrev pub with_renamed : List Package → Option ℕ → ℕ → List ℕ → List Package
with_renamed packages None w name = packages
with_renamed packages (Some p) w name =
    option_map_or (λ (home : Package).
    slice_set packages p (record home {
      worlds = filter
          (λ (e : List ℕ × ℕ). not (nat_eq e.1 w)) home.worlds ++ (name, w) ∷ [];
    }))
    (slice_get packages p) packages

-- the graph with world w transformed: the world under its new name, elaborated, and last in the table of its package
abbrev pub transformed_at : Graph → ℕ → World → WorldLists → Graph
transformed_at g w world lists = record g {
  worlds =
      slice_set g.worlds w (elaborated_world g
      (record world { name = lists.name; imports = lists.imports; exports = lists.exports }));
  packages = with_renamed g.packages world.package w lists.name;
}

-- the graph with world w transformed, and as it was where there is no such world
abbrev pub transformed : Graph → ℕ → (World → WorldLists) → Graph
transformed g w lists =
    option_map_or (λ (world : World). transformed_at g w world (lists world)) (slice_get g.worlds w)
    g

-- Why a transformation of a world is refused. After a refusal by 19, 20 or 21 there is no transformed world, so no
-- conflict (4) is a reason beside these. Of what the new exports refuse the first is told; else, of several reasons any
-- may be told.
-- Source: wit-parser 0.263.0; that a taken name and an exported type are refused, and their texts, are rules
-- of this project.

-- 20: the package has another world of the new name
abbrev pub name_taken_text : List ℕ → PackageName → List ℕ
name_taken_text name home =
    codes "world `"
    ++ (name
    ++ (codes "` is already defined in package `" ++ (package_name_text home ++ codes "`")))

-- ---- what holds against a transformation

-- the package of world w is `home`, and has another world of this name
abbrev pub HasNameTaken : Graph → ℕ → World → List ℕ → Package → Type 0
HasNameTaken g w world name home =
    (p : ℕ) × (world.package ≡ Some p) × (slice_get g.packages p ≡ Some home)
    × ((v : ℕ) × Contains home.worlds (name, v) × (v ≢ w))

-- ---- what exports are refused for

-- the first of some refusals
abbrev pub first_refusal : List (Option ResolveErrorKind) → Option ResolveErrorKind
first_refusal [] = None
first_refusal (None ∷ rest) = first_refusal rest
first_refusal (Some error ∷ rest) = Some error

-- 21: a type would be exported
abbrev pub type_refusal : WorldKey → WorldItem → Option ResolveErrorKind
type_refusal (key.Name label) held =
    if is_type held
    then Some (Semantic None (codes "type import `" ++ (label ++ codes "` cannot be exported"))
    TypeExported)
    else None
type_refusal (key.Interface i) held = None

-- why these can't be the exports of a world: the refusal of the first of them that can't be one
abbrev pub export_refusal : List Entry → Option ResolveErrorKind
export_refusal exports = first_refusal (map (λ (e : Entry). type_refusal e.0 e.1) exports)

-- ---- the reasons, by their numbers

-- why exports of a world can't become its imports
pub data ImportizeCause (g : Graph) (w : ℕ) (world : World) (lists : WorldLists)
    (error : ResolveErrorKind) : Type 0 where
  -- 19: an export has the label of a type import
  label_clash : (label : List ℕ)
      → Contains (keys_of world.exports) (key.Name label)
      × Contains (keys_of (type_entries world.imports)) (key.Name label)
      → error
      ≡ Semantic None
      (codes "world export `" ++ (label ++ codes "` conflicts with import of same name"))
      LabelClash → ImportizeCause g w world lists error
  -- 20: the new name is another world's of the package
  importized_name_taken : (home : Package) → HasNameTaken g w world lists.name home → error
      ≡ Semantic None (name_taken_text lists.name home.name) NameTaken →
      ImportizeCause g w world lists error

-- why imports of a world can't become its exports
pub data ExportizeCause (g : Graph) (w : ℕ) (world : World) (lists : WorldLists)
    (error : ResolveErrorKind) : Type 0 where
  -- 4: the new exports are in conflict, where there is a transformed world
  export_conflict : (name : List ℕ)
      → ((home : Package) → HasNameTaken g w world lists.name home → ⊥)
      → export_refusal lists.exports ≡ None
      → HasTransitiveConflict (graph_uses g) lists.exports
      → IsRefusedName g.packages g.interfaces (graph_uses g) lists.exports name
      → error ≡ InvalidTransitiveDependency world.span name → ExportizeCause g w world lists error
  -- 20: the new name is another world's of the package
  exportized_name_taken : (home : Package) → HasNameTaken g w world lists.name home
      → error ≡ Semantic None (name_taken_text lists.name home.name) NameTaken
      → ExportizeCause g w world lists error
  -- 21: the new exports can't be
  not_exported : export_refusal lists.exports ≡ Some error → ExportizeCause g w world lists error

-- a cause of importizing world w
abbrev pub IsImportizeCause : Graph → ℕ → Option (List ℕ) → ResolveErrorKind → Type 0
IsImportizeCause g w out error =
    (world : World) × (slice_get g.worlds w ≡ Some world)
    × ImportizeCause g w world (importized out world) error

-- a cause of exportizing world w by these answers
abbrev pub IsExportizeCause : Graph → ℕ → List Bool → Option (List ℕ) → ResolveErrorKind → Type 0
IsExportizeCause g w answers out error =
    (world : World) × (slice_get g.worlds w ≡ Some world)
    × ExportizeCause g w world (exportized answers out world) error

-- ---- the same of the world at a place

-- the imports of world w, none where it isn't there
abbrev pub imports_at : Graph → ℕ → List Entry
imports_at g w = option_map_or (λ (world : World). world.imports) (slice_get g.worlds w) []

-- ---- what a filter answered

module _ {F : Type 0} (calls : Shared F (Bor WorldKey × (Bor WorldItem × Unit {0})) Bool) where
  -- a call of f at the key and the item of an entry may give this answer
  pub record MayGive (f : F) (e : Entry) (answer : Bool) : Type 0 where
    pub key : Bor WorldKey
    pub item : Bor WorldItem
    pub key_is : key.now ≡ e.0
    pub item_is : item.now ≡ e.1
    pub given : calls.post f (key, (item, tt)) answer

  -- a filter may answer so of an entry, and without a filter the answer is true
  abbrev pub MayAnswer : Option F → Entry → Bool → Type 0
  MayAnswer None e answer = answer ≡ true
  MayAnswer (Some f) e answer = MayGive f e answer

  -- one answer for each entry, in order
  pub record AreAnswers (filter : Option F) (entries : List Entry) (answers : List Bool) : Type 0
    where
      pub count : length answers ≡ length entries
      pub each : (i : ℕ) (e : Entry) (answer : Bool) → slice_get entries i ≡ Some e
          → slice_get answers i ≡ Some answer → MayAnswer filter e answer

  -- the filter gave answers, by which a transformation is refused with this error
  pub record RefusesExportize (filter : Option F) (old : Graph) (w : ℕ) (out : Option (List ℕ))
      (error : ResolveErrorKind) : Type 0 where
    pub answers : List Bool
    pub given : AreAnswers filter (imports_at old w) answers
    pub cause : IsExportizeCause old w answers out error

  -- the filter gave answers, by which no cause holds against the transformation, and the graph is
  -- transformed by them
  pub record Exportizes (filter : Option F) (old : Graph) (w : ℕ) (out : Option (List ℕ))
      (new : Graph) : Type 0 where
    pub answers : List Bool
    pub given : AreAnswers filter (imports_at old w) answers
    pub accepted : NoCause (IsExportizeCause old w answers out)
    pub is_transformed : new ≡ transformed old w (exportized answers out)
