-- The types of two graphs that are compared: what a comparison tells of two of them, and that they are there.
use Rattle.std.proofs.Common.{◌≡◌, ◌∙◌, ℕ, ◌<◌, List, [], ◌∷◌, inl, inr, length, get_or, Option, None, Some, slice_get, refl, sym, ap, subst, Contains}
use Rattle.std.specs.Map.{lookup}
use Rattle.std.specs.Str.{bytes_eq}
use Rattle.std.proofs.lemmas.Map.Views.{Contains-from_lookup}
use Rattle.std.proofs.lemmas.Option.{slice_get_within}
use Rattle.std.proofs.lemmas.Slice.Eq.{bytes_eq-Decides}
use Rattle.wit_data.specs.Entries.{Entry, IsExport, IsImport}
use Rattle.wit_data.specs.declared.interface.Interface.{Interface}
use Rattle.wit_data.specs.declared.types.TypeDef.{TypeDef}
use Rattle.wit_data.specs.declared.world.World.{World}
use Rattle.wit_data.specs.declared.world.WorldItem.{WorldItem}
use Rattle.wit_data.specs.declared.world.WorldKey.{WorldKey}
use Rattle.wit_data.specs.declared.types.TypeOwner.TheVariants as owner
use Rattle.wit_data.specs.declared.world.WorldItem.TheVariants as item
use Rattle.wit_data.specs.declared.world.WorldKey.TheVariants as key
use Rattle.wit_digraph.specs.facts.MemberFacts.{Contains-cons_cases, Contains-nil}
use Rattle.wit_elaboration.specs.Valid.{IsValid}
use Rattle.wit_graph_data.specs.declared.graph.Graph.{Graph}
use Rattle.wit_elaboration.specs.facts.FreshEntries.{same_key-true}
use Rattle.wit_elaboration.specs.Entries.{same_key}
use Rattle.wit_graph_theory.specs.facts.ListFacts.{found_at, place_of}
use Rattle.wit_graph_theory.specs.facts.OptionFacts.{some_parts}
use Rattle.wit_merge_spec.specs.Matches.{GraphMerge, TypePair, counterpart_interface, counterpart_item, counterpart_key, counterpart_type, counterpart_world, matched_interface, matched_world, paired}
use Rattle.wit_merge_spec.specs.MismatchText.{linked}
use Rattle.wit_merge_match.specs.steps.ComparisonSteps.{IsSound, from_structure, into_structure, matched_by}
use Rattle.wit_merge_spec.specs.facts.DifferenceFacts.{same_no_first}
use Rattle.wit_merge_spec.specs.Structure.{DifferInStructure}
use Rattle.wit_merge_match.specs.declared.comparison.Comparison.{Comparison}
use Rattle.wit_merge_match.specs.declared.comparison.Sides.{Sides}
use Rattle.wit_merge_match.specs.steps.Differing.{merging_of}
use Rattle.wit_merge_match.specs.steps.Structures.{AreComparable, FirstMismatch, IsOf, IsThere, ListsThere, NoneDiffer, TypesThere}
use Rattle.wit_merge_match.specs.declared.matched_graphs.MatchedGraphs.{MatchedGraphs}
use Rattle.wit_merge_spec.specs.steps.Parts.{StructuresDiffer, type_link}

-- ---- what a comparison tells of two types

module _ (c : MatchedGraphs) (comparable : AreComparable c) (comparison : Comparison) (of : IsOf c comparison) where
  matched_same : matched_by comparison.sides ≡ counterpart_type (merging_of c)
  matched_same = λ i t. (ap (λ (l : List (Option ℕ)). get_or l t None) of.matches ∙ comparable.known.types.each t) i

  pub named_told : (name : List ℕ) (t t' : ℕ) (ending text : List ℕ) → DifferInStructure comparison.sides.from.now comparison.sides.into.now (matched_by comparison.sides) t t' ending → text ≡ linked (type_link name ∷ []) ending
      → FirstMismatch (merging_of c) (paired [] name t t' ∷ []) text
  named_told name t t' ending text d text_is = record {
    pair = paired [] name t t';
    first = record {
      before = [];
      after = [];
      are = refl;
      earlier = λ p among differ. Contains-nil among;
      is = (
        ending,
        subst (λ (found : ℕ → Option ℕ). DifferInStructure c.other.now.types c.graph.now.types found t t' ending) matched_same
            (subst (λ (types : List TypeDef). DifferInStructure c.other.now.types types (matched_by comparison.sides) t t' ending) of.into
            (subst (λ (types : List TypeDef). DifferInStructure types comparison.sides.into.now (matched_by comparison.sides) t t' ending) of.from d)),
      );
    };
    message_is = text_is;
  }

  pub named_alike : (name : List ℕ) (t t' : ℕ) → from_structure comparison.sides t ≡ into_structure comparison.sides t' → NoneDiffer (merging_of c) (paired [] name t t' ∷ [])
  named_alike name t t' same p ending among differ = elim (Contains-cons_cases (paired [] name t t') p [] among) [
    | inl is ↦
        let one : StructuresDiffer (merging_of c) t t' ending = subst (λ (r : TypePair). StructuresDiffer (merging_of c) r.from r.into ending) (sym is) differ in
        let two = subst (λ (found : ℕ → Option ℕ). DifferInStructure c.other.now.types c.graph.now.types found t t' ending) (sym matched_same) one in
        let three = subst (λ (types : List TypeDef). DifferInStructure c.other.now.types types (matched_by comparison.sides) t t' ending) (sym of.into) two in
        let four = subst (λ (types : List TypeDef). DifferInStructure types comparison.sides.into.now (matched_by comparison.sides) t t' ending) (sym of.from) three in
        same_no_first (from_structure comparison.sides t) (into_structure comparison.sides t') four.x four.y same four.first
    | inr none ↦ Contains-nil none
  ]

-- it stays one of these two graphs
pub is_of : (c : MatchedGraphs) (old new : Comparison) → IsOf c old → new.sides ≡ old.sides → IsSound new → IsOf c new
is_of c old new of same sound = record {
  from = ap (λ (s : Sides). s.from.now) same ∙ of.from;
  into = ap (λ (s : Sides). s.into.now) same ∙ of.into;
  matches = ap (λ (s : Sides). s.matches.now) same ∙ of.matches;
  sound = sound;
}

-- ---- what is compared is there

-- what stands under a name
pub found_there : (types : List TypeDef) (listed : List (List ℕ × ℕ)) → ListsThere types listed → (name : List ℕ) (t : ℕ) → Some t ≡ lookup (bytes_eq name) listed → t < length types
found_there types listed there name t found = there (name, t) (Contains-from_lookup (λ a b. (bytes_eq-Decides a b).0) name t listed (sym found))

-- and what under a key
pub item_there : (m : GraphMerge) (types : List TypeDef) (entries : List Entry) → TypesThere types entries → (k : WorldKey) (held : WorldItem) → Some held ≡ counterpart_item m entries k → IsThere types held
item_there m types entries there k held found =
    let parts = some_parts (λ k'. lookup (same_key k') entries) (counterpart_key m k) held (sym found) in there (parts.0, held) (Contains-from_lookup same_key-true parts.0 held entries parts.2)

module _ (g : Graph) (valid : IsValid g) where
  -- the types of an interface
  pub listed_there : (i : ℕ) (interface : Interface) → slice_get g.interfaces i ≡ Some interface → (name : List ℕ) (t : ℕ) → Contains interface.types (name, t) → t < length g.types
  listed_there i interface at name t has =
      let place = place_of interface.types (name, t) has in
      let is = found_at (λ (def : TypeDef). (def.name ≡ Some name) × (def.owner ≡ owner.Interface i)) g.types t (valid.well_formed.owners.own_types i interface at place.0 (name, t) place.1) in
      slice_get_within g.types t is.0 is.1

  pub lists_there : (i : ℕ) (interface : Interface) → slice_get g.interfaces i ≡ Some interface → ListsThere g.types interface.types
  lists_there i interface at e has = listed_there i interface at e.0 e.1 has

  -- and those of worlds
  import_there : (w : ℕ) (k : WorldKey) (held : WorldItem) → IsImport g.interfaces g.types w k held → IsThere g.types held
  import_there w (key.Name name) (item.Type_ t span) is =
      let def = found_at (λ (d : TypeDef). (d.name ≡ Some name) × (d.owner ≡ owner.World w)) g.types t is in slice_get_within g.types t def.0 def.1
  import_there w (key.Name name) (item.Interface i stability docs span external_id) is = tt
  import_there w (key.Name name) (item.Function f) is = tt
  import_there w (key.Interface f) (item.Type_ t span) is = absurd is
  import_there w (key.Interface f) (item.Interface i stability docs span external_id) is = tt
  import_there w (key.Interface f) (item.Function function) is = tt

  export_there : (k : WorldKey) (held : WorldItem) → IsExport g.interfaces k held → IsThere g.types held
  export_there (key.Name name) (item.Type_ t span) is = absurd is
  export_there (key.Name name) (item.Interface i stability docs span external_id) is = tt
  export_there (key.Name name) (item.Function f) is = tt
  export_there (key.Interface f) (item.Type_ t span) is = absurd is
  export_there (key.Interface f) (item.Interface i stability docs span external_id) is = tt
  export_there (key.Interface f) (item.Function function) is = tt

  pub imports_there : (w : ℕ) (world : World) → slice_get g.worlds w ≡ Some world → TypesThere g.types world.imports
  imports_there w world at e among = let place = place_of world.imports e among in import_there w e.0 e.1 (valid.well_formed.worlds.imports w world at place.0 e place.1)

  pub exports_there : (w : ℕ) (world : World) → slice_get g.worlds w ≡ Some world → TypesThere g.types world.exports
  exports_there w world at e among = let place = place_of world.exports e among in export_there e.0 e.1 (valid.well_formed.worlds.exports w world at place.0 e place.1)

-- those of what is matched
module _ (m : GraphMerge) (valid : IsValid m.graph) where
  pub beside_lists : (i : ℕ) (into : Interface) → Some into ≡ matched_interface m i → ListsThere m.graph.types into.types
  beside_lists i into is = let parts = some_parts (slice_get m.graph.interfaces) (counterpart_interface m i) into (sym is) in lists_there m.graph valid parts.0 into parts.2

  pub beside_imports : (w : ℕ) (into : World) → Some into ≡ matched_world m w → TypesThere m.graph.types into.imports
  beside_imports w into is = let parts = some_parts (slice_get m.graph.worlds) (counterpart_world m w) into (sym is) in imports_there m.graph valid parts.0 into parts.2

  pub beside_exports : (w : ℕ) (into : World) → Some into ≡ matched_world m w → TypesThere m.graph.types into.exports
  beside_exports w into is = let parts = some_parts (slice_get m.graph.worlds) (counterpart_world m w) into (sym is) in exports_there m.graph valid parts.0 into parts.2
