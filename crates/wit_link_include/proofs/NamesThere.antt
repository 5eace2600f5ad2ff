-- What the entries of a world name that can be included is there.
use Rattle.std.proofs.Common.{◌≡◌, ◌<◌, inl, inr, ℕ, Bool, true, false, List, [], ◌++◌, map, length, Option, Some, None, slice_get, refl, subst, Contains, if◌then◌else◌}
use Rattle.std.proofs.lemmas.List.Elements.{Contains-append_cases}
use Rattle.std.proofs.lemmas.Option.{slice_get_within}
use Rattle.std.specs.List.{flat_map}
use Rattle.std.specs.Option.{option_map_or}
use Rattle.wit_digraph.specs.facts.MemberFacts.{Contains-cons_cases, Contains-flat_map_cases, Contains-nil}
use Rattle.wit_data.specs.Entries.{IsExport, IsImport, ItemUsesOwn}
use Rattle.wit_data.specs.Kind.{function_references}
use Rattle.wit_data.specs.declared.function.Function.{Function}
use Rattle.wit_data.specs.declared.interface.Interface.{Interface}
use Rattle.wit_data.specs.declared.types.TypeDef.{TypeDef}
use Rattle.wit_data.specs.declared.world.World.{World}
use Rattle.wit_data.specs.declared.world.WorldItem.{WorldItem}
use Rattle.wit_data.specs.declared.world.WorldKey.{WorldKey}
use Rattle.wit_data.specs.declared.types.TypeOwner.TheVariants as owner
use Rattle.wit_data.specs.declared.world.WorldItem.TheVariants as item
use Rattle.wit_data.specs.declared.world.WorldKey.TheVariants as key
use Rattle.wit_graph_data.specs.declared.graph.Graph.{Graph}
use Rattle.wit_graph_theory.specs.facts.ListFacts.{Contains-map_cases, found_at, place_of}
use Rattle.wit_link_spec.specs.Include.{belongs_to, entry_mentions}
use Rattle.wit_link_spec.specs.laws.StageFacts.{CanInclude}
use Rattle.wit_link_include.specs.steps.Included.{NamesThere}
use Rattle.wit_link_spec.specs.steps.Parts.{interface_mentions}

module _ (g : Graph) (from : ℕ) (old : World) (can : CanInclude g from old) where
  in_types : (i : ℕ) (interface : Interface) → slice_get g.interfaces i ≡ Some interface → (t : ℕ) → Contains (map (λ (e : List ℕ × ℕ). e.1) interface.types) t → t < length g.types
  in_types i interface at t has =
      let listed = Contains-map_cases (λ (e : List ℕ × ℕ). e.1) interface.types t has in
      let place = place_of interface.types listed.0 listed.1 in
      let there = found_at (λ (def : TypeDef). (def.name ≡ Some listed.0.0) × (def.owner ≡ owner.Interface i)) g.types listed.0.1 ((can.graph.interfaces i interface at).own_types place.0 listed.0 place.1) in
      subst (λ (x : ℕ). x < length g.types) listed.2 (slice_get_within g.types listed.0.1 there.0 there.1)

  in_functions : (i : ℕ) (interface : Interface) → slice_get g.interfaces i ≡ Some interface → (t : ℕ) → Contains (flat_map (λ (e : List ℕ × Function). function_references e.1) interface.functions) t → t < length g.types
  in_functions i interface at t has =
      let listed = Contains-flat_map_cases (λ (e : List ℕ × Function). function_references e.1) interface.functions t has in
      let place = place_of interface.functions listed.0 listed.1.0 in
      let named = place_of (function_references listed.0.1) t listed.1.1 in
      ((can.graph.interfaces i interface at).own_functions place.0 listed.0 place.1 named.0 t named.1).there

  in_interface : (i : ℕ) (o : Option Interface) → slice_get g.interfaces i ≡ o → (t : ℕ) → Contains (option_map_or interface_mentions o []) t → t < length g.types
  in_interface i None at t has = absurd (Contains-nil has)
  in_interface i (Some interface) at t has =
      elim (Contains-append_cases (map (λ (e : List ℕ × ℕ). e.1) interface.types) (flat_map (λ (e : List ℕ × Function). function_references e.1) interface.functions) t has) [
        | inl listed ↦ in_types i interface at t listed
        | inr used ↦ in_functions i interface at t used
      ]

  in_going : (i : ℕ) (b : Bool) (t : ℕ) → Contains (if b then option_map_or interface_mentions (slice_get g.interfaces i) [] else []) t → t < length g.types
  in_going i true t has = in_interface i (slice_get g.interfaces i) refl t has
  in_going i false t has = absurd (Contains-nil has)

  in_entry : (k : WorldKey) (held : WorldItem) → IsImport g.interfaces g.types from k held → ItemUsesOwn g.types from held → (t : ℕ) → Contains (entry_mentions g old (k, held)) t → t < length g.types
  in_entry k (item.Interface i stability docs span external_id) is own t has = in_going i (belongs_to g old i) t has
  in_entry k (item.Function f) is own t has = let place = place_of (function_references f) t has in (own place.0 t place.1).there
  in_entry (key.Interface f) (item.Type_ u span) is own t has = absurd is
  in_entry (key.Name name) (item.Type_ u span) is own t has =
      let found = found_at (λ (def : TypeDef). (def.name ≡ Some name) × (def.owner ≡ owner.World from)) g.types u is in
      let within : u < length g.types = slice_get_within g.types u found.0 found.1 in
      elim (Contains-cons_cases u t [] has) [ inl same ↦ subst (λ (x : ℕ). x < length g.types) same within | inr none ↦ absurd (Contains-nil none) ]

  import_of : (k : WorldKey) (held : WorldItem) → IsExport g.interfaces k held → IsImport g.interfaces g.types from k held
  import_of (key.Name name) (item.Interface i stability docs span external_id) is = is
  import_of (key.Name name) (item.Function f) is = is
  import_of (key.Name name) (item.Type_ u span) is = absurd is
  import_of (key.Interface f) held is = is

  pub names_there : NamesThere g old
  names_there t has =
      let part = Contains-flat_map_cases (entry_mentions g old) (old.imports ++ old.exports) t has in
      elim (Contains-append_cases old.imports old.exports part.0 part.1.0) [
        | inl among ↦ let place = place_of old.imports part.0 among in let good = can.world.imports place.0 part.0 place.1 in in_entry part.0.0 part.0.1 good.is good.own t part.1.1
        | inr among ↦ let place = place_of old.exports part.0 among in let good = can.world.exports place.0 part.0 place.1 in in_entry part.0.0 part.0.1 (import_of part.0.0 part.0.1 good.is) good.own t part.1.1
      ]
