-- Each use in two graphs that are one is a use in one of them.
use Rattle.std.proofs.Common.{◌≡◌, ◌∙◌, ◌⊎◌, inl, inr, ℕ, List, Option, None, Some, option_map, IsSome, slice_get, refl, sym, ap, subst, Contains}
use Rattle.wit_digraph.specs.Relation.{direct}
use Rattle.wit_data.specs.Ownership.{IsListed}
use Rattle.wit_data.specs.Uses.{alias_target, interface_uses, other_owner, type_interface_dep}
use Rattle.wit_data.specs.declared.interface.Interface.{Interface}
use Rattle.wit_data.specs.declared.types.TypeDef.{TypeDef}
use Rattle.wit_data.specs.declared.types.TypeOwner.{TypeOwner}
use Rattle.wit_data.specs.declared.types.TypeOwner.TheVariants as owner
use Rattle.wit_elaboration.specs.Elaboration.{graph_uses}
use Rattle.wit_elaboration.specs.Valid.{IsValid}
use Rattle.wit_graph_data.specs.declared.graph.Graph.{Graph}
use Rattle.wit_graph_theory.specs.facts.CarriedImages.{from_mapped}
use Rattle.wit_graph_theory.specs.facts.DependencyFacts.{Needs, filter_map_from, filter_map_into, needs_from, needs_into}
use Rattle.wit_graph_theory.specs.facts.GoodTypes.{IsAliased, from_if}
use Rattle.wit_remap_spec.specs.Image.{name_image, owner_image, type_image}
use Rattle.wit_graph_theory.specs.facts.ListFacts.{found_at, from_row, in_row, place_of, same_at}
use Rattle.wit_graph_theory.specs.facts.ReferredFacts.{alias_image}
use Rattle.wit_graph_theory.specs.steps.Sources.{Stands}
use Rattle.wit_graph_theory.specs.facts.UsesAcyclic.{other_from}
use Rattle.wit_remap_spec.specs.Resources.{own_of}
use Rattle.wit_merge_spec.specs.Merged.{joined_graph, merge_maps, merged_interface, merged_type}
use Rattle.wit_merge_spec.specs.Matches.{GraphMerge}
use Rattle.wit_merge_spec.specs.Cause.{HasNoMismatch}
use Rattle.wit_merge_laws.specs.facts.JoinedGood.{joined_good}
use Rattle.wit_merge_laws.specs.facts.TypesStand.{TypeFrom, an_own, joined_keeps, of_graph, of_other, old_type_at, type_at_from, type_stands}
use Rattle.wit_merge_spec.specs.steps.Parts.{joined_type}

-- ---- images of names and owners

owner_from : (m : GraphMerge) (by : TypeOwner) (f' : ℕ) → owner_image (merge_maps m) by ≡ owner.Interface f' → (i : ℕ) × (by ≡ owner.Interface i) × (f' ≡ merged_interface m i)
owner_from m (owner.Interface i) f' is = (i, refl, place is)
  where
    place : {a b : ℕ} → owner.Interface a ≡ owner.Interface b → b ≡ a
    place same = cc
owner_from m (owner.World w) f' is = cc
owner_from m owner.None f' is = cc

name_from : (m : GraphMerge) (by : TypeOwner) (o : Option (List ℕ)) (name : List ℕ) → option_map (name_image (merge_maps m) by) o ≡ Some name → o ≡ Some name
name_from m by None name is = cc
name_from m (owner.World w) (Some n) name is = is
name_from m (owner.Interface i) (Some n) name is = is
name_from m owner.None (Some n) name is = is

-- ---- uses

-- a type of this name is listed by interface i, and needs interface j
record Listing (g : Graph) (i j : ℕ) : Type 0 where
  t : ℕ
  def : TypeDef
  name : List ℕ
  there : slice_get g.types t ≡ Some def
  called : def.name ≡ Some name
  by : def.owner ≡ owner.Interface i
  needs : Needs g.types t j

-- so that interface uses the other
listing_uses : (g : Graph) → IsValid g → (i j : ℕ) → Listing g i j → Contains (direct (graph_uses g) i) j
listing_uses g valid i j l =
    let by_owner = subst (λ (o : TypeOwner). IsListed g.interfaces g.worlds l.t (Some l.name) o) l.by (subst (λ (n : Option (List ℕ)). IsListed g.interfaces g.worlds l.t n l.def.owner) l.called (valid.well_formed.owners.listed l.t l.def l.there)) in
    let found = found_at (λ (interface : Interface). Contains interface.types (l.name, l.t)) g.interfaces i by_owner in
    in_row (interface_uses g.types) g.interfaces i found.0 j found.1 (filter_map_into (λ (e : List ℕ × ℕ). type_interface_dep g.types e.1) found.0.types (l.name, l.t) j found.2 (needs_into g.types l.t j l.needs))

-- what an alias of a valid graph names is there
pub target_there : (g : Graph) → IsValid g → (t : ℕ) (def : TypeDef) (u : ℕ) → slice_get g.types t ≡ Some def → alias_target def.kind ≡ Some u → (named : TypeDef) × (slice_get g.types u ≡ Some named)
target_there g valid t def u at names =
    let found = found_at (λ (named : TypeDef). IsSome named.name × _) g.types u (from_if (IsAliased g.types g.interfaces def.owner) (alias_target def.kind) u (valid.well_formed.references.aliases t def at) names) in
    (found.0, found.1)

module _ (m : GraphMerge) (valid : IsValid m.graph) (valid_other : IsValid m.other) (one : HasNoMismatch m) where
  abbrev g : Graph
  g = joined_graph m

  -- a use in the other graph, each interface at its place
  pub record UseOfOther (f' j' : ℕ) : Type 0 where
    pub i : ℕ
    pub j : ℕ
    pub place : f' ≡ merged_interface m i
    pub used_place : j' ≡ merged_interface m j
    pub used : Contains (direct (graph_uses m.other) i) j

  -- what a type of the graph needs in the two as one it needed
  pub old_needs : (t' j' : ℕ) (old : TypeDef) → slice_get m.graph.types t' ≡ Some old → Needs g.types t' j' → Needs m.graph.types t' j'
  old_needs t' j' old is needs =
      let keeps = joined_keeps m (t', old) in
      let same = same_at g.types t' t' (joined_type m (t', old)) needs.alias refl (old_type_at m t' old is) needs.there in
      let names : alias_target old.kind ≡ Some needs.target = ap alias_target (sym keeps.kind) ∙ (ap (λ (d : TypeDef). alias_target d.kind) same ∙ needs.names) in
      let target = target_there m.graph valid t' old needs.target is names in
      let target_keeps = joined_keeps m (needs.target, target.0) in
      let named = same_at g.types needs.target needs.target (joined_type m (needs.target, target.0)) needs.named refl (old_type_at m needs.target target.0 target.1) needs.target_there in
      let mine : old.owner ≡ needs.alias.owner = sym keeps.owner ∙ ap (λ (d : TypeDef). d.owner) same in
      let theirs : target.0.owner ≡ needs.named.owner = sym target_keeps.owner ∙ ap (λ (d : TypeDef). d.owner) named in
      record { alias = old; there = is; target = needs.target; names = names; named = target.0; target_there = target.1; other = (λ k. other_owner (mine k) (theirs k)) ∙ needs.other }

  -- the type of the two as one that makes a use: of interface f' under this name
  module _ (f' j' t' : ℕ) (name : List ℕ) (needs : Needs g.types t' j') (called : needs.alias.name ≡ Some name) (by_is : needs.alias.owner ≡ owner.Interface f') where
    old_use : (old : TypeDef) → slice_get m.graph.types t' ≡ Some old → joined_type m (t', old) ≡ needs.alias → Contains (direct (graph_uses m.graph) f') j'
    old_use old is same =
        let keeps = joined_keeps m (t', old) in
        listing_uses m.graph valid f' j' (record {
          t = t';
          def = old;
          name = name;
          there = is;
          called = sym keeps.name ∙ (ap (λ (d : TypeDef). d.name) same ∙ called);
          by = sym keeps.owner ∙ (ap (λ (d : TypeDef). d.owner) same ∙ by_is);
          needs = old_needs t' j' old is needs;
        })

    new_use : (t : ℕ) (old : TypeDef) → slice_get m.other.types t ≡ Some old → type_image (merge_maps m) old ≡ needs.alias → UseOfOther f' j'
    new_use t old is same =
        let by = owner_from m old.owner f' (ap (λ (d : TypeDef). d.owner) same ∙ by_is) in
        let target = from_mapped (merged_type m) (alias_target old.kind) needs.target (sym (alias_image (merge_maps m) old.kind) ∙ (ap (λ (d : TypeDef). alias_target d.kind) same ∙ needs.names)) in
        let named = target_there m.other valid_other t old target.0 is target.1 in
        let stands = found_at (Stands (merge_maps m) named.0) g.types (merged_type m target.0) (type_stands m valid valid_other target.0 named.0 named.1) in
        let same_named = same_at g.types (merged_type m target.0) needs.target stands.0 needs.named (sym target.2) stands.1 needs.target_there in
        let mine : needs.alias.owner ≡ owner.Interface (merged_interface m by.0) = by_is ∙ ap (λ (x : ℕ). owner.Interface x) by.2 in
        let theirs : needs.named.owner ≡ owner_image (merge_maps m) named.0.owner = ap (λ (d : TypeDef). d.owner) (sym same_named) ∙ stands.2.owner in
        let needs_other : other_owner (owner.Interface (merged_interface m by.0)) (owner_image (merge_maps m) named.0.owner) ≡ Some j' = (λ k. other_owner (sym mine k) (sym theirs k)) ∙ needs.other in
        let other = other_from (merge_maps m) by.0 named.0.owner j' needs_other in
        record {
          i = by.0;
          j = other.0;
          place = by.2;
          used_place = other.2;
          used = listing_uses m.other valid_other by.0 other.0 (record {
            t = t;
            def = old;
            name = name;
            there = is;
            called = name_from m old.owner old.name name (ap (λ (d : TypeDef). d.name) same ∙ called);
            by = by.1;
            needs = record { alias = old; there = is; target = target.0; names = target.1; named = named.0; target_there = named.1; other = ap (λ (o : TypeOwner). other_owner o named.0.owner) by.1 ∙ other.3 };
          });
        }

    made_by : TypeFrom m t' needs.alias → Contains (direct (graph_uses m.graph) f') j' ⊎ UseOfOther f' j'
    made_by (of_graph old is same) = inl (old_use old is same)
    made_by (of_other t old is moves place same) = inr (new_use t old is same)
    made_by (an_own t within same) = absurd (no_alias (ap (λ (d : TypeDef). alias_target d.kind) same ∙ needs.names))
      where
        no_alias : alias_target (own_of (merged_type m t)).kind ≡ Some needs.target → ⊥
        no_alias is = cc

  -- a use of the two as one is one of the graph or of the other
  pub use_from : (f' j' : ℕ) → Contains (direct (graph_uses g) f') j' → Contains (direct (graph_uses m.graph) f') j' ⊎ UseOfOther f' j'
  use_from f' j' has =
      let from = from_row (interface_uses g.types) g.interfaces f' j' has in
      let e = filter_map_from (λ (e : List ℕ × ℕ). type_interface_dep g.types e.1) from.0.types j' from.2 in
      let needs = needs_from g.types e.0.1 j' e.2 in
      let place = place_of from.0.types e.0 e.1 in
      let own = found_at (λ (def : TypeDef). (def.name ≡ Some e.0.0) × (def.owner ≡ owner.Interface f')) g.types e.0.1 (((joined_good m valid valid_other one).interfaces_are f' from.0 from.1 refl).own_types place.0 e.0 place.1) in
      let same = same_at g.types e.0.1 e.0.1 own.0 needs.alias refl own.1 needs.there in
      made_by f' j' e.0.1 e.0.0 needs (ap (λ (d : TypeDef). d.name) (sym same) ∙ own.2.0) (ap (λ (d : TypeDef). d.owner) (sym same) ∙ own.2.1) (type_at_from m e.0.1 needs.alias needs.there)
