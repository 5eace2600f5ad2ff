-- Each use in one of two graphs is a use in the two as one, at the places of its interfaces: an alias that makes a use
-- stays, moves with what it names, or is matched with an alias of what that is matched with.
use Rattle.std.specs.Prelude.{◌==◌}
use Rattle.std.proofs.Common.{◌≡◌, ◌∙◌, inl, inr, ℕ, Bool, true, false, List, None, Some, option_map, slice_get, refl, sym, ap, Contains, if◌then◌else◌}
use Rattle.std.proofs.lemmas.Bool.{cases_Bool, eq-eqb, eqb-true, false≢true}
use Rattle.wit_digraph.specs.Relation.{direct}
use Rattle.wit_data.specs.Uses.{alias_target, interface_uses, other_owner, type_interface_dep}
use Rattle.wit_data.specs.declared.types.TypeDef.{TypeDef}
use Rattle.wit_data.specs.declared.types.TypeOwner.{TypeOwner}
use Rattle.wit_data.specs.declared.types.TypeOwner.TheVariants as owner
use Rattle.wit_elaboration.specs.Elaboration.{graph_uses}
use Rattle.wit_elaboration.specs.Valid.{IsValid}
use Rattle.wit_graph_data.specs.declared.graph.Graph.{Graph}
use Rattle.wit_graph_theory.specs.facts.CarriedImages.{from_mapped}
use Rattle.wit_graph_theory.specs.Cut.{mapped_source}
use Rattle.wit_graph_theory.specs.facts.DependencyFacts.{Needs, filter_map_from, filter_map_into, needs_from, needs_into}
use Rattle.wit_remap_spec.specs.Image.{owner_image, type_image}
use Rattle.wit_graph_theory.specs.facts.ListFacts.{found_at, from_row, in_row, place_of, same_at}
use Rattle.wit_graph_theory.specs.facts.OptionFacts.{some_same}
use Rattle.wit_graph_theory.specs.facts.ReferredFacts.{alias_image}
use Rattle.wit_graph_theory.specs.steps.Sources.{InterfaceStands, Stands}
use Rattle.wit_graph_theory.specs.facts.UsesAcyclic.{other_from}
use Rattle.wit_merge_spec.specs.Merged.{joined_graph, merge_maps, merged_interface, merged_type}
use Rattle.wit_merge_spec.specs.Matches.{GraphMerge, counterpart_type}
use Rattle.wit_merge_laws.specs.facts.InterfacesStand as interfaces
use Rattle.wit_merge_laws.specs.facts.ListedStand.{interfaces_apart}
use Rattle.wit_merge_laws.specs.facts.MatchFacts.{goes_to, type_is}
use Rattle.wit_merge_laws.specs.facts.TypesStand.{joined_keeps, matched_some, new_type_at, old_type_at, type_stands}
use Rattle.wit_merge_laws.specs.facts.UsesFrom.{target_there}
use Rattle.wit_merge_laws.specs.facts.WholeFacts.{types_within}
use Rattle.wit_merge_spec.specs.steps.Parts.{joined_type, joined_interface, moves_type}

-- an alias that is matched names what that is matched with that its counterpart names
abbrev pub AliasesMatched : GraphMerge → Type 0
AliasesMatched m =
    (t t' : ℕ) (def def' : TypeDef) → slice_get m.other.types t ≡ Some def
    → slice_get m.graph.types t' ≡ Some def' → counterpart_type m t ≡ Some t' → (u : ℕ)
    → alias_target def.kind ≡ Some u
    → (u' : ℕ) × (alias_target def'.kind ≡ Some u') × (counterpart_type m u ≡ Some u')

-- ---- what stays

module _ (m : GraphMerge) where
  abbrev joined : Graph
  joined = joined_graph m

  -- what a type of the graph needs it still needs
  pub needs_stay : (t j : ℕ) → Needs m.graph.types t j → Needs joined.types t j
  needs_stay t j needs =
      let alias_keeps = joined_keeps m (t, needs.alias) in
      let named_keeps = joined_keeps m (needs.target, needs.named) in
      record {
        alias = joined_type m (t, needs.alias);
        there = old_type_at m t needs.alias needs.there;
        target = needs.target;
        names = ap alias_target alias_keeps.kind ∙ needs.names;
        named = joined_type m (needs.target, needs.named);
        target_there = old_type_at m needs.target needs.named needs.target_there;
        other = (λ k. other_owner (alias_keeps.owner k) (named_keeps.owner k)) ∙ needs.other;
      }

  -- and what an interface of it uses it still uses
  pub use_stays : (i j : ℕ) → Contains (direct (graph_uses m.graph) i) j → Contains (direct (graph_uses joined) i) j
  use_stays i j has =
      let from = from_row (interface_uses m.graph.types) m.graph.interfaces i j has in
      let e = filter_map_from (λ (e : List ℕ × ℕ). type_interface_dep m.graph.types e.1) from.0.types j from.2 in
      let dep = needs_into joined.types e.0.1 j (needs_stay e.0.1 j (needs_from m.graph.types e.0.1 j e.2)) in
      let now = joined_interface m (i, from.0) in
      let listed = (interfaces.joined_keeps m (i, from.0)).types e.0 e.1 in
      in_row (interface_uses joined.types) joined.interfaces i now j (interfaces.old_interface_at m i from.0 from.1) (filter_map_into (λ (e : List ℕ × ℕ). type_interface_dep joined.types e.1) now.types e.0 j listed dep)

-- ---- what moves

module _ (m : GraphMerge) (valid : IsValid m.graph) (valid_other : IsValid m.other) where
  abbrev g : Graph
  g = joined_graph m

  abbrev at_place : TypeOwner → TypeOwner
  at_place by = owner_image (merge_maps m) by

  -- owners that differ go to owners that differ
  other_goes : (a b : TypeOwner) (j : ℕ) → other_owner a b ≡ Some j → other_owner (at_place a) (at_place b) ≡ Some (merged_interface m j)
  other_goes (owner.Interface i) (owner.Interface k) j is = by (i == k) (merged_interface m i == merged_interface m k) refl refl is
    where
      by : (c d : Bool) → (i == k) ≡ c → (merged_interface m i == merged_interface m k) ≡ d → (if c then None else Some k) ≡ Some j → (if d then None else Some (merged_interface m k)) ≡ Some (merged_interface m j)
      by true d here there is = cc
      by false false here there is = let same : k ≡ j = cc in ap (λ (x : ℕ). Some (merged_interface m x)) same
      by false true here there is = absurd (false≢true (sym here ∙ eq-eqb i k (interfaces_apart m valid valid_other i k (eqb-true (merged_interface m i) (merged_interface m k) there))))
  other_goes (owner.World w) (owner.Interface k) j is = let same : k ≡ j = cc in ap (λ (x : ℕ). Some (merged_interface m x)) same
  other_goes owner.None (owner.Interface k) j is = let same : k ≡ j = cc in ap (λ (x : ℕ). Some (merged_interface m x)) same
  other_goes (owner.Interface i) (owner.World v) j is = cc
  other_goes (owner.World w) (owner.World v) j is = cc
  other_goes owner.None (owner.World v) j is = cc
  other_goes (owner.Interface i) owner.None j is = cc
  other_goes (owner.World w) owner.None j is = cc
  other_goes owner.None owner.None j is = cc

  -- and come of owners that differ
  other_back : (a b : TypeOwner) (j' : ℕ) → other_owner (at_place a) (at_place b) ≡ Some j' → (j : ℕ) × (j' ≡ merged_interface m j) × (other_owner a b ≡ Some j)
  other_back (owner.Interface i) b j' is = let from = other_from (merge_maps m) i b j' is in (from.0, from.2, from.3)
  other_back (owner.World w) (owner.Interface k) j' is = (k, (let same : merged_interface m k ≡ j' = cc in sym same), refl)
  other_back owner.None (owner.Interface k) j' is = (k, (let same : merged_interface m k ≡ j' = cc in sym same), refl)
  other_back (owner.World w) (owner.World v) j' is = cc
  other_back owner.None (owner.World v) j' is = cc
  other_back (owner.World w) owner.None j' is = cc
  other_back owner.None owner.None j' is = cc

  -- what a type that moves needs in the two as one it needed
  pub needs_back : (t j' : ℕ) (def : TypeDef) → slice_get m.other.types t ≡ Some def → moves_type m t ≡ true → Needs g.types (merged_type m t) j' → (j : ℕ) × (j' ≡ merged_interface m j) × Needs m.other.types t j
  needs_back t j' def at moves needs =
      let same = same_at g.types (merged_type m t) (merged_type m t) (type_image (merge_maps m) def) needs.alias refl (new_type_at m t def at moves) needs.there in
      let target = from_mapped (merged_type m) (alias_target def.kind) needs.target (sym (alias_image (merge_maps m) def.kind) ∙ (ap (λ (d : TypeDef). alias_target d.kind) same ∙ needs.names)) in
      let named = target_there m.other valid_other t def target.0 at target.1 in
      let stands = found_at (Stands (merge_maps m) named.0) g.types (merged_type m target.0) (type_stands m valid valid_other target.0 named.0 named.1) in
      let same_named = same_at g.types (merged_type m target.0) needs.target stands.0 needs.named (sym target.2) stands.1 needs.target_there in
      let mine : at_place def.owner ≡ needs.alias.owner = ap (λ (d : TypeDef). d.owner) same in
      let theirs : at_place named.0.owner ≡ needs.named.owner = sym stands.2.owner ∙ ap (λ (d : TypeDef). d.owner) same_named in
      let from = other_back def.owner named.0.owner j' ((λ k. other_owner (mine k) (theirs k)) ∙ needs.other) in
      (from.0, from.1, record { alias = def; there = at; target = target.0; names = target.1; named = named.0; target_there = named.1; other = from.2 })

  module _ (matched : AliasesMatched m) where
    -- an alias of the other graph is one at its place, of what it named
    record AliasGoes (t u : ℕ) (def : TypeDef) : Type 0 where
      new : TypeDef
      there : slice_get g.types (merged_type m t) ≡ Some new
      by : new.owner ≡ at_place def.owner
      names : alias_target new.kind ≡ Some (merged_type m u)

    alias_goes : (t u : ℕ) (def : TypeDef) → slice_get m.other.types t ≡ Some def → alias_target def.kind ≡ Some u → AliasGoes t u def
    alias_goes t u def at names = elim (cases_Bool (moves_type m t)) [
      | inl moves ↦ record {
        new = type_image (merge_maps m) def;
        there = new_type_at m t def at moves;
        by = refl;
        names = alias_image (merge_maps m) def.kind ∙ ap (option_map (merged_type m)) names;
      }
      | inr stays ↦ stays_so (matched_some (counterpart_type m t) stays)
    ]
      where
        stays_so : (t' : ℕ) × (counterpart_type m t ≡ Some t') → AliasGoes t u def
        stays_so (t', found) =
            let is = type_is m valid t t' found in
            let same : is.from ≡ def = some_same is.from def (sym is.from_is ∙ at) in
            let keeps = joined_keeps m (t', is.into) in
            let target = matched t t' def is.into at is.into_is found u names in
            record {
              new = joined_type m (t', is.into);
              there = ap (slice_get g.types) (goes_to (counterpart_type m t) _ t' found) ∙ old_type_at m t' is.into is.into_is;
              by = keeps.owner ∙ (is.owner_is ∙ ap (λ (d : TypeDef). at_place d.owner) same);
              names = ap alias_target keeps.kind ∙ (target.1 ∙ ap (λ (x : ℕ). Some x) (sym (goes_to (counterpart_type m u) _ target.0 target.2)));
            }

    -- what a type of the other graph needs, at their places
    pub needs_goes : (t j : ℕ) → Needs m.other.types t j → Needs g.types (merged_type m t) (merged_interface m j)
    needs_goes t j needs =
        let goes = alias_goes t needs.target needs.alias needs.there needs.names in
        let stands = found_at (Stands (merge_maps m) needs.named) g.types (merged_type m needs.target) (type_stands m valid valid_other needs.target needs.named needs.target_there) in
        record {
          alias = goes.new;
          there = goes.there;
          target = merged_type m needs.target;
          names = goes.names;
          named = stands.0;
          target_there = stands.1;
          other = (λ k. other_owner (goes.by k) (stands.2.owner k)) ∙ other_goes needs.alias.owner needs.named.owner j needs.other;
        }

    -- and what an interface of it uses
    pub use_goes : (i j : ℕ) → Contains (direct (graph_uses m.other) i) j → Contains (direct (graph_uses g) (merged_interface m i)) (merged_interface m j)
    use_goes i j has =
        let from = from_row (interface_uses m.other.types) m.other.interfaces i j has in
        let e = filter_map_from (λ (e : List ℕ × ℕ). type_interface_dep m.other.types e.1) from.0.types j from.2 in
        let dep = needs_into g.types (merged_type m e.0.1) (merged_interface m j) (needs_goes e.0.1 j (needs_from m.other.types e.0.1 j e.2)) in
        let stands = found_at (InterfaceStands (mapped_source m.other (merge_maps m)) from.0) g.interfaces (merged_interface m i) (interfaces.interface_stands m valid valid_other i from.0 from.1) in
        let place = place_of from.0.types e.0 e.1 in
        let listed = stands.2.types e.0.0 e.0.1 e.1 (types_within m.other valid_other i from.0 from.1 place.0 e.0 place.1) in
        in_row (interface_uses g.types) g.interfaces (merged_interface m i) stands.0 (merged_interface m j) stands.1
        (filter_map_into (λ (e : List ℕ × ℕ). type_interface_dep g.types e.1) stands.0.types (e.0.0, merged_type m e.0.1) (merged_interface m j) listed dep)
