-- What semver merging keeps of a graph: everything stands at its id.
use Rattle.std.proofs.Common.{◌≡◌, ◌∙◌, inl, inr, ℕ, Option, None, Some, IsSome, slice_get, option_and_then, refl, sym, ap, subst}
use Rattle.std.specs.Option.{option_map_or}
use Rattle.wit_data.specs.Each.{EachAt, SomeAt}
use Rattle.wit_data.specs.Uses.{alias_target}
use Rattle.wit_data.specs.declared.types.TypeDef.{TypeDef}
use Rattle.wit_data.specs.declared.world.World.{World}
use Rattle.wit_data.specs.declared.types.TypeOwner.TheVariants as owner
use Rattle.wit_elaboration.specs.Valid.{IsValid}
use Rattle.wit_graph_data.specs.declared.graph.Graph.{Graph}
use Rattle.wit_graph_theory.specs.facts.ListFacts.{at_map, found_at, same_at, some_at}
use Rattle.wit_graph_theory.specs.facts.OptionFacts.{some_by}
use Rattle.wit_elaboration.specs.AllElaborated.{all_elaborated, elaborated_world}
use Rattle.wit_values.specs.facts.Lists.{kept-cases, slice_get-set}
use Rattle.wit_semver.specs.SemverMerged.{types_with_new_targets, semver_merge, with_new_entries_at, SemverMerge, newest, target_name}
use Rattle.wit_semver.specs.laws.Unchanged.{SameButLists, SameButTarget}
use Rattle.wit_semver.specs.laws.TrackLaws.{AliasesKeepNames, KeepsThings, SemverMergedKeep}
use Rattle.wit_semver.specs.facts.TypesAfter.{after, needs_as_alias, retargeted_from, retargeted_name, retargeted_type, type_after, type_into}
use Rattle.wit_semver.specs.steps.Parts.{listed_world, name_of, retargeted, new_target}

-- ---- worlds

-- elaboration changes the lists of worlds alone
elaborated_at : (g : Graph) (v : ℕ) (world listed : World) → slice_get g.worlds v ≡ Some listed → SameButLists world listed → SomeAt (all_elaborated g).worlds v (SameButLists world)
elaborated_at g v world listed at same =
    some_at (SameButLists world) (all_elaborated g).worlds v (elaborated_world g listed) (at_map (elaborated_world g) g.worlds v listed at)
    (ap (λ (x : World). record x { imports = (elaborated_world g listed).imports; exports = (elaborated_world g listed).exports }) same)

module _ (u : SemverMerge) (w : ℕ) (there : slice_get u.graph.worlds w ≡ Some u.world) where
  worlds_kept : EachAt (λ v (world : World). SomeAt (all_elaborated (with_new_entries_at u w)).worlds v (SameButLists world)) u.graph.worlds
  worlds_kept v world at =
      elim (kept-cases u.graph.worlds w (listed_world u) v world at) [
        | inl same ↦
            let one : world ≡ u.world = same_at u.graph.worlds v w world u.world same at there in
            let listed : slice_get (with_new_entries_at u w).worlds v ≡ Some (listed_world u) =
            ap (slice_get (with_new_entries_at u w).worlds) same ∙ slice_get-set u.graph.worlds w u.world (listed_world u) there in
            elaborated_at (with_new_entries_at u w) v world (listed_world u) listed
            (ap (λ (x : World). record x { imports = (listed_world u).imports; exports = (listed_world u).exports }) (sym one))
        | inr stays ↦ elaborated_at (with_new_entries_at u w) v world world stays refl
      ]

-- ---- types

module _ (u : SemverMerge) where
  -- what gets a new target was an alias, and is one
  same_but : (t : ℕ) (def : TypeDef) (o : Option ℕ) → slice_get u.graph.types t ≡ Some def → new_target u t ≡ o → SameButTarget def (retargeted def o)
  same_but t def None at is = (refl, inl refl)
  same_but t def (Some t') at is =
      let now = retargeted_from u t t' is in
      let names = needs_as_alias u t now.f def at now.uses in
      (refl, inr (subst IsSome (sym names.1) refl, refl))

  types_kept : EachAt (λ t (def : TypeDef). SomeAt (types_with_new_targets u) t (SameButTarget def)) u.graph.types
  types_kept t def at = some_at (SameButTarget def) (types_with_new_targets u) t (after u t def) (type_into u t def at) (same_but t def (new_target u t) at refl)

-- ---- the graph

pub semver_merges_keep : SemverMergedKeep
semver_merges_keep rule g w = by (slice_get g.worlds w) refl
  where
    by : (o : Option World) → slice_get g.worlds w ≡ o → KeepsThings g (all_elaborated (option_map_or (λ (world : World). with_new_entries_at (semver_merge rule g world) w) o g))
    by None none = record {
      types = λ t def at. some_at (SameButTarget def) g.types t def at (refl, inl refl);
      interfaces = refl;
      worlds = λ v world at. elaborated_at g v world world at refl;
      packages = refl;
      names = refl;
    }
    by (Some world) there = record {
      types = types_kept (semver_merge rule g world);
      interfaces = refl;
      worlds = worlds_kept (semver_merge rule g world) w there;
      packages = refl;
      names = refl;
    }

-- ---- names

module _ (u : SemverMerge) where
  -- types have their names
  names_kept : (s : ℕ) → name_of (types_with_new_targets u) s ≡ name_of u.graph.types s
  names_kept s = by (slice_get u.graph.types s) refl (slice_get (types_with_new_targets u) s) refl
    where
      by : (o : Option TypeDef) → slice_get u.graph.types s ≡ o → (p : Option TypeDef) → slice_get (types_with_new_targets u) s ≡ p
          → option_and_then (λ (def : TypeDef). def.name) p ≡ option_and_then (λ (def : TypeDef). def.name) o
      by None none None absent = refl
      by None none (Some new) found =
          let old = type_after u s new found in
          let impossible : None ≡ Some old.0 = sym none ∙ old.1 in
          cc
      by (Some def) at p found = ap (λ (q : Option TypeDef). option_and_then (λ (d : TypeDef). d.name) q) (sym found ∙ type_into u s def at) ∙ retargeted_name def (new_target u s)

  target_kept : IsValid u.graph → (t : ℕ) (def : TypeDef) (o : Option ℕ) → slice_get u.graph.types t ≡ Some def → new_target u t ≡ o
      → option_and_then (name_of (types_with_new_targets u)) (alias_target (retargeted def o).kind) ≡ option_and_then (name_of u.graph.types) (alias_target def.kind)
  target_kept valid t def None at is = by (alias_target def.kind)
    where
      by : (o : Option ℕ) → option_and_then (name_of (types_with_new_targets u)) o ≡ option_and_then (name_of u.graph.types) o
      by None = refl
      by (Some s) = names_kept s
  target_kept valid t def (Some t') at is =
      let now = retargeted_from u t t' is in
      let named = found_at (λ (x : TypeDef). (x.name ≡ Some now.name) × (x.owner ≡ owner.Interface (newest u now.f))) u.graph.types t' (retargeted_type u valid t t' now) in
      names_kept t' ∙ ap (λ (o : Option TypeDef). option_and_then (λ (d : TypeDef). d.name) o) named.1 ∙ named.2.0 ∙ sym now.named
      ∙ some_by (λ (d : TypeDef). option_and_then (name_of u.graph.types) (alias_target d.kind)) (slice_get u.graph.types t) def at

  targets_kept : IsValid u.graph → (t : ℕ) → target_name (types_with_new_targets u) t ≡ target_name u.graph.types t
  targets_kept valid t = by (slice_get u.graph.types t) refl (slice_get (types_with_new_targets u) t) refl
    where
      by : (o : Option TypeDef) → slice_get u.graph.types t ≡ o → (p : Option TypeDef) → slice_get (types_with_new_targets u) t ≡ p
          → option_and_then (λ (d : TypeDef). option_and_then (name_of (types_with_new_targets u)) (alias_target d.kind)) p ≡ option_and_then (λ (d : TypeDef). option_and_then (name_of u.graph.types) (alias_target d.kind)) o
      by None none None absent = refl
      by None none (Some new) found =
          let old = type_after u t new found in
          let impossible : None ≡ Some old.0 = sym none ∙ old.1 in
          cc
      by (Some def) at p found =
          ap (λ (q : Option TypeDef). option_and_then (λ (d : TypeDef). option_and_then (name_of (types_with_new_targets u)) (alias_target d.kind)) q) (sym found ∙ type_into u t def at)
          ∙ target_kept valid t def (new_target u t) at refl

pub aliases_keep_names : AliasesKeepNames
aliases_keep_names rule g w valid = by (slice_get g.worlds w)
  where
    by : (o : Option World) (t : ℕ) → target_name (all_elaborated (option_map_or (λ (world : World). with_new_entries_at (semver_merge rule g world) w) o g)).types t ≡ target_name g.types t
    by None t = refl
    by (Some world) t = targets_kept (semver_merge rule g world) valid t
