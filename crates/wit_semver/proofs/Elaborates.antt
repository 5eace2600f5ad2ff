-- The graph that has its new entries can be checked for cycles and elaborated, and what holds against that holds against the merge.
use Rattle.std.proofs.Common.{◌≡◌, ◌∙◌, ◌⊎◌, inl, inr, ℕ, List, [], ◌∷◌, Option, None, Some, IsSome, Contains, get_or, length, slice_get, refl, sym, ap, subst, arith}
use Rattle.std.proofs.lemmas.List.{length-map}
use Rattle.std.proofs.lemmas.List.Elements.{Contains-get_or}
use Rattle.wit_digraph.specs.facts.MemberFacts.{Contains-here, Contains-there}
use Rattle.wit_digraph.specs.Relation.{IsPath, direct}
use Rattle.wit_data.specs.Ownership.{IsPlain}
use Rattle.wit_data.specs.Kind.{referred, type_references}
use Rattle.wit_data.specs.Uses.{interface_uses}
use Rattle.wit_names.specs.declared.track.TrackRule.{TrackRule}
use Rattle.wit_data.specs.declared.types.TypeDef.{TypeDef}
use Rattle.wit_data.specs.declared.world.World.{World}
use Rattle.wit_elaboration.specs.Elaboration.{graph_uses}
use Rattle.wit_elaboration.specs.Sound.{HasSoundEntries}
use Rattle.wit_elaboration.specs.facts.SoundFacts.{named_within}
use Rattle.wit_elaboration.specs.Valid.{IsValid}
use Rattle.wit_graph_data.specs.declared.graph.Graph.{Graph}
use Rattle.wit_graph_data.specs.declared.error_kind.ResolveErrorKind.{ResolveErrorKind}
use Rattle.wit_elaboration.specs.AllElaborated.{all_elaborated}
use Rattle.wit_graph_theory.specs.facts.GoodIsValid.{good_things}
use Rattle.wit_graph_theory.specs.facts.ListFacts.{from_row, in_row}
use Rattle.wit_graph_theory.specs.facts.NamedUses.{used_is_named}
use Rattle.wit_graph_theory.specs.facts.OptionFacts.{option_cases}
use Rattle.wit_graph_theory.specs.facts.PackageCycleFacts.{used_package}
use Rattle.wit_semver.specs.SemverMerged.{semver_merged, types_with_new_targets, with_new_entries_at, SemverMerge, IsComplete, SemverMergeIsAccepted, SemverMergeCause, conflict_4, functions_disagree_25, interface_cycle_22, package_cycle_6, type_cycle_23, type_missing_25, semver_merge}
use Rattle.wit_semver.specs.steps.SemverMerged.{Agrees}
use Rattle.wit_semver.specs.facts.Accepting.{id_of_named, in_order, new_aliases, relisted_worlds, semver_merged_is}
use Rattle.wit_semver.specs.facts.TypesAfter.{type_after}
use Rattle.wit_semver.specs.facts.TypesGood.{refers_in_range, unnamed_plain}
use Rattle.wit_transform.specs.steps.Reasons.{CanBeElaborated, ElaborationCause, IsSomeNamed}
use Rattle.wit_transform.specs.steps.Reasons as settles
use Rattle.wit_elaboration.specs.steps.Parts.{graph_package_uses}
use Rattle.wit_semver.specs.steps.Parts.{retargeted, new_target}

module _ (u : SemverMerge) (valid : IsValid u.graph) (w : ℕ) (there : slice_get u.graph.worlds w ≡ Some u.world) where
  abbrev types : List TypeDef
  types = u.graph.types

  abbrev changed : List TypeDef
  changed = types_with_new_targets u

  abbrev made : Graph
  made = with_new_entries_at u w

  -- what a type without a name refers to it referred to before
  plain_edge : (i k : ℕ) (new : TypeDef) → slice_get changed i ≡ Some new → new.name ≡ None → Contains (referred new.kind) k → Contains (direct (type_references types) i) k
  plain_edge i k new at none has =
      let from = type_after u i new at in
      by from.0 from.1 (new_target u i) from.2 (unnamed_plain u valid w there i new at none)
    where
      by : (def : TypeDef) → slice_get types i ≡ Some def → (o : Option ℕ) → new ≡ retargeted def o → IsPlain new.kind → Contains (direct (type_references types) i) k
      by def def_at None is plain = in_row (λ (d : TypeDef). referred d.kind) types i def k def_at (subst (λ (d : TypeDef). Contains (referred d.kind) k) is has)
      by def def_at (Some t) is plain = absurd (subst (λ (d : TypeDef). IsPlain d.kind) is plain)

  -- a path either was there before, or some type on it has a name
  named_among : (i : ℕ) (path : List ℕ) (j : ℕ) → IsPath (type_references changed) i path j → IsPath (type_references types) i path j ⊎ IsSomeNamed changed (i ∷ path)
  named_among i [] j same = inl same
  named_among i (k ∷ path) j leads =
      let from = from_row (λ (d : TypeDef). referred d.kind) changed i k leads.0 in
      by from.0 from.1 from.2 (option_cases from.0.name) (named_among k path j leads.1)
    where
      by : (new : TypeDef) → slice_get changed i ≡ Some new → Contains (referred new.kind) k → (new.name ≡ None) ⊎ ((name : List ℕ) × (new.name ≡ Some name)) → IsPath (type_references types) k path j ⊎ IsSomeNamed changed (k ∷ path)
          → IsPath (type_references types) i (k ∷ path) j ⊎ IsSomeNamed changed (i ∷ k ∷ path)
      by new at has (inr name) rest = inr (record { id = i; def = new; among = Contains-here i (k ∷ path); is = at; named = subst IsSome (sym name.1) refl })
      by new at has (inl none) (inl old) = inl (plain_edge i k new at none has, old)
      by new at has (inl none) (inr n) = inr (record { id = n.id; def = n.def; among = Contains-there i n.id (k ∷ path) n.among; is = n.is; named = n.named })

  uses_long : length (graph_uses made) ≡ length u.graph.interfaces
  uses_long = length-map u.graph.interfaces (interface_uses changed)

  pub can_settle : CanBeElaborated made
  can_settle = record {
    types_there = λ i k d inside. refers_in_range u valid w there i (get_or (direct (type_references changed) i) k d) (Contains-get_or (direct (type_references changed) i) k d inside);
    interfaces_there = λ i k d inside.
        let has = Contains-get_or (direct (graph_uses made) i) k d inside in
        let within = named_within u.graph.interfaces (get_or (direct (graph_uses made) i) k d) (used_is_named changed u.graph.interfaces (new_aliases u valid w there) i (get_or (direct (graph_uses made) i) k d) has) in
        omega (arith, within, uses_long);
    packages_there = λ p k d inside.
        used_package changed u.graph.interfaces u.graph.packages (good_things u.graph valid).interfaces_in_tables (relisted_worlds u valid w there) p (get_or (direct (graph_package_uses made) p) k d)
        (Contains-get_or (direct (graph_package_uses made) p) k d inside);
    used_named = λ i j has.
        let id = id_of_named u valid w there j (used_is_named changed u.graph.interfaces (new_aliases u valid w there) i j has) in
        subst IsSome (sym id.1) refl;
    cycles_named = λ t k path leads. elim (named_among t (k ∷ path) t leads) [ inl old ↦ absurd (valid.no_cycles.types.no_cycle t k path old) | inr named ↦ named ];
    listed = λ v world at. subst (λ (n : ℕ). HasSoundEntries changed n world.imports world.exports) uses_long (in_order u valid w there v world at);
  }

-- ---- reasons

pub cause_from : (u : SemverMerge) (w : ℕ) → IsComplete u → (e : ResolveErrorKind) → ElaborationCause (with_new_entries_at u w) e → SemverMergeCause u w e
cause_from u w complete e (settles.conflict_4 span name is) = conflict_4 span name complete is
cause_from u w complete e (settles.package_cycle_6 home is) = package_cycle_6 home complete is
cause_from u w complete e (settles.interface_cycle_22 message is) = interface_cycle_22 message complete is
cause_from u w complete e (settles.type_cycle_23 message is) = type_cycle_23 message complete is

cause_into : (u : SemverMerge) (w : ℕ) → IsComplete u → Agrees u → ((e : ResolveErrorKind) → ElaborationCause (with_new_entries_at u w) e → ⊥) → (e : ResolveErrorKind) → SemverMergeCause u w e → ⊥
cause_into u w complete agree none e (conflict_4 span name whole is) = none e (settles.conflict_4 span name is)
cause_into u w complete agree none e (package_cycle_6 home whole is) = none e (settles.package_cycle_6 home is)
cause_into u w complete agree none e (interface_cycle_22 message whole is) = none e (settles.interface_cycle_22 message is)
cause_into u w complete agree none e (type_cycle_23 message whole is) = none e (settles.type_cycle_23 message is)
cause_into u w complete agree none e (type_missing_25 t message follows lacks) = complete t message follows lacks
cause_into u w complete agree none e (functions_disagree_25 f message differ) = agree f message differ

-- where no cause holds against the steps, no cause holds against the merge
same_world : (a b : World) → Some a ≡ Some b → a ≡ b
same_world a b same = cc

pub accepted_from : (rule : TrackRule) (g : Graph) (w : ℕ) (world : World) → slice_get g.worlds w ≡ Some world → IsComplete (semver_merge rule g world) → Agrees (semver_merge rule g world)
    → ((e : ResolveErrorKind) → ElaborationCause (with_new_entries_at (semver_merge rule g world) w) e → ⊥) → SemverMergeIsAccepted rule g w
accepted_from rule g w world there complete agree none e told =
    let one : told.0 ≡ world = same_world told.0 world (sym told.1 ∙ there) in
    cause_into (semver_merge rule g world) w complete agree none e (subst (λ (x : World). SemverMergeCause (semver_merge rule g x) w e) one told.2)

pub semver_merged_from : (rule : TrackRule) (g : Graph) (w : ℕ) (world : World) → slice_get g.worlds w ≡ Some world → (made : Graph) → made ≡ with_new_entries_at (semver_merge rule g world) w → all_elaborated made ≡ semver_merged rule g w
semver_merged_from rule g w world there made is = ap all_elaborated is ∙ sym (semver_merged_is rule g w world there)
