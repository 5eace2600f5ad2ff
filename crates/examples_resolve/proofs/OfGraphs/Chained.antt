-- The chain with a type in its world: what is in conflict, and where a type would be exported.
use Rattle.std.proofs.Common.{◌≡◌, ℕ, true, false, List, [], ◌∷◌, None, Some, codes, refl, sym, subst, arith, inl, inr, Contains}
use Rattle.wit_digraph.specs.facts.MemberFacts.{Contains-here, Contains-nil, Contains-there}
use Rattle.wit_digraph.specs.Relation.{direct}
use Rattle.wit_sources.specs.Span.{OptionalSpan}
use Rattle.wit_data.specs.declared.world.World.{World}
use Rattle.wit_data.specs.declared.world.WorldKey.TheVariants as key
use Rattle.wit_elaboration.specs.Elaboration.{graph_uses}
use Rattle.wit_elaboration.specs.Entries.{Entry}
use Rattle.wit_elaboration.specs.Imported.{HasTransitiveConflict, IsEntryInConflict, IsRefusedName}
use Rattle.wit_graph_data.specs.examples.Samples.{entry_of, world_of}
use Rattle.wit_graph_data.specs.declared.cause.Cause.TheVariants.{TypeExported}
use Rattle.wit_graph_data.specs.declared.error_kind.ResolveErrorKind.TheVariants.{InvalidTransitiveDependency, Semantic}
use Rattle.wit_graph_data.specs.declared.graph.Package.{Package}
use Rattle.wit_graph_theory.specs.facts.OptionFacts.{some_same}
use Rattle.wit_graph_theory.specs.examples.TestFacts.{one_of_two, only_one}
use Rattle.wit_transform.specs.Transformed.{ExportizeCause, HasNameTaken, export_conflict, exportized_name_taken, not_exported, exportized}
use Rattle.wit_transform.specs.examples.TransformExamples.{a, b}
use Rattle.examples_resolve.proofs.OfGraphs.TakenNames.{not_taken}
use Rattle.examples_resolve.specs.graph.TransformCauses.{ExamplesOfConflictsBesideTypes, chain_with_k, ends_and, k}
use Rattle.wit_elaboration.specs.steps.Parts.{exported_keys}
use Rattle.wit_transform.specs.steps.Parts.{type_exported_text}

abbrev c : Entry
c = entry_of 2

abbrev world_w : World
world_w = world_of (codes "w") (a ∷ b ∷ c ∷ k ∷ []) []

-- ---- the conflict

b_outside : Contains (exported_keys (a ∷ c ∷ [])) 1 → ⊥
b_outside has = elim (one_of_two 0 2 1 has) [ inl same ↦ absurd (omega (arith, same)) | inr same ↦ absurd (omega (arith, same)) ]

ends_conflict : HasTransitiveConflict (graph_uses chain_with_k) (a ∷ c ∷ [])
ends_conflict = (2, 1, Contains-there 0 2 (2 ∷ []) (Contains-here 2 []), Contains-here 1 [], (b_outside, 0, (0 ∷ [], (Contains-here 0 [], refl)), Contains-here 0 (2 ∷ [])))

c_leads : IsEntryInConflict (graph_uses chain_with_k) (a ∷ c ∷ []) c
c_leads = (2, Contains-here 2 [], (1, 1, Contains-here 1 [], ([], refl), (b_outside, 0, (0 ∷ [], (Contains-here 0 [], refl)), Contains-here 0 (2 ∷ []))))

from_a : IsEntryInConflict (graph_uses chain_with_k) (a ∷ c ∷ []) a → ⊥
from_a leads = Contains-nil (subst (λ (i : ℕ). Contains (direct (graph_uses chain_with_k) i) leads.2.0) (sym (only_one 0 leads.0 leads.1)) leads.2.2)

a_safe : (f : Entry) → Contains (a ∷ []) f → IsEntryInConflict (graph_uses chain_with_k) (a ∷ c ∷ []) f → ⊥
a_safe f has conflict = from_a (subst (λ (e : Entry). IsEntryInConflict (graph_uses chain_with_k) (a ∷ c ∷ []) e) (sym (only_one a f has)) conflict)

refused_c : IsRefusedName chain_with_k.packages chain_with_k.interfaces (graph_uses chain_with_k) (a ∷ c ∷ []) (codes "foo:bar/c")
refused_c = (key.Interface 2, (c, record { before = a ∷ []; after = []; are = refl; earlier = a_safe; is = c_leads }, refl), refl)

-- ---- what else could be told

x_is_free : (home : Package) → HasNameTaken chain_with_k 0 world_w (codes "x") home → ⊥
x_is_free home taken = not_taken chain_with_k 0 0 world_w (codes "x") _ home refl refl refl taken

no_type_told : (world : World) (label : List ℕ) → world_w ≡ world
    → ExportizeCause chain_with_k 0 world (exportized (ends_and false) (Some (codes "x")) world) (Semantic None (type_exported_text label) TypeExported) → ⊥
no_type_told world label same cause =
    elim (subst (λ (x : World). ExportizeCause chain_with_k 0 x (exportized (ends_and false) (Some (codes "x")) x) (Semantic None (type_exported_text label) TypeExported)) (sym same) cause) [
      | export_conflict name free listed conflict refused is ↦ cc
      | exportized_name_taken home taken is ↦ cc
      | not_exported is ↦ let never : None ≡ Some (Semantic None (type_exported_text label) TypeExported) = is in cc
    ]

no_conflict_told : (world : World) (span : OptionalSpan) (name : List ℕ) → world_w ≡ world
    → ExportizeCause chain_with_k 0 world (exportized (ends_and true) (Some (codes "x")) world) (InvalidTransitiveDependency span name) → ⊥
no_conflict_told world span name same cause =
    elim (subst (λ (x : World). ExportizeCause chain_with_k 0 x (exportized (ends_and true) (Some (codes "x")) x) (InvalidTransitiveDependency span name)) (sym same) cause) [
      | export_conflict n free listed conflict refused is ↦ let never : Some (Semantic None (type_exported_text (codes "k")) TypeExported) ≡ None = listed in cc
      | exportized_name_taken home taken is ↦ cc
      | not_exported is ↦ let kinds : Semantic None (type_exported_text (codes "k")) TypeExported ≡ InvalidTransitiveDependency span name = some_same _ _ is in cc
    ]

pub conflicts_are : ExamplesOfConflictsBesideTypes
conflicts_are = record {
  conflict = (world_w, refl, export_conflict (codes "foo:bar/c") x_is_free refl ends_conflict refused_c refl);
  no_type = λ label cause. no_type_told cause.0 label (some_same _ _ cause.1) cause.2;
  type_exported = (world_w, refl, not_exported refl);
  type_before = λ span name cause. no_conflict_told cause.0 span name (some_same _ _ cause.1) cause.2;
}
