-- What is made beside a graph, where new entries are found: the imports of the world alone where no type names another one,
-- and else the graph that has them.
use Rattle.std.proofs.Common.{◌≡◌, ◌∙◌, ◌⊎◌, inl, inr, ℕ, List, [], ◌∷◌, Option, None, length, nat_eq, slice_set, refl, sym, ap, subst, arith}
use Rattle.std.specs.Map.{lookup}
use Rattle.std.specs.Option.{option_map_or}
use Rattle.wit_names.specs.declared.track.TrackRule.{TrackRule}
use Rattle.wit_data.specs.declared.world.World.{World}
use Rattle.wit_elaboration.specs.AllElaborated.{all_elaborated}
use Rattle.wit_elaboration.specs.Entries.{Entry}
use Rattle.wit_elaboration.specs.Valid.{IsValid}
use Rattle.wit_graph_data.specs.declared.graph.Graph.{Graph}
use Rattle.wit_graph_data.specs.declared.error_kind.ResolveErrorKind.{ResolveErrorKind}
use Rattle.wit_graph_data.specs.declared.error_kind.ResolveErrorKind.TheVariants.{OutOfMemory}
use Rattle.wit_semver.specs.SemverMerged.{IsSemverMergeCause, SemverMergeIsAccepted, SemverMerge, semver_merged, with_new_entries_at, semver_merge}
use Rattle.wit_semver.specs.laws.TrackLaws.{RetargetsNone, SemverMergesStayValid, SameTypesKeepWorlds}
use Rattle.wit_transform.specs.steps.Reasons.{CanBeElaborated, ElaborationCause}
use Rattle.wit_semver.specs.steps.Replacing.{AreNewEntries, with_imports, with_lists}
use Rattle.wit_semver.proofs.Elaborates.{accepted_from, can_settle, cause_from, semver_merged_from}
use Rattle.wit_semver.proofs.NewEntries.{relisted_is, target_is}

-- nothing is told where there is no pair
none_read : (targets : List (ℕ × ℕ)) (t : ℕ) → length targets ≡ 0 → lookup (nat_eq t) targets ≡ None
none_read [] t off = refl
none_read (e ∷ targets) t off = absurd (omega (arith, off))

module _ (rule : TrackRule) (g : Graph) (w : ℕ) (imports : List Entry) (targets : List (ℕ × ℕ)) (valid : IsValid g) (stay_valid : SemverMergesStayValid) (found : AreNewEntries rule g w imports targets) where
  abbrev u : SemverMerge
  u = semver_merge rule g found.world

  -- with it the graph is valid, where nothing holds against it
  valid_by : (new : Graph) → new ≡ semver_merged rule g w → SemverMergeIsAccepted rule g w → IsValid new
  valid_by new is accepted = subst IsValid (sym is) (stay_valid rule g w found.world valid found.there accepted)

  -- ---- where each type names what it named

  module _ (same : SameTypesKeepWorlds) (off : length targets ≡ 0) where
    retargets_none : RetargetsNone u
    retargets_none t = sym (target_is u targets found.targets_are t) ∙ none_read targets t off

    pub kept_accepted : SemverMergeIsAccepted rule g w
    kept_accepted = (same u w valid found.there retargets_none found.complete found.agree).0

    pub kept_is : with_imports g w imports ≡ semver_merged rule g w
    kept_is =
        ap (λ (o : Option World). record g { worlds = option_map_or (λ (world : World). slice_set g.worlds w (record world { imports = imports })) o g.worlds }) found.there
        ∙ ap (λ (es : List Entry). record g { worlds = slice_set g.worlds w (record found.world { imports = es }) }) found.imports_are
        ∙ sym (same u w valid found.there retargets_none found.complete found.agree).1

    pub kept_valid : IsValid (with_imports g w imports)
    kept_valid = valid_by (with_imports g w imports) kept_is kept_accepted

  -- ---- the graph that has its new entries

  module _ (made : Graph) (is : made ≡ with_lists g w imports targets) where
    made_is : made ≡ with_new_entries_at u w
    made_is = is ∙ ap (λ (es : List Entry). with_lists g w es targets) found.imports_are ∙ relisted_is u targets found.targets_are w found.there

    pub can_be_elaborated : CanBeElaborated made
    can_be_elaborated = subst CanBeElaborated (sym made_is) (can_settle u valid w found.there)

    pub refused : (e : ResolveErrorKind) → (e ≡ OutOfMemory) ⊎ ElaborationCause made e → (e ≡ OutOfMemory) ⊎ IsSemverMergeCause rule g w e
    refused e (inl memory) = inl memory
    refused e (inr told) = inr (found.world, found.there, cause_from u w found.complete e (subst (λ (x : Graph). ElaborationCause x e) made_is told))

    pub accepted : ((e : ResolveErrorKind) → ElaborationCause made e → ⊥) → SemverMergeIsAccepted rule g w
    accepted none = accepted_from rule g w found.world found.there found.complete found.agree (λ e told. none e (subst (λ (x : Graph). ElaborationCause x e) (sym made_is) told))

    pub elaborated_is : all_elaborated made ≡ semver_merged rule g w
    elaborated_is = semver_merged_from rule g w found.world found.there made made_is

    pub elaborated_valid : (new : Graph) → new ≡ all_elaborated made → ((e : ResolveErrorKind) → ElaborationCause made e → ⊥) → IsValid new
    elaborated_valid new is none = valid_by new (is ∙ elaborated_is) (accepted none)
