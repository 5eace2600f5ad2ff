-- Why a world can't be finished, from what its steps tell.
use Rattle.std.proofs.Common.{◌≡◌, ◌⊎◌, inl, inr, ℕ, List, None, Some, Contains, refl, sym, subst, slice_get, true}
use Rattle.std.specs.Map.{keys_of}
use Rattle.wit_data.specs.Entries.{Entry}
use Rattle.wit_data.specs.declared.function.Function.{Function}
use Rattle.wit_data.specs.declared.world.World.{World}
use Rattle.wit_data.specs.declared.world.WorldItem.TheVariants as item
use Rattle.wit_data.specs.declared.world.WorldKey.TheVariants as key
use Rattle.wit_elaboration.specs.Elaboration.{IsConflictError, graph_uses}
use Rattle.wit_elaboration.specs.Imported.{HasTransitiveConflict}
use Rattle.wit_graph_data.specs.Error.{NoCause}
use Rattle.wit_graph_data.specs.declared.cause.Cause.TheVariants as cause
use Rattle.wit_graph_data.specs.declared.graph.Graph.{Graph}
use Rattle.wit_graph_data.specs.declared.error_kind.ResolveErrorKind.{ResolveErrorKind}
use Rattle.wit_graph_data.specs.declared.error_kind.ResolveErrorKind.TheVariants.{PackageNotFound, WorldNotFound, InterfaceNotFound, InvalidTransitiveDependency, DuplicatePackage, PackageCycle, ItemShadowing, StabilityMismatch, Semantic, OffsetOverflow, OutOfMemory}
use Rattle.wit_graph_theory.specs.facts.ListFacts.{contained_at, same_at}
use Rattle.wit_labels.specs.Setters.{getter_label, setters_placed, is_setter_label}
use Rattle.wit_labels.specs.steps.Setters.{HaveGetters, IsSetter, LacksGetterAt}
use Rattle.wit_labels.specs.Strong.{Clashes}
use Rattle.wit_labels.specs.steps.Strong.{AreStronglyUnique}
use Rattle.wit_link_spec.specs.CauseText.{clash_text, getter_text}
use Rattle.wit_link_spec.specs.WorldReasons.{IsFinishCause, IsLabelCause, IsListCause, conflict_4, no_getter_18, not_strongly_unique_17, of_labels}
use Rattle.wit_link_include.specs.steps.Included.{LabelsAreAccepted, ListIsAccepted}
use Rattle.wit_link_spec.specs.steps.Parts.{with_setters_placed}

-- ---- labels

name_same : (l m : List ℕ) → key.Name l ≡ key.Name m → l ≡ m
name_same l m h = cc

-- the error of two labels that clash
pub clash_error : (world word : List ℕ) (entries : List Entry) (n m : List ℕ) → Clashes (keys_of entries) n m → (e : ResolveErrorKind) → e ≡ Semantic None (clash_text word n world m) cause.NotStronglyUnique
    → (e ≡ OutOfMemory) ⊎ IsListCause world word entries e
clash_error world word entries n m is e same = inr (subst (IsListCause world word entries) (sym same) (not_strongly_unique_17 n m is))

-- the error of a setter that is found to be alone
pub alone_error : (world word : List ℕ) (entries : List Entry) (place : ℕ) (label : List ℕ) (f : Function) → LacksGetterAt entries place → slice_get entries place ≡ Some (key.Name label, item.Function f)
    → (e : ResolveErrorKind) → e ≡ Semantic f.span (getter_text word label world (getter_label label)) cause.NoGetter → IsListCause world word entries e
alone_error world word entries place label f lacks at e same =
    let here : lacks.entry ≡ (key.Name label, item.Function f) = same_at entries place place lacks.entry (key.Name label, item.Function f) refl lacks.at at in
    let is : IsSetter lacks.label (key.Name label, item.Function f) = subst (λ (x : Entry). IsSetter lacks.label x) here lacks.setter in
    let called : lacks.label ≡ label = name_same lacks.label label (sym is.0) in
    subst (IsListCause world word entries) (sym same)
    (no_getter_18 label f (contained_at entries place (key.Name label, item.Function f) at) (subst (λ (l : List ℕ). is_setter_label l ≡ true) called is.1)
    (subst (λ (l : List ℕ). Contains (keys_of entries) (key.Name (getter_label l)) → ⊥) called lacks.absent))

-- a list without either is refused for nothing
pub list_accepted : (world word : List ℕ) (entries : List Entry) → AreStronglyUnique (keys_of entries) → HaveGetters entries → ListIsAccepted world word entries
list_accepted world word entries unique getters = record { no_cause = none }
  where
    none : NoCause (IsListCause world word entries)
    none _ (not_strongly_unique_17 n m is) = unique n m is
    none _ (no_getter_18 label f has setter absent) = absent (getters (key.Name label, item.Function f) label has (refl, setter))

pub label_cause : (g : Graph) (world : World) (kind : ResolveErrorKind) → (kind ≡ OutOfMemory) ⊎ IsLabelCause world kind → (kind ≡ OutOfMemory) ⊎ IsFinishCause g world kind
label_cause g world kind (inl none) = inl none
label_cause g world kind (inr error) = inr (of_labels kind error)

-- ---- the conflict

pub conflict_cause : (g : Graph) (world : World) (kind : ResolveErrorKind) → (kind ≡ OutOfMemory) ⊎ IsConflictError g (with_setters_placed world) kind → (kind ≡ OutOfMemory) ⊎ IsFinishCause g world kind
conflict_cause g world kind (inl none) = inl none
conflict_cause g world kind (inr is) = inr (subst (λ k. IsFinishCause g world k) (sym is.1) (conflict_4 is.0 is.2 is.3))

-- ---- a world that is refused for nothing

pub finish_accepted : (g : Graph) (world : World) → LabelsAreAccepted world → (HasTransitiveConflict (graph_uses g) (setters_placed world.exports) → ⊥) → NoCause (IsFinishCause g world)
finish_accepted g world labels no_conflict _ (conflict_4 name conflict name_is) = no_conflict conflict
finish_accepted g world labels no_conflict _ (of_labels error (inl is)) = labels.imports.no_cause error is
finish_accepted g world labels no_conflict _ (of_labels error (inr is)) = labels.exports.no_cause error is
