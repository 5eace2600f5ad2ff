-- What the marks of a search tell of a conflict, and that there is one exactly where some export leads to it.
use Rattle.std.proofs.Common.{◌≡◌, ℕ, ◌<◌, ◌↔◌, inl, inr, List, [], ◌∷◌, length, refl, sym, ◌∙◌, subst, nat_eq, Contains}
use Rattle.std.specs.List.{list_any}
use Rattle.std.proofs.lemmas.Bool.{cases_Bool, false≢true}
use Rattle.std.proofs.lemmas.List.Elements.{All-contains}
use Rattle.wit_digraph.specs.facts.FreshFacts.{fresh_all, fresh_in, contains_from_any, any_from_contains}
use Rattle.wit_digraph.specs.facts.MemberFacts.{Contains-flat_map, Contains-flat_map_cases}
use Rattle.wit_digraph.specs.facts.PostOrderFacts.{Contains-post_order_end, UsesFirst-IsPath}
use Rattle.wit_digraph.specs.Relation.{direct, IsPath, Reaches, IsAcyclic}
use Rattle.wit_digraph.specs.PostOrder.{post_order, first_of_each}
use Rattle.wit_digraph.specs.steps.PostOrder.{UsesFirst}
use Rattle.wit_elaboration.specs.Elaborated.{dependencies_before}
use Rattle.wit_elaboration.specs.steps.Elaborating.{AreMarked, AreOutside, HasMarkedUse, IsExportedList}
use Rattle.wit_elaboration.specs.Entries.{Entry, Instance, item_interface}
use Rattle.wit_elaboration.specs.Imported.{HasTransitiveConflict, IsBetween, IsEntryInConflict}
use Rattle.wit_elaboration.proofs.ExportSteps.{all_needs}
use Rattle.wit_elaboration.specs.steps.Parts.{exported_keys, exported_interfaces, LeadsToConflict}

-- what was listed of some keys tells them
pub tells_keys : (listed : List ℕ) (exports : List Entry) → listed ≡ first_of_each (exported_keys exports) → IsExportedList listed exports
tells_keys listed exports is i = (
  λ has. fresh_in [] (exported_keys exports) i (subst (λ xs. Contains xs i) is has),
  λ has. subst (λ xs. Contains xs i) (sym is) (fresh_all [] (exported_keys exports) i has),
)

-- each use of an exported interface was walked
use_walked : (uses : List (List ℕ)) → IsAcyclic uses → (exports : List Entry) (walked : List ℕ) → walked ≡ first_of_each (all_needs uses exports) →
    (e : Entry) (i j : ℕ) → Contains exports e → Contains (item_interface e.1) i → Contains (direct uses i) j → Contains walked j
use_walked uses acyclic exports walked is e i j has here among =
    let inside = All-contains (λ x. x < length uses) (direct uses i) j (acyclic.in_range i) among in
    let own : Contains (dependencies_before uses (Instance i)) j = Contains-flat_map (post_order uses) (direct uses i) j j among (Contains-post_order_end uses acyclic j inside) in
    let all : Contains (all_needs uses exports) j = Contains-flat_map (λ k. dependencies_before uses (Instance k)) (exported_interfaces exports) i j (Contains-flat_map (λ (f : Entry). item_interface f.1) exports e i has here) own in
    subst (λ xs. Contains xs j) (sym is) (fresh_all [] (all_needs uses exports) j all)

-- an exported interface has a marked use exactly where it leads to a conflict
pub marks_tell : (uses : List (List ℕ)) → IsAcyclic uses → (exports : List Entry) (walked exported reaching outside leading : List ℕ) →
    walked ≡ first_of_each (all_needs uses exports) → UsesFirst uses [] walked → IsExportedList exported exports →
    AreMarked uses walked exported reaching → AreOutside walked reaching exported outside → AreMarked uses walked outside leading →
    (e : Entry) → (i : ℕ) → Contains exports e → Contains (item_interface e.1) i → HasMarkedUse uses leading i ↔ LeadsToConflict uses exports i
marks_tell uses acyclic exports walked exported reaching outside leading walked_is first tells are_reaching are_outside are_leading e i has here = (
  λ found.
      let to = are_leading.sound found.0 found.2 in
      let off = are_outside.sound to.0 to.2 in
      let on = are_reaching.sound to.0 off.1 in
      (found.0, to.0, found.1, to.1, (λ key. off.2 ((tells to.0).1 key), on.0, on.1, (tells on.0).0 on.2)),
  λ leads.
      let start = use_walked uses acyclic exports walked walked_is e i leads.0 has here leads.2 in
      let off = UsesFirst-IsPath uses walked leads.0 leads.3.0 leads.1 first start leads.3.1 in
      let between = leads.4 in
      let reach = are_reaching.complete leads.1 off (between.1, between.2, (tells between.1).1 between.3) in
      let out = are_outside.complete leads.1 off reach (λ key. between.0 ((tells leads.1).0 key)) in
      (leads.0, leads.2, are_leading.complete leads.0 start (leads.1, leads.3, out)),
)

-- ---- a conflict is where some export leads to one

pub conflict_found : (uses : List (List ℕ)) (exports : List Entry) → HasTransitiveConflict uses exports → (e : Entry) × Contains exports e × IsEntryInConflict uses exports e
conflict_found uses exports conflict =
    let part = Contains-flat_map_cases (λ (f : Entry). item_interface f.1) exports conflict.0 conflict.2 in
    (part.0, part.1.0, (conflict.0, part.1.1, (conflict.1, conflict.1, conflict.3, ([], refl), conflict.4)))

path_on : (uses : List (List ℕ)) (i j : ℕ) (path : List ℕ) (m : ℕ) → IsPath uses i path j → Reaches uses j m → Reaches uses i m
path_on uses i j [] m same reached = (reached.0, subst (λ k. IsPath uses k reached.0 m) (sym same) reached.1)
path_on uses i j (k ∷ path) m leads reached = let more = path_on uses k j path m leads.1 reached in (k ∷ more.0, (leads.0, more.1))

module _ (uses : List (List ℕ)) (exports : List Entry) (own : (j : ℕ) → Contains (exported_keys exports) j → Contains (exported_interfaces exports) j) where
  -- along a path that leaves the exports there is a use that leaves them
  leaves : (x j : ℕ) (path : List ℕ) (d : ℕ) → Contains (exported_interfaces exports) x → Contains (direct uses x) j → IsPath uses j path d → IsBetween uses exports d → HasTransitiveConflict uses exports
  leaves x j [] d exported among same between = (x, j, exported, among, subst (IsBetween uses exports) (sym same) between)
  leaves x j (k ∷ path) d exported among leads between =
      elim (cases_Bool (list_any (nat_eq j) (exported_keys exports))) [
        | inl key ↦ leaves j k path d (own j (contains_from_any j (exported_keys exports) key)) leads.0 leads.1 between
        | inr no_key ↦ (x, j, exported, among, (λ has. false≢true (sym no_key ∙ any_from_contains j (exported_keys exports) has), between.1, path_on uses j d (k ∷ path) between.1 leads between.2, between.3))
      ]

  pub conflict_from : (e : Entry) → Contains exports e → IsEntryInConflict uses exports e → HasTransitiveConflict uses exports
  conflict_from e has conflict =
      let leads = conflict.2 in
      leaves conflict.0 leads.0 leads.3.0 leads.1 (Contains-flat_map (λ (f : Entry). item_interface f.1) exports e conflict.0 has conflict.1) leads.2 leads.3.1 leads.4
