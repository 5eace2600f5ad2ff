-- There is a refused key exactly where there is a conflict.
use Rattle.std.proofs.Common.{◌≡◌, ℕ, ◌<◌, Bool, true, false, not, ◌&&◌, inl, inr, List, [], ◌∷◌, ◌++◌, length, refl, sym, ap, ◌∙◌, subst, Contains}
use Rattle.std.specs.List.{list_any}
use Rattle.std.proofs.lemmas.Bool.{and_parts, cases_Bool, false≢true, or_cases}
use Rattle.std.proofs.lemmas.List.Elements.{All-contains, Contains-append_right}
use Rattle.std.proofs.lemmas.List.Folds.{list_any_at}
use Rattle.wit_data.specs.declared.world.WorldKey.{WorldKey}
use Rattle.wit_digraph.specs.facts.FreshFacts.{any_from_contains, contains_from_any, no_any_from}
use Rattle.wit_digraph.specs.facts.MemberFacts.{Contains-nil, Contains-here, Contains-there, Contains-cons_cases}
use Rattle.wit_digraph.specs.facts.PostOrderFacts.{Reaches-from_post_order, post_order-from_IsPath}
use Rattle.wit_digraph.specs.Relation.{direct, IsAcyclic}
use Rattle.wit_digraph.specs.PostOrder.{post_order}
use Rattle.wit_elaboration.specs.Entries.{Entry, item_interface}
use Rattle.wit_elaboration.specs.laws.ElaborationLaws.{ConflictsAreRefused}
use Rattle.wit_data.specs.Each.{First}
use Rattle.wit_elaboration.specs.Imported.{IsEntryInConflict, IsRefusedKey, is_exported}
use Rattle.wit_elaboration.proofs.ConflictIs.{conflict_found, conflict_from}
use Rattle.wit_elaboration.proofs.ElaboratedIs.{own_keys}
use Rattle.wit_elaboration.specs.facts.Filters.{not_true}
use Rattle.wit_elaboration.proofs.Roles.{in_order}
use Rattle.wit_elaboration.proofs.Needs.{path_below}
use Rattle.wit_elaboration.specs.steps.Parts.{exported_keys}

-- a member that passes
passing : {X : Type 0} (p : X → Bool) (xs : List X) → list_any p xs ≡ true → (x : X) × (Contains xs x × (p x ≡ true))
passing p [] found = absurd (false≢true found)
passing p (x ∷ xs) found =
    elim (or_cases (p x) (list_any p xs) found)
    [ inl here ↦ (x, (Contains-here x xs, here)) | inr there ↦ let more = passing p xs there in (more.0, (Contains-there x more.0 xs more.1.0, more.1.1)) ]

passes : {X : Type 0} (p : X → Bool) (xs : List X) (x : X) → Contains xs x → p x ≡ true → list_any p xs ≡ true
passes p xs x has pass = list_any_at p xs has.0 x has.1 (rw has.2 pass)

both : (a b : Bool) → a ≡ true → b ≡ true → (a && b) ≡ true
both true true on on' = refl
both true false on on' = on'
both false b on on' = on

-- the first member that passes
pub record FirstOf (p : Entry → Bool) (es : List Entry) : Type 0 where
  pub before : List Entry
  pub found : Entry
  pub after : List Entry
  pub parts : es ≡ before ++ found ∷ after
  pub none : (f : Entry) → Contains before f → p f ≡ false
  pub pass : p found ≡ true

first_of : (p : Entry → Bool) (es : List Entry) (x : Entry) → Contains es x → p x ≡ true → FirstOf p es
first_of p [] x has pass = absurd (Contains-nil has)
first_of p (e ∷ es) x has pass =
    elim (cases_Bool (p e)) [
      | inl on ↦ record { before = []; found = e; after = es; parts = refl; none = λ f among. absurd (Contains-nil among); pass = on }
      | inr off ↦ elim (Contains-cons_cases e x es has) [
        | inl same ↦ absurd (false≢true (sym off ∙ subst (λ (y : Entry). p y ≡ true) (sym same) pass))
        | inr there ↦
            let more = first_of p es x there pass in
            record {
              before = e ∷ more.before;
              found = more.found;
              after = more.after;
              parts = ap (λ (ys : List Entry). e ∷ ys) more.parts;
              none = λ f among. elim (Contains-cons_cases e f more.before among) [ inl same ↦ subst (λ (y : Entry). p y ≡ false) same off | inr later ↦ more.none f later ];
              pass = more.pass;
            }
      ]
    ]

module _ (uses : List (List ℕ)) (acyclic : IsAcyclic uses) (exports : List Entry) where
  abbrev is_outside : ℕ → Bool
  is_outside d = not (is_exported exports d) && list_any (is_exported exports) (post_order uses d)

  abbrev leads : ℕ → Bool
  leads i = list_any (λ j. list_any is_outside (post_order uses j)) (direct uses i)

  abbrev conflicts : Entry → Bool
  conflicts e = list_any leads (item_interface e.1)

  used_below : (i j : ℕ) → Contains (direct uses i) j → j < length uses
  used_below i j among = All-contains (λ x. x < length uses) (direct uses i) j (acyclic.in_range i) among

  conflicts_is : (e : Entry) → conflicts e ≡ true → IsEntryInConflict uses exports e
  conflicts_is e found =
      let i = passing leads (item_interface e.1) found in
      let j = passing (λ k. list_any is_outside (post_order uses k)) (direct uses i.0) i.1.1 in
      let below = used_below i.0 j.0 j.1.0 in
      let d = passing is_outside (post_order uses j.0) j.1.1 in
      let to = Reaches-from_post_order uses acyclic j.0 below d.0 d.1.0 in
      let parts = and_parts (not (is_exported exports d.0)) (list_any (is_exported exports) (post_order uses d.0)) d.1.1 in
      let m = passing (is_exported exports) (post_order uses d.0) parts.1 in
      let on = Reaches-from_post_order uses acyclic d.0 (path_below uses acyclic j.0 to.0 d.0 below to.1) m.0 m.1.0 in
      (i.0, i.1.0, (j.0, d.0, j.1.0, to, (λ key. false≢true (sym (not_true (is_exported exports d.0) parts.0) ∙ any_from_contains d.0 (exported_keys exports) key), m.0, on, contains_from_any m.0 (exported_keys exports) m.1.1)))

  is_conflicts : (e : Entry) → IsEntryInConflict uses exports e → conflicts e ≡ true
  is_conflicts e conflict =
      let leads' = conflict.2 in
      let between = leads'.4 in
      let below = used_below conflict.0 leads'.0 leads'.2 in
      let below' = path_below uses acyclic leads'.0 leads'.3.0 leads'.1 below leads'.3.1 in
      passes leads (item_interface e.1) conflict.0 conflict.1
      (passes (λ k. list_any is_outside (post_order uses k)) (direct uses conflict.0) leads'.0 leads'.2
      (passes is_outside (post_order uses leads'.0) leads'.1 (post_order-from_IsPath uses acyclic leads'.0 leads'.3.0 leads'.1 below leads'.3.1)
      (both (not (is_exported exports leads'.1)) (list_any (is_exported exports) (post_order uses leads'.1)) (ap not (no_any_from leads'.1 (exported_keys exports) between.0))
      (passes (is_exported exports) (post_order uses leads'.1) between.1 (post_order-from_IsPath uses acyclic leads'.1 between.2.0 between.1 below' between.2.1) (any_from_contains between.1 (exported_keys exports) between.3)))))

  -- where some export is in conflict there is a first
  pub refused_key : (e : Entry) → Contains exports e → IsEntryInConflict uses exports e → (k : WorldKey) × IsRefusedKey uses exports k
  refused_key e has conflict =
      let first = first_of conflicts exports e has (is_conflicts e conflict) in
      let refused : First (IsEntryInConflict uses exports) exports first.found = record {
        before = first.before;
        after = first.after;
        are = first.parts;
        earlier = λ f among at. false≢true (sym (first.none f among) ∙ is_conflicts f at);
        is = conflicts_is first.found first.pass;
      } in (
        first.found.0,
        (first.found, refused, refl),
      )

pub conflicts_are_refused : ConflictsAreRefused
conflicts_are_refused types uses imports exports acyclic listed =
    let order = in_order types (length uses) imports exports listed in (
      λ conflict. let found = conflict_found uses exports conflict in refused_key uses acyclic exports found.0 found.1 found.2,
      λ refused.
          let e = refused.1.0 in
          let first = refused.1.1 in
          conflict_from uses exports (own_keys types uses acyclic imports exports order) e (subst (λ (es : List Entry). Contains es e) (sym first.are) (Contains-append_right first.before (e ∷ first.after) e (Contains-here e first.after))) first.is,
    )
