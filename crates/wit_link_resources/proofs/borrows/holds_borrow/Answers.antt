use Rattle.std.proofs.Common.{◌≡◌, ◌∙◌, ◌++◌, ◌∷◌, ◌<◌, [], ℕ, List, Some, length, get_or, slice_get, ap, refl, rules, sym, subst, arith}
use Rattle.std.specs.List.{flat_map}
use Rattle.std.proofs.lemmas.Bool.{false≢true}
use Rattle.std.proofs.lemmas.Option.{slice_get-get_or}
use Rattle.wit_digraph.specs.Relation.{IsAcyclic, direct}
use Rattle.wit_digraph.specs.PostOrder.{post_order}
use Rattle.wit_data.specs.declared.types.TypeDef.{TypeDef}
use Rattle.wit_graph_data.specs.facts.ContentFacts.{content_row, contents_acyclic, held_long}
use Rattle.wit_graph_data.specs.Queries.{type_contents}
use Rattle.wit_link_resources.proofs.Inserting.{insert-known, insert-new, insert-same}
use Rattle.wit_link_resources.proofs.MayHold.{borrow_back, borrow_here}
use Rattle.wit_link_resources.proofs.Searching.{IsSearching, search-bad, search-begun, search-free, search-known, search-more, search-none, shorter-known, shorter-more, top_there}
use Rattle.wit_link_resources.proofs.borrows.holds_borrow.Goals as goal
use Rattle.wit_remap_spec.specs.steps.Parts.{IsBorrow}

abbrev Search : List TypeDef → ℕ → List ℕ → List ℕ → Type 0
Search types id keys stack = IsSearching (type_contents types) (IsBorrow types) id keys stack

-- what is on the stack is there
below : (types : List TypeDef) (id place : ℕ) (keys rest stack : List ℕ) → IsAcyclic (type_contents types) → stack ≡ rest ++ place ∷ [] → Search types id keys stack → place < length types
below types id place keys rest stack acyclic is now =
    let there = top_there (type_contents types) (IsBorrow types) acyclic id place keys rest (subst (Search types id keys) is now) in
    let long = held_long types in
    omega arith

pub loop-place-init : goal.loop-place-init
loop-place-init c =
    let types : List TypeDef = c.args.types.now in
    let is : c.push.new.self ≡ c.args.id ∷ [] = c.in_ok-push.ensures.ok ∙ (ap (λ (s : List ℕ). s ++ c.index.result ∷ []) c.new-stack.ensures ∙ ap (λ (k : ℕ). k ∷ []) c.index.ensures) in
    subst (Search types c.args.id c.args.free.now.keys) (sym is)
    (search-begun (type_contents types) (IsBorrow types) (contents_acyclic types c.requires.acyclic) c.args.id c.args.free.now.keys (subst (λ (n : ℕ). c.args.id < n) (sym (held_long types)) c.requires.there) c.requires.free)

pub loop-place-preserved : goal.loop-place-preserved
loop-place-preserved c =
    let types : List TypeDef = c.args.types.now in
    let keys : List ℕ = c.loop-place.free.keys in
    let now : Search types c.args.id keys (c.pop.new.self ++ c.in-Some.place ∷ []) = subst (Search types c.args.id keys) c.in-Some.ensures.last c.loop-place.invariant in
    let same = insert-same keys c.insert.new.self.keys c.in-Some.place c.in_ok-insert.field-0 c.in_ok-insert.ensures.added c.in_ok-insert.ensures.keys c.if-branch.false in
    let known = insert-known keys c.insert.new.self.keys c.in-Some.place c.in_ok-insert.field-0 c.in_ok-insert.ensures.added c.in_ok-insert.ensures.keys c.if-branch.false in
    subst (λ (ks : List ℕ). Search types c.args.id ks c.pop.new.self) (sym same)
    (search-known (type_contents types) (IsBorrow types) (contents_acyclic types c.requires.acyclic) c.args.id c.in-Some.place keys c.pop.new.self now known)

pub loop-place-smaller : goal.loop-place-smaller
loop-place-smaller c =
    let types : List TypeDef = c.args.types.now in
    let keys : List ℕ = c.loop-place.free.keys in
    let now : Search types c.args.id keys (c.pop.new.self ++ c.in-Some.place ∷ []) = subst (Search types c.args.id keys) c.in-Some.ensures.last c.loop-place.invariant in
    subst (λ (s : List ℕ). length (flat_map (post_order (type_contents types)) c.pop.new.self) < length (flat_map (post_order (type_contents types)) s)) (sym c.in-Some.ensures.last)
    (shorter-known (type_contents types) (IsBorrow types) (contents_acyclic types c.requires.acyclic) c.args.id c.in-Some.place keys c.pop.new.self now)

pub offset_bounds-types-place : goal.offset_bounds-types-place
offset_bounds-types-place c =
    let there : c.in-Some.place < length c.args.types.now =
    below c.args.types.now c.args.id c.in-Some.place c.loop-place.free.keys c.pop.new.self c.loop-place.stack (contents_acyclic c.args.types.now c.requires.acyclic) c.in-Some.ensures.last c.loop-place.invariant in
    search rules

pub bounds-types-place : goal.bounds-types-place
bounds-types-place c =
    below c.args.types.now c.args.id c.in-Some.place c.loop-place.free.keys c.pop.new.self c.loop-place.stack (contents_acyclic c.args.types.now c.requires.acyclic) c.in-Some.ensures.last c.loop-place.invariant

pub returns-then-is_borrow-clause-holds : goal.returns-then-is_borrow-clause-holds
returns-then-is_borrow-clause-holds c =
    let types : List TypeDef = c.args.types.now in
    let keys : List ℕ = c.loop-place.free.keys in
    let acyclic = contents_acyclic types c.requires.acyclic in
    let now : Search types c.args.id keys (c.pop.new.self ++ c.in-Some.place ∷ []) = subst (Search types c.args.id keys) c.in-Some.ensures.last c.loop-place.invariant in
    let there = below types c.args.id c.in-Some.place keys c.pop.new.self c.loop-place.stack acyclic c.in-Some.ensures.last c.loop-place.invariant in
    let def : TypeDef = get_or types c.in-Some.place c.index-types-place.result in
    let at : slice_get types c.in-Some.place ≡ Some def = slice_get-get_or types c.in-Some.place c.index-types-place.result there in (
      λ h. search-bad (type_contents types) (IsBorrow types) acyclic c.args.id c.in-Some.place keys c.pop.new.self now (borrow_here types c.in-Some.place def at (c.is_borrow.ensures.0 c.if-is_borrow.true)),
      λ h. refl,
    )

pub loop-place-smaller-in-Continue-branch-3 : goal.loop-place-smaller-in-Continue-branch-3
loop-place-smaller-in-Continue-branch-3 c =
    let types : List TypeDef = c.args.types.now in
    let keys : List ℕ = c.loop-place.free.keys in
    let acyclic = contents_acyclic types c.requires.acyclic in
    let now : Search types c.args.id keys (c.pop.new.self ++ c.in-Some.place ∷ []) = subst (Search types c.args.id keys) c.in-Some.ensures.last c.loop-place.invariant in
    let there = below types c.args.id c.in-Some.place keys c.pop.new.self c.loop-place.stack acyclic c.in-Some.ensures.last c.loop-place.invariant in
    let def : TypeDef = get_or types c.in-Some.place c.index-types-place.result in
    let at : slice_get types c.in-Some.place ≡ Some def = slice_get-get_or types c.in-Some.place c.index-types-place.result there in
    let stack : c.push_held.new.stack ≡ c.pop.new.self ++ direct (type_contents types) c.in-Some.place = c.in_ok-push_held.ensures ∙ ap (λ (us : List ℕ). c.pop.new.self ++ us) (sym (content_row types c.in-Some.place def at)) in
    subst (λ (s : List ℕ). length (flat_map (post_order (type_contents types)) c.push_held.new.stack) < length (flat_map (post_order (type_contents types)) s)) (sym c.in-Some.ensures.last)
    (subst (λ (s : List ℕ). length (flat_map (post_order (type_contents types)) s) < length (flat_map (post_order (type_contents types)) (c.pop.new.self ++ c.in-Some.place ∷ []))) (sym stack)
    (shorter-more (type_contents types) (IsBorrow types) acyclic c.args.id c.in-Some.place keys c.pop.new.self now))

pub loop-place-preserved-in-Continue-branch-3 : goal.loop-place-preserved-in-Continue-branch-3
loop-place-preserved-in-Continue-branch-3 c =
    let types : List TypeDef = c.args.types.now in
    let keys : List ℕ = c.loop-place.free.keys in
    let acyclic = contents_acyclic types c.requires.acyclic in
    let now : Search types c.args.id keys (c.pop.new.self ++ c.in-Some.place ∷ []) = subst (Search types c.args.id keys) c.in-Some.ensures.last c.loop-place.invariant in
    let there = below types c.args.id c.in-Some.place keys c.pop.new.self c.loop-place.stack acyclic c.in-Some.ensures.last c.loop-place.invariant in
    let def : TypeDef = get_or types c.in-Some.place c.index-types-place.result in
    let at : slice_get types c.in-Some.place ≡ Some def = slice_get-get_or types c.in-Some.place c.index-types-place.result there in
    let stack : c.push_held.new.stack ≡ c.pop.new.self ++ direct (type_contents types) c.in-Some.place = c.in_ok-push_held.ensures ∙ ap (λ (us : List ℕ). c.pop.new.self ++ us) (sym (content_row types c.in-Some.place def at)) in
    let new = insert-new keys c.insert.new.self.keys c.in-Some.place c.in_ok-insert.field-0 c.in_ok-insert.ensures.added c.in_ok-insert.ensures.keys c.if-branch.true in
    subst (λ (ks : List ℕ). Search types c.args.id ks c.push_held.new.stack) (sym new)
    (subst (Search types c.args.id (keys ++ c.in-Some.place ∷ [])) (sym stack)
    (search-more (type_contents types) (IsBorrow types) acyclic c.args.id c.in-Some.place keys c.pop.new.self now
    (λ bad. false≢true (sym c.if-is_borrow.false ∙ c.is_borrow.ensures.1 (borrow_back types c.in-Some.place def at bad)))))

pub returns-clause-holds : goal.returns-clause-holds
returns-clause-holds c =
    let types : List TypeDef = c.args.types.now in
    let keys : List ℕ = c.loop-place.free.keys in
    let done : Search types c.args.id keys [] = subst (Search types c.args.id keys) c.in_default.ensures.empty c.loop-place.invariant in
    (λ h. absurd (false≢true h), λ bad. absurd (search-none (type_contents types) (IsBorrow types) (contents_acyclic types c.requires.acyclic) c.args.id keys done bad))

pub returns-clause-free : goal.returns-clause-free
returns-clause-free c = λ h.
    let types : List TypeDef = c.args.types.now in
    let keys : List ℕ = c.loop-place.free.keys in
    let done : Search types c.args.id keys [] = subst (Search types c.args.id keys) c.in_default.ensures.empty c.loop-place.invariant in
    search-free (type_contents types) (IsBorrow types) (contents_acyclic types c.requires.acyclic) c.args.id keys done
