use Rattle.std.proofs.Common.{◌≡◌, ◌∙◌, ◌++◌, ◌∷◌, ◌<◌, [], ℕ, List, length, ap, refl, sym, subst, arith}
use Rattle.std.specs.List.{flat_map}
use Rattle.std.proofs.lemmas.Bool.{false≢true}
use Rattle.wit_digraph.specs.Relation.{IsAcyclic, direct}
use Rattle.wit_digraph.specs.PostOrder.{post_order}
use Rattle.wit_data.specs.facts.ReferenceFacts.{IsAcyclic-references}
use Rattle.wit_data.specs.Shape.{IsShaped}
use Rattle.wit_graph_data.specs.facts.ContentFacts.{content_row, contents_acyclic, held_long}
use Rattle.wit_graph_data.specs.Queries.{type_contents}
use Rattle.wit_link_spec.specs.steps.AdditionRefs.{addition_of}
use Rattle.wit_link_spec.specs.Addition.{Addition}
use Rattle.wit_link_resources.specs.steps.Borrows.{IsBorrowThere}
use Rattle.wit_link_resources.proofs.Inserting.{insert-known, insert-new, insert-same}
use Rattle.wit_link_resources.proofs.MayHold.{may_hold, may_hold_back}
use Rattle.wit_link_resources.proofs.Searching.{IsSearching, search-bad, search-begun, search-free, search-known, search-more, search-none, shorter-known, shorter-more, top_there}
use Rattle.wit_link_resources.proofs.borrows.may_hold_borrow.Goals as goal

abbrev Search : Addition → ℕ → List ℕ → List ℕ → Type 0
Search a id keys stack = IsSearching (type_contents a.unresolved.types) (IsBorrowThere a) id keys stack

rows_acyclic : (a : Addition) → IsShaped a.unresolved → IsAcyclic (type_contents a.unresolved.types)
rows_acyclic a shaped = contents_acyclic a.unresolved.types (IsAcyclic-references a.unresolved.types shaped.references.earlier)

-- what is on the stack is there
below : (a : Addition) → IsShaped a.unresolved → (id place : ℕ) (keys rest stack : List ℕ) → stack ≡ rest ++ place ∷ [] → Search a id keys stack → place < length a.unresolved.types
below a shaped id place keys rest stack is now =
    let there = top_there (type_contents a.unresolved.types) (IsBorrowThere a) (rows_acyclic a shaped) id place keys rest (subst (Search a id keys) is now) in
    let long = held_long a.unresolved.types in
    omega arith

pub loop-place-init : goal.loop-place-init
loop-place-init c =
    let a : Addition = addition_of c.args.addition.now in
    let is : c.push.new.self ≡ c.args.id ∷ [] = c.in_ok-push.ensures.ok ∙ (ap (λ (s : List ℕ). s ++ c.index.result ∷ []) c.new-stack.ensures ∙ ap (λ (k : ℕ). k ∷ []) c.index.ensures) in
    record {
      searching = subst (Search a c.args.id c.args.free.now.unresolved.keys) (sym is)
          (search-begun (type_contents a.unresolved.types) (IsBorrowThere a) (rows_acyclic a c.requires.shaped) c.args.id c.args.free.now.unresolved.keys
          (subst (λ (n : ℕ). c.args.id < n) (sym (held_long a.unresolved.types)) c.requires.there) c.requires.unresolved);
      graph = c.requires.graph;
    }

pub loop-place-preserved : goal.loop-place-preserved
loop-place-preserved c =
    let a : Addition = addition_of c.args.addition.now in
    let keys : List ℕ = c.loop-place.free.unresolved.keys in
    let now : Search a c.args.id keys (c.pop.new.self ++ c.in-Some.place ∷ []) = subst (Search a c.args.id keys) c.in-Some.ensures.last c.loop-place.invariant.searching in
    let same = insert-same keys c.insert.new.self.keys c.in-Some.place c.in_ok-insert.field-0 c.in_ok-insert.ensures.added c.in_ok-insert.ensures.keys c.if-branch.false in
    let known = insert-known keys c.insert.new.self.keys c.in-Some.place c.in_ok-insert.field-0 c.in_ok-insert.ensures.added c.in_ok-insert.ensures.keys c.if-branch.false in
    record {
      searching = subst (λ (ks : List ℕ). Search a c.args.id ks c.pop.new.self) (sym same)
          (search-known (type_contents a.unresolved.types) (IsBorrowThere a) (rows_acyclic a c.requires.shaped) c.args.id c.in-Some.place keys c.pop.new.self now known);
      graph = c.loop-place.invariant.graph;
    }

pub loop-place-smaller : goal.loop-place-smaller
loop-place-smaller c =
    let a : Addition = addition_of c.args.addition.now in
    let rows : List (List ℕ) = type_contents a.unresolved.types in
    let keys : List ℕ = c.loop-place.free.unresolved.keys in
    let now : Search a c.args.id keys (c.pop.new.self ++ c.in-Some.place ∷ []) = subst (Search a c.args.id keys) c.in-Some.ensures.last c.loop-place.invariant.searching in
    subst (λ (s : List ℕ). length (flat_map (post_order rows) c.pop.new.self) < length (flat_map (post_order rows) s)) (sym c.in-Some.ensures.last)
    (shorter-known rows (IsBorrowThere a) (rows_acyclic a c.requires.shaped) c.args.id c.in-Some.place keys c.pop.new.self now)

pub is_borrow_there-requires-clause-there : goal.is_borrow_there-requires-clause-there
is_borrow_there-requires-clause-there c =
    below (addition_of c.args.addition.now) c.requires.shaped c.args.id c.in-Some.place c.loop-place.free.unresolved.keys c.pop.new.self c.loop-place.stack c.in-Some.ensures.last c.loop-place.invariant.searching

pub at-requires : goal.at-requires
at-requires c =
    below (addition_of c.args.addition.now) c.requires.shaped c.args.id c.in-Some.place c.loop-place.free.unresolved.keys c.pop.new.self c.loop-place.stack c.in-Some.ensures.last c.loop-place.invariant.searching

pub returns-then-branch-2-clause-holds : goal.returns-then-branch-2-clause-holds
returns-then-branch-2-clause-holds c =
    let a : Addition = addition_of c.args.addition.now in
    let keys : List ℕ = c.loop-place.free.unresolved.keys in
    let now : Search a c.args.id keys (c.pop.new.self ++ c.in-Some.place ∷ []) = subst (Search a c.args.id keys) c.in-Some.ensures.last c.loop-place.invariant.searching in (
      λ h. may_hold a c.args.id (search-bad (type_contents a.unresolved.types) (IsBorrowThere a) (rows_acyclic a c.requires.shaped) c.args.id c.in-Some.place keys c.pop.new.self now
          (c.in_ok-is_borrow_there.ensures.holds.0 c.if-branch-2.true)),
      λ h. refl,
    )

pub loop-place-smaller-in-Continue-branch-4 : goal.loop-place-smaller-in-Continue-branch-4
loop-place-smaller-in-Continue-branch-4 c =
    let a : Addition = addition_of c.args.addition.now in
    let rows : List (List ℕ) = type_contents a.unresolved.types in
    let keys : List ℕ = c.loop-place.free.unresolved.keys in
    let now : Search a c.args.id keys (c.pop.new.self ++ c.in-Some.place ∷ []) = subst (Search a c.args.id keys) c.in-Some.ensures.last c.loop-place.invariant.searching in
    let stack : c.push_held.new.stack ≡ c.pop.new.self ++ direct rows c.in-Some.place =
    c.in_ok-push_held.ensures ∙ ap (λ (us : List ℕ). c.pop.new.self ++ us) (sym (content_row a.unresolved.types c.in-Some.place c.at.result.now c.at.ensures)) in
    subst (λ (s : List ℕ). length (flat_map (post_order rows) c.push_held.new.stack) < length (flat_map (post_order rows) s)) (sym c.in-Some.ensures.last)
    (subst (λ (s : List ℕ). length (flat_map (post_order rows) s) < length (flat_map (post_order rows) (c.pop.new.self ++ c.in-Some.place ∷ []))) (sym stack)
    (shorter-more rows (IsBorrowThere a) (rows_acyclic a c.requires.shaped) c.args.id c.in-Some.place keys c.pop.new.self now))

pub loop-place-preserved-in-Continue-branch-4 : goal.loop-place-preserved-in-Continue-branch-4
loop-place-preserved-in-Continue-branch-4 c =
    let a : Addition = addition_of c.args.addition.now in
    let rows : List (List ℕ) = type_contents a.unresolved.types in
    let keys : List ℕ = c.loop-place.free.unresolved.keys in
    let now : Search a c.args.id keys (c.pop.new.self ++ c.in-Some.place ∷ []) = subst (Search a c.args.id keys) c.in-Some.ensures.last c.loop-place.invariant.searching in
    let stack : c.push_held.new.stack ≡ c.pop.new.self ++ direct rows c.in-Some.place =
    c.in_ok-push_held.ensures ∙ ap (λ (us : List ℕ). c.pop.new.self ++ us) (sym (content_row a.unresolved.types c.in-Some.place c.at.result.now c.at.ensures)) in
    let new = insert-new keys c.insert.new.self.keys c.in-Some.place c.in_ok-insert.field-0 c.in_ok-insert.ensures.added c.in_ok-insert.ensures.keys c.if-branch.true in
    record {
      searching = subst (λ (ks : List ℕ). Search a c.args.id ks c.push_held.new.stack) (sym new)
          (subst (Search a c.args.id (keys ++ c.in-Some.place ∷ [])) (sym stack)
          (search-more rows (IsBorrowThere a) (rows_acyclic a c.requires.shaped) c.args.id c.in-Some.place keys c.pop.new.self now
          (λ bad. false≢true (sym c.if-branch-2.false ∙ c.in_ok-is_borrow_there.ensures.holds.1 bad))));
      graph = c.in_ok-is_borrow_there.ensures.free c.if-branch-2.false;
    }

pub returns-clause-holds : goal.returns-clause-holds
returns-clause-holds c =
    let a : Addition = addition_of c.args.addition.now in
    let keys : List ℕ = c.loop-place.free.unresolved.keys in
    let done : Search a c.args.id keys [] = subst (Search a c.args.id keys) c.in_default.ensures.empty c.loop-place.invariant.searching in
    (λ h. absurd (false≢true h), λ holds. absurd (search-none (type_contents a.unresolved.types) (IsBorrowThere a) (rows_acyclic a c.requires.shaped) c.args.id keys done (may_hold_back a c.args.id holds)))

pub returns-clause-unresolved : goal.returns-clause-unresolved
returns-clause-unresolved c = λ h.
    let a : Addition = addition_of c.args.addition.now in
    let keys : List ℕ = c.loop-place.free.unresolved.keys in
    let done : Search a c.args.id keys [] = subst (Search a c.args.id keys) c.in_default.ensures.empty c.loop-place.invariant.searching in
    search-free (type_contents a.unresolved.types) (IsBorrowThere a) (rows_acyclic a c.requires.shaped) c.args.id keys done
