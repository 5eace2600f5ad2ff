-- One step over the entries of a list.
use Rattle.std.proofs.Common.{◌≡◌, ℕ, List, [], ◌∷◌, ◌++◌, Option, Some, None, slice_get, refl, ◌∙◌, ap, sym, subst, append_assoc, Contains}
use Rattle.std.specs.List.{flat_map}
use Rattle.std.specs.Option.{option_to_list}
use Rattle.wit_digraph.specs.facts.FreshFacts.{fresh-append}
use Rattle.wit_digraph.specs.facts.MemberFacts.{Contains-here, Contains-flat_map}
use Rattle.wit_digraph.specs.PostOrder.{fresh}
use Rattle.wit_elaboration.specs.Elaborated.{dependencies_before}
use Rattle.wit_elaboration.specs.Entries.{Entry, Instance, item_interface}
use Rattle.wit_elaboration.proofs.Marking.{contains_at}
use Rattle.wit_elaboration.specs.steps.Parts.{exported_interfaces}

-- the next member of what entries give, where this one gives one
pub given_at : (f : Entry → List ℕ) (es : List Entry) (at : ℕ) (e : Entry) (i : ℕ) → slice_get es at ≡ Some e → i ∷ [] ≡ f e → Contains (flat_map f es) i
given_at f es at e i is gives = Contains-flat_map f es e i (contains_at es at e is) (subst (λ xs. Contains xs i) gives (Contains-here i []))

-- what the interfaces of entries need
abbrev pub all_needs : List (List ℕ) → List Entry → List ℕ
all_needs uses es = flat_map (λ i. dependencies_before uses (Instance i)) (exported_interfaces es)

-- one more interface is walked, of the entries that are left
pub needs_more : (uses : List (List ℕ)) {left others : List Entry} {e : Entry} → left ≡ e ∷ others → (i : ℕ) (now new whole : List ℕ) → i ∷ [] ≡ item_interface e.1 → now ++ fresh now (all_needs uses left) ≡ whole →
    new ≡ now ++ fresh now (dependencies_before uses (Instance i)) → new ++ fresh new (all_needs uses others) ≡ whole
needs_more uses {left} {others} {e} first i now new whole gives so_far new_is =
    let walked = dependencies_before uses (Instance i) in
    let parts : all_needs uses left ≡ walked ++ all_needs uses others = ap (all_needs uses) first ∙ ap (λ (is : List ℕ). flat_map (λ j. dependencies_before uses (Instance j)) (is ++ exported_interfaces others)) (sym gives) in
    rw (new_is, append_assoc now (fresh now walked) (fresh (now ++ fresh now walked) (all_needs uses others)), ← fresh-append now walked (all_needs uses others), ← parts) so_far

-- an option that has nothing gives nothing
pub nothing_given : {X : Type 0} (o : Option X) (ys : List X) → ((x : X) → o ≡ Some x → ⊥) → option_to_list o ≡ ys → [] ≡ ys
nothing_given None ys lacks gives = gives
nothing_given (Some x) ys lacks gives = absurd (lacks x refl)
