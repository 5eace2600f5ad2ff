use Rattle.std.proofs.Common.{◌≡◌, ◌∙◌, ℕ, Bool, List, Contains, nat_eq, ap, subst}
use Rattle.std.specs.List.{list_any}
use Rattle.std.specs.List.Sorted.{IsStrictlySortedBy}
use Rattle.std.specs.Map.{lookup}
use Rattle.std.specs.Ordering.{nat_cmp}
use Rattle.wit_link_spec.specs.Include.{is_copied}
use Rattle.wit_link_include.specs.steps.Included.{known_of, places, roots_of}
use Rattle.wit_link_include.proofs.Steps.{if_ok_both}
use Rattle.wit_link_include.proofs.SelectedIndices.{are_places}
use Rattle.wit_link_include.proofs.Standing.{copied_there}
use Rattle.wit_link_include.proofs.WhatIsCopied.{said_is_copied}
use Rattle.wit_link_include.proofs.fresh_copies.copied_ids.Goals as goal

pub leading-requires-clause-there : goal.leading-requires-clause-there
leading-requires-clause-there c = λ t has. c.requires.named t (subst (λ (xs : List ℕ). Contains xs t) (c.as_slice.ensures ∙ c.in_ok-roots.ensures) has)

pub returns-clause-places : goal.returns-clause-places
returns-clause-places c =
    let o = c.args.origin.now in
    let kept : ℕ → Bool = is_copied o.graph.now o.id o.world.now in
    let known : (t : ℕ) → lookup (nat_eq t) c.in_ok-known.known ≡ known_of o (roots_of o) t = λ t.
    c.in_ok-known.ensures t ∙ ap (λ (roots : List ℕ). known_of o roots t) (c.as_slice.ensures ∙ c.in_ok-roots.ensures) in
    if_ok_both (λ (ids : List ℕ). IsStrictlySortedBy nat_cmp ids) (λ (ids : List ℕ). (t : ℕ) → list_any (nat_eq t) ids ≡ list_any (nat_eq t) c.in_ok-those_leading.field-0) (λ (ids : List ℕ). ids ≡ places kept o.graph.now.types)
    (λ ids rising members. are_places kept o.graph.now.types (copied_there o.graph.now o.id o.world.now) ids rising
    (λ t. members t ∙ (c.in_ok-those_leading.ensures t ∙ said_is_copied o c.requires.acyclic c.requires.apart c.requires.named c.requires.belonging c.in_ok-known.known known t)))
    c.in_order.result c.in_order.ensures.rising c.in_order.ensures.members
