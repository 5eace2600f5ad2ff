use Rattle.std.proofs.Common.{◌≡◌, ◌∙◌, ℕ, List, nat_eq, ap, sym, subst}
use Rattle.std.specs.List.{dedup, list_any}
use Rattle.std.specs.List.Sorted.{IsStrictlySortedBy}
use Rattle.std.specs.Ordering.{nat_cmp}
use Rattle.std.proofs.lemmas.List.Filters.{dedup_is}
use Rattle.std.proofs.lemmas.List.Kept.{Contains-dedup_nat, Contains-from_dedup}
use Rattle.std.proofs.lemmas.List.Sorted.{list_any-IsPermutation}
use Rattle.std.proofs.lemmas.Map.Keys.{IsStrictlyIncreasing-dedup, sorted_from_strictly_increasing}
use Rattle.wit_digraph.specs.facts.FreshFacts.{any_from_contains, contains_from_any}
use Rattle.wit_link_include.proofs.Members.{same_truth}
use Rattle.wit_link_include.proofs.numbering.in_order.Goals as goal

pub returns-clause-rising : goal.returns-clause-rising
returns-clause-rising g c =
    let sorted : List ℕ = c.sort.new.self.items in
    let is : c.from_vec.result ≡ dedup nat_eq sorted = c.from_vec.ensures ∙ dedup_is nat_eq sorted c.dedup.new.self.items c.dedup.ensures.filtered in
    subst (IsStrictlySortedBy nat_cmp) (sym is) (sorted_from_strictly_increasing (dedup nat_eq sorted) (IsStrictlyIncreasing-dedup sorted c.in_ok-sort.ensures.sorted))

pub returns-clause-members : goal.returns-clause-members
returns-clause-members g c = λ x.
    let sorted : List ℕ = c.sort.new.self.items in
    let is : c.from_vec.result ≡ dedup nat_eq sorted = c.from_vec.ensures ∙ dedup_is nat_eq sorted c.dedup.new.self.items c.dedup.ensures.filtered in
    let kept : list_any (nat_eq x) (dedup nat_eq sorted) ≡ list_any (nat_eq x) sorted =
    same_truth (list_any (nat_eq x) (dedup nat_eq sorted)) (list_any (nat_eq x) sorted)
    (λ h. any_from_contains x sorted (Contains-from_dedup nat_eq sorted x (contains_from_any x (dedup nat_eq sorted) h)))
    (λ h. any_from_contains x (dedup nat_eq sorted) (Contains-dedup_nat sorted x (contains_from_any x sorted h))) in
    ap (list_any (nat_eq x)) is ∙ (kept ∙ (sym (list_any-IsPermutation (nat_eq x) c.into_vec-ids.result.items sorted c.in_ok-sort.ensures.permutation) ∙ ap (list_any (nat_eq x)) c.into_vec-ids.ensures))
