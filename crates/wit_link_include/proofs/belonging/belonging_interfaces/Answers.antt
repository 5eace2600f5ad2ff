use Rattle.std.proofs.Common.{◌≡◌, ◌∙◌, ◌++◌, ◌&&◌, ℕ, List, filter, nat_eq, sym, ap}
use Rattle.std.specs.List.{list_any}
use Rattle.std.proofs.lemmas.Bool.{eqb-true}
use Rattle.std.proofs.lemmas.List.{append-nil}
use Rattle.std.proofs.lemmas.List.Elements.{filter-append}
use Rattle.std.proofs.lemmas.Map.Views.{any-filter_same}
use Rattle.wit_data.specs.Entries.{interfaces_of_entries, is_unnamed}
use Rattle.wit_link_spec.specs.Include.{belongs_to}
use Rattle.wit_link_include.proofs.Steps.{if_ok}
use Rattle.wit_link_include.proofs.belonging.belonging_interfaces.Goals as goal

pub returns-clause-members : goal.returns-clause-members
returns-clause-members c =
    let g = c.args.graph.now in
    let p = is_unnamed g.interfaces in
    let a = interfaces_of_entries c.args.world.now.imports in
    let b = interfaces_of_entries c.args.world.now.exports in
    let ids : c.push_unnamed-2.new.ids ≡ filter p (a ++ b) =
    c.in_ok-push_unnamed-2.ensures ∙ (ap (λ (w : List ℕ). w ++ filter p b) (c.in_ok-push_unnamed.ensures ∙ ap (λ (w : List ℕ). w ++ filter p a) c.new-ids.ensures) ∙ sym (filter-append p a b)) in
    let all : (i : ℕ) → list_any (nat_eq i) c.push_unnamed-2.new.ids ≡ belongs_to g c.args.world.now i = λ i.
    ap (list_any (nat_eq i)) ids
    ∙ (any-filter_same (nat_eq i) p (p i) (λ k same. ap p (sym (eqb-true i k same))) (a ++ b)
    ∙ ap (λ (w : List ℕ). p i && list_any (nat_eq i) w) (sym (append-nil (a ++ b)))) in
    if_ok (λ (sorted : List ℕ). (i : ℕ) → list_any (nat_eq i) sorted ≡ list_any (nat_eq i) c.push_unnamed-2.new.ids)
    (λ (sorted : List ℕ). (i : ℕ) → list_any (nat_eq i) sorted ≡ belongs_to g c.args.world.now i)
    (λ sorted same i. same i ∙ all i) c.in_order.result c.in_order.ensures.members
