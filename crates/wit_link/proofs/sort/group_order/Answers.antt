use Rattle.std.proofs.Common.{◌∙◌, sym, subst, rules, ℕ, List}
use Rattle.std.specs.List.{IsDistinct}
use Rattle.std.specs.Map.{keys_of}
use Rattle.wit_digraph.specs.Cycles.{IsOnCycle}
use Rattle.wit_digraph.specs.Relation.{IsAcyclic}
use Rattle.wit_names.specs.PackageName.{same_package}
use Rattle.wit_names.specs.declared.package_name.PackageName.{PackageName}
use Rattle.wit_link.specs.GroupOrder.{group_uses, names_of}
use Rattle.wit_link.specs.steps.GroupOrderSteps.{AreByName, indices_of_names}
use Rattle.wit_link.proofs.Orders.{found-below, found-order, uses-in_range}
use Rattle.wit_link.proofs.Refusals.{cycle-inside}
use Rattle.wit_link.proofs.sort.group_order.Goals as goal

pub find_cycle-requires : goal.find_cycle-requires
find_cycle-requires c = rw (c.as_slice.ensures, c.in_ok-uses.ensures) (uses-in_range c.args.unresolved.now)

pub on_package_cycle-requires-clause-used : goal.on_package_cycle-requires-clause-used
on_package_cycle-requires-clause-used c =
    let on : IsOnCycle (group_uses c.args.unresolved.now) c.in-Some.found.user c.in-Some.found.used = search rules in
    (cycle-inside c.args.unresolved.now c.in-Some.found.user c.in-Some.found.used on).1

pub post_order_of_roots-requires-clause-roots : goal.post_order_of_roots-requires-clause-roots
post_order_of_roots-requires-clause-roots c =
    let by_name : AreByName (indices_of_names (names_of c.args.unresolved.now)) c.as_slice-3.result.now =
    subst (AreByName (indices_of_names (names_of c.args.unresolved.now))) (sym c.as_slice-3.ensures)
    (subst (λ (ps : List (PackageName × ℕ)). AreByName ps c.in_ok-roots.roots) c.in_ok-places.ensures.ok c.in_ok-roots.ensures) in
    found-below c.args.unresolved.now c.as_slice-2.result.now c.as_slice-3.result.now (c.as_slice-2.ensures ∙ c.in_ok-uses.ensures) by_name

pub returns-clause-ok : goal.returns-clause-ok
returns-clause-ok c =
    let by_name : AreByName (indices_of_names (names_of c.args.unresolved.now)) c.as_slice-3.result.now =
    subst (AreByName (indices_of_names (names_of c.args.unresolved.now))) (sym c.as_slice-3.ensures)
    (subst (λ (ps : List (PackageName × ℕ)). AreByName ps c.in_ok-roots.roots) c.in_ok-places.ensures.ok c.in_ok-roots.ensures) in
    let acyclic : IsAcyclic c.as_slice-2.result.now = search rules in
    let differ : IsDistinct same_package (keys_of (indices_of_names (names_of c.args.unresolved.now))) =
    subst (λ (ps : List (PackageName × ℕ)). IsDistinct same_package (keys_of ps)) c.in_ok-places.ensures.ok c.keys_differ.ensures.test in
    found-order c.args.unresolved.now c.as_slice-2.result.now c.as_slice-3.result.now c.in_ok-post_order_of_roots.field-0
    (record { uses_are = c.as_slice-2.ensures ∙ c.in_ok-uses.ensures; acyclic = acyclic; by_name = by_name; differ = differ }) c.in_ok-post_order_of_roots.ensures
