use Rattle.std.proofs.Common.{subst, sym}
use Rattle.wit_semver.specs.SemverMerged.{semver_merged}
use Rattle.wit_resolve_graph.specs.laws.RunLaws.{HasNamesInOrder}
use Rattle.wit_resolve_graph.proofs.NamesInOrder.{added_in_order, merged_in_order, pushed_in_order, replaced_in_order, transformed_in_order}
use Rattle.wit_resolve_graph.proofs.laws.calls_stay_in_order.Goals as goal

pub returns-clause-additions : goal.returns-clause-additions
returns-clause-additions c = λ a new id added order. subst HasNamesInOrder (sym added.graph_is) (added_in_order a order)

pub returns-clause-groups : goal.returns-clause-groups
returns-clause-groups c = λ old new main deps id pushes. pushed_in_order old.features old.graph pushes.sorted new.graph pushes.ids pushes.are_pushed

pub returns-clause-sources : goal.returns-clause-sources
returns-clause-sources c = λ old new group id answer. pushed_in_order old.features old.graph answer.pushes.sorted new.graph answer.pushes.ids answer.pushes.are_pushed

pub returns-clause-transformations : goal.returns-clause-transformations
returns-clause-transformations c = transformed_in_order

pub returns-clause-merges : goal.returns-clause-merges
returns-clause-merges c = merged_in_order

pub returns-clause-semver_merges : goal.returns-clause-semver_merges
returns-clause-semver_merges c = λ rule g w. replaced_in_order g (semver_merged rule g w) (c.semver_merges_keep.ensures rule g w)
