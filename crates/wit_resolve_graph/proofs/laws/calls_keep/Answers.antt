use Rattle.std.proofs.Common.{subst, sym}
use Rattle.wit_semver.specs.SemverMerged.{semver_merged}
use Rattle.wit_resolve_graph.specs.laws.RunLaws.{Keeps}
use Rattle.wit_resolve_graph.proofs.RunsKeep.{keeps_pushed, keeps_pushes, keeps_things, keeps_transformed, keeps_merged}
use Rattle.wit_resolve_graph.proofs.laws.calls_keep.Goals as goal

pub returns-clause-additions : goal.returns-clause-additions
returns-clause-additions c = λ a new id added. subst (Keeps a.graph) (sym added.graph_is) (keeps_pushed a)

pub returns-clause-groups : goal.returns-clause-groups
returns-clause-groups c = λ old new main deps id pushes. keeps_pushes old.features old.graph pushes.sorted new.graph pushes.ids pushes.are_pushed

pub returns-clause-sources : goal.returns-clause-sources
returns-clause-sources c = λ old new group id answer. keeps_pushes old.features old.graph answer.pushes.sorted new.graph answer.pushes.ids answer.pushes.are_pushed

pub returns-clause-transformations : goal.returns-clause-transformations
returns-clause-transformations c = keeps_transformed

pub returns-clause-merges : goal.returns-clause-merges
returns-clause-merges c = keeps_merged

pub returns-clause-semver_merges : goal.returns-clause-semver_merges
returns-clause-semver_merges c = λ rule g w. keeps_things g (semver_merged rule g w) (c.semver_merges_keep.ensures rule g w)
