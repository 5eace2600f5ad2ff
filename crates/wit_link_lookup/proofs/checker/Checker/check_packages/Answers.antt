use Rattle.std.proofs.Common.{◌∙◌, List, length}
use Rattle.std.specs.Map.Iter.{deref_pair}
use Rattle.std.proofs.lemmas.Map.Iter.{iter_turn}
use Rattle.wit_data.specs.Foreign.{ForeignItem}
use Rattle.wit_names.specs.declared.package_name.PackageName.{PackageName}
use Rattle.wit_link_lookup.specs.steps.FeatureSteps.{MeetsForeign}
use Rattle.wit_link_lookup.proofs.ForeignGates.{Each-flat_map}
use Rattle.wit_data.specs.facts.YieldedFacts.{all_yielded, one_yielded}
use Rattle.wit_link_lookup.proofs.VersionsMet.{items-named}
use Rattle.wit_link_lookup.proofs.checker.Checker.check_packages.Goals as goal

pub check_items-requires-clause-named : goal.check_items-requires-clause-named
check_items-requires-clause-named c =
    let deps = c.args.self.now.addition.unresolved.now.foreign_deps in
    let turn = iter_turn deref_pair deps c.loop-items.yielded _ _ _ _ (c.into_iter-items-iterator.ensures.into_iter_gives ∙ c.iter-items-items.ensures.rest) c.loop-items.yielded_by _ c.in-Some.is c.next.ensures.steps in
    items-named deps (length c.loop-items.yielded) _ turn.1

pub loop-items-preserved : goal.loop-items-preserved
loop-items-preserved c =
    one_yielded deref_pair c.loop-items.yielded _ _ (c.into_iter-items-iterator.ensures.into_iter_gives ∙ c.iter-items-items.ensures.rest) c.loop-items.yielded_by _ c.in-Some.is c.next.ensures.steps c.loop-items.invariant c.in_ok-check_items.ensures.met

pub returns-clause-met : goal.returns-clause-met
returns-clause-met c =
    Each-flat_map (MeetsForeign c.args.self.now) (λ (e : PackageName × List ForeignItem). e.1) c.args.self.now.addition.unresolved.now.foreign_deps
    (all_yielded deref_pair c.loop-items.yielded _ _ (c.into_iter-items-iterator.ensures.into_iter_gives ∙ c.iter-items-items.ensures.rest) c.loop-items.yielded_by c.in-None.is c.next.ensures.steps c.loop-items.invariant)
