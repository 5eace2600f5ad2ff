use Rattle.std.proofs.Common.{◌∷◌, List, subst, sym}
use Rattle.wit_data.specs.declared.unresolved.UnresolvedPackageGroup.{UnresolvedPackageGroup}
use Rattle.wit_link.specs.Appending.{IsGroupsCause}
use Rattle.wit_resolve_graph.proofs.resolve.Resolve.push_group.Goals as goal

pub returns-clause-refuses : goal.returns-clause-refuses
returns-clause-refuses c = λ kind cause.
    c.push_groups.ensures.refuses kind
    (subst (λ (l : List UnresolvedPackageGroup). IsGroupsCause c.args.self.now.features c.args.self.now.graph c.args.self.now.source_map.end (c.args.group ∷ l) kind) (sym c.new.ensures) cause)
