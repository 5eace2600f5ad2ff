use Rattle.std.proofs.Common.{List, subst, sym}
use Rattle.wit_data.specs.Entries.{Entry}
use Rattle.wit_link_include.specs.steps.Included.{ComeOnce}
use Rattle.wit_link_include.proofs.including.join_copies.Goals as goal

pub join_lists-requires-clause-imports : goal.join_lists-requires-clause-imports
join_lists-requires-clause-imports c = subst (λ (entries : List Entry). ComeOnce entries) (sym c.in_ok-imports.ensures) c.requires.imports

pub join_lists-requires-clause-exports : goal.join_lists-requires-clause-exports
join_lists-requires-clause-exports c = subst (λ (entries : List Entry). ComeOnce entries) (sym c.in_ok-exports.ensures) c.requires.exports
