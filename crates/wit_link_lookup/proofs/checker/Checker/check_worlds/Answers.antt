use Rattle.std.proofs.Common.{◌≡◌, ◌∙◌, ap, length, arith}
use Rattle.wit_data.specs.Foreign.{foreign_worlds}
use Rattle.wit_data.specs.facts.EachFacts.{all_of, one_more}
use Rattle.wit_link_lookup.proofs.VersionsMet.{own-world-asked}
use Rattle.wit_link_lookup.proofs.checker.Checker.check_worlds.Goals as goal

pub check_gate-requires : goal.check_gate-requires
check_gate-requires c =
    let count : c.len-foreign.result ≡ length (foreign_worlds c.args.self.now.addition.unresolved.now.foreign_deps) = c.len-foreign.ensures ∙ ap length c.in_ok-foreign_worlds.ensures in
    own-world-asked c.args.self.now c.loop-index.index c.at-world.result.now c.at-world.ensures (omega arith)

pub loop-index-preserved : goal.loop-index-preserved
loop-index-preserved c = one_more c.loop-index.invariant _ c.at-world.ensures (λ _. c.in_ok-check_gate.ensures.met)

pub returns-clause-met : goal.returns-clause-met
returns-clause-met c = all_of c.loop-index.invariant (omega arith)
