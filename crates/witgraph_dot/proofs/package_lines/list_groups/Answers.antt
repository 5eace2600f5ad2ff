use native.Mathlib.Omega.{arith}
use Rattle.std.proofs.Common.{◌≡◌, ◌∙◌, ◌-◌, ap, fold, length}
use Rattle.std.proofs.lemmas.Grind.{common_steps}
use Rattle.witgraph_dot.proofs.Gathered.{rounds-end, rounds-left}
use Rattle.witgraph_dot.specs.Pushed.{repeated}
use Rattle.witgraph_dot.proofs.package_lines.list_groups.Goals as goal
use Rattle.witgraph_dot.specs.steps.Parts.{with_brought}

pub loop-round-preserved : goal.loop-round-preserved
loop-round-preserved c =
    let includes = c.loop-group.includes.items in
    let rounds = c.len-round-end.result in
    let round = c.loop-round._round in
    let before = c.loop-round.listing in
    let after = c.list_included.new.listing in
    record {
      listed =
          rounds-left includes rounds round before.imports after.imports _ c.loop-round-test.true c.loop-round.invariant.listed
          (c.in_ok-list_included.ensures.imports ∙ ap (fold with_brought before.imports) c.deref.ensures.value);
      added =
          rounds-left includes rounds round before.includes after.includes _ c.loop-round-test.true c.loop-round.invariant.added
          (c.in_ok-list_included.ensures.includes ∙ ap (fold with_brought before.includes) c.deref.ensures.value);
    }

pub returns-then-eq-clause-imports : goal.returns-then-eq-clause-imports
returns-then-eq-clause-imports c =
    let same : length c.list_included.new.listing.imports ≡ length c.loop-round.listing.imports = grind (arith, common_steps) in
    let ended : c.list_included.new.listing.imports ≡ repeated c.loop-group.includes.items c.len-round-end.result c.loop-group.listing.imports =
    rounds-end c.loop-group.includes.items (c.len-round-end.result - c.loop-round._round) c.loop-round.listing.imports c.list_included.new.listing.imports _ c.loop-round.invariant.listed
    (c.in_ok-list_included.ensures.imports ∙ ap (fold with_brought c.loop-round.listing.imports) c.deref.ensures.value) same in
    grind (arith, common_steps, ended)

pub returns-then-eq-clause-includes : goal.returns-then-eq-clause-includes
returns-then-eq-clause-includes c =
    let same : length c.list_included.new.listing.includes ≡ length c.loop-round.listing.includes = grind (arith, common_steps) in
    let ended : c.list_included.new.listing.includes ≡ repeated c.loop-group.includes.items c.len-round-end.result c.loop-group.listing.includes =
    rounds-end c.loop-group.includes.items (c.len-round-end.result - c.loop-round._round) c.loop-round.listing.includes c.list_included.new.listing.includes _ c.loop-round.invariant.added
    (c.in_ok-list_included.ensures.includes ∙ ap (fold with_brought c.loop-round.listing.includes) c.deref.ensures.value) same in
    grind (arith, common_steps, ended)
