use Rattle.std.proofs.Common.{List, ℕ, subst}
use Rattle.wit_ways.specs.steps.Searching.{IsSearched}
use Rattle.wit_ways.proofs.Searching.{included}
use Rattle.wit_ways.proofs.way.reached_names.Goals as goal

pub returns : goal.returns
returns c =
    included c.args.arrows.now c.args.start.now c.in_ok-search.search
    (subst (λ (goals : List (List ℕ)). IsSearched c.args.arrows.now goals c.args.start.now _ c.in_ok-search.search) c.new-goals.ensures c.in_ok-search.ensures)
