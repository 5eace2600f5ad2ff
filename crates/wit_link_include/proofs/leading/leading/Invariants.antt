use Rattle.std.proofs.Common.{◌≡◌, ℕ, Bool, Some, nat_eq}
use Rattle.std.specs.Map.{keys_of, lookup}
use Rattle.wit_link_include.specs.steps.Included.{leads, open_rows}
use Rattle.wit_link_include.proofs.Walking.{IsWalking, turns}
use Rattle.wit_link_include.proofs.leading.leading.Given as goal

-- what is known so far is right, and the walk is running
abbrev pub invariant-loop-step : goal.invariant-loop-step
invariant-loop-step l = record {
  walking : IsWalking (open_rows l.origin) l.roots (keys_of l.known.entries) l.stack;
  right : (t : ℕ) (b : Bool) → lookup (nat_eq t) l.known.entries ≡ Some b → b ≡ leads l.origin t;
}

abbrev pub decreases-loop-step : goal.decreases-loop-step
decreases-loop-step l = turns (open_rows l.origin) l.stack
