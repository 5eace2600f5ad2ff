use Rattle.std.proofs.Common.{ℕ, List}
use Rattle.wit_data.specs.facts.YieldedFacts.{LeftDecide}
use Rattle.wit_data.specs.declared.function.Function.{Function}
use Rattle.wit_remap.specs.steps.Fits.{Fits, FunctionFits}
use Rattle.wit_remap.proofs.fitting.functions_fit.Given as goal

-- those that are left decide
abbrev pub invariant-loop-function : goal.invariant-loop-function
invariant-loop-function l = LeftDecide (λ (e : List ℕ × Function). FunctionFits (Fits l.offset) e.1) l.function-iterator l.interface.functions
