use Rattle.std.proofs.Common.{◌≡◌, ◌++◌, codes, string_bytes, take}
use Rattle.std.specs.List.{flat_map}
use Rattle.wit_print.specs.Functions.{param_wit}
use Rattle.wit_print.proofs.functions.write_others.Given as goal

-- the parameters so far
abbrev pub invariant-loop-param : goal.invariant-loop-param
invariant-loop-param l = string_bytes l.text ≡ string_bytes l.fn.text ++ flat_map (λ p. codes ", " ++ param_wit l.types p) (take l.param-index l.params)
