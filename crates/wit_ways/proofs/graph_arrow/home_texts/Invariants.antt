use Rattle.std.proofs.Common.{◌≡◌, map, take}
use Rattle.wit_data.specs.declared.interface.Interface.{Interface}
use Rattle.wit_ways.specs.Arrows.{home_text}
use Rattle.wit_ways.proofs.graph_arrow.home_texts.Given as goal

-- those of the first ones
abbrev pub invariant-loop-interface : goal.invariant-loop-interface
invariant-loop-interface l = l.texts ≡ map (λ (interface : Interface). home_text l.graph.packages interface.«package») (take l.interface-index l.graph.interfaces)
