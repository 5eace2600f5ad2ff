use Rattle.std.proofs.Common.{◌≡◌, map, take}
use Rattle.wit_ways.specs.Arrows.{interface_text}
use Rattle.wit_ways.proofs.graph_arrow.interface_texts.Given as goal

-- those of the first ones
abbrev pub invariant-loop-interface : goal.invariant-loop-interface
invariant-loop-interface l = l.texts ≡ map (interface_text l.graph.packages) (take l.interface-index l.graph.interfaces)
