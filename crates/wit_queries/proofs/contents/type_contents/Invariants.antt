use Rattle.std.proofs.Common.{◌≡◌, map, take}
use Rattle.wit_data.specs.declared.types.TypeDef.{TypeDef}
use Rattle.wit_queries.proofs.contents.type_contents.Given as goal
use Rattle.wit_graph_data.specs.steps.Parts.{content_types}

-- the rows so far
abbrev pub invariant-loop-def : goal.invariant-loop-def
invariant-loop-def l =
    l.rows ≡ map (λ (def : TypeDef). content_types def.kind) (take l.def-index l.types)
