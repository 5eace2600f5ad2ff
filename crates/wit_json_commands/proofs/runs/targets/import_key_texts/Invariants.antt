use Rattle.std.proofs.Common.{◌≡◌, ◌++◌, map}
use Rattle.wit_graph_data.specs.IdText.{key_text}
use Rattle.wit_json_commands.specs.Targets.{import_key_texts}
use Rattle.wit_json_commands.proofs.runs.targets.import_key_texts.Given as goal

-- those so far, and those that are left
abbrev pub invariant-loop-key : goal.invariant-loop-key
invariant-loop-key l = l.texts ++ map (λ e. key_text l.graph.packages l.graph.interfaces e.0) l.key-iterator ≡ import_key_texts l.graph l.fn.id
