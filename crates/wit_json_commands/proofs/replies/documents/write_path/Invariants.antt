use Rattle.std.proofs.Common.{◌≡◌, ◌++◌, ◌∷◌, drop, reverse}
use Rattle.json.specs.Token.{begin_array}
use Rattle.wit_json_commands.proofs.Paths.{steps_tokens}
use Rattle.wit_json_commands.proofs.replies.documents.write_path.Given as goal

-- what is written of the steps behind
abbrev pub invariant-loop-index : goal.invariant-loop-index
invariant-loop-index l = l.out ≡ l.fn.out ++ begin_array ∷ steps_tokens (reverse (drop l.index l.steps))
