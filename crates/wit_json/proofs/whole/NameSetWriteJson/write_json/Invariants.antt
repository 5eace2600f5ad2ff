use Rattle.std.proofs.Common.{◌≡◌, ◌++◌, ◌∷◌, drop, map}
use Rattle.json.specs.Token.{begin_array}
use Rattle.json.specs.Tree.{items_tokens}
use Rattle.json.specs.Value.{items_of}
use Rattle.wit_json.specs.Values.{json_of_text}
use Rattle.wit_json.proofs.whole.NameSetWriteJson.write_json.Given as goal

-- what is written, and the texts that are left
abbrev pub invariant-loop-index : goal.invariant-loop-index
invariant-loop-index l =
    l.out ++ items_tokens (items_of (map json_of_text (drop l.index l.self))) ≡ l.fn.out ++ begin_array ∷ items_tokens (items_of (map json_of_text l.self))
