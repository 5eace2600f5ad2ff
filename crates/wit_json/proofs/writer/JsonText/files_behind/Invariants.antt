use Rattle.std.proofs.Common.{◌≡◌, ◌++◌, ◌∷◌, drop, map}
use Rattle.json.specs.Token.{begin_array}
use Rattle.json.specs.Tree.{items_tokens}
use Rattle.json.specs.Value.{items_of}
use Rattle.wit_sources.specs.SourceMap.{files_of}
use Rattle.wit_json.specs.Whole.{json_of_file}
use Rattle.wit_json.proofs.writer.JsonText.files_behind.Given as goal

-- what is written, and the files that are left
abbrev pub invariant-loop-path : goal.invariant-loop-path
invariant-loop-path l =
    l.self ++ items_tokens (items_of (map json_of_file l.path-iterator)) ≡ l.fn.self ++ begin_array ∷ items_tokens (items_of (map json_of_file (drop l.told (files_of l.files.files))))
