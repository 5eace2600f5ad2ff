use Rattle.std.proofs.Common.{◌≡◌, ◌++◌, ◌∷◌, [], ◌∙◌, ap}
use Rattle.json.specs.Tree.{items_tokens}
use Rattle.json.specs.Value.{items_of}
use Rattle.wit_json.specs.Values.{json_of_text}
use Rattle.std.proofs.Common.{drop, map, ◌+◌}
use Rattle.wit_json.proofs.Texts.{one_more_text}
use Rattle.wit_json.proofs.whole.NameSetWriteJson.write_json.Goals as goal

pub loop-index-preserved : goal.loop-index-preserved
loop-index-preserved c =
    ap (λ ts. ts ++ items_tokens (items_of (map json_of_text (drop (c.loop-index.index + 1) c.args.self.now)))) c.in_ok-string.ensures
    ∙ one_more_text c.args.self.now c.loop-index.index c.text_at.result.now c.loop-index.out _ c.text_at.ensures c.loop-index.invariant
