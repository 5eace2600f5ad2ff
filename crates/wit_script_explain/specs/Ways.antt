-- Ways of refusals with their lines.
use Rattle.std.specs.Prelude.{ℕ, List, [], ◌∷◌, ◌++◌, codes, flat_map}
use Rattle.wit_ways.specs.Ways.{way_names}
use Rattle.wit_ways.specs.declared.arrow.Arrow.{Arrow}
use Rattle.wit_script_explain.specs.declared.desk.TrackedGraph.{TrackedGraph}
use Rattle.wit_script_explain.specs.declared.lines.ScriptLines.{ScriptLines}
use Rattle.wit_script_explain.specs.Shown.{span_text}

-- the line of an arrow
abbrev pub way_line : ScriptLines → TrackedGraph → Arrow → List ℕ
way_line script t a = span_text script t a.span

-- `way: A -> B -> .. -> C`, and the line of each arrow
abbrev pub way_text : ScriptLines → TrackedGraph → List Arrow → List ℕ
way_text script t [] = []
way_text script t (a ∷ way) =
    codes "      = way: "
    ++ (way_names (a ∷ way) ++ (codes "\n" ++ flat_map (way_line script t) (a ∷ way)))
