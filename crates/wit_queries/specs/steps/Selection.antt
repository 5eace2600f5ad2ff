-- Words of inner contracts and proofs, beside `Selection`.
use Rattle.std.specs.Prelude.{ℕ, List, [], ◌∷◌, Ok, Err}
use Rattle.wit_graph_data.specs.declared.graph.Graph.{Graph}
use Rattle.wit_queries.specs.Selection.{Choice, no_main_text, several_mains_text}

-- the only main package
abbrev pub only_main : Graph → List ℕ → Choice
only_main g [] = Err no_main_text
only_main g (p ∷ []) = Ok p
only_main g (p ∷ q ∷ mains) = Err (several_mains_text g)
