-- An id text tells which interface it names.
use Rattle.std.specs.Prelude.{◌≡◌, ℕ, List, Some}
use Rattle.wit_elaboration.specs.Valid.{IsValid}
use Rattle.wit_graph_data.specs.IdText.{interface_id_at}
use Rattle.wit_graph_data.specs.declared.graph.Graph.{Graph}

-- in a valid graph no two interfaces have one id text
abbrev pub IdTextsDiffer : Type 0
IdTextsDiffer = (g : Graph) (i j : ℕ) (text : List ℕ) → IsValid g
    → interface_id_at g.packages g.interfaces i ≡ Some text
    → interface_id_at g.packages g.interfaces j ≡ Some text → i ≡ j
