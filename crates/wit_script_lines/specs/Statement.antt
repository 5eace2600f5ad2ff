-- What a line of a script says by its tokens alone.
use Rattle.std.specs.Prelude.{ℕ, List, [], ◌∷◌, Option, Some, None, option_and_then, codes, if◌then◌else◌, option_map, bytes_eq}
use Rattle.wit_script_lines.specs.PackageLine.{gate_of_line, package_line_by, ungated_of}
use Rattle.wit_script_lines.specs.Line.{is_comment, tokens_of}
use Rattle.wit_script_lines.specs.Request.{is_request, request_by}
use Rattle.wit_script_lines.specs.Token.{package_name_of, alone_of, only_of}
use Rattle.wit_script_lines.specs.declared.statement.Statement.{Statement}
use Rattle.wit_script_lines.specs.declared.statement.Statement.TheVariants as says

-- a line of a package, with its gate
abbrev pub gated_line_by : List ℕ → List (List ℕ) → Option Statement
gated_line_by word arguments =
    option_and_then (λ gate.
    option_map (λ said. says.Line said gate) (package_line_by word (ungated_of arguments)))
    (gate_of_line arguments)

-- a line, by its first token
abbrev pub statement_by : List ℕ → List (List ℕ) → Option Statement
statement_by word arguments =
    if is_request word then option_map says.Request (request_by word arguments)
    else if bytes_eq word (codes "package") then
    option_map says.Package (only_of package_name_of arguments)
    else if bytes_eq word (codes "push") then alone_of says.Push arguments
    else gated_line_by word arguments

-- what the tokens of a line say: None where they aren't understood, and inside it None where they say nothing
abbrev pub statement_of_tokens : List (List ℕ) → Option (Option Statement)
statement_of_tokens [] = Some None
statement_of_tokens (word ∷ arguments) =
    if is_comment word then Some None else option_map Some (statement_by word arguments)

-- what a line says
abbrev pub statement_of : List ℕ → Option (Option Statement)
statement_of line = statement_of_tokens (tokens_of line)
