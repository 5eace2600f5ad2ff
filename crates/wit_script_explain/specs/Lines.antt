-- Which lines of a script are commands and which go into the files of packages. Indices count from 0.
use Rattle.std.specs.Prelude.{ℕ, Bool, true, false, List, [], ◌∷◌, ◌++◌, fold, length}
use Rattle.std.specs.Option.{option_flatten, option_map_or}
use Rattle.wit_script_lines.specs.Statement.{statement_of}
use Rattle.wit_script_lines.specs.declared.statement.Statement.{Statement}
use Rattle.wit_script_lines.specs.declared.statement.Statement.TheVariants as says
use Rattle.wit_script_explain.specs.declared.lines.LineSort.{LineSort}
use Rattle.wit_script_explain.specs.declared.lines.LineSort.TheVariants as sort
use Rattle.wit_script_explain.specs.declared.lines.ScriptLines.{ScriptLines}

-- what a line is that says this
abbrev pub sort_of_statement : Statement → LineSort
sort_of_statement (says.Package name) = sort.Package
sort_of_statement (says.Line said gate) = sort.Part
sort_of_statement says.Push = sort.Push
sort_of_statement (says.Request asked) = sort.Request

-- what a line is, by what its tokens say
abbrev pub sort_of : List ℕ → LineSort
sort_of line =
    option_map_or sort_of_statement (option_flatten (statement_of line)) sort.Silent

-- a command in the line that comes next
abbrev pub with_command_line : ScriptLines → Bool → ScriptLines
with_command_line s is_push = record s {
  commands =
      s.commands ++ record { line = length s.lines; packages = s.pushed; is_push = is_push } ∷ [];
  pushed = length s.packages;
}

-- a line of a sort that comes next
abbrev pub with_sort : ScriptLines → LineSort → ScriptLines
with_sort s sort.Silent = s
with_sort s sort.Package =
    record s
    { packages = s.packages ++ length s.filed ∷ []; filed = s.filed ++ length s.lines ∷ [] }
with_sort s sort.Part = record s { filed = s.filed ++ length s.lines ∷ [] }
with_sort s sort.Push = with_command_line s true
with_sort s sort.Request = with_command_line s false

-- one more line
abbrev pub with_next_line : ScriptLines → List ℕ → ScriptLines
with_next_line s line =
    let noted = with_sort s (sort_of line) in record noted { lines = noted.lines ++ line ∷ [] }

-- the lines of a script
abbrev pub script_lines_of : List (List ℕ) → ScriptLines
script_lines_of lines =
    fold with_next_line
    (record { lines = []; filed = []; packages = []; commands = []; pushed = 0 }) lines
