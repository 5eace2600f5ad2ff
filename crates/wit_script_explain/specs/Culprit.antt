-- The line at which what isn't understood stands: of a package that hasn't its shape not the `push`, but the line that breaks
-- it. Indices count from 0.
use Rattle.std.specs.Prelude.{ℕ, ◌+◌, ◌-◌, ◌||◌, Bool, true, false, not, List, [], ◌∷◌, take, slice_get, Option, Some, None, if◌then◌else◌, bytes_eq}
use Rattle.std.specs.Option.{option_flatten, option_map_or}
use Rattle.wit_names.specs.UsePath.{is_kebab_name}
use Rattle.wit_names.specs.declared.use_path.ParsedUsePath.{ParsedUsePath}
use Rattle.wit_names.specs.declared.use_path.ParsedUsePath.TheVariants as path
use Rattle.wit_script_lines.specs.Statement.{statement_of}
use Rattle.wit_script_lines.specs.declared.package_line.PackageLine.{PackageLine}
use Rattle.wit_script_lines.specs.declared.package_line.PackageLine.TheVariants as part
use Rattle.wit_script_lines.specs.declared.statement.Statement.{Statement}
use Rattle.wit_script_lines.specs.declared.statement.Statement.TheVariants as says
use Rattle.wit_script_explain.specs.Lines.{sort_of}
use Rattle.wit_script_explain.specs.declared.culprit.Search.{Search}
use Rattle.wit_script_explain.specs.declared.lines.LineSort.{LineSort}
use Rattle.wit_script_explain.specs.declared.lines.LineSort.TheVariants as sort
use Rattle.wit_script_explain.specs.declared.lines.ScriptLines.{ScriptLines}

abbrev pub no_search : Search
no_search = record { found = None; world = None }

-- the first line that is at fault, after one more
abbrev pub noted : Option ℕ → Bool → ℕ → Option ℕ
noted (Some first) bad index = Some first
noted None true index = Some index
noted None false index = None

-- a path names the world that is open
abbrev pub includes : Option (List ℕ) → ParsedUsePath → Bool
includes None from = false
includes (Some world) (path.Name name) = bytes_eq world name
includes (Some world) (path.Package parent name) = false

-- a line of a package, where this world is open, names something by no kebab name, or includes that world
abbrev pub is_at_fault : Option (List ℕ) → PackageLine → Bool
is_at_fault world (part.Interface name) = not (is_kebab_name name)
is_at_fault world (part.World name) = not (is_kebab_name name)
is_at_fault world (part.Include from names) = includes world from
is_at_fault world _ = false

-- the world into which the lines after a line of a package go
abbrev pub world_after : Option (List ℕ) → PackageLine → Option (List ℕ)
world_after world (part.Interface name) = None
world_after world (part.World name) = Some name
world_after world _ = world

-- the search after a line that says this; a command begins it anew. A package may be called by what is no kebab name
abbrev pub with_said : Search → ℕ → Statement → Search
with_said s index (says.Package name) =
    let badly = not (is_kebab_name name.namespace) || not (is_kebab_name name.name) in
    record { found = noted s.found badly index; world = None }
with_said s index (says.Line said gate) =
    record
    { found = noted s.found (is_at_fault s.world said) index; world = world_after s.world said }
with_said s index says.Push = no_search
with_said s index (says.Request asked) = no_search

-- the search after lines, of which the first has this index
abbrev pub searched : Search → ℕ → List (List ℕ) → Search
searched s index [] = s
searched s index (line ∷ lines) =
    searched (option_map_or (with_said s index) (option_flatten (statement_of line)) s) (index + 1)
    lines

abbrev pub is_push_sort : LineSort → Bool
is_push_sort sort.Push = true
is_push_sort _ = false

-- the line of an index is a `push`
abbrev pub is_push : ScriptLines → ℕ → Bool
is_push script index =
    option_map_or (λ line. is_push_sort (sort_of line)) (slice_get script.lines index) false

-- the index of the line at which what isn't understood stands, where the line of this number isn't: of a `push` the first line
-- since the last command that names something by no kebab name, or includes the world in which it stands
abbrev pub fault_index : ScriptLines → ℕ → ℕ
fault_index script number =
    if is_push script (number - 1)
    then option_map_or (λ found. found)
    (searched no_search 0 (take (number - 1) script.lines)).found
    (number - 1)
    else number - 1
