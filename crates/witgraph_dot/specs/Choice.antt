-- What the comment lines of a script choose for its picture.
use Rattle.std.specs.Prelude.{◌&&◌, ℕ, Bool, true, false, List, [], ◌++◌, Option, Some, None, bytes_eq, codes, fold, if◌then◌else◌, option_to_list}
use Rattle.std.specs.Option.{option_eq, option_map_or}
use Rattle.wit_names.specs.declared.package_name.PackageName.{PackageName}
use Rattle.wit_script_lines.specs.Statement.{statement_of}
use Rattle.wit_script_lines.specs.Token.{after_prefix}
use Rattle.wit_script_lines.specs.declared.request.Request.TheVariants as request
use Rattle.wit_script_lines.specs.declared.statement.Statement.{Statement}
use Rattle.wit_script_lines.specs.declared.statement.Statement.TheVariants as says
use Rattle.wit_values.specs.Version.{version_eq}
use Rattle.witgraph_dot.specs.declared.choice.Choice.{Choice}
use Rattle.witgraph_dot.specs.declared.choice.Pick.{Pick}

-- ---- what a line picks

-- the pick is of what has this name in this package: it names the package, perhaps without a version, which stands for each,
-- and the name, or none, which stands for all
abbrev pub picks : Pick → PackageName → List ℕ → Bool
picks pick owner name =
    option_map_or (λ picked. bytes_eq picked name) pick.name true
    && (bytes_eq pick.«package».namespace owner.namespace
    && (bytes_eq pick.«package».name owner.name
    && option_map_or (λ picked. option_eq version_eq (Some picked) owner.version)
    pick.«package».version true))

-- ---- lines

-- what a statement picks: only `select` does
abbrev pub pick_of_statement : Option (Option Statement) → Option Pick
pick_of_statement (Some (Some (says.Request (request.Select owner name)))) =
    Some (record { «package» = owner; name = name })
pick_of_statement _ = None

-- what `# show` or `# hide` with this text picks: what `select` with it says
abbrev pub pick_of : List ℕ → Option Pick
pick_of text = pick_of_statement (statement_of (codes "select " ++ text))

-- with what a line chooses: `# only-added`, `# show PICK`, `# hide PICK`
abbrev pub and_line : Choice → List ℕ → Choice
and_line choice line =
    if bytes_eq line (codes "# only-added") then record choice { only_added = true }
    else option_map_or
    (λ text. record choice { shown = choice.shown ++ option_to_list (pick_of text) })
    (after_prefix (codes "# show ") line)
    (option_map_or
    (λ text. record choice { hidden = choice.hidden ++ option_to_list (pick_of text) })
    (after_prefix (codes "# hide ") line) choice)

-- the choice of a script of these lines, one after another; where none chooses anything, all is shown
abbrev pub choice_of : List (List ℕ) → Choice
choice_of lines = fold and_line (record { shown = []; hidden = []; only_added = false }) lines
