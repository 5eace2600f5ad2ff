-- Parts of the definitions under names of their own, for contracts of inner functions and for proofs. Each is what stands
-- in a definition in its place, so none has to be believed.
use Rattle.std.specs.Prelude.{ℕ, ◌-◌, List, [], ◌++◌, length, drop, if◌then◌else◌, ◌∷◌, codes, ◌≡◌, ◌+◌, decimal, slice_get, ◌||◌, ◌==◌, not, Option, Bool, false, Result, MatchOption, MatchResult}
use Rattle.wit_script_explain.specs.declared.desk.TrackedGraph.{TrackedGraph}
use Rattle.wit_script_explain.specs.declared.lines.CommandPlace.{CommandPlace}
use Rattle.wit_script_explain.specs.declared.lines.ScriptLines.{ScriptLines}
use Rattle.std.specs.Option.{option_map_or, option_flatten}
use Rattle.wit_ways.specs.declared.arrow.Arrow.{Arrow}
use Rattle.wit_script_explain.specs.Shown.{snippet_text}
use Rattle.wit_graph_data.specs.Error.{error_number}
use Rattle.wit_graph_data.specs.ErrorText.{kind_text}
use Rattle.wit_graph_data.specs.declared.error_kind.ResolveErrorKind.{ResolveErrorKind}
use Rattle.wit_names.specs.declared.package_name.PackageName.{PackageName}
use Rattle.wit_script_explain.specs.Ways.{way_text}
use Rattle.wit_script_lines.specs.Statement.{statement_of}
use Rattle.wit_graph_data.specs.Named.{package_named}
use Rattle.wit_script.specs.Answer.{IsSelection}
use Rattle.wit_script_explain.specs.Refusals.{TellsRefusal, missing_text, places_text}
use Rattle.wit_ways.specs.declared.asked.Asked.TheVariants.{Other}
use Rattle.wit_names.specs.UsePath.{is_kebab_name}
use Rattle.wit_script_lines.specs.declared.package_line.PackageLine.{PackageLine}
use Rattle.wit_script_explain.specs.declared.culprit.Search.{Search}
use Rattle.wit_script_explain.specs.Culprit.{no_search, searched, noted, is_at_fault, world_after, with_said}

-- a package is called by what is no kebab name
abbrev pub names_badly : PackageName → Bool
names_badly p = not (is_kebab_name p.namespace) || not (is_kebab_name p.name)

-- the search after a line of a package
abbrev pub with_part : Search → ℕ → PackageLine → Search
with_part s index said =
    record
    { found = noted s.found (is_at_fault s.world said) index; world = world_after s.world said }

-- the search after a line
abbrev pub with_line : Search → ℕ → List ℕ → Search
with_line s index line = option_map_or (with_said s index) (option_flatten (statement_of line)) s

-- the first line since the last command that names something by no kebab name, or includes the world in which it stands
abbrev pub culprit : List (List ℕ) → Option ℕ
culprit lines = (searched no_search 0 lines).found

abbrev pub no_lines : ScriptLines
no_lines = record { lines = []; filed = []; packages = []; commands = []; pushed = 0 }

-- of the packages that begin after the command before this one, each the place of its first line
abbrev pub coming_packages : ScriptLines → CommandPlace → List ℕ
coming_packages script place = drop place.packages script.packages

-- `select`: there is no such package, or a choice that may be made of it
abbrev pub ExplainsSelect : ScriptLines → CommandPlace → TrackedGraph → PackageName
    → Option (List ℕ) → List ℕ → Type 0
ExplainsSelect script place tracked owner said text =
    MatchOption (package_named tracked.resolve.graph owner)
    (text ≡ missing_text script place (codes "no package"))
    (λ id. (choice : Result ℕ ResolveErrorKind)
    × IsSelection tracked.resolve.graph (id ∷ []) said choice
    × MatchResult choice (λ world. text ≡ [])
    (λ kind. TellsRefusal script place tracked Other kind text))

-- `line N: REASON`, and the line with a mark
abbrev pub misread_text : ScriptLines → ℕ → List ℕ → List ℕ
misread_text script index reason =
    option_map_or (λ line.
    codes "line "
    ++ (decimal (index + 1)
    ++ (codes ": " ++ (reason ++ (codes "\n" ++ snippet_text (index + 1) line)))))
    (slice_get script.lines index) []

-- `refused N TEXT`, the lines at which it is, its way, and the document that says more of N
abbrev pub told_text : ℕ → List ℕ → List ℕ → List ℕ → List ℕ
told_text number text places way =
    codes "refused "
    ++ (decimal number
    ++ (codes " "
    ++ (text
    ++ (codes "\n"
    ++ (places
    ++ (way
    ++ (codes "      = "
    ++ (decimal number ++ codes " in docs/REFUSALS.md\n"))))))))

-- what is told of a refusal with a way, N being its number
abbrev pub refusal_text : ScriptLines → CommandPlace → TrackedGraph → List Arrow → ResolveErrorKind
    → List ℕ
refusal_text script place tracked way kind =
    told_text (error_number kind) (kind_text kind) (places_text script place tracked kind)
    (way_text script tracked way)

-- what is said under a line that a carriage return ends, which can't be seen there
abbrev pub return_note : List ℕ → List ℕ
return_note line =
    if option_map_or (λ b. b == 13) (slice_get line (length line - 1)) false
    then codes "      = a carriage return ends it: lines end with a line feed alone\n"
    else []
