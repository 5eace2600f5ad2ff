-- What is told of a refusal: its text, the lines at which it is, its way, and where more is said of its number; and of what
-- isn't there.
use Rattle.std.specs.Prelude.{◌≡◌, ℕ, ◌||◌, ◌==◌, not, List, [], ◌++◌, length, Option, Some, None, codes, decimal, if◌then◌else◌}
use Rattle.std.specs.Option.{option_map_or}
use Rattle.wit_graph_data.specs.Error.{error_number, error_span}
use Rattle.wit_graph_data.specs.ErrorText.{kind_text}
use Rattle.wit_graph_data.specs.declared.error_kind.ResolveErrorKind.{ResolveErrorKind}
use Rattle.wit_graph_data.specs.declared.error_kind.ResolveErrorKind.TheVariants.{DuplicatePackage}
use Rattle.wit_names.specs.PackageName.{package_name_text}
use Rattle.wit_names.specs.declared.package_name.PackageName.{PackageName}
use Rattle.wit_resolve_graph.specs.declared.command.Reply.{Reply}
use Rattle.wit_resolve_graph.specs.declared.command.Reply.TheVariants as reply
use Rattle.wit_script_explain.specs.Places.{defined_line}
use Rattle.wit_script_explain.specs.Shown.{command_text, file_line_text, span_text}
use Rattle.wit_script_explain.specs.Ways.{way_text}
use Rattle.wit_script_explain.specs.declared.desk.TrackedGraph.{TrackedGraph}
use Rattle.wit_script_explain.specs.declared.lines.CommandPlace.{CommandPlace}
use Rattle.wit_script_explain.specs.declared.lines.ScriptLines.{ScriptLines}
use Rattle.wit_ways.specs.Told.{IsTold}
use Rattle.wit_ways.specs.declared.arrow.Arrow.{Arrow}
use Rattle.wit_ways.specs.declared.asked.Asked.{Asked}

-- the line of the other package of a name: that of its span, or, where that is unknown since the graph has the package, the
-- line that began it
abbrev pub other_text : ScriptLines → TrackedGraph → PackageName → Option (ℕ × ℕ) → List ℕ
other_text script tracked name (Some range) = span_text script tracked (Some range)
other_text script tracked name None =
    option_map_or (λ index. file_line_text script (index, package_name_text name, index))
    (defined_line script name tracked.package_starts) []

-- the lines that a refusal names: of a package that is defined twice both
abbrev pub spans_text : ScriptLines → TrackedGraph → ResolveErrorKind → List ℕ
spans_text script tracked (DuplicatePackage name span1 span2) =
    span_text script tracked span1 ++ other_text script tracked name span2
spans_text script tracked kind = span_text script tracked (error_span kind)

-- the lines at which a refusal is: those that it names, and that of its command, where it is no `push` or no other is known
abbrev pub places_text : ScriptLines → CommandPlace → TrackedGraph → ResolveErrorKind → List ℕ
places_text script place tracked kind =
    let named = spans_text script tracked kind in
    if not place.is_push || (length named == 0) then named ++ command_text script place.line
    else named

-- what is told of a refusal of what was asked, N being its number: `refused N TEXT`, the lines at which it is, its way, and the
-- document that says more of N
abbrev pub TellsRefusal : ScriptLines → CommandPlace → TrackedGraph → Asked → ResolveErrorKind
    → List ℕ → Type 0
TellsRefusal script place tracked asked kind text =
    (way : List Arrow) × IsTold tracked.resolve asked kind way
    × (text ≡ codes "refused "
    ++ (decimal (error_number kind)
    ++ (codes " "
    ++ (kind_text kind
    ++ (codes "\n"
    ++ (places_text script place tracked kind
    ++ (way_text script tracked way
    ++ (codes "      = "
    ++ (decimal (error_number kind) ++ codes " in docs/REFUSALS.md\n")))))))))

-- what is told of a command that names what isn't there: this, and its line
abbrev pub missing_text : ScriptLines → CommandPlace → List ℕ → List ℕ
missing_text script place missing = missing ++ (codes "\n" ++ command_text script place.line)

-- what is told of a reply to what was asked, where there is one, in the state after it
abbrev pub TellsReply : ScriptLines → CommandPlace → TrackedGraph → Asked → Option Reply → List ℕ
    → Type 0
TellsReply script place after asked (Some (reply.Refused kind)) text =
    TellsRefusal script place after asked kind text
TellsReply script place after asked (Some reply.NoWorld) text =
    text ≡ missing_text script place (codes "no world")
TellsReply script place after asked _ text = text ≡ []

-- these, unless the reply is a refusal
abbrev pub unless_refused : Option Reply → List ℕ → List ℕ
unless_refused (Some (reply.Refused kind)) brought = []
unless_refused _ brought = brought
