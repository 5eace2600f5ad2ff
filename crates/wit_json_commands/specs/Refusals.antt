-- Refusals as they are told.
use Rattle.std.specs.Prelude.{ℕ, List, [], ◌∷◌, ◌++◌, true, false, codes, decimal, filter_map, flat_map, map}
use Rattle.std.specs.Option.{option_map_or}
use Rattle.wit_graph_data.specs.Error.{error_number, error_span}
use Rattle.wit_graph_data.specs.ErrorText.{kind_text}
use Rattle.wit_graph_data.specs.declared.cause.Cause.TheVariants.{MergeMismatch, UpgradeMismatch}
use Rattle.wit_graph_data.specs.declared.error_kind.ResolveErrorKind.{ResolveErrorKind}
use Rattle.wit_graph_data.specs.declared.error_kind.ResolveErrorKind.TheVariants.{DuplicatePackage, Semantic}
use Rattle.wit_graph_data.specs.declared.graph.Graph.{Graph}
use Rattle.wit_sources.specs.Locations.{shown_span}
use Rattle.wit_sources.specs.SourceMap.{Sources}
use Rattle.wit_sources.specs.Span.{OptionalSpan}
use Rattle.wit_sources.specs.declared.source_map.SourceFile.{SourceFile}
use Rattle.wit_ways.specs.Ways.{way_names}
use Rattle.wit_ways.specs.declared.arrow.Arrow.{Arrow}
use Rattle.wit_json_commands.specs.FilePlaces.{file_place}
use Rattle.wit_json_commands.specs.Mismatches.{merge_place, upgrade_place}
use Rattle.wit_json_commands.specs.Nearest.{nearest_known}
use Rattle.wit_json_commands.specs.Places.{first_known, package_span}
use Rattle.wit_json_commands.specs.declared.replies.answers.Answer.{Answer}
use Rattle.wit_json_commands.specs.declared.replies.answers.Answer.TheVariants as answer
use Rattle.wit_json_commands.specs.declared.replies.refusals.WayStep.{WayStep}

-- ---- places

-- where an error is; of a package that is defined twice both places, the other one by the graph where the error has none; of
-- things of the graph that differ (24, 25) where these stand
abbrev pub error_spans : Graph → ResolveErrorKind → List OptionalSpan
error_spans g (DuplicatePackage name span1 span2) =
    span1 ∷ first_known (span2 ∷ package_span g name ∷ []) ∷ []
error_spans g (Semantic span message MergeMismatch) = merge_place g message ∷ []
error_spans g (Semantic span message UpgradeMismatch) =
    upgrade_place g false message ∷ upgrade_place g true message ∷ []
error_spans g kind = error_span kind ∷ []

-- the step of a way that an arrow is, with its place
abbrev pub way_step : List SourceFile → Arrow → WayStep
way_step files a = record { from = a.from; to = a.to; place = file_place files a.span }

-- ---- texts

-- where a span begins, on lines of their own; nothing where it is unknown or in no file
abbrev pub place_lines : List SourceFile → OptionalSpan → List ℕ
place_lines files span = option_map_or (λ shown. codes "\n" ++ shown) (shown_span files span) []

-- on a line of its own `way: A -> B -> .. -> C`, and the line of each step
abbrev pub way_lines : List SourceFile → List Arrow → List ℕ
way_lines files [] = []
way_lines files (a ∷ way) =
    codes "\n      = way: "
    ++ (way_names (a ∷ way)
    ++ flat_map (λ (step : Arrow). place_lines files step.span) (a ∷ way))

-- an error with the lines in which some spans begin, its way, and on lines of their own what was asked and which document
-- says more of its number
abbrev pub text_of_error : List SourceFile → List OptionalSpan → List ℕ → List Arrow
    → ResolveErrorKind → List ℕ
text_of_error files spans asked way error =
    kind_text error
    ++ (flat_map (place_lines files) spans
    ++ (way_lines files way
    ++ (codes "\n      = "
    ++ (asked
    ++ (codes "\n      = " ++ (decimal (error_number error) ++ codes " in docs/REFUSALS.md"))))))

-- the same of an error of a graph, with its lines in these files
abbrev pub rendered : Graph → Sources → List ℕ → List Arrow → ResolveErrorKind → List ℕ
rendered g files asked way error =
    text_of_error files.files (error_spans g error) asked way error

-- ---- refusals

-- the refusal of what was asked of a graph, told by these files: its places and its way are those of its text
abbrev pub refused : Graph → Sources → List ℕ → List Arrow → ResolveErrorKind → Answer
refused g files asked way error =
    answer.Refused (record {
      error = error;
      places = filter_map (file_place files.files) (error_spans g error);
      way = map (way_step files.files) way;
      nearest = nearest_known error;
      rendered = rendered g files asked way error;
    })
