-- Answers, and the documents that come out.
use Rattle.std.specs.Prelude.{◌≡◌, ◌≢◌, ℕ, List, [], ◌∷◌, ◌++◌, Option, Some, None, codes}
use Rattle.wit_data.specs.declared.world.WorldKey.TheVariants as key
use Rattle.wit_data.specs.New.{new_world}
use Rattle.wit_graph_data.specs.declared.error_kind.ResolveErrorKind.TheVariants as kind
use Rattle.wit_graph_data.specs.declared.graph.Graph.{Graph}
use Rattle.wit_names.specs.declared.package_name.PackageName.{PackageName}
use Rattle.wit_names.specs.declared.track.TrackRule.TheVariants.{Published, WithPrereleases}
use Rattle.wit_remap.specs.declared.remap.Remap.{Remap}
use Rattle.wit_resolve_graph.specs.State.{new_state}
use Rattle.wit_shape.specs.declared.clause.ShapeClause.TheVariants as clause
use Rattle.wit_shape.specs.declared.fault.ShapeFault.{ShapeFault}
use Rattle.wit_shape.specs.declared.place.ShapePlace.TheVariants as place
use Rattle.wit_sources.specs.SourceMap.{Sources}
use Rattle.wit_json.specs.Graph.{compact}
use Rattle.wit_json_reading.specs.declared.fault.Expected.TheVariants as expected
use Rattle.wit_json_reading.specs.declared.fault.Fault.{Fault}
use Rattle.wit_json_reading.specs.declared.places.FaultPlace.{FaultPlace}
use Rattle.wit_json_reading.specs.declared.fault.Step.TheVariants as step
use Rattle.wit_json_commands.specs.Answers.{json_of_answer, json_of_response}
use Rattle.wit_graph_faults.specs.declared.clause.GraphClause.TheVariants as graph_clause
use Rattle.wit_graph_faults.specs.declared.fault.GraphFault.{GraphFault}
use Rattle.wit_graph_faults.specs.declared.place.GraphPlace.TheVariants as graph_place
use Rattle.wit_json_commands.specs.GraphFaults.{invalid_fault}
use Rattle.wit_json_commands.specs.Output.{json_of_fault, json_of_output}
use Rattle.wit_json_commands.specs.Refusals.{rendered}
use Rattle.wit_json_commands.specs.declared.replies.answers.Answer.{Answer}
use Rattle.wit_json_commands.specs.declared.replies.answers.Answer.TheVariants as answer
use Rattle.wit_json_commands.specs.declared.replies.answers.Response.{Response}
use Rattle.wit_json_commands.specs.declared.replies.answers.Response.TheVariants as response

abbrev pub answer_text : Answer → List ℕ
answer_text it = compact (json_of_answer it)

-- the second function of interface 1 stands under another name
abbrev pub misplaced_function : ShapeFault
misplaced_function = record { clause = clause.OwnersFunctions; place = place.Function 1 1 }

abbrev pub unshaped_text : Option ℕ → Option ℕ → List ℕ
unshaped_text group nested =
    answer_text
    (answer.NotShaped (record { group = group; «package» = nested; fault = misplaced_function }))

-- one file of two lines
abbrev pub one_file : Sources
one_file =
    record {
      files = record { path = codes "f"; contents = codes "package a:b\nworld"; start = 0 }
          ∷ [];
      end = 18;
    }

-- the same, and another file of one line
abbrev pub two_lines : Sources
two_lines =
    record {
      files = one_file.files
          ++ record { path = codes "g"; contents = codes "xyz"; start = 19 } ∷ [];
      end = 23;
    }

abbrev pub a_name : PackageName
a_name = record { namespace = codes "a"; name = codes "b"; version = None }

-- a graph with one package, which has one world, on the second line of the first file
abbrev pub with_world : Graph
with_world = record {
  types = [];
  interfaces = [];
  worlds = record (new_world (codes "w")) { «package» = Some 0; span = Some (12, 17) } ∷ [];
  packages =
      record {
        name = a_name;
        docs = record { contents = None };
        interfaces = [];
        worlds = (codes "w", 0) ∷ [];
      } ∷ [];
  package_names = (a_name, 0) ∷ [];
}

abbrev pub a_remap : Remap
a_remap =
    record
    { types = Some 4 ∷ None ∷ []; interfaces = Some 2 ∷ []; worlds = []; packages = 1 ∷ 0 ∷ [] }

pub record ExamplesOfAnswers : Type 0 where
  -- words
  pub done : answer_text answer.Done ≡ codes "\"done\""
  pub not_null : answer_text answer.Done ≢ codes "null"
  pub no_world : answer_text answer.NoWorld ≡ codes "\"no-world\""
  pub not_done : answer_text answer.NoWorld ≢ codes "\"done\""
  pub no_package : answer_text answer.NoPackage ≡ codes "\"no-package\""
  -- a world that was changed, and the keys that no import of it had
  pub changed : answer_text (answer.ChangedWorld 2 []) ≡ codes "{\"done\":{\"world\":2}}"
  pub unmatched : answer_text (answer.ChangedWorld 2 (codes "a:b/i" ∷ codes "l" ∷ []))
      ≡ codes "{\"done\":{\"world\":2,\"unmatched\":[\"a:b/i\",\"l\"]}}"
  pub not_empty : answer_text (answer.ChangedWorld 2 [])
      ≢ codes "{\"done\":{\"world\":2,\"unmatched\":[]}}"
  pub not_found : answer_text answer.NotFound ≡ codes "\"not-found\""
  -- ids under words
  pub pushed : answer_text (answer.Pushed 3) ≡ codes "{\"pushed\":3}"
  pub not_world : answer_text (answer.Pushed 3) ≢ codes "{\"world\":3}"
  pub chosen : answer_text (answer.World 0) ≡ codes "{\"world\":0}"
  pub packages : answer_text (answer.Packages (1 ∷ 0 ∷ 1 ∷ [])) ≡ codes "{\"packages\":[1,0,1]}"
  pub not_sorted : answer_text (answer.Packages (1 ∷ 0 ∷ 1 ∷ [])) ≢ codes "{\"packages\":[0,1,1]}"
  pub not_once : answer_text (answer.Packages (1 ∷ 0 ∷ 1 ∷ [])) ≢ codes "{\"packages\":[1,0]}"
  pub interfaces : answer_text (answer.Interfaces (2 ∷ [])) ≡ codes "{\"interfaces\":[2]}"
  pub types : answer_text (answer.Types []) ≡ codes "{\"types\":[]}"
  pub text : answer_text (answer.Text (codes "a:b/c@1")) ≡ codes "{\"text\":\"a:b/c@1\"}"
  -- where the things of a merged graph stand
  pub merged : answer_text (answer.Merged a_remap)
      ≡ codes
      "{\"merged\":{\"types\":[4,null],\"interfaces\":[2],\"worlds\":[],\"packages\":[1,0]}}"
  pub not_left_out : answer_text (answer.Merged a_remap)
      ≢ codes "{\"merged\":{\"types\":[4],\"interfaces\":[2],\"worlds\":[],\"packages\":[1,0]}}"
  -- a refusal, with its line
  pub refused : answer_text
      (answer.Refused (record {
        error = kind.OutOfMemory;
        places = [];
        way = [];
        nearest = None;
        rendered = codes "out of memory";
      }))
      ≡ codes "{\"refused\":{\"error\":{\"number\":28,\"cause\":\"out-of-memory\","
      ++ codes "\"text\":\"out of memory\"},\"fields\":{},\"places\":[],\"way\":[],"
      ++ codes "\"rendered\":\"out of memory\"}}"
  -- a refusal as it is told: its text, what was asked, and where more is said of its number
  pub told : rendered new_state.graph new_state.source_map (codes "merge") [] kind.OffsetOverflow
      ≡ codes
      "source positions would pass 4294967295\n      = merge\n      = 27 in docs/REFUSALS.md"
  pub not_alone : rendered new_state.graph new_state.source_map (codes "merge") []
      kind.OffsetOverflow ≢ codes "source positions would pass 4294967295"
  -- with its line
  pub with_line : rendered new_state.graph one_file (codes "push-groups a:b") []
      (kind.PackageCycle (Some (12, 17)) a_name)
      ≡ codes "package `a:b` creates a dependency cycle\n     --> f:2:1\n      |\n    2 | world\n"
      ++ codes "      | ^----\n      = push-groups a:b\n      = 6 in docs/REFUSALS.md"
  -- with its way and the line of each step
  pub with_way : rendered new_state.graph one_file (codes "push-groups a:b")
      (record { from = codes "a:b"; to = codes "c:d"; span = None }
      ∷ record { from = codes "c:d"; to = codes "a:b"; span = Some (12, 17) } ∷ [])
      (kind.PackageCycle None a_name)
      ≡ codes "package `a:b` creates a dependency cycle\n      = way: a:b -> c:d -> a:b\n"
      ++ codes "     --> f:2:1\n      |\n    2 | world\n      | ^----\n"
      ++ codes "      = push-groups a:b\n      = 6 in docs/REFUSALS.md"
  -- a package that is defined twice, with both places: those of the error, or that of what the graph has of the package
  pub both_known : rendered new_state.graph two_lines (codes "merge") []
      (kind.DuplicatePackage a_name (Some (20, 21)) (Some (8, 9)))
      ≡ codes "package `a:b` is defined in two different locations\n     --> g:1:2\n"
      ++ codes "      |\n    1 | xyz\n      |  ^\n     --> f:1:9\n      |\n    1 | package a:b\n"
      ++ codes "      |         ^\n      = merge\n      = 5 in docs/REFUSALS.md"
  pub other_by_the_graph : rendered with_world two_lines (codes "push-groups a:b") []
      (kind.DuplicatePackage a_name (Some (20, 21)) None)
      ≡ codes "package `a:b` is defined in two different locations\n     --> g:1:2\n"
      ++ codes "      |\n    1 | xyz\n      |  ^\n     --> f:2:1\n      |\n    2 | world\n"
      ++ codes "      | ^----\n      = push-groups a:b\n      = 5 in docs/REFUSALS.md"
  pub not_of_another : rendered with_world two_lines (codes "push-groups c:d") []
      (kind.DuplicatePackage (record a_name { namespace = codes "c" }) None None)
      ≡ codes "package `c:b` is defined in two different locations\n"
      ++ codes "      = push-groups c:d\n      = 5 in docs/REFUSALS.md"
  -- a package without its shape: the path to it, and what it lacks
  pub main : unshaped_text None None
      ≡ codes "{\"not-shaped\":{\"path\":[\"main\",\"main\"],\"clause\":\"owners.functions\","
      ++ codes "\"place\":\"interfaces[1].functions[1]\","
      ++ codes "\"text\":\"a function stands under its name\"}}"
  pub nested : unshaped_text None (Some 2)
      ≡ codes "{\"not-shaped\":{\"path\":[\"main\",\"nested\",2],\"clause\":\"owners.functions\","
      ++ codes "\"place\":\"interfaces[1].functions[1]\","
      ++ codes "\"text\":\"a function stands under its name\"}}"
  pub among_deps : unshaped_text (Some 0) None
      ≡ codes "{\"not-shaped\":{\"path\":[\"deps\",0,\"main\"],\"clause\":\"owners.functions\","
      ++ codes "\"place\":\"interfaces[1].functions[1]\","
      ++ codes "\"text\":\"a function stands under its name\"}}"
  pub nested_in_dep : unshaped_text (Some 0) (Some 2)
      ≡ codes "{\"not-shaped\":{\"path\":[\"deps\",0,\"nested\",2],\"clause\":\"owners.functions\","
      ++ codes "\"place\":\"interfaces[1].functions[1]\","
      ++ codes "\"text\":\"a function stands under its name\"}}"
  pub not_turned : unshaped_text (Some 0) (Some 2)
      ≢ codes "{\"not-shaped\":{\"path\":[\"deps\",2,\"nested\",0],\"clause\":\"owners.functions\","
      ++ codes "\"place\":\"interfaces[1].functions[1]\","
      ++ codes "\"text\":\"a function stands under its name\"}}"
  pub not_a_word : unshaped_text None None ≢ codes "\"not-shaped\""
  -- names of core wasm: the key of the interface as it names an entry, null in the world itself
  pub core_names : answer_text (answer.CoreNames (record {
    imports =
        record {
          interface = Some (key.Interface 3);
          function = codes "f";
          «module» = codes "m";
          field = codes "n";
        } ∷ [];
    exports = record { interface = None; function = codes "run"; name = codes "run" } ∷ [];
  }))
      ≡ codes "{\"core-names\":{\"imports\":[{\"interface\":\"interface-3\","
      ++ codes "\"function\":\"f\",\"module\":\"m\",\"field\":\"n\"}],"
      ++ codes "\"exports\":[{\"interface\":null,\"function\":\"run\",\"name\":\"run\"}]}}"

abbrev pub response_text : Response → List ℕ
response_text it = compact (json_of_response it)

-- of a value in the first command
abbrev pub a_fault : Fault
a_fault =
    record {
      path = step.Member (codes "add-feature") ∷ step.Item 0 ∷ step.Member (codes "commands")
          ∷ [];
      expected = expected.Text;
    }

-- in the first line
abbrev pub a_place : FaultPlace
a_place = record { offset = 29; line = 1; column = 30 }

-- import 0 of world 2 stands under a key that isn't its own
abbrev pub a_graph_fault : GraphFault
a_graph_fault =
    record { clause = graph_clause.WorldsImports; place = graph_place.Import 2 0 }

pub record ExamplesOfDocuments : Type 0 where
  -- the replies to what made another graph stand within that to its merge
  pub «merge» : response_text (response.Merge (answer.Done ∷ answer.NoWorld ∷ []) answer.Done)
      ≡ codes "{\"merge\":{\"replies\":[\"done\",\"no-world\"],\"reply\":\"done\"}}"
  pub not_beside : response_text (response.Merge (answer.Done ∷ answer.NoWorld ∷ []) answer.Done)
      ≢ codes "[\"done\",\"no-world\",\"done\"]"
  pub plain : response_text (response.Answer answer.Done) ≡ codes "\"done\""
  -- the path of a fault from the whole down
  pub fault : compact (json_of_fault a_fault a_place)
      ≡ codes "{\"fault\":{\"path\":[\"commands\",0,\"add-feature\"],"
      ++ codes "\"offset\":29,\"line\":1,\"column\":30,\"expected\":\"a text\"}}"
  pub not_upwards : compact (json_of_fault a_fault a_place)
      ≢ codes "{\"fault\":{\"path\":[\"add-feature\",0,\"commands\"],"
      ++ codes "\"offset\":29,\"line\":1,\"column\":30,\"expected\":\"a text\"}}"
  pub not_turned : compact (json_of_fault a_fault a_place)
      ≢ codes "{\"fault\":{\"path\":[\"commands\",0,\"add-feature\"],"
      ++ codes "\"offset\":29,\"line\":30,\"column\":1,\"expected\":\"a text\"}}"
  -- that of an invalid graph leads to the thing, and says what is wrong with it
  pub invalid : compact (json_of_fault (invalid_fault a_graph_fault) a_place)
      ≡ codes "{\"fault\":{\"path\":[\"resolve\",\"graph\",\"worlds\",2,\"imports\"],"
      ++ (codes "\"offset\":29,\"line\":1,\"column\":30,\"expected\":\"a valid graph\","
      ++ (codes "\"clause\":\"worlds.imports\","
      ++ codes "\"message\":\"import 0 of world 2 may not stand under its key\"}}"))
  pub not_the_graph : compact (json_of_fault (invalid_fault a_graph_fault) a_place)
      ≢ codes "{\"fault\":{\"path\":[\"resolve\",\"graph\"],\"offset\":29,\"line\":1,\"column\":30,"
      ++ codes "\"expected\":\"a valid graph\"}}"
  -- nothing was asked of an empty graph
  pub nothing : compact
      (json_of_output [] new_state.graph new_state.features Published new_state.source_map)
      ≡ codes
      "{\"replies\":[],\"resolve\":{\"graph\":{\"worlds\":[],\"interfaces\":[],\"types\":[],"
      ++ codes "\"packages\":[]},\"details\":{\"worlds\":[],\"interfaces\":[],\"types\":[]},"
      ++ codes "\"features\":{\"all\":false,\"names\":[]},"
      ++ codes "\"track-rule\":\"published\",\"sources\":[]}}"
  pub not_published : compact
      (json_of_output [] new_state.graph new_state.features WithPrereleases new_state.source_map)
      ≢ codes "{\"replies\":[],\"resolve\":{\"graph\":{\"worlds\":[],\"interfaces\":[],"
      ++ codes "\"types\":[],\"packages\":[]},\"details\":{\"worlds\":[],"
      ++ codes "\"interfaces\":[],\"types\":[]},\"features\":{\"all\":false,"
      ++ codes "\"names\":[]},\"track-rule\":\"published\",\"sources\":[]}}"
