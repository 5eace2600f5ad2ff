-- How the commands of a script are carried out, and what is printed of them. Between `other` and `merge` commands work on a
-- second graph.
use Rattle.std.specs.Prelude.{◌≡◌, ◌⊎◌, ℕ, Bool, false, List, [], ◌∷◌, ◌++◌, Option, None, Some, Result, Ok, Err, slice_get, codes, is_some, unwrap_or, if◌then◌else◌, MatchOption, decimal}
use Rattle.std.specs.Option.{option_map_or}
use Rattle.wit_commands.specs.Change.{is_setting}
use Rattle.wit_graph_data.specs.Error.{error_number}
use Rattle.wit_graph_data.specs.ErrorText.{kind_text}
use Rattle.wit_graph_data.specs.declared.graph.Graph.{Graph}
use Rattle.wit_graph_data.specs.declared.graph.Package.{Package}
use Rattle.wit_graph_data.specs.declared.error_kind.ResolveErrorKind.{ResolveErrorKind}
use Rattle.wit_graph_data.specs.declared.error_kind.ResolveErrorKind.TheVariants.{OutOfMemory}
use Rattle.wit_names.specs.PackageName.{package_name_text}
use Rattle.wit_script_lines.specs.declared.request.Request.{Request}
use Rattle.wit_script_lines.specs.declared.request.Request.TheVariants as request
pub use Rattle.wit_queries.specs.Selection.{IsSelection}
use Rattle.wit_graph_data.specs.Named.{package_named, world_named}
use Rattle.wit_resolve_graph.specs.State.{State, new_state}
use Rattle.wit_resolve_graph.specs.Step.{Step, command_of}
use Rattle.wit_resolve_graph.specs.declared.command.Command.TheVariants.{Merge}
use Rattle.wit_resolve_graph.specs.declared.command.Reply.{Reply}
use Rattle.wit_resolve_graph.specs.declared.command.Reply.TheVariants as reply
use Rattle.wit_script.specs.World.{world_id_text_at, world_text_at}
use Rattle.wit_script.specs.declared.answer.Stage.{Stage}

-- `refused N TEXT`, N being the number of the refusal
abbrev pub refusal_text : ResolveErrorKind → List ℕ
refusal_text kind =
    codes "refused "
    ++ (decimal (error_number kind) ++ (codes " " ++ (kind_text kind ++ codes "\n")))

-- the line of a reply, in the state after it: `pushed PKG` of a package that is pushed; what sets something says nothing where
-- it is carried out
abbrev pub reply_text : Bool → Graph → Reply → List ℕ
reply_text is_set g reply.Done = if is_set then [] else codes "done\n"
reply_text is_set g (reply.Pushed id) =
    option_map_or (λ (p : Package). codes "pushed " ++ (package_name_text p.name ++ codes "\n"))
    (slice_get g.packages id) []
reply_text is_set g (reply.Merged remap) = codes "merged\n"
reply_text is_set g reply.NoWorld = codes "no world\n"
reply_text is_set g (reply.Refused kind) = refusal_text kind

-- ---- graphs

-- a graph, and no other
abbrev pub only_first : State → Stage
only_first state = record { first = state; second = None }

-- the graph on which commands work: the second, where there is one
abbrev pub working_state : Stage → State
working_state stage = unwrap_or stage.second stage.first

-- the stage after that graph has become another
abbrev pub with_working_state : Stage → State → Stage
with_working_state stage new =
    if is_some stage.second then record stage { second = Some new }
    else record stage { first = new }

-- a command is carried out on the graphs of a script: the reply, where it changes one of them, and the graphs after it.
-- `merge` puts the second graph into the first, and it is no longer there; `other` opens a second one, which is empty
abbrev pub CarriesOut : Stage → Request → Option Reply → Stage → Type 0
CarriesOut before (request.Change change) (Some reply) after =
    (new : State) × Step (working_state before) (command_of change) reply new
    × (after ≡ with_working_state before new)
CarriesOut before request.Merge (Some reply) after =
    (second : State) × (new : State) × (before.second ≡ Some second)
    × Step before.first (Merge second) reply new × (after ≡ only_first new)
CarriesOut before request.Other None after =
    (before.second ≡ None) × (after ≡ record before { second = Some new_state })
CarriesOut before (request.Print owner world) None after = after ≡ before
CarriesOut before (request.Select owner said) None after = after ≡ before
CarriesOut before _ _ after = ⊥

-- ---- answers

-- the line of a choice: `selected ID`, or a refusal
abbrev pub choice_text : Graph → Result ℕ ResolveErrorKind → List ℕ
choice_text g (Ok world) = codes "selected " ++ (world_id_text_at g world ++ codes "\n")
choice_text g (Err kind) = refusal_text kind

-- what is printed of a command, by its reply and the graph on which commands work after it. `print` shows the world, or says
-- want of memory, or `no world` where it isn't there; `select` says what `select_world` chooses of a package, or why it
-- chooses none, or `no package` where the package isn't there
abbrev pub IsAnswer : Graph → Request → Option Reply → List ℕ → Type 0
IsAnswer g (request.Change change) (Some reply) text = text ≡ reply_text (is_setting change) g reply
IsAnswer g request.Merge (Some reply) text = text ≡ reply_text false g reply
IsAnswer g (request.Print owner world) reply text =
    MatchOption (world_named g owner world) (text ≡ codes "no world\n")
    (λ id. (text ≡ world_text_at g id) ⊎ (text ≡ refusal_text OutOfMemory))
IsAnswer g (request.Select owner said) reply text =
    MatchOption (package_named g owner) (text ≡ codes "no package\n")
    (λ id. (choice : Result ℕ ResolveErrorKind) × IsSelection g (id ∷ []) said choice
    × (text ≡ choice_text g choice))
IsAnswer g _ _ text = text ≡ []

-- the answer to a command, and the graphs after it
abbrev pub Answers : Stage → Request → List ℕ → Stage → Type 0
Answers before command text after =
    (reply : Option Reply) × CarriesOut before command reply after
    × IsAnswer (working_state after).graph command reply text

-- ---- commands, one after another

-- the texts of some items, one after another, each from what there is after those before it
abbrev pub InTurn : {S X : Type 0} → (S → X → List ℕ → S → Type 0) → S → List X → List ℕ → S
    → Type 0
InTurn Tells before [] text after = (text ≡ []) × (after ≡ before)
InTurn {S} Tells before (x ∷ xs) text after =
    (between : S) × (first : List ℕ) × (rest : List ℕ)
    × Tells before x first between × InTurn Tells between xs rest after × (text ≡ first ++ rest)
