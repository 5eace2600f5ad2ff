-- What a graph that stays has told of itself, and what is new of it.
use Rattle.std.specs.Prelude.{◌≡◌, ◌≤◌, ℕ, List, ◌++◌, Option, Some, None, Ok, drop, fold, length, take}
use Rattle.wit_json.specs.Graph.{compact}
use Rattle.wit_json.specs.News.{json_of_news}
use Rattle.wit_json.specs.declared.news.Told.{Told}
use Rattle.wit_json_graphs.specs.declared.resolves.ResolveParts.{ResolveParts}
use Rattle.wit_json_reading.specs.Documents.{read_from}
use Rattle.wit_json_commands.specs.Orders.{read_document}
use Rattle.wit_json_commands.specs.declared.commands.orders.Document.{Document}
use Rattle.wit_json_commands.specs.declared.commands.orders.Order.{Order}
use Rattle.wit_json_commands.specs.declared.commands.orders.Order.TheVariants as order
use Rattle.wit_json_commands.specs.declared.commands.orders.Request.{Request}
use Rattle.wit_json_commands.specs.declared.commands.orders.Request.TheVariants as request
use Rattle.wit_commands.specs.declared.change.Change.{Change}
use Rattle.wit_commands.specs.declared.change.Change.TheVariants as change
use Rattle.wit_resolve_graph.specs.State.{State}
use Rattle.wit_sources.specs.SourceMap.{files_of}

-- ---- how much was told

abbrev pub told_nothing : Told
told_nothing = record { worlds = 0; interfaces = 0; types = 0; packages = 0; files = 0 }

-- all that there is
abbrev pub told_all : State → Told
told_all state = record {
  worlds = length state.graph.worlds;
  interfaces = length state.graph.interfaces;
  types = length state.graph.types;
  packages = length state.graph.packages;
  files = length state.source_map.files;
}

-- ---- how much of it commands leave as it was told

-- the files alone
abbrev pub told_files : Told → Told
told_files told = record told_nothing { files = told.files }

-- a push adds to the ends of the lists; a world that is turned changes, and so does its package; a semver merge may change
-- any type and any world
abbrev pub left_after_change : Change → Told → Told
left_after_change (change.Importize home world out) told = record told { worlds = 0; packages = 0 }
left_after_change (change.Exportize home world out keys) told =
    record told { worlds = 0; packages = 0 }
left_after_change (change.Semver home world) told = told_files told
left_after_change _ told = told

-- a merge may change anything but the files
abbrev pub left_after : Order → Told → Told
left_after (order.Request (request.Change it)) told = left_after_change it told
left_after (order.Request (request.Ask it)) told = told
left_after (order.Merge its) told = told_files told

-- of a graph that takes the place of another one nothing was told
abbrev pub told_before : Option ResolveParts → Told → Told
told_before None told = told
told_before (Some parts) told = told_nothing

abbrev pub told_after : Document → Told → Told
told_after document told =
    fold (λ (left : Told) (it : Order). left_after it left) (told_before document.resolve told)
    document.commands

-- the same of the document that is read
pub record LeavesTold (input : List ℕ) (old new : Told) : Type 0 where
  pub document : Document
  pub reads : read_from read_document input ≡ Ok document
  pub left : new ≡ told_after document old

-- ---- what is new

-- what is new of a graph with what stands beside it, for someone who was told so much
abbrev pub text_of_news : Told → State → List ℕ
text_of_news told state =
    compact (json_of_news told state.graph state.features state.track_rule state.source_map)

-- the first so many of a list are there, and are the first of another one
pub record StayInFront {X : Type 0} (n : ℕ) (old new : List X) : Type 0 where
  pub within : n ≤ length old
  pub same : take n new ≡ take n old

-- what was told of a state is so in another one
pub record Stands (told : Told) (old new : State) : Type 0 where
  pub worlds : StayInFront told.worlds old.graph.worlds new.graph.worlds
  pub interfaces : StayInFront told.interfaces old.graph.interfaces new.graph.interfaces
  pub types : StayInFront told.types old.graph.types new.graph.types
  pub packages : StayInFront told.packages old.graph.packages new.graph.packages
  pub files : StayInFront told.files (files_of old.source_map.files) (files_of new.source_map.files)

-- a list is what was told of it, and behind that what is new
abbrev pub Completes : {X : Type 0} → ℕ → List X → List X → Type 0
Completes n old new = new ≡ take n old ++ drop n new

-- so is each list of a graph with its files
pub record CompletesAll (told : Told) (old new : State) : Type 0 where
  pub worlds : Completes told.worlds old.graph.worlds new.graph.worlds
  pub interfaces : Completes told.interfaces old.graph.interfaces new.graph.interfaces
  pub types : Completes told.types old.graph.types new.graph.types
  pub packages : Completes told.packages old.graph.packages new.graph.packages
  pub files : Completes told.files (files_of old.source_map.files) (files_of new.source_map.files)
