-- What commands leave of what was told stands after them.
use Rattle.std.proofs.Common.{◌≡◌, ◌∙◌, inl, inr, ℕ, zero, suc, ◌≤◌, List, [], ◌∷◌, ◌++◌, Option, None, Some, drop, fold, length, take, slice_get, refl, ap, subst, sym, arith}
use Rattle.std.proofs.lemmas.List.{take-append-drop, length-map}
use Rattle.std.specs.Option.{option_map_or}
use Rattle.wit_data.specs.declared.world.World.{World}
use Rattle.wit_graph_data.specs.declared.graph.Graph.{Graph}
use Rattle.wit_graph_data.specs.declared.error_kind.ResolveErrorKind.{ResolveErrorKind}
use Rattle.wit_graph_data.specs.declared.error_kind.ResolveErrorKind.TheVariants.{OffsetOverflow, OutOfMemory}
use Rattle.wit_sources.specs.SourceMap.{Sources, files_of, with_sources}
use Rattle.wit_sources.specs.declared.source_map.SourceFile.{SourceFile}
use Rattle.wit_commands.specs.declared.change.Change.{Change}
use Rattle.wit_commands.specs.declared.change.Change.TheVariants as change
use Rattle.wit_transform.specs.Transformed.{WorldLists, exportized, importized, transformed, transformed_at}
use Rattle.wit_resolve_graph.specs.Merging.{HasSourcesAfter}
use Rattle.wit_resolve_graph.specs.State.{State}
use Rattle.wit_resolve_graph.specs.Step.{Step, answers_at, command_of, with_files}
use Rattle.wit_resolve_graph.specs.declared.command.Command.TheVariants as command
use Rattle.wit_resolve_graph.specs.declared.command.Reply.{Reply}
use Rattle.wit_resolve_graph.specs.declared.command.Reply.TheVariants as reply
use Rattle.wit_json.specs.declared.news.Told.{Told}
use Rattle.wit_json_graphs.specs.declared.resolves.ResolveParts.{ResolveParts}
use Rattle.wit_json_commands.specs.Runs.{AnswersRequest, Responds, RespondsEach}
use Rattle.wit_json_commands.specs.declared.commands.orders.Order.{Order}
use Rattle.wit_json_commands.specs.declared.commands.orders.Order.TheVariants as order
use Rattle.wit_json_commands.specs.declared.commands.orders.Request.{Request}
use Rattle.wit_json_commands.specs.declared.commands.orders.Request.TheVariants as request
use Rattle.wit_json_commands.specs.declared.replies.answers.Answer.{Answer}
use Rattle.wit_json_commands.specs.declared.replies.answers.Response.{Response}
use Rattle.wit_json_commands.specs.declared.replies.answers.Response.TheVariants as response
use Rattle.witgraph_calls.specs.Graphs.{start_for}
use Rattle.witgraph_calls.specs.News.{StayInFront, Completes, CompletesAll, Stands, left_after, left_after_change, told_all, told_before, told_files, told_nothing}
use Rattle.witgraph_calls.proofs.Growth.{Grows, HasMore, files_behind, files_of_groups, grows_pushed, no_more}

-- ---- lists

-- none of it
none_first : {X : Type 0} (old new : List X) → StayInFront 0 old new
none_first old new = record { within = omega arith; same = refl }

all_first : {X : Type 0} (n : ℕ) (xs : List X) → n ≤ length xs → StayInFront n xs xs
all_first n xs within = record { within = within; same = refl }

still : {X : Type 0} (n : ℕ) (first old more : List X) → n ≤ length first → take n old ≡ take n first → take n (old ++ more) ≡ take n first
still zero first old more within same = refl
still (suc n) [] old more within same = absurd (omega arith)
still (suc n) (x ∷ first) [] more within same = cc
still (suc n) (x ∷ first) (y ∷ old) more within same =
    let head : y ≡ x = cc in
    let tail : take n old ≡ take n first = cc in
    let on : take n (old ++ more) ≡ take n first = still n first old more (omega arith) tail in
    cc

-- with more behind the list
stays : {X : Type 0} (n : ℕ) (first old new : List X) → HasMore old new → StayInFront n first old → StayInFront n first new
stays {X} n first old new more are = record {
  within = are.within;
  same = ap (λ (l : List X). take n l) more.1 ∙ still n first old more.0 are.within are.same;
}

as_well : {X : Type 0} (n : ℕ) (first old new : List X) → new ≡ old → StayInFront n first old → StayInFront n first new
as_well {X} n first old new same are = subst (λ (l : List X). StayInFront n first l) (sym same) are

completes : {X : Type 0} (n : ℕ) (old new : List X) → StayInFront n old new → Completes n old new
completes {X} n old new are = sym (take-append-drop n new) ∙ ap (λ (l : List X). l ++ drop n new) are.same

-- ---- states

pub nothing_stands : (first new : State) → Stands told_nothing first new
nothing_stands first new = record {
  worlds = none_first first.graph.worlds new.graph.worlds;
  interfaces = none_first first.graph.interfaces new.graph.interfaces;
  types = none_first first.graph.types new.graph.types;
  packages = none_first first.graph.packages new.graph.packages;
  files = none_first (files_of first.source_map.files) (files_of new.source_map.files);
}

pub all_stands : (state : State) → Stands (told_all state) state state
all_stands state = record {
  worlds = all_first (length state.graph.worlds) state.graph.worlds (omega arith);
  interfaces = all_first (length state.graph.interfaces) state.graph.interfaces (omega arith);
  types = all_first (length state.graph.types) state.graph.types (omega arith);
  packages = all_first (length state.graph.packages) state.graph.packages (omega arith);
  files = all_first (length state.source_map.files) (files_of state.source_map.files) (let long : length (files_of state.source_map.files) ≡ length state.source_map.files = length-map state.source_map.files (λ (file : SourceFile). (file.path, file.contents)) in omega (arith, long));
}

pub news_complete : (told : Told) (old new : State) → Stands told old new → CompletesAll told old new
news_complete told old new stands = record {
  worlds = completes told.worlds old.graph.worlds new.graph.worlds stands.worlds;
  interfaces = completes told.interfaces old.graph.interfaces new.graph.interfaces stands.interfaces;
  types = completes told.types old.graph.types new.graph.types stands.types;
  packages = completes told.packages old.graph.packages new.graph.packages stands.packages;
  files = completes told.files (files_of old.source_map.files) (files_of new.source_map.files) stands.files;
}

-- what grows
grown : (told : Told) (first old new : State) → Grows old.graph new.graph → HasMore (files_of old.source_map.files) (files_of new.source_map.files) → Stands told first old
    → Stands told first new
grown told first old new grows files stands = record {
  worlds = stays told.worlds first.graph.worlds old.graph.worlds new.graph.worlds grows.worlds stands.worlds;
  interfaces = stays told.interfaces first.graph.interfaces old.graph.interfaces new.graph.interfaces grows.interfaces stands.interfaces;
  types = stays told.types first.graph.types old.graph.types new.graph.types grows.types stands.types;
  packages = stays told.packages first.graph.packages old.graph.packages new.graph.packages grows.packages stands.packages;
  files = stays told.files (files_of first.source_map.files) (files_of old.source_map.files) (files_of new.source_map.files) files stands.files;
}

-- what stays as it is
unchanged : (told : Told) (first old new : State) → new ≡ old → Stands told first old → Stands told first new
unchanged told first old new same stands = subst (Stands told first) (sym same) stands

alike : (told : Told) (first old new : State) → new.graph ≡ old.graph → new.source_map ≡ old.source_map → Stands told first old → Stands told first new
alike told first old new graph files stands = record {
  worlds = as_well told.worlds first.graph.worlds old.graph.worlds new.graph.worlds (ap (λ (g : Graph). g.worlds) graph) stands.worlds;
  interfaces = as_well told.interfaces first.graph.interfaces old.graph.interfaces new.graph.interfaces (ap (λ (g : Graph). g.interfaces) graph) stands.interfaces;
  types = as_well told.types first.graph.types old.graph.types new.graph.types (ap (λ (g : Graph). g.types) graph) stands.types;
  packages = as_well told.packages first.graph.packages old.graph.packages new.graph.packages (ap (λ (g : Graph). g.packages) graph) stands.packages;
  files = as_well told.files (files_of first.source_map.files) (files_of old.source_map.files) (files_of new.source_map.files) (ap (λ (s : Sources). files_of s.files) files) stands.files;
}

-- the files alone
files_stand : (told : Told) (first old new : State) → HasMore (files_of old.source_map.files) (files_of new.source_map.files) → Stands told first old → Stands (told_files told) first new
files_stand told first old new files stands = record {
  worlds = none_first first.graph.worlds new.graph.worlds;
  interfaces = none_first first.graph.interfaces new.graph.interfaces;
  types = none_first first.graph.types new.graph.types;
  packages = none_first first.graph.packages new.graph.packages;
  files = stays told.files (files_of first.source_map.files) (files_of old.source_map.files) (files_of new.source_map.files) files stands.files;
}

same_files : (old new : State) → new.source_map ≡ old.source_map → HasMore (files_of old.source_map.files) (files_of new.source_map.files)
same_files old new same = subst (λ (s : Sources). HasMore (files_of old.source_map.files) (files_of s.files)) (sym same) (no_more (files_of old.source_map.files))

-- all but the worlds and the packages
abbrev but_worlds : Told → Told
but_worlds told = record told { worlds = 0; packages = 0 }

parts_stand : (told : Told) (first old new : State) → new.graph.types ≡ old.graph.types → new.graph.interfaces ≡ old.graph.interfaces → new.source_map ≡ old.source_map
    → Stands told first old → Stands (but_worlds told) first new
parts_stand told first old new types interfaces files stands = record {
  worlds = none_first first.graph.worlds new.graph.worlds;
  interfaces = as_well told.interfaces first.graph.interfaces old.graph.interfaces new.graph.interfaces interfaces stands.interfaces;
  types = as_well told.types first.graph.types old.graph.types new.graph.types types stands.types;
  packages = none_first first.graph.packages new.graph.packages;
  files = as_well told.files (files_of first.source_map.files) (files_of old.source_map.files) (files_of new.source_map.files) (ap (λ (s : Sources). files_of s.files) files) stands.files;
}

-- ---- world transformations

same_types : (g : Graph) (w : ℕ) (lists : World → WorldLists) → (transformed g w lists).types ≡ g.types
same_types g w lists = by (slice_get g.worlds w)
  where
    by : (o : Option World) → (option_map_or (λ (world : World). transformed_at g w world (lists world)) o g).types ≡ g.types
    by None = refl
    by (Some world) = refl

same_interfaces : (g : Graph) (w : ℕ) (lists : World → WorldLists) → (transformed g w lists).interfaces ≡ g.interfaces
same_interfaces g w lists = by (slice_get g.worlds w)
  where
    by : (o : Option World) → (option_map_or (λ (world : World). transformed_at g w world (lists world)) o g).interfaces ≡ g.interfaces
    by None = refl
    by (Some world) = refl

transformed_stands : (told : Told) (first old new : State) (w : ℕ) (lists : World → WorldLists) → new ≡ record old { graph = transformed old.graph w lists } → Stands told first old
    → Stands (but_worlds told) first new
transformed_stands told first old new w lists is stands =
    parts_stand told first old new (ap (λ (s : State). s.graph.types) is ∙ same_types old.graph w lists) (ap (λ (s : State). s.graph.interfaces) is ∙ same_interfaces old.graph w lists)
    (ap (λ (s : State). s.source_map) is) stands

not_transformed : (told : Told) (first old new : State) → new ≡ old → Stands told first old → Stands (but_worlds told) first new
not_transformed told first old new same stands =
    parts_stand told first old new (ap (λ (s : State). s.graph.types) same) (ap (λ (s : State). s.graph.interfaces) same) (ap (λ (s : State). s.source_map) same) stands

-- ---- commands

files_after : (error : ResolveErrorKind) (old added new : Sources) → HasMore (files_of old.files) (files_of added.files) → HasSourcesAfter error old added new → HasMore (files_of old.files) (files_of new.files)
files_after OffsetOverflow old added new more same = subst (λ (s : Sources). HasMore (files_of old.files) (files_of s.files)) (sym same) (no_more (files_of old.files))
files_after OutOfMemory old added new more (inl same) = subst (λ (s : Sources). HasMore (files_of old.files) (files_of s.files)) (sym same) (no_more (files_of old.files))
files_after OutOfMemory old added new more (inr same) = subst (λ (s : Sources). HasMore (files_of old.files) (files_of s.files)) (sym same) more
files_after _ old added new more same = subst (λ (s : Sources). HasMore (files_of old.files) (files_of s.files)) (sym same) more

same_graph : (old new : Graph) → new ≡ old → Grows old new
same_graph old new same = subst (Grows old) (sym same) (record { worlds = no_more old.worlds; interfaces = no_more old.interfaces; types = no_more old.types; packages = no_more old.packages })

change_stands : (told : Told) (first old new : State) (it : Change) (answer : Reply) → Step old (command_of it) answer new → Stands told first old → Stands (left_after_change it told) first new
change_stands told first old new (change.AddFeature name) reply.Done step stands = alike told first old new (ap (λ (s : State). s.graph) step) (ap (λ (s : State). s.source_map) step) stands
change_stands told first old new (change.AddFeature name) (reply.Refused error) step stands = unchanged told first old new step.1 stands
change_stands told first old new (change.AddFeature name) _ step stands = absurd step
change_stands told first old new (change.SetAllFeatures all) reply.Done step stands = alike told first old new (ap (λ (s : State). s.graph) step) (ap (λ (s : State). s.source_map) step) stands
change_stands told first old new (change.SetAllFeatures all) _ step stands = absurd step
change_stands told first old new (change.SetTrackRule rule) reply.Done step stands = alike told first old new (ap (λ (s : State). s.graph) step) (ap (λ (s : State). s.source_map) step) stands
change_stands told first old new (change.SetTrackRule rule) _ step stands = absurd step
change_stands told first old new (change.PushGroups main deps) (reply.Pushed id) step stands =
    grown told first old new (grows_pushed old.features old.graph step.sorted new.graph step.ids step.are_pushed)
    (subst (λ (s : Sources). HasMore (files_of old.source_map.files) (files_of s.files)) (sym step.files) (files_of_groups old.source_map (main ∷ deps))) stands
change_stands told first old new (change.PushGroups main deps) (reply.Refused error) step stands =
    grown told first old new (same_graph old.graph new.graph step.graph)
    (files_after error old.source_map (with_files old.source_map (main ∷ deps)) new.source_map (files_of_groups old.source_map (main ∷ deps)) step.files) stands
change_stands told first old new (change.PushGroups main deps) _ step stands = absurd step
change_stands told first old new (change.Importize home world out) reply.Done step stands = transformed_stands told first old new step.w (importized out) step.is_changed stands
change_stands told first old new (change.Importize home world out) reply.NoWorld step stands = not_transformed told first old new step.1 stands
change_stands told first old new (change.Importize home world out) (reply.Refused error) step stands = not_transformed told first old new step.same stands
change_stands told first old new (change.Importize home world out) _ step stands = absurd step
change_stands told first old new (change.Exportize home world out keys) reply.Done step stands =
    transformed_stands told first old new step.w (exportized (answers_at old keys step.w) out) step.is_changed stands
change_stands told first old new (change.Exportize home world out keys) reply.NoWorld step stands = not_transformed told first old new step.1 stands
change_stands told first old new (change.Exportize home world out keys) (reply.Refused error) step stands = not_transformed told first old new step.same stands
change_stands told first old new (change.Exportize home world out keys) _ step stands = absurd step
change_stands told first old new (change.Semver home world) reply.Done step stands = files_stand told first old new (same_files old new (ap (λ (s : State). s.source_map) step.is_changed)) stands
change_stands told first old new (change.Semver home world) reply.NoWorld step stands = files_stand told first old new (same_files old new (ap (λ (s : State). s.source_map) step.1)) stands
change_stands told first old new (change.Semver home world) (reply.Refused error) step stands = files_stand told first old new (same_files old new (ap (λ (s : State). s.source_map) step.same)) stands
change_stands told first old new (change.Semver home world) _ step stands = absurd step

-- a change that isn't carried out leaves all
left_alone : (told : Told) (first old new : State) (it : Change) → new ≡ old → Stands told first old → Stands (left_after_change it told) first new
left_alone told first old new (change.Importize home world out) same stands = not_transformed told first old new same stands
left_alone told first old new (change.Exportize home world out keys) same stands = not_transformed told first old new same stands
left_alone told first old new (change.Semver home world) same stands = files_stand told first old new (same_files old new (ap (λ (s : State). s.source_map) same)) stands
left_alone told first old new (change.AddFeature name) same stands = unchanged told first old new same stands
left_alone told first old new (change.SetAllFeatures all) same stands = unchanged told first old new same stands
left_alone told first old new (change.SetTrackRule rule) same stands = unchanged told first old new same stands
left_alone told first old new (change.PushGroups main deps) same stands = unchanged told first old new same stands

merge_stands : (told : Told) (first old other new : State) (answer : Reply) → Step old (command.Merge other) answer new → Stands told first old → Stands (told_files told) first new
merge_stands told first old other new (reply.Merged remap) step stands =
    files_stand told first old new (subst (λ (s : Sources). HasMore (files_of old.source_map.files) (files_of s.files)) (sym step.files) (files_behind old.source_map other.source_map)) stands
merge_stands told first old other new (reply.Refused error) step stands =
    files_stand told first old new (files_after error old.source_map (with_sources old.source_map other.source_map) new.source_map (files_behind old.source_map other.source_map) step.files) stands
merge_stands told first old other new _ step stands = absurd step

order_stands : (told : Told) (first old new : State) (it : Order) (answer : Response) → Responds old it answer new → Stands told first old → Stands (left_after it told) first new
order_stands told first old new (order.Request (request.Change it)) (response.Answer answer) (inl done) stands =
    change_stands told first old new it done.1.reply done.1.step stands
order_stands told first old new (order.Request (request.Change it)) (response.Answer answer) (inr unshaped) stands = left_alone told first old new it unshaped.same stands
order_stands told first old new (order.Request (request.Ask it)) (response.Answer answer) done stands = unchanged told first old new done.1 stands
order_stands told first old new (order.Merge its) (response.Merge answers answer) done stands = merge_stands told first old done.other new done.merged.reply done.merged.step stands
order_stands told first old new (order.Request it) (response.Merge answers answer) done stands = absurd done
order_stands told first old new (order.Merge its) (response.Answer answer) done stands = absurd done

-- one after another
pub orders_stand : (told : Told) (first old new : State) (its : List Order) (replies : List Response) → RespondsEach old its replies new → Stands told first old
    → Stands (fold (λ (left : Told) (it : Order). left_after it left) told its) first new
orders_stand told first old new [] [] done stands = unchanged told first old new done stands
orders_stand told first old new (it ∷ its) (answer ∷ replies) done stands =
    orders_stand (left_after it told) first done.0 new its replies done.2 (order_stands told first old done.0 it answer done.1 stands)
orders_stand told first old new [] (answer ∷ replies) done stands = absurd done
orders_stand told first old new (it ∷ its) [] done stands = absurd done

-- the graph with which the commands of a document begin
pub start_stands : (told : Told) (first old : State) (parts : Option ResolveParts) → Stands told first old → Stands (told_before parts told) first (start_for old parts)
start_stands told first old None stands = stands
start_stands told first old (Some parts) stands = nothing_stands first (start_for old (Some parts))
