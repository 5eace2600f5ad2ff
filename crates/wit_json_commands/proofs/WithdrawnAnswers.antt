-- What is answered may be withdrawn.
use Rattle.std.proofs.Common.{◌≡◌, ◌⊎◌, ◌∙◌, ◌++◌, ◌∷◌, [], ℕ, true, false, List, Option, None, Some, inl, inr, ap, codes, refl, subst, sym, option_and_then, slice_get, Result, Ok, Err, IfOk, Bool}
use Rattle.std.proofs.lemmas.Bool.{false≢true}
use Rattle.wit_sources.specs.SourceMap.{Sources}
use Rattle.wit_graph_data.specs.Named.{package_named, world_named}
use Rattle.wit_graph_data.specs.Queries.{canonical_id_text, interface_direct_deps, package_direct_deps}
use Rattle.wit_graph_data.specs.declared.error_kind.ResolveErrorKind.TheVariants.{OutOfMemory}
use Rattle.wit_graph_data.specs.declared.graph.Graph.{Graph}
use Rattle.wit_commands.specs.Change.{change_text}
use Rattle.wit_commands.specs.declared.change.Change.{Change}
use Rattle.wit_resolve_graph.specs.State.{State, new_state}
use Rattle.wit_resolve_graph.specs.Step.{command_of}
use Rattle.wit_resolve_graph.specs.declared.command.Command.TheVariants as command
use Rattle.wit_resolve_graph.specs.declared.command.Reply.{Reply}
use Rattle.wit_resolve_graph.specs.declared.command.Reply.TheVariants as reply
use Rattle.wit_ways.specs.Asked.{asked_of}
use Rattle.wit_ways.specs.declared.asked.Asked.{Asked}
use Rattle.wit_json_commands.specs.declared.commands.orders.Order.{Order}
use Rattle.wit_json_commands.specs.declared.commands.orders.Order.TheVariants as order
use Rattle.wit_json_commands.specs.declared.commands.orders.Request.{Request}
use Rattle.wit_json_commands.specs.declared.commands.orders.Request.TheVariants as request
use Rattle.wit_json_commands.specs.declared.commands.questions.Question.{Question}
use Rattle.wit_json_commands.specs.declared.commands.questions.Question.TheVariants as question
use Rattle.wit_json_commands.specs.declared.replies.answers.Answer.{Answer}
use Rattle.wit_json_commands.specs.declared.replies.answers.Answer.TheVariants as answer
use Rattle.wit_json_commands.specs.declared.replies.answers.Response.{Response}
use Rattle.wit_json_commands.specs.declared.replies.answers.Response.TheVariants as response
use Rattle.wit_json_commands.specs.declared.runs.targets.Target.{Target}
use Rattle.wit_json_commands.specs.declared.runs.targets.Target.TheVariants as target
use Rattle.wit_json_commands.specs.CoreNames.{core_names_of, mangling_and_abi}
use Rattle.wit_json_commands.specs.Refusals.{refused}
use Rattle.wit_json_commands.specs.Runs.{AnswersEach, AnswersReply, AnswersRequest, CarriesOut, CarriesOutCommand, RespondAsWell, Responds, RespondsEach}
use Rattle.wit_json_commands.specs.Targets.{done_answer, missing_answer, target_of}
use Rattle.wit_json_commands.specs.Tells.{AnswersQuestion, TellsAmong, TellsAnswer, found, interface_id_named, packages_named}
use Rattle.wit_json_commands.specs.steps.Withdrawn.{Withdraws, WithdrawsAll, WithdrawsEach, WithdrawsIn, lists_types, no_types}

-- another one stays
others_stay : (told left : Answer) → lists_types told ≡ false → Withdraws told left → left ≡ told
others_stay (answer.Types ids) left is withdraws = absurd (false≢true (sym is))
others_stay _ left is withdraws = withdraws

-- each may stay, and types may be refused
either : (told left : Answer) → Withdraws told left → (left ≡ told) ⊎ (left ≡ no_types)
either (answer.Types ids) left withdraws = withdraws
either _ left withdraws = inl withdraws

-- what is found is no list of types where no such list is made of it
no_types_found : {A : Type 0} (f : A → Answer) → ((x : A) → lists_types (f x) ≡ false) → (it : Option A) → lists_types (found f it) ≡ false
no_types_found f each None = refl
no_types_found f each (Some x) = each x

selects_no_types : (g : Graph) (files : Sources) (mains text : Option (List ℕ)) (told : Answer) → TellsAmong g files mains text told → lists_types told ≡ false
selects_no_types g files None text told tells = ap lists_types tells
selects_no_types g files (Some mains) text (answer.Types ids) tells = absurd tells
selects_no_types g files (Some mains) text _ tells = refl

-- the refusal of memory is the same for each graph and all files
refused_alike : (g : Graph) (files : Sources) → no_types ≡ refused g files (codes "futures-and-streams") [] OutOfMemory
refused_alike g files = refl

-- the answer to another question stays
kept : (g : Graph) (files : Sources) (it : Question) (told left : Answer) → lists_types told ≡ false → TellsAnswer g files it told → Withdraws told left → AnswersQuestion g files it left
kept g files it told left is tells withdraws = inl (subst (TellsAnswer g files it) (sym (others_stay told left is withdraws)) tells)

told_withdrawn : (g : Graph) (files : Sources) (it : Question) (told left : Answer) → TellsAnswer g files it told → Withdraws told left → AnswersQuestion g files it left
told_withdrawn g files (question.Select names text) told left tells withdraws =
    kept g files (question.Select names text) told left (selects_no_types g files (packages_named g names) text told tells) tells withdraws
told_withdrawn g files (question.PackageDependencies home) told left tells withdraws =
    kept g files (question.PackageDependencies home) told left
    (ap lists_types tells ∙ no_types_found (λ p. answer.Packages (package_direct_deps g.types g.interfaces g.worlds g.packages p)) (λ p. refl) (package_named g home)) tells withdraws
told_withdrawn g files (question.InterfaceDependencies home name) told left tells withdraws =
    kept g files (question.InterfaceDependencies home name) told left
    (ap lists_types tells ∙ no_types_found (λ i. answer.Interfaces (interface_direct_deps g.types g.interfaces i)) (λ i. refl) (interface_id_named g home name)) tells withdraws
told_withdrawn g files question.PackageOrder told left tells withdraws = kept g files question.PackageOrder told left (ap lists_types tells) tells withdraws
told_withdrawn g files (question.CanonicalId home name) told left tells withdraws =
    kept g files (question.CanonicalId home name) told left
    (ap lists_types tells ∙ no_types_found (λ p. answer.Text (canonical_id_text g.packages p name)) (λ p. refl) (package_named g home)) tells withdraws
told_withdrawn g files (question.CoreNames home world mangling) told left tells withdraws =
    kept g files (question.CoreNames home world mangling) told left
    (ap lists_types tells ∙ no_types_found (λ it. answer.CoreNames (core_names_of g (mangling_and_abi mangling) it)) (λ it. refl)
    (option_and_then (slice_get g.worlds) (world_named g home world))) tells withdraws
told_withdrawn g files (question.FuturesAndStreams place) told left tells withdraws =
    elim (either told left withdraws) [
      | inl same ↦ inl (subst (TellsAnswer g files (question.FuturesAndStreams place)) (sym same) tells)
      | inr refuses ↦ inr (refuses ∙ refused_alike g files)
    ]

question_withdrawn : (g : Graph) (files : Sources) (it : Question) (told left : Answer) → AnswersQuestion g files it told → Withdraws told left → AnswersQuestion g files it left
question_withdrawn g files it told left (inl tells) withdraws = told_withdrawn g files it told left tells withdraws
question_withdrawn g files it told left (inr refuses) withdraws = inr (others_stay told left (ap lists_types refuses) withdraws ∙ refuses)

-- ---- commands list no types

done_lists_none : (it : Target) → lists_types (done_answer it) ≡ false
done_lists_none (target.World w unmatched) = refl
done_lists_none _ = refl

missing_lists_none : (it : Target) → lists_types (missing_answer it) ≡ false
missing_lists_none target.NoPackage = refl
missing_lists_none _ = refl

reply_lists_none : (state : State) (asked : List ℕ) (it : Target) (brought : Asked) (r : Reply) (told : Answer) → AnswersReply state asked it brought r told → lists_types told ≡ false
reply_lists_none state asked it brought reply.Done told answers = ap lists_types answers ∙ done_lists_none it
reply_lists_none state asked it brought (reply.Pushed id) told answers = ap lists_types answers
reply_lists_none state asked it brought (reply.Merged remap) told answers = ap lists_types answers
reply_lists_none state asked it brought reply.NoWorld told answers = ap lists_types answers ∙ missing_lists_none it
reply_lists_none state asked it brought (reply.Refused error) told answers = ap lists_types answers.2

change_lists_none : (old new : State) (it : Change) (told : Answer) → CarriesOut old it told new → lists_types told ≡ false
change_lists_none old new it told (inl answers) =
    let answered = answers.1 in
    reply_lists_none new (change_text it) (target_of old.graph (command_of it)) (asked_of old (command_of it)) answered.reply told answered.answers
change_lists_none old new it told (inr tells) = ap lists_types tells.told_is

-- ---- requests and orders

request_withdrawn : (old new : State) (it : Request) (told left : Answer) → AnswersRequest old it told new → Withdraws told left → AnswersRequest old it left new
request_withdrawn old new (request.Change it) told left answers withdraws =
    subst (λ a. CarriesOut old it a new) (sym (others_stay told left (change_lists_none old new it told answers) withdraws)) answers
request_withdrawn old new (request.Ask it) told left answers withdraws = (question_withdrawn old.graph old.source_map it told left answers.0 withdraws, answers.1)

each_withdrawn : (old new : State) (its : List Request) (answers lefts : List Answer) → AnswersEach old its answers new → WithdrawsEach answers lefts → AnswersEach old its lefts new
each_withdrawn old new [] [] [] each withdraws = each
each_withdrawn old new (it ∷ its) (told ∷ answers) (left ∷ lefts) each withdraws =
    (each.0, request_withdrawn old each.0 it told left each.1 withdraws.0, each_withdrawn each.0 new its answers lefts each.2 withdraws.1)
each_withdrawn old new [] [] (left ∷ lefts) each withdraws = absurd withdraws
each_withdrawn old new [] (told ∷ answers) lefts each withdraws = absurd each
each_withdrawn old new (it ∷ its) [] lefts each withdraws = absurd each
each_withdrawn old new (it ∷ its) (told ∷ answers) [] each withdraws = absurd withdraws

order_withdrawn : (old new : State) (it : Order) (told left : Response) → Responds old it told new → WithdrawsIn told left → Responds old it left new
order_withdrawn old new (order.Request it) (response.Answer told) (response.Answer left) responds withdraws = request_withdrawn old new it told left responds withdraws
order_withdrawn old new (order.Merge its) (response.Merge answers told) (response.Merge lefts left) responds withdraws =
    record {
      other = responds.other;
      made = each_withdrawn new_state responds.other its answers lefts responds.made withdraws.0;
      merged = subst (λ a. CarriesOutCommand (codes "merge") old (command.Merge responds.other) a new) (sym withdraws.1) responds.merged;
    }
order_withdrawn old new (order.Request it) (response.Answer told) (response.Merge lefts left) responds withdraws = absurd withdraws
order_withdrawn old new (order.Request it) (response.Merge answers told) left responds withdraws = absurd responds
order_withdrawn old new (order.Merge its) (response.Answer told) left responds withdraws = absurd responds
order_withdrawn old new (order.Merge its) (response.Merge answers told) (response.Answer left) responds withdraws = absurd withdraws

all_withdrawn : (old new : State) (its : List Order) (replies lefts : List Response) → RespondsEach old its replies new → WithdrawsAll replies lefts → RespondsEach old its lefts new
all_withdrawn old new [] [] [] each withdraws = each
all_withdrawn old new (it ∷ its) (told ∷ replies) (left ∷ lefts) each withdraws =
    (each.0, order_withdrawn old each.0 it told left each.1 withdraws.0, all_withdrawn each.0 new its replies lefts each.2 withdraws.1)
all_withdrawn old new [] [] (left ∷ lefts) each withdraws = absurd withdraws
all_withdrawn old new [] (told ∷ replies) lefts each withdraws = absurd each
all_withdrawn old new (it ∷ its) [] lefts each withdraws = absurd each
all_withdrawn old new (it ∷ its) (told ∷ replies) [] each withdraws = absurd withdraws

pub as_well : {E : Type 0} (replies : List Response) (r : Result (List Response) E) → IfOk r (λ left. WithdrawsAll replies left) → IfOk r (λ left. RespondAsWell replies left)
as_well replies (Ok left) withdraws = λ old new its responds. all_withdrawn old new its replies left responds withdraws
as_well replies (Err e) withdraws = tt

-- ---- one more

pub WithdrawsEach-more : (answers lefts : List Answer) (told left : Answer) → WithdrawsEach answers lefts → Withdraws told left → WithdrawsEach (answers ++ told ∷ []) (lefts ++ left ∷ [])
WithdrawsEach-more [] [] told left each one = (one, tt)
WithdrawsEach-more (first ∷ answers) (other ∷ lefts) told left each one = (each.0, WithdrawsEach-more answers lefts told left each.1 one)
WithdrawsEach-more [] (other ∷ lefts) told left each one = absurd each
WithdrawsEach-more (first ∷ answers) [] told left each one = absurd each

pub WithdrawsAll-more : (replies lefts : List Response) (told left : Response) → WithdrawsAll replies lefts → WithdrawsIn told left → WithdrawsAll (replies ++ told ∷ []) (lefts ++ left ∷ [])
WithdrawsAll-more [] [] told left each one = (one, tt)
WithdrawsAll-more (first ∷ replies) (other ∷ lefts) told left each one = (each.0, WithdrawsAll-more replies lefts told left each.1 one)
WithdrawsAll-more [] (other ∷ lefts) told left each one = absurd each
WithdrawsAll-more (first ∷ replies) [] told left each one = absurd each

-- an answer is withdrawn as the refusal of memory, or stays
types_refused : (g : Graph) (files : Sources) (told left : Answer) → lists_types told ≡ true → left ≡ refused g files (codes "futures-and-streams") [] OutOfMemory → Withdraws told left
types_refused g files (answer.Types ids) left is refuses = inr (refuses ∙ sym (refused_alike g files))
types_refused g files _ left is refuses = absurd (false≢true is)

pub types_withdrawn : {E : Type 0} (g : Graph) (files : Sources) (told : Answer) (r : Result Answer E) → lists_types told ≡ true
    → IfOk r (λ left. left ≡ refused g files (codes "futures-and-streams") [] OutOfMemory) → IfOk r (λ left. Withdraws told left)
types_withdrawn g files told (Ok left) lists refuses = types_refused g files told left lists refuses
types_withdrawn g files told (Err e) lists refuses = tt

pub stays : (told : Answer) → Withdraws told told
stays (answer.Types ids) = inl refl
stays _ = refl
