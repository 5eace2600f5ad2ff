-- Commands that are carried out on the graphs of a desk.
use Rattle.std.proofs.Common.{◌≡◌, ℕ, List, [], Option, None, Some, Result, Ok, Err, string_bytes, is_some, refl, sym, subst}
use Rattle.std.specs.Prelude.{IfOk}
use Rattle.wit_commands.specs.declared.change.Change.{Change}
use Rattle.wit_resolve_graph.specs.Step.{command_of}
use Rattle.wit_resolve_graph.specs.declared.command.Command.TheVariants.{Merge}
use Rattle.wit_resolve_graph.specs.declared.command.Reply.{Reply}
use Rattle.wit_script.specs.steps.Ready.{CanBeAsked}
use Rattle.wit_script_lines.specs.declared.request.Request.{Request}
use Rattle.wit_script_lines.specs.declared.request.Request.TheVariants as request
use Rattle.wit_script_explain.specs.Desk.{new_tracked, with_file_starts}
use Rattle.wit_script_explain.specs.Explained.{ExplainsCommand}
use Rattle.wit_script_explain.specs.Refusals.{TellsReply, unless_refused}
use Rattle.wit_script_explain.specs.steps.Explained.{ExplainsReply}
use Rattle.wit_script_explain.specs.declared.desk.Desk.{Desk}
use Rattle.wit_script_explain.specs.declared.desk.TrackedGraph.{TrackedGraph}
use Rattle.wit_script_explain.specs.declared.lines.CommandPlace.{CommandPlace}
use Rattle.wit_script_explain.specs.declared.lines.ScriptLines.{ScriptLines}
use Rattle.wit_script_explain.specs.declared.outcome.Outcome.{Outcome}
use Rattle.wit_ways.specs.Asked.{asked_of}
use Rattle.wit_script_explain.specs.steps.Parts.{coming_packages}

module _ (script : ScriptLines) (place : CommandPlace) where
  -- a change of the second graph
  second-changed : (desk : Desk) (change : Change) (second new : TrackedGraph) (reply : Option Reply) (text : List ℕ) → desk.second ≡ Some second
      → ExplainsReply script place second (command_of change) (coming_packages script place) (coming_packages script place) reply text new
      → ExplainsCommand script place desk (request.Change change) reply text (record desk { second = Some new })
  second-changed desk change second new None text is_open told = absurd told
  second-changed desk change second new (Some reply) text is_open told =
      let coming = coming_packages script place in
      let made : TrackedGraph = with_file_starts (record second { resolve = told.0 }) coming (unless_refused (Some reply) coming) in
      let tells = subst (λ (t : TrackedGraph). TellsReply script place t (asked_of second.resolve (command_of change)) (Some reply) text) told.2 told.3 in
      let here : ExplainsCommand script place (record { first = desk.first; second = Some second }) (request.Change change) (Some reply) text (record { first = desk.first; second = Some made }) =
      ((told.0, told.1, refl), refl, tells) in
      subst (λ (t : TrackedGraph). ExplainsCommand script place desk (request.Change change) (Some reply) text (record desk { second = Some t })) (sym told.2)
      (subst (λ (o : Option TrackedGraph). ExplainsCommand script place (record { first = desk.first; second = o }) (request.Change change) (Some reply) text (record { first = desk.first; second = Some made }))
      (sym is_open) here)

  -- of the only graph
  first-changed : (desk : Desk) (change : Change) (new : TrackedGraph) (reply : Option Reply) (text : List ℕ) → desk.second ≡ None
      → ExplainsReply script place desk.first (command_of change) (coming_packages script place) (coming_packages script place) reply text new
      → ExplainsCommand script place desk (request.Change change) reply text (record desk { first = new })
  first-changed desk change new None text closed told = absurd told
  first-changed desk change new (Some reply) text closed told =
      let coming = coming_packages script place in
      let made : TrackedGraph = with_file_starts (record desk.first { resolve = told.0 }) coming (unless_refused (Some reply) coming) in
      let tells = subst (λ (t : TrackedGraph). TellsReply script place t (asked_of desk.first.resolve (command_of change)) (Some reply) text) told.2 told.3 in
      let here : ExplainsCommand script place (record { first = desk.first; second = None }) (request.Change change) (Some reply) text (record { first = made; second = None }) =
      ((told.0, told.1, refl), refl, tells) in
      subst (λ (t : TrackedGraph). ExplainsCommand script place desk (request.Change change) (Some reply) text (record desk { first = t })) (sym told.2)
      (subst (λ (o : Option TrackedGraph). ExplainsCommand script place (record { first = desk.first; second = o }) (request.Change change) (Some reply) text (record { first = made; second = o }))
      (sym closed) here)

  -- `merge`
  second-merged : (desk : Desk) (second new : TrackedGraph) (reply : Option Reply) (text : List ℕ) → desk.second ≡ Some second
      → ExplainsReply script place desk.first (Merge second.resolve) second.file_starts second.package_starts reply text new
      → ExplainsCommand script place desk request.Merge reply text (record { first = new; second = None })
  second-merged desk second new None text is_open told = absurd told
  second-merged desk second new (Some reply) text is_open told =
      let made : TrackedGraph = with_file_starts (record desk.first { resolve = told.0 }) second.file_starts (unless_refused (Some reply) second.package_starts) in
      let tells = subst (λ (t : TrackedGraph). TellsReply script place t (asked_of desk.first.resolve (Merge second.resolve)) (Some reply) text) told.2 told.3 in
      let here : ExplainsCommand script place (record { first = desk.first; second = Some second }) request.Merge (Some reply) text (record { first = made; second = None }) =
      ((second.resolve, told.0, refl, told.1, refl), refl, tells) in
      subst (λ (t : TrackedGraph). ExplainsCommand script place desk request.Merge (Some reply) text (record { first = t; second = None })) (sym told.2)
      (subst (λ (o : Option TrackedGraph). ExplainsCommand script place (record { first = desk.first; second = o }) request.Merge (Some reply) text (record { first = made; second = None }))
      (sym is_open) here)

  -- `other`
  pub opens : (desk : Desk) → CanBeAsked request.Other (is_some desk.second) → ExplainsCommand script place desk request.Other None [] (record desk { second = Some new_tracked })
  opens desk can = at desk.second can where
    at : (o : Option TrackedGraph) → CanBeAsked request.Other (is_some o)
        → ExplainsCommand script place (record { first = desk.first; second = o }) request.Other None [] (record { first = desk.first; second = Some new_tracked })
    at None can = ((refl, refl), refl, refl)
    at (Some second) can = cc

  -- what calls tell

  -- what a call tells that ends with this desk is what is told of a command
  abbrev pub AreTold : {E : Type 0} → Desk → Request → Result Outcome E → Desk → Type 0
  AreTold before command told after = IfOk told (λ outcome. ExplainsCommand script place before command outcome.reply (string_bytes outcome.text) after)

  module _ {E : Type 0} (desk : Desk) (change : Change) (coming : List ℕ) (is : coming ≡ coming_packages script place) where
    pub changes-second : (told : Result Outcome E) (second new : TrackedGraph) → desk.second ≡ Some second
        → IfOk told (λ outcome. ExplainsReply script place second (command_of change) coming coming outcome.reply (string_bytes outcome.text) new) → AreTold desk (request.Change change) told (record desk { second = Some new })
    changes-second (Ok outcome) second new is_open told =
        second-changed desk change second new outcome.reply (string_bytes outcome.text) is_open
        (subst (λ (c : List ℕ). ExplainsReply script place second (command_of change) c c outcome.reply (string_bytes outcome.text) new) is told)
    changes-second (Err e) second new is_open told = tt

    pub changes-first : (told : Result Outcome E) (new : TrackedGraph) → desk.second ≡ None
        → IfOk told (λ outcome. ExplainsReply script place desk.first (command_of change) coming coming outcome.reply (string_bytes outcome.text) new) → AreTold desk (request.Change change) told (record desk { first = new })
    changes-first (Ok outcome) new closed told =
        first-changed desk change new outcome.reply (string_bytes outcome.text) closed
        (subst (λ (c : List ℕ). ExplainsReply script place desk.first (command_of change) c c outcome.reply (string_bytes outcome.text) new) is told)
    changes-first (Err e) new closed told = tt

  pub merges : {E : Type 0} (desk : Desk) (told : Result Outcome E) (second new : TrackedGraph) → desk.second ≡ Some second
      → IfOk told (λ outcome. ExplainsReply script place desk.first (Merge second.resolve) second.file_starts second.package_starts outcome.reply (string_bytes outcome.text) new)
      → AreTold desk request.Merge told (record { first = new; second = None })
  merges desk (Ok outcome) second new is_open told = second-merged desk second new outcome.reply (string_bytes outcome.text) is_open told
  merges desk (Err e) second new is_open told = tt
