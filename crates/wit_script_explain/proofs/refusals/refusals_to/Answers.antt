use Rattle.std.proofs.Common.{◌≡◌, ◌++◌, ◌∙◌, ◌∷◌, [], ap, is_some, sym, subst, string_bytes, ℕ, List, rules}
use Rattle.std.specs.Vec.Iter.{into_iter_items}
use Rattle.wit_script.specs.Answer.{InTurn}
use Rattle.wit_script.specs.facts.Answered.{InTurn-more}
use Rattle.wit_script.specs.facts.Waiting.{first-comes}
use Rattle.wit_script_lines.specs.declared.request.Request.{Request}
use Rattle.wit_script_explain.specs.Desk.{new_desk}
use Rattle.wit_script_explain.specs.Explained.{ExplainsCommand, ExplainsPlaced, with_places}
use Rattle.wit_script_explain.specs.facts.CarriedOn.{desk-come, rest_after-more, with_places-more}
use Rattle.wit_script_explain.specs.steps.Explained.{place_of, rest_after, rest_of}
use Rattle.wit_script_explain.specs.declared.lines.CommandPlace.{CommandPlace}
use Rattle.wit_script_explain.proofs.refusals.refusals_to.Goals as goal
use Rattle.wit_script.specs.steps.Ready.{CanAllBeAsked}

pub explain_command-requires : goal.explain_command-requires
explain_command-requires c =
    let left : into_iter_items c.loop-command.command-iterator ≡ c.in-Some.command ∷ into_iter_items c.next.new.self = search rules in
    first-comes c.in-Some.command (into_iter_items c.next.new.self) (is_some c.loop-command.desk.second)
    (subst (λ (l : List Request). CanAllBeAsked l (is_some c.loop-command.desk.second)) left c.loop-command.invariant.come)

pub loop-command-preserved : goal.loop-command-preserved
loop-command-preserved c =
    let script = c.args.script.now in
    let before = c.loop-command.desk in
    let after = c.explain_command.new.desk in
    let command = c.in-Some.command in
    let reply = c.in_ok-outcome.outcome.reply in
    let text = string_bytes c.in_ok-outcome.outcome.text in
    let left : into_iter_items c.loop-command.command-iterator ≡ command ∷ into_iter_items c.next.new.self = search rules in
    let longer : string_bytes c.push_str.new.self ≡ string_bytes c.loop-command.all ++ text =
    c.in_ok-push_str.ensures.bytes ∙ ap (λ (t : List ℕ). string_bytes c.loop-command.all ++ t) c.deref.ensures in
    let place = place_of script (rest_after script.commands c.loop-command.yielded) in
    let told = subst (λ (p : CommandPlace). ExplainsCommand script p before command reply text after) (c.next_place.ensures.first ∙ ap (place_of script) c.loop-command.invariant.places) c.in_ok-outcome.ensures in
    record {
      told =
          subst (λ (t : List ℕ). InTurn (ExplainsPlaced script) new_desk (with_places script script.commands (c.loop-command.yielded ++ command ∷ [])) t after) (sym longer)
          (subst (λ (l : List (CommandPlace × Request)). InTurn (ExplainsPlaced script) new_desk l (string_bytes c.loop-command.all ++ text) after) (with_places-more script script.commands c.loop-command.yielded command)
          (InTurn-more (ExplainsPlaced script) new_desk before after (with_places script script.commands c.loop-command.yielded) (place, command) (string_bytes c.loop-command.all) text c.loop-command.invariant.told (reply, told)));
      places = c.next_place.ensures.rest ∙ ap rest_of c.loop-command.invariant.places ∙ rest_after-more script.commands c.loop-command.yielded command;
      come =
          desk-come script place before after command (into_iter_items c.next.new.self) reply text told
          (subst (λ (l : List Request). CanAllBeAsked l (is_some before.second)) left c.loop-command.invariant.come);
    }
