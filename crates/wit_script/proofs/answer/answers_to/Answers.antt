use Rattle.std.proofs.Common.{◌≡◌, ◌++◌, ◌∙◌, ◌∷◌, [], ap, sym, subst, string_bytes, ℕ, List, is_some, rules}
use Rattle.std.specs.Vec.Iter.{into_iter_items}
use Rattle.wit_resolve_graph.specs.State.{new_state}
use Rattle.wit_script.specs.Answer.{Answers, InTurn, only_first}
use Rattle.wit_script_lines.specs.declared.request.Request.{Request}
use Rattle.wit_script.specs.facts.Answered.{InTurn-more}
use Rattle.wit_script.specs.facts.Waiting.{first-comes, others-come}
use Rattle.wit_script.proofs.answer.answers_to.Goals as goal
use Rattle.wit_script.specs.steps.Ready.{CanAllBeAsked}

pub answer_to-requires : goal.answer_to-requires
answer_to-requires c =
    let left : into_iter_items c.loop-command.command-iterator ≡ c.in-Some.command ∷ into_iter_items c.next.new.self = search rules in
    first-comes c.in-Some.command (into_iter_items c.next.new.self) (is_some c.loop-command.stage.second)
    (subst (λ (l : List Request). CanAllBeAsked l (is_some c.loop-command.stage.second)) left c.loop-command.invariant.come)

pub loop-command-preserved : goal.loop-command-preserved
loop-command-preserved c =
    let left : into_iter_items c.loop-command.command-iterator ≡ c.in-Some.command ∷ into_iter_items c.next.new.self = search rules in
    let longer : string_bytes c.push_str.new.self ≡ string_bytes c.loop-command.answers ++ string_bytes c.in_ok-answer.answer =
    c.in_ok-push_str.ensures.bytes ∙ ap (λ (t : List ℕ). string_bytes c.loop-command.answers ++ t) c.deref.ensures in
    record {
      answered =
          subst (λ (t : List ℕ). InTurn Answers (only_first new_state) (c.loop-command.yielded ++ c.in-Some.command ∷ []) t c.answer_to.new.stage) (sym longer)
          (InTurn-more Answers (only_first new_state) c.loop-command.stage c.answer_to.new.stage c.loop-command.yielded c.in-Some.command
          (string_bytes c.loop-command.answers) (string_bytes c.in_ok-answer.answer) c.loop-command.invariant.answered c.in_ok-answer.ensures);
      come =
          others-come c.loop-command.stage c.answer_to.new.stage c.in-Some.command (into_iter_items c.next.new.self) c.in_ok-answer.ensures.0 c.in_ok-answer.ensures.1
          (subst (λ (l : List Request). CanAllBeAsked l (is_some c.loop-command.stage.second)) left c.loop-command.invariant.come);
    }
