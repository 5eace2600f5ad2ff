-- The commands of a script that is understood can be asked, each after those before it: `other` comes where no other graph is
-- there, and `merge` where one is.
use Rattle.std.proofs.Common.{◌≡◌, ◌∙◌, ℕ, Bool, false, List, [], ◌∷◌, ◌++◌, Option, None, Some, IsTrue, refl, sym, ap, subst, is_some}
use Rattle.std.specs.Option.{option_and_then}
use Rattle.wit_script_lines.specs.Line.{lines_of}
use Rattle.wit_script_lines.specs.Statement.{statement_of}
use Rattle.wit_script_lines.specs.declared.request.Request.{Request}
use Rattle.wit_script_lines.specs.declared.request.Request.TheVariants as request
use Rattle.wit_resolve_graph.specs.State.{State}
use Rattle.wit_resolve_graph.specs.declared.command.Reply.{Reply}
use Rattle.wit_script.specs.facts.Scripts.{and_then_both}
use Rattle.wit_script.specs.facts.Stepped.{Makes, adds, said-makes, stays}
use Rattle.wit_script.specs.Answer.{CarriesOut, with_working_state}
use Rattle.wit_script.specs.Ready.{other_after}
use Rattle.wit_script.specs.steps.Ready.{CanBeAsked, other_after_all, CanAllBeAsked}
use Rattle.wit_script.specs.Script.{IsUnderstood, after_line, after_lines, new_reading}
use Rattle.wit_script.specs.declared.answer.Stage.{Stage}
use Rattle.wit_script.specs.declared.reader.Reading.{Reading}
use Rattle.wit_script_lines.specs.facts.OptionFacts.{same-some, step-of}

-- ---- commands that are read

some-same : {A : Type 0} (o : Option A) → option_and_then (λ (x : A). Some x) o ≡ o
some-same None = refl
some-same (Some x) = refl

-- one more command
waits-more : (commands : List Request) (command : Request) (other : Bool) → other_after_all (commands ++ command ∷ []) other ≡ option_and_then (other_after command) (other_after_all commands other)
waits-more [] command other = some-same (other_after command other)
waits-more (first ∷ commands) command other =
    and_then_both (other_after_all (commands ++ command ∷ [])) (other_after_all commands) (other_after command) (λ o. waits-more commands command o) (other_after first other)

-- what is read tells of an `other` whether it waits
abbrev IsTold : Reading → Type 0
IsTold r = other_after_all r.commands false ≡ Some r.other

told-next : (r next : Reading) → Makes r next → IsTold r → IsTold next
told-next r next (stays commands other) told = ap (λ (l : List Request). other_after_all l false) commands ∙ told ∙ ap Some (sym other)
told-next r next (adds command commands waits) told =
    ap (λ (l : List Request). other_after_all l false) commands ∙ waits-more r.commands command false ∙ ap (option_and_then (other_after command)) told ∙ waits

told-after : (r : Reading) (lines : List (List ℕ)) (next : Reading) → after_lines r lines ≡ Some next → IsTold r → IsTold next
told-after r [] next made told = subst (λ (t : Reading). IsTold t) (same-some r next made) told
told-after r (text ∷ lines) next made told =
    let p = step-of (λ (t : Reading). after_lines t lines) (after_line r text lines) next made in
    told-after p.0 lines next p.2 (told-next r p.0 (said-makes r text lines (statement_of text) p.0 p.1) told)

pub understood-come : (text : List ℕ) (commands : List Request) → IsUnderstood text commands → CanAllBeAsked commands false
understood-come text commands understood =
    let told : IsTold understood.reading = told-after new_reading (lines_of text) understood.reading understood.read refl in
    ap (λ (l : List Request). is_some (other_after_all l false)) (sym understood.asked) ∙ ap is_some told

-- ---- commands that are carried out

-- one can be asked, and then those after it
pub first-comes : (command : Request) (commands : List Request) (other : Bool) → CanAllBeAsked (command ∷ commands) other → CanBeAsked command other
first-comes command commands other come = of (other_after command other) come where
  of : (o : Option Bool) → IsTrue (is_some (option_and_then (other_after_all commands) o)) → IsTrue (is_some o)
  of None come = cc
  of (Some next) come = refl

-- a command tells of the second graph whether it is there after it
carried-waits : (before after : Stage) (command : Request) (reply : Option Reply) → CarriesOut before command reply after → other_after command (is_some before.second) ≡ Some (is_some after.second)
carried-waits before after (request.Change change) (Some reply) carried = ap Some (sym (ap (λ (s : Stage). is_some s.second) carried.2 ∙ kept before.first before.second carried.0)) where
  kept : (first : State) (second : Option State) (new : State) → is_some (with_working_state (record { first = first; second = second }) new).second ≡ is_some second
  kept first None new = refl
  kept first (Some second) new = refl
carried-waits before after (request.Change change) None carried = absurd carried
carried-waits before after request.Other (Some reply) carried = absurd carried
carried-waits before after request.Other None carried = ap (λ (o : Option State). other_after request.Other (is_some o)) carried.0 ∙ ap (λ (s : Stage). Some (is_some s.second)) (sym carried.1)
carried-waits before after request.Merge (Some reply) carried = ap (λ (o : Option State). other_after request.Merge (is_some o)) carried.2 ∙ ap (λ (s : Stage). Some (is_some s.second)) (sym carried.4)
carried-waits before after request.Merge None carried = absurd carried
carried-waits before after (request.Print owner world) (Some reply) carried = absurd carried
carried-waits before after (request.Print owner world) None same = ap (λ (s : Stage). Some (is_some s.second)) (sym same)
carried-waits before after (request.Select owner said) (Some reply) carried = absurd carried
carried-waits before after (request.Select owner said) None same = ap (λ (s : Stage). Some (is_some s.second)) (sym same)

pub others-come : (before after : Stage) (command : Request) (commands : List Request) (reply : Option Reply) → CarriesOut before command reply after → CanAllBeAsked (command ∷ commands) (is_some before.second)
    → CanAllBeAsked commands (is_some after.second)
others-come before after command commands reply carried come =
    subst (λ (o : Option Bool). IsTrue (is_some (option_and_then (other_after_all commands) o))) (carried-waits before after command reply carried) come
