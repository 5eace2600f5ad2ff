-- A command that is carried out, with what it lists.
use Rattle.std.proofs.Common.{◌≡◌, ◌∙◌, ℕ, Bool, true, false, if◌then◌else◌, List, Option, None, Some, Result, Ok, Err, refl, sym, ap, subst}
use Rattle.std.specs.Prelude.{OnOk}
use Rattle.wit_graph_data.specs.declared.error_kind.ResolveErrorKind.{ResolveErrorKind}
use Rattle.wit_graph_data.specs.declared.error_kind.ResolveErrorKind.TheVariants.{OutOfMemory}
use Rattle.wit_resolve_graph.specs.declared.command.Reply.{Reply}
use Rattle.wit_resolve_graph.specs.declared.command.Reply.TheVariants as reply
use Rattle.wit_script_explain.specs.Desk.{working}
use Rattle.wit_script_explain.specs.Explained.{ExplainsCommand}
use Rattle.wit_script_explain.specs.declared.desk.Desk.{Desk}
use Rattle.wit_script_explain.specs.declared.desk.TrackedGraph.{TrackedGraph}
use Rattle.wit_script_lines.specs.declared.request.Request.{Request}
use Rattle.wit_script_explain.specs.declared.lines.CommandPlace.{CommandPlace}
use Rattle.wit_script_explain.specs.declared.lines.ScriptLines.{ScriptLines}
use Rattle.witgraph_dot.specs.Effects.{request_effect}
use Rattle.witgraph_dot.specs.Made.{CommandMakes, came_to_something, stage_after}
use Rattle.witgraph_dot.specs.declared.effect.Effect.{Effect}
use Rattle.witgraph_dot.specs.declared.effect.Effect.TheVariants as effect
use Rattle.witgraph_dot.specs.declared.listing.Listing.{Listing}
use Rattle.witgraph_dot.specs.declared.stage.Stage.{Stage}
use Rattle.witgraph_dot.specs.steps.Parts.{with_working_effect}

-- the desk stays with what is listed
working-desk : (desk : Desk) (done : Effect) (second : Option TrackedGraph) (first other : Listing) → (with_working_effect desk done second first other).desk ≡ desk
working-desk desk done None first other = refl
working-desk desk done (Some graph) first other = refl

either-desk : (came : Bool) (desk : Desk) (done : Effect) (first second : Listing)
    → (if came then with_working_effect desk done desk.second first second else record { desk = desk; first = first; second = second }).desk ≡ desk
either-desk true desk done first second = working-desk desk done desk.second first second
either-desk false desk done first second = refl

desk-stays : (done : Effect) (answer : Option Reply) (desk : Desk) (first second : Listing) → (stage_after done answer desk first second).desk ≡ desk
desk-stays effect.Opens answer desk first second = refl
desk-stays effect.Joins answer desk first second = refl
desk-stays done answer desk first second = either-desk (came_to_something answer) desk done first second

module _ (script : ScriptLines) (place : CommandPlace) (before after : Stage) (asked read : Request) (text : List ℕ) (desk : Desk) (done : Effect) (answer : Option Reply) where
  pub makes : read ≡ asked → done ≡ request_effect (working before.desk).resolve.graph asked → ExplainsCommand script place before.desk read answer text desk
      → (answer ≡ Some (reply.Refused OutOfMemory) → ⊥) → after ≡ stage_after done answer desk before.first before.second → CommandMakes script before (place, asked) text after
  makes same of_done told no_want of_after =
      let desk_is : after.desk ≡ desk = ap (λ (s : Stage). s.desk) of_after ∙ desk-stays done answer desk before.first before.second in
      let g = (working before.desk).resolve.graph in (
        answer,
        subst (λ (d : Desk). ExplainsCommand script place before.desk asked answer text d) (sym desk_is)
            (subst (λ (r : Request). ExplainsCommand script place before.desk r answer text desk) same told),
        no_want,
        of_after ∙ (ap (λ e. stage_after e answer desk before.first before.second) of_done ∙ ap (λ (d : Desk). stage_after (request_effect g asked) answer d before.first before.second) (sym desk_is)),
      )

-- a listing by its parts
pub listing-is : {X E : Type 0} (told : Result X E) (made : Listing) (imports includes : List (ℕ × ℕ)) → OnOk told (made.imports ≡ imports) → OnOk told (made.includes ≡ includes)
    → OnOk told (made ≡ record { imports = imports; includes = includes })
listing-is (Ok x) made imports includes first second =
    ap (λ (l : List (ℕ × ℕ)). let new : Listing = record { imports = l; includes = made.includes } in new) first
    ∙ ap (λ (l : List (ℕ × ℕ)). let new : Listing = record { imports = imports; includes = l } in new) second
listing-is (Err e) made imports includes first second = tt

same_kind : {a b : ResolveErrorKind} → Some (reply.Refused a) ≡ Some (reply.Refused b) → a ≡ b
same_kind same = cc

-- a refusal that isn't want of memory
pub no-want : (kind : ResolveErrorKind) (answer : Option Reply) → answer ≡ Some (reply.Refused kind) → (kind ≡ OutOfMemory → ⊥) → answer ≡ Some (reply.Refused OutOfMemory) → ⊥
no-want kind answer is other wants = other (same_kind (sym is ∙ wants))
