-- Words of inner contracts and proofs, beside `Answer`.
use Rattle.std.specs.Prelude.{◌≡◌, ℕ, Bool, List, Result, Ok, Err, String, string_bytes}
use Rattle.std.specs.declared.alloc.Global.{Global}
use Rattle.wit_graph_data.specs.declared.error_kind.ResolveErrorKind.{ResolveErrorKind}
use Rattle.wit_resolve_graph.specs.State.{State}
use Rattle.wit_resolve_graph.specs.Step.{Step}
use Rattle.wit_resolve_graph.specs.declared.command.Command.{Command}
use Rattle.wit_resolve_graph.specs.declared.command.Reply.{Reply}
use Rattle.wit_script.specs.Answer.{refusal_text, reply_text}

-- an answer, or its refusal
abbrev pub IsResultLine : Result (String Global) ResolveErrorKind → List ℕ → Type 0
IsResultLine (Ok answer) text = text ≡ string_bytes answer
IsResultLine (Err kind) text = text ≡ refusal_text kind

-- a command, which sets something or doesn't, is carried out on one graph, and its reply is told
abbrev pub AnswersCommand : Bool → State → Command → List ℕ → State → Type 0
AnswersCommand is_set before command text after =
    (reply : Reply) × Step before command reply after × (text ≡ reply_text is_set after.graph reply)
