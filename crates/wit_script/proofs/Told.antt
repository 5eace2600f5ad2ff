-- Answers that are told, or their refusals.
use Rattle.std.proofs.Common.{◌≡◌, ℕ, List, [], ◌∷◌, Option, Some, Result, Ok, Err, String, string_bytes, inl, inr, ap, ◌∙◌}
use Rattle.std.specs.Prelude.{IfErr, IfOk}
use Rattle.std.specs.declared.alloc.Global.{Global}
use Rattle.wit_graph_data.specs.declared.graph.Graph.{Graph}
use Rattle.wit_graph_data.specs.declared.error_kind.ResolveErrorKind.{ResolveErrorKind}
use Rattle.wit_graph_data.specs.declared.error_kind.ResolveErrorKind.TheVariants.{OutOfMemory}
use Rattle.wit_names.specs.declared.package_name.PackageName.{PackageName}
use Rattle.wit_graph_data.specs.Named.{package_named, world_named}
use Rattle.wit_queries.specs.Selection.{IsSelection}
use Rattle.wit_script.specs.Answer.{refusal_text}
use Rattle.wit_script.specs.steps.Answer.{IsResultLine}
use Rattle.wit_script.specs.World.{world_text_at}
use Rattle.wit_script.specs.steps.Parts.{selected_text, AnswersPrint, AnswersSelect}

-- a world that is there
pub printed_some : {E : Type 0} (g : Graph) (owner : PackageName) (world : List ℕ) (id : ℕ) (answer : Result (String Global) ResolveErrorKind) (told : Result (String Global) E)
    → world_named g owner world ≡ Some id → IfOk answer (λ text. string_bytes text ≡ world_text_at g id) → IfErr answer (λ e. e ≡ OutOfMemory)
    → IfOk told (λ text. IsResultLine answer (string_bytes text)) → IfOk told (λ text. AnswersPrint g owner world (string_bytes text))
printed_some g owner world id (Ok text) (Ok line) there shown lacks said = rw there (inl (said ∙ shown))
printed_some g owner world id (Err kind) (Ok line) there shown lacks said = rw there (inr (said ∙ ap refusal_text lacks))
printed_some g owner world id answer (Err e) there shown lacks said = tt

-- a package that is there
pub selected_some : {E : Type 0} (g : Graph) (owner : PackageName) (text : Option (List ℕ)) (id : ℕ) (answer : Result (String Global) ResolveErrorKind) (told : Result (String Global) E)
    → package_named g owner ≡ Some id → IfOk answer (λ out. (world : ℕ) × IsSelection g (id ∷ []) text (Ok world) × (string_bytes out ≡ selected_text g world))
    → IfErr answer (λ kind. IsSelection g (id ∷ []) text (Err kind))
    → IfOk told (λ out. IsResultLine answer (string_bytes out)) → IfOk told (λ out. AnswersSelect g owner text (string_bytes out))
selected_some g owner text id (Ok out) (Ok line) there shown refused said = rw there (Ok shown.0, shown.1, said ∙ shown.2)
selected_some g owner text id (Err kind) (Ok line) there shown refused said = rw there (Err kind, refused, said)
selected_some g owner text id answer (Err e) there shown refused said = tt
