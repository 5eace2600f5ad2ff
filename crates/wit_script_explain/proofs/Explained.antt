-- What is told of a script.
use Rattle.std.proofs.Common.{◌≡◌, ℕ, List, [], ◌∷◌, Option, Some, Result, Ok, Err, String, string_bytes, subst}
use Rattle.std.specs.Prelude.{IfOk, IsUtf8}
use Rattle.std.specs.declared.alloc.Global.{Global}
use Rattle.wit_names.specs.declared.package_name.PackageName.{PackageName}
use Rattle.wit_graph_data.specs.declared.error_kind.ResolveErrorKind.{ResolveErrorKind}
use Rattle.wit_graph_data.specs.Named.{package_named}
use Rattle.wit_script_lines.specs.declared.request.Request.{Request}
use Rattle.wit_script.specs.Answer.{InTurn, IsSelection}
use Rattle.wit_script.specs.Script.{IsNotUnderstood, IsUnderstood}
use Rattle.wit_script_lines.specs.Line.{lines_of}
use Rattle.wit_script_explain.specs.Desk.{new_desk}
use Rattle.wit_script_explain.specs.Explained.{ExplainsMisread, ExplainsPlaced, ExplainsScript, with_places}
use Rattle.wit_script_explain.specs.Lines.{script_lines_of}
use Rattle.wit_script_explain.specs.Misread.{IsMisreadText}
use Rattle.wit_script_explain.specs.Refusals.{TellsRefusal}
use Rattle.wit_script_explain.specs.declared.desk.Desk.{Desk}
use Rattle.wit_script_explain.specs.declared.desk.TrackedGraph.{TrackedGraph}
use Rattle.wit_script_explain.specs.declared.lines.CommandPlace.{CommandPlace}
use Rattle.wit_ways.specs.declared.asked.Asked.TheVariants.{Other}
use Rattle.wit_script_explain.specs.declared.lines.ScriptLines.{ScriptLines}
use Rattle.wit_script_explain.specs.steps.Parts.{ExplainsSelect}

-- a choice that is refused, of a package that is there
pub select-refused : {E : Type 0} (script : ScriptLines) (place : CommandPlace) (tracked : TrackedGraph) (owner : PackageName) (text : Option (List ℕ)) (id : ℕ) (kind : ResolveErrorKind) (told : Result (String Global) E)
    → package_named tracked.resolve.graph owner ≡ Some id → IsSelection tracked.resolve.graph (id ∷ []) text (Err kind)
    → IfOk told (λ out. TellsRefusal script place tracked Other kind (string_bytes out)) → IfOk told (λ out. ExplainsSelect script place tracked owner text (string_bytes out))
select-refused script place tracked owner text id kind (Ok out) there refused said = rw there (Err kind, refused, said)
select-refused script place tracked owner text id kind (Err e) there refused said = tt

-- what is told of a script that is understood, by its lines
pub told_understood : (input text : List ℕ) (script : ScriptLines) (commands : List Request) (after : Desk) → IsUtf8 input → script ≡ script_lines_of (lines_of input)
    → IsUnderstood input commands → InTurn (ExplainsPlaced script) new_desk (with_places script script.commands commands) text after → ExplainsScript input text
told_understood input text script commands after utf8 is understood told = record {
  utf8 = utf8;
  commands = commands;
  understood = understood;
  after = after;
  told = subst (λ (s : ScriptLines). InTurn (ExplainsPlaced s) new_desk (with_places s s.commands commands) text after) is told;
}

-- what is told of one that isn't, by its lines
pub told_misread : (input text : List ℕ) (script : ScriptLines) (number : ℕ) → IsUtf8 input → script ≡ script_lines_of (lines_of input)
    → IsNotUnderstood input number → IsMisreadText script number text → ExplainsMisread input text
told_misread input text script number utf8 is bad told = record {
  utf8 = utf8;
  number = number;
  bad = bad;
  told = subst (λ (s : ScriptLines). IsMisreadText s number text) is told;
}
