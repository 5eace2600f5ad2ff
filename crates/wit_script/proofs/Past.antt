-- A line ahead that mentions nothing.
use Rattle.std.proofs.Common.{◌≡◌, ◌+◌, ℕ, List, [], Option, None, Some, Result, Ok, Err, length, refl, sym, ap, ◌∙◌, ◌++◌, IfOk}
use Rattle.std.specs.Option.{option_map_or}
use Rattle.wit_data.specs.declared.stability.Stability.{Stability}
use Rattle.wit_script_lines.specs.declared.package_line.PackageLine.{PackageLine}
use Rattle.wit_script_package.specs.Draft.{span_after}
use Rattle.wit_script_package.specs.Mention.{mentions_of}
use Rattle.wit_script_package.specs.steps.Mention.{MentionsNothing}
use Rattle.wit_script_package.specs.Naming.{OptionalSpan}
use Rattle.wit_script_package.specs.declared.mention.Mention.{Mention}
use Rattle.wit_script_lines.specs.declared.statement.Statement.{Statement}
use Rattle.wit_script_lines.specs.declared.statement.Statement.TheVariants as says
use Rattle.wit_script.specs.Script.{mentions_with}
use Rattle.wit_script.specs.steps.Script.{mentions_then}
use Rattle.wit_script.specs.declared.ahead.Ahead.{Ahead}
use Rattle.wit_script.specs.steps.Parts.{mentions_past}

-- what a line of the package mentions, where it fits into its file, and the lines after it
abbrev mentions_at_line : PackageLine → Stability → ℕ → (ℕ → List Mention) → Option OptionalSpan → List Mention
mentions_at_line said gate next after span = option_map_or (λ (s : OptionalSpan). mentions_of said gate s ++ after next) span []

module _ (at : ℕ) (line : List ℕ) where
  past-nothing : (after : ℕ → List Mention) (said : Option (Option Statement)) → MentionsNothing said → mentions_with at line after said ≡ mentions_past (at + length line + 1) after (span_after at line)
  past-nothing after None nothing = refl
  past-nothing after (Some None) nothing = absurd nothing
  past-nothing after (Some (Some (says.Package name))) nothing = absurd nothing
  past-nothing after (Some (Some (says.Line said gate))) nothing = by (span_after at line) where
    by : (span : Option OptionalSpan) → mentions_at_line said gate (at + length line + 1) after span ≡ mentions_past (at + length line + 1) after span
    by None = refl
    by (Some span) = ap (λ (l : List Mention). l ++ after (at + length line + 1)) (nothing span)
  past-nothing after (Some (Some says.Push)) nothing = absurd nothing
  past-nothing after (Some (Some (says.Request asked))) nothing = absurd nothing

  -- what it is, told by what it mentions
  pub passed-is : {E : Type 0} (said : Option (Option Statement)) → MentionsNothing said → (r : Result Ahead E)
      → IfOk r (λ ahead. (after : ℕ → List Mention) → mentions_then ahead at after ≡ mentions_past (at + length line + 1) after (span_after at line))
      → IfOk r (λ ahead. (after : ℕ → List Mention) → mentions_then ahead at after ≡ mentions_with at line after said)
  passed-is said nothing (Ok ahead) is = λ after. is after ∙ sym (past-nothing after said nothing)
  passed-is said nothing (Err e) is = tt
