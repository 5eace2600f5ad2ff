-- What the first token of a line tells of it.
use Rattle.std.proofs.Common.{◌≡◌, ◌∙◌, ℕ, Bool, true, false, cond, List, [], ◌∷◌, Option, Some, None, refl, ap, option_and_then, option_map, bytes_eq}
use Rattle.std.proofs.lemmas.Slice.Eq.{bytes_eq-Decides}
use Rattle.std.specs.List.{AllByRecursion}
use Rattle.wit_data.specs.declared.stability.Stability.{Stability}
use Rattle.wit_script_lines.specs.PackageLine.{gate_of_line, package_line_by, ungated_of}
use Rattle.wit_script_lines.specs.Statement.{gated_line_by, statement_by}
use Rattle.wit_script_lines.specs.declared.package_line.LineWord.{LineWord}
use Rattle.wit_script_lines.specs.declared.package_line.LineWord.TheVariants as begins
use Rattle.wit_script_lines.specs.declared.package_line.PackageLine.{PackageLine}
use Rattle.wit_script_lines.specs.declared.statement.Statement.TheVariants as says
use Rattle.wit_script_lines.specs.facts.OptionFacts.{same-some}
use Rattle.wit_script_lines.specs.steps.LineWords.{line_word, line_words, word_among, word_text}

-- a token that is one of some words is written as it
word-is : (words : List LineWord) (token : List ℕ) (found : LineWord) → word_among words token ≡ Some found → token ≡ word_text found
word-is [] token found is = cc
word-is (w ∷ ws) token found is = by (bytes_eq token (word_text w)) refl is (λ later. word-is ws token found later) where
  by : (b : Bool) → bytes_eq token (word_text w) ≡ b → cond b (Some w) (word_among ws token) ≡ Some found → (word_among ws token ≡ Some found → token ≡ word_text found) → token ≡ word_text found
  by true same is rest = (bytes_eq-Decides token (word_text w)).0 same ∙ ap word_text (same-some w found is)
  by false other is rest = rest is

-- a token that is none of them is written as none
abbrev IsNotWritten : List ℕ → LineWord → Type 0
IsNotWritten token word = bytes_eq token (word_text word) ≡ false

none-is : (words : List LineWord) (token : List ℕ) → word_among words token ≡ None → AllByRecursion (IsNotWritten token) words
none-is [] token none = tt
none-is (w ∷ ws) token none = by (bytes_eq token (word_text w)) refl none (λ later. none-is ws token later) where
  by : (b : Bool) → bytes_eq token (word_text w) ≡ b → cond b (Some w) (word_among ws token) ≡ None → (word_among ws token ≡ None → AllByRecursion (IsNotWritten token) ws)
      → AllByRecursion (IsNotWritten token) (w ∷ ws)
  by true same none rest = cc
  by false other none rest = (other, rest none)

module _ (token : List ℕ) (arguments : List (List ℕ)) where
  -- no command begins with the word of a line
  no-command : (word : LineWord) → statement_by (word_text word) arguments ≡ gated_line_by (word_text word) arguments
  no-command begins.Interface = refl
  no-command begins.World = refl
  no-command begins.Type_ = refl
  no-command begins.Record = refl
  no-command begins.Resource = refl
  no-command begins.Use = refl
  no-command begins.Function = refl
  no-command begins.Import = refl
  no-command begins.Export = refl
  no-command begins.ImportFunction = refl
  no-command begins.ExportFunction = refl
  no-command begins.Include = refl

  -- a line of a package begins with its word
  pub line-begins : (word : LineWord) → line_word token ≡ Some word → statement_by token arguments ≡ gated_line_by (word_text word) arguments
  line-begins word is = ap (λ (t : List ℕ). statement_by t arguments) (word-is line_words token word is) ∙ no-command word

  -- no line of a package begins with another token
  pub none-begins : line_word token ≡ None → gated_line_by token arguments ≡ None
  none-begins none =
      let no = none-is line_words token none in
      let line : package_line_by token (ungated_of arguments) ≡ None =
      rw (no.0, no.1.0, no.1.1.0, no.1.1.1.0, no.1.1.1.1.0, no.1.1.1.1.1.0, no.1.1.1.1.1.1.0, no.1.1.1.1.1.1.1.0, no.1.1.1.1.1.1.1.1.0, no.1.1.1.1.1.1.1.1.1.0, no.1.1.1.1.1.1.1.1.1.1.0, no.1.1.1.1.1.1.1.1.1.1.1.0) refl in
      by (gate_of_line arguments) line where
        by : (gate : Option Stability) → package_line_by token (ungated_of arguments) ≡ None
            → option_and_then (λ (own : Stability). option_map (λ (said : PackageLine). says.Line said own) (package_line_by token (ungated_of arguments))) gate ≡ None
        by None line = refl
        by (Some own) line = ap (option_map (λ (said : PackageLine). says.Line said own)) line
