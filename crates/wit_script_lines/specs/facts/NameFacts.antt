-- A package name that a line says has a version of SemVer 2.0.0, where it has one.
use Rattle.std.proofs.Common.{◌≡◌, ◌∙◌, ℕ, Bool, true, false, cond, List, [], ◌∷◌, length, Option, Some, None, IfSome, Result, Ok, Err, refl, sym, ap, subst, codes, option_and_then, option_map, bytes_eq}
use Rattle.std.specs.Prelude.{◌==◌, nat_lt}
use Rattle.std.specs.List.{position_or_len, before_first, after_first}
use Rattle.semver.specs.Grammar.{IsValid}
use Rattle.semver.specs.Parse.{version_parts}
use Rattle.semver.specs.declared.error.Error.{Error}
use Rattle.semver.proofs.Grammar.{version_parts-sound}
use Rattle.wit_values.specs.Version.{Parts}
use Rattle.wit_names.specs.PackageName.{HasValidVersion}
use Rattle.wit_names.specs.declared.package_name.PackageName.{PackageName}
use Rattle.wit_data.specs.declared.stability.Stability.{Stability}
use Rattle.wit_script_lines.specs.Line.{is_comment, tokens_of}
use Rattle.wit_script_lines.specs.PackageLine.{gate_of_line, package_line_by, ungated_of}
use Rattle.wit_script_lines.specs.Request.{is_request, request_by}
use Rattle.wit_script_lines.specs.Statement.{gated_line_by, statement_by, statement_of, statement_of_tokens}
use Rattle.wit_script_lines.specs.Token.{name_after, package_name_of, package_with, part_of, read_part, version_of}
use Rattle.wit_script_lines.specs.declared.package_line.PackageLine.{PackageLine}
use Rattle.wit_script_lines.specs.declared.statement.Statement.{Statement}
use Rattle.wit_script_lines.specs.declared.statement.Statement.TheVariants as says
use Rattle.wit_script_lines.specs.facts.OptionFacts.{map-of, same-some, step-of}
use Rattle.wit_script_lines.specs.steps.Parts.{package_statement_of, push_statement_of}

-- what is read of a text as a version is one
read_valid : (text : List ℕ) (read : Result Parts Error) (version : Parts) → version_parts text ≡ read → read_part read ≡ Some version → IsValid version
read_valid text (Ok parts) version is some = (version_parts-sound text version (is ∙ ap (λ (v : Parts). Ok v) (same-some parts version some))).1
read_valid text (Err e) version is some = cc

-- a package of some parts has their version
version_kept : (namespace name : List ℕ) (version : Option Parts) (p : PackageName) → package_with namespace name version ≡ Some p → version ≡ p.version
version_kept namespace name version p made =
    let space = step-of (λ (space : List ℕ). option_map (λ (own : List ℕ). record { namespace = space; name = own; version = version }) (part_of name))
    (part_of namespace) p made in
    let own = map-of (λ (own : List ℕ). record { namespace = space.0; name = own; version = version }) (part_of name) p space.2 in
    ap (λ (q : PackageName). q.version) own.2

after_namespace : (namespace rest : List ℕ) (p : PackageName) → name_after namespace rest ≡ Some p → HasValidVersion p
after_namespace namespace rest p made = by (nat_lt (position_or_len (λ b. b == 64) rest) (length rest)) made where
  by : (b : Bool)
      → cond b (option_and_then (λ (version : Parts). package_with namespace (before_first (λ b. b == 64) rest) (Some version)) (version_of (after_first (λ b. b == 64) rest)))
      (package_with namespace rest None) ≡ Some p
      → HasValidVersion p
  by true made =
      let text = after_first (λ b. b == 64) rest in
      let version = step-of (λ (version : Parts). package_with namespace (before_first (λ b. b == 64) rest) (Some version)) (version_of text) p made in
      subst (λ (o : Option Parts). IfSome o IsValid) (version_kept namespace (before_first (λ b. b == 64) rest) (Some version.0) p version.2)
      (read_valid text (version_parts text) version.0 refl version.1)
  by false made = subst (λ (o : Option Parts). IfSome o IsValid) (version_kept namespace rest None p made) tt

-- a token that is a package name
pub name-valid : (token : List ℕ) (p : PackageName) → package_name_of token ≡ Some p → HasValidVersion p
name-valid token p made = by (nat_lt (position_or_len (λ b. b == 58) token) (length token)) made where
  by : (b : Bool) → cond b (name_after (before_first (λ b. b == 58) token) (after_first (λ b. b == 58) token)) None ≡ Some p → HasValidVersion p
  by true made = after_namespace (before_first (λ b. b == 58) token) (after_first (λ b. b == 58) token) p made
  by false made = cc

-- ---- lines

module _ (p : PackageName) where
  package_line : (arguments : List (List ℕ)) → package_statement_of arguments ≡ Some (says.Package p) → HasValidVersion p
  package_line [] is = cc
  package_line (token ∷ []) is =
      let name = map-of says.Package (package_name_of token) (says.Package p) is in
      let same : name.0 ≡ p = cc name.2 in
      subst HasValidVersion same (name-valid token name.0 name.1)
  package_line (token ∷ (other ∷ arguments)) is = cc

  push_line : (arguments : List (List ℕ)) → push_statement_of arguments ≡ Some (says.Package p) → HasValidVersion p
  push_line [] is = cc
  push_line (argument ∷ arguments) is = cc

  gated_line : (word : List ℕ) (arguments : List (List ℕ)) → gated_line_by word arguments ≡ Some (says.Package p) → HasValidVersion p
  gated_line word arguments is =
      let gate = step-of (λ (gate : Stability). option_map (λ (said : PackageLine). says.Line said gate) (package_line_by word (ungated_of arguments)))
      (gate_of_line arguments) (says.Package p) is in
      let said = map-of (λ (said : PackageLine). says.Line said gate.0) (package_line_by word (ungated_of arguments)) (says.Package p) gate.2 in
      cc said.2

  word_line : (word : List ℕ) (arguments : List (List ℕ)) → statement_by word arguments ≡ Some (says.Package p) → HasValidVersion p
  word_line word arguments is = by (is_request word) (bytes_eq word (codes "package")) (bytes_eq word (codes "push")) is where
    by : (request begins push : Bool)
        → cond request (option_map says.Request (request_by word arguments)) (cond begins (package_statement_of arguments)
        (cond push (push_statement_of arguments) (gated_line_by word arguments))) ≡ Some (says.Package p)
        → HasValidVersion p
    by true begins push is = let asked = map-of says.Request (request_by word arguments) (says.Package p) is in cc asked.2
    by false true push is = package_line arguments is
    by false false true is = push_line arguments is
    by false false false is = gated_line word arguments is

  tokens_line : (tokens : List (List ℕ)) → statement_of_tokens tokens ≡ Some (Some (says.Package p)) → HasValidVersion p
  tokens_line [] is = cc
  tokens_line (word ∷ arguments) is = by (is_comment word) is where
    by : (b : Bool) → cond b (Some None) (option_map Some (statement_by word arguments)) ≡ Some (Some (says.Package p)) → HasValidVersion p
    by true is = cc
    by false is =
        let said = map-of Some (statement_by word arguments) (Some (says.Package p)) is in
        word_line word arguments (said.1 ∙ said.2)

  -- a line that begins a package
  pub line-valid : (line : List ℕ) → statement_of line ≡ Some (Some (says.Package p)) → HasValidVersion p
  line-valid line is = tokens_line (tokens_of line) is
