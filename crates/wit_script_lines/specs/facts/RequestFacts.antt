-- A command that a line asks by its own words brings no package.
use Rattle.std.proofs.Common.{◌≡◌, ◌∙◌, ℕ, Bool, true, false, cond, List, [], ◌∷◌, Option, Some, None, ap, subst, codes, option_map, bytes_eq}
use Rattle.wit_commands.specs.declared.change.Change.TheVariants as change
use Rattle.wit_names.specs.declared.package_name.PackageName.{PackageName}
use Rattle.wit_names.specs.declared.track.TrackRule.{TrackRule}
use Rattle.wit_data.specs.declared.stability.Stability.{Stability}
use Rattle.wit_script_lines.specs.Line.{is_comment, tokens_of}
use Rattle.wit_script_lines.specs.PackageLine.{gate_of_line, package_line_by, ungated_of}
use Rattle.wit_script_lines.specs.Request.{exportize_of, importize_of, importize_to, is_request, keys_of, request_by, select_of, select_with, track_rule_of, world_in, world_of}
use Rattle.wit_script_lines.specs.Statement.{gated_line_by, statement_by, statement_of, statement_of_tokens}
use Rattle.wit_script_lines.specs.Token.{package_name_of, part_of, alone_of}
use Rattle.wit_script_lines.specs.declared.package_line.PackageLine.{PackageLine}
use Rattle.wit_script_lines.specs.declared.request.Request.{Request}
use Rattle.wit_script_lines.specs.declared.request.Request.TheVariants as request
use Rattle.wit_script_lines.specs.declared.statement.Statement.TheVariants as says
use Rattle.wit_script_lines.specs.facts.OptionFacts.{map-of, step-of}
use Rattle.wit_script_lines.specs.steps.Request.{BringsNone}
use Rattle.wit_script_lines.specs.steps.Parts.{feature_of, tracks_of, new_name_of, package_statement_of, push_statement_of}

-- ---- a command by its first token

module _ (asked : Request) where
  -- what is made of something that is read
  made : {A : Type 0} (f : A → Request) (o : Option A) → ((x : A) → BringsNone (f x)) → option_map f o ≡ Some asked → BringsNone asked
  made f o each is = let p = map-of f o asked is in subst BringsNone p.2 (each p.0)

  alone : (said : Request) (arguments : List (List ℕ)) → BringsNone said → alone_of said arguments ≡ Some asked → BringsNone asked
  alone said [] none is = let same : said ≡ asked = cc in subst BringsNone same none
  alone said (argument ∷ arguments) none is = cc

  feature : (arguments : List (List ℕ)) → feature_of arguments ≡ Some asked → BringsNone asked
  feature [] is = cc
  feature (name ∷ []) is = made (λ n. request.Change (change.AddFeature n)) (part_of name) (λ n. tt) is
  feature (name ∷ other ∷ arguments) is = cc

  tracks : (arguments : List (List ℕ)) → tracks_of arguments ≡ Some asked → BringsNone asked
  tracks [] is = cc
  tracks (rule ∷ []) is = made (λ (r : TrackRule). request.Change (change.SetTrackRule r)) (track_rule_of rule) (λ r. tt) is
  tracks (rule ∷ other ∷ arguments) is = cc

  importize-to : (name world : List ℕ) (out : Option (List ℕ)) → importize_to name world out ≡ Some asked → BringsNone asked
  importize-to name world out is =
      made (λ (named : PackageName × List ℕ). request.Change (change.Importize named.0 named.1 out)) (world_in name world) (λ named. tt) is

  importize : (arguments : List (List ℕ)) → importize_of arguments ≡ Some asked → BringsNone asked
  importize [] is = cc
  importize (name ∷ []) is = cc
  importize (name ∷ world ∷ []) is = importize-to name world None is
  importize (name ∷ world ∷ out ∷ []) is =
      let new = step-of (λ (new : List ℕ). importize_to name world (Some new)) (part_of out) asked is in importize-to name world (Some new.0) new.2
  importize (name ∷ world ∷ out ∷ other ∷ arguments) is = cc

  exportize : (arguments : List (List ℕ)) → exportize_of arguments ≡ Some asked → BringsNone asked
  exportize [] is = cc
  exportize (name ∷ []) is = cc
  exportize (name ∷ world ∷ []) is = cc
  exportize (name ∷ world ∷ out ∷ keys) is =
      made (λ (named : PackageName × List ℕ). request.Change (change.Exportize named.0 named.1 (new_name_of out) (keys_of keys))) (world_in name world)
      (λ named. tt) is

  select-with : (name : List ℕ) (said : Option (List ℕ)) → select_with name said ≡ Some asked → BringsNone asked
  select-with name said is = made (λ (owner : PackageName). request.Select owner said) (package_name_of name) (λ owner. tt) is

  select : (arguments : List (List ℕ)) → select_of arguments ≡ Some asked → BringsNone asked
  select [] is = cc
  select (name ∷ []) is = select-with name None is
  select (name ∷ text ∷ []) is =
      let said = step-of (λ (said : List ℕ). select_with name (Some said)) (part_of text) asked is in select-with name (Some said.0) said.2
  select (name ∷ text ∷ other ∷ arguments) is = cc

  -- one of two, by a test
  either : (b : Bool) (o p : Option Request) → (o ≡ Some asked → BringsNone asked) → (p ≡ Some asked → BringsNone asked) → cond b o p ≡ Some asked → BringsNone asked
  either true o p first second is = first is
  either false o p first second is = second is

  word : (said : List ℕ) (arguments : List (List ℕ)) → request_by said arguments ≡ Some asked → BringsNone asked
  word said arguments =
      either (bytes_eq said (codes "feature")) _ _ (feature arguments)
      (either (bytes_eq said (codes "all-features")) _ _ (alone (request.Change (change.SetAllFeatures true)) arguments tt)
      (either (bytes_eq said (codes "tracks")) _ _ (tracks arguments)
      (either (bytes_eq said (codes "other")) _ _ (alone request.Other arguments tt)
      (either (bytes_eq said (codes "merge")) _ _ (alone request.Merge arguments tt)
      (either (bytes_eq said (codes "importize")) _ _ (importize arguments)
      (either (bytes_eq said (codes "exportize")) _ _ (exportize arguments)
      (either (bytes_eq said (codes "semver")) _ _ (made (λ (named : PackageName × List ℕ). request.Change (change.Semver named.0 named.1)) (world_of arguments) (λ named. tt))
      (either (bytes_eq said (codes "print")) _ _ (made (λ (named : PackageName × List ℕ). request.Print named.0 named.1) (world_of arguments) (λ named. tt))
      (either (bytes_eq said (codes "select")) _ None (select arguments) (λ is. cc))))))))))

  -- ---- lines

  package_line : (arguments : List (List ℕ)) → package_statement_of arguments ≡ Some (says.Request asked) → BringsNone asked
  package_line [] is = cc
  package_line (token ∷ []) is = let name = map-of says.Package (package_name_of token) (says.Request asked) is in cc name.2
  package_line (token ∷ (other ∷ arguments)) is = cc

  push_line : (arguments : List (List ℕ)) → push_statement_of arguments ≡ Some (says.Request asked) → BringsNone asked
  push_line [] is = cc
  push_line (argument ∷ arguments) is = cc

  gated_line : (said : List ℕ) (arguments : List (List ℕ)) → gated_line_by said arguments ≡ Some (says.Request asked) → BringsNone asked
  gated_line said arguments is =
      let gate = step-of (λ (gate : Stability). option_map (λ (part : PackageLine). says.Line part gate) (package_line_by said (ungated_of arguments)))
      (gate_of_line arguments) (says.Request asked) is in
      let line = map-of (λ (part : PackageLine). says.Line part gate.0) (package_line_by said (ungated_of arguments)) (says.Request asked) gate.2 in
      cc line.2

  request_line : (said : List ℕ) (arguments : List (List ℕ)) → option_map says.Request (request_by said arguments) ≡ Some (says.Request asked) → BringsNone asked
  request_line said arguments is =
      let read = map-of says.Request (request_by said arguments) (says.Request asked) is in
      let same : read.0 ≡ asked = cc read.2 in
      word said arguments (read.1 ∙ ap Some same)

  word_line : (said : List ℕ) (arguments : List (List ℕ)) → statement_by said arguments ≡ Some (says.Request asked) → BringsNone asked
  word_line said arguments is = by (is_request said) (bytes_eq said (codes "package")) (bytes_eq said (codes "push")) is where
    by : (request begins push : Bool)
        → cond request (option_map says.Request (request_by said arguments)) (cond begins (package_statement_of arguments)
        (cond push (push_statement_of arguments) (gated_line_by said arguments))) ≡ Some (says.Request asked)
        → BringsNone asked
    by true begins push is = request_line said arguments is
    by false true push is = package_line arguments is
    by false false true is = push_line arguments is
    by false false false is = gated_line said arguments is

  tokens_line : (tokens : List (List ℕ)) → statement_of_tokens tokens ≡ Some (Some (says.Request asked)) → BringsNone asked
  tokens_line [] is = cc
  tokens_line (first ∷ arguments) is = by (is_comment first) is where
    by : (b : Bool) → cond b (Some None) (option_map Some (statement_by first arguments)) ≡ Some (Some (says.Request asked)) → BringsNone asked
    by true is = cc
    by false is =
        let said = map-of Some (statement_by first arguments) (Some (says.Request asked)) is in
        word_line first arguments (said.1 ∙ said.2)

  -- what a line asks
  pub line-brings-none : (line : List ℕ) → statement_of line ≡ Some (Some (says.Request asked)) → BringsNone asked
  line-brings-none line is = tokens_line (tokens_of line) is
