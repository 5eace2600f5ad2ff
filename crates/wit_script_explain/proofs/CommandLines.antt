-- Each command stands at its place, line by line.
use Rattle.std.proofs.Common.{◌≡◌, ◌∙◌, ℕ, ◌+◌, if◌then◌else◌, Bool, true, false, is_some, List, [], ◌∷◌, ◌++◌, length, Option, None, Some, append_assoc, ap, fold, refl, slice_get, subst, sym}
use Rattle.std.proofs.lemmas.List.{append-nil}
use Rattle.std.proofs.lemmas.Option.{slice_get_within}
use Rattle.std.specs.List.{AllZip}
use Rattle.std.specs.Option.{option_and_then, option_flatten, option_map, option_map_or}
use Rattle.wit_commands.specs.declared.change.Change.TheVariants as change
use Rattle.wit_data.specs.declared.unresolved.UnresolvedPackageGroup.{UnresolvedPackageGroup}
use Rattle.wit_script_lines.specs.Line.{lines_of}
use Rattle.wit_script_lines.specs.PackageLine.{each_of}
use Rattle.wit_script_lines.specs.Statement.{statement_of}
use Rattle.wit_script_lines.specs.declared.request.Request.{Request}
use Rattle.wit_script_lines.specs.declared.request.Request.TheVariants as request
use Rattle.wit_script_lines.specs.declared.statement.Statement.{Statement}
use Rattle.wit_script_lines.specs.declared.statement.Statement.TheVariants as says
use Rattle.wit_script_lines.specs.facts.OptionFacts.{map-of, same-some, step-of}
use Rattle.wit_script_lines.specs.facts.RequestFacts.{line-brings-none}
use Rattle.wit_script_lines.specs.steps.Request.{BringsNone}
use Rattle.wit_script_package.proofs.Places.{append_other}
use Rattle.wit_script_package.specs.Draft.{as_group, new_draft}
use Rattle.wit_script_package.specs.Lines.{with_line as with_draft_line}
use Rattle.wit_script_package.specs.declared.draft.Draft.{Draft}
use Rattle.wit_script.specs.Ready.{other_after}
use Rattle.wit_script.specs.Script.{IsUnderstood, after_line, after_lines, after_statement_in, mentions_ahead, new_reading, with_groups}
use Rattle.wit_script.specs.steps.Parts.{with_asked, with_begun, with_current}
use Rattle.wit_script.specs.declared.reader.Reading.{Reading}
use Rattle.wit_script_explain.specs.Lines.{script_lines_of, sort_of_statement, with_next_line, with_sort}
use Rattle.wit_script_explain.specs.declared.lines.CommandPlace.{CommandPlace}
use Rattle.wit_script_explain.specs.declared.lines.LineSort.{LineSort}
use Rattle.wit_script_explain.specs.declared.lines.LineSort.TheVariants as sort
use Rattle.wit_script_explain.specs.declared.lines.ScriptLines.{ScriptLines}
use Rattle.wit_script_explain.specs.laws.CommandPlaces.{StandsAt, said_of}
use Rattle.wit_script_explain.specs.steps.Parts.{no_lines}

-- ---- two lists side by side

zip-push : {A B : Type 0} (R : A → B → Type 0) (xs : List A) (ys : List B) (x : A) (y : B) → AllZip R xs ys → R x y → AllZip R (xs ++ x ∷ []) (ys ++ y ∷ [])
zip-push R [] [] x y all one = (one, tt)
zip-push R [] (b ∷ ys) x y all one = absurd all
zip-push R (a ∷ xs) [] x y all one = absurd all
zip-push R (a ∷ xs) (b ∷ ys) x y all one = (all.0, zip-push R xs ys x y all.1 one)

zip-map : {A B : Type 0} (R S : A → B → Type 0) (each : (x : A) (y : B) → R x y → S x y) (xs : List A) (ys : List B) → AllZip R xs ys → AllZip S xs ys
zip-map R S each [] [] all = tt
zip-map R S each [] (b ∷ ys) all = absurd all
zip-map R S each (a ∷ xs) [] all = absurd all
zip-map R S each (a ∷ xs) (b ∷ ys) all = (each a b all.0, zip-map R S each xs ys all.1)

-- ---- lines

-- what a line is, by what its tokens say
abbrev sort_by : Option (Option Statement) → LineSort
sort_by said = option_map_or sort_of_statement (option_flatten said) sort.Silent

-- more lines
abbrev with_lines : ScriptLines → List (List ℕ) → ScriptLines
with_lines s lines = fold with_next_line s lines

sort-lines : (s : ScriptLines) (what : LineSort) → (with_sort s what).lines ≡ s.lines
sort-lines s sort.Silent = refl
sort-lines s sort.Package = refl
sort-lines s sort.Part = refl
sort-lines s sort.Push = refl
sort-lines s sort.Request = refl

lines-kept : (s : ScriptLines) (lines : List (List ℕ)) → (with_lines s lines).lines ≡ s.lines ++ lines
lines-kept s [] = sym (append-nil s.lines)
lines-kept s (line ∷ lines) =
    lines-kept (with_next_line s line) lines ∙ ap (λ (t : List (List ℕ)). (t ++ line ∷ []) ++ lines) (sort-lines s (sort_by (statement_of line))) ∙ append_assoc s.lines (line ∷ []) lines

-- ---- commands

-- where a line stands that is there it stands before one more
stands-before : (lines : List (List ℕ)) (line : List ℕ) (place : CommandPlace) (command : Request) → StandsAt lines place command → StandsAt (lines ++ line ∷ []) place command
stands-before lines line place command at = record {
  line = at.line;
  there = append_other lines (line ∷ []) place.line (slice_get_within lines place.line at.line at.there) ∙ at.there;
  said = at.said;
}

last-there : (lines : List (List ℕ)) (line : List ℕ) → slice_get (lines ++ line ∷ []) (length lines) ≡ Some line
last-there [] line = refl
last-there (first ∷ lines) line = last-there lines line

-- the last of lines
stands-last : (lines : List (List ℕ)) (line : List ℕ) (place : CommandPlace) (command : Request) → place.line ≡ length lines → statement_of line ≡ Some (Some (said_of command))
    → StandsAt (lines ++ line ∷ []) place command
stands-last lines line place command last said = record {
  line = line;
  there = rw last (last-there lines line);
  said = said;
}

-- a command that brings no package is said by itself
said-by-itself : (asked : Request) → BringsNone asked → says.Request asked ≡ said_of asked
said-by-itself (request.Change (change.PushGroups main deps)) none = absurd none
said-by-itself asked none = refl

else-of : {A : Type 0} (b : Bool) (o : Option A) (y : A) → (if b then None else o) ≡ Some y → o ≡ Some y
else-of true o y h = cc
else-of false o y h = h

module _ (s : ScriptLines) (r : Reading) (line : List ℕ) (all : AllZip (StandsAt s.lines) s.commands r.commands) where
  -- a line that asks nothing
  kept : (next : Reading) → next.commands ≡ r.commands → AllZip (StandsAt (s.lines ++ line ∷ [])) s.commands next.commands
  kept next same =
      subst (AllZip (StandsAt (s.lines ++ line ∷ [])) s.commands) (sym same)
      (zip-map (StandsAt s.lines) (StandsAt (s.lines ++ line ∷ [])) (stands-before s.lines line) s.commands r.commands all)

  -- a line that asks a command
  asked : (next : Reading) (place : CommandPlace) (command : Request) → next.commands ≡ r.commands ++ command ∷ [] → place.line ≡ length s.lines
      → statement_of line ≡ Some (Some (said_of command)) → AllZip (StandsAt (s.lines ++ line ∷ [])) (s.commands ++ place ∷ []) next.commands
  asked next place command same last said =
      subst (AllZip (StandsAt (s.lines ++ line ∷ [])) (s.commands ++ place ∷ [])) (sym same)
      (zip-push (StandsAt (s.lines ++ line ∷ [])) s.commands r.commands place command (kept r refl) (stands-last s.lines line place command last said))

  pushed : (groups : List UnresolvedPackageGroup) (next : Reading) → statement_of line ≡ Some (Some says.Push) → with_groups r groups ≡ Some next
      → AllZip (StandsAt (s.lines ++ line ∷ [])) (with_sort s sort.Push).commands next.commands
  pushed [] next said made = cc
  pushed (main ∷ deps) next said made =
      asked next (record { line = length s.lines; packages = s.pushed; is_push = true }) (request.Change (change.PushGroups main deps)) (sym (ap (λ (t : Reading). t.commands) (same-some _ next made))) refl said

  -- by what the line says
  by : (o : Option (Option Statement)) (ahead : List (List ℕ)) (next : Reading) → statement_of line ≡ o → after_statement_in r line ahead o ≡ Some next
      → AllZip (StandsAt (s.lines ++ line ∷ [])) (with_sort s (sort_by o)).commands next.commands
  by None ahead next said made = cc
  by (Some None) ahead next said made = kept next (sym (ap (λ (t : Reading). t.commands) (same-some r next made)))
  by (Some (Some (says.Package name))) ahead next said made =
      let p = map-of (with_begun r) (new_draft name line (mentions_ahead (length line + 1) ahead)) next made in
      kept next (sym (ap (λ (t : Reading). t.commands) p.2))
  by (Some (Some (says.Line part gate))) ahead next said made =
      let p = step-of (λ (p : Draft). option_map (with_current r) (with_draft_line p part gate line)) r.current next made in
      let q = map-of (with_current r) (with_draft_line p.0 part gate line) next p.2 in
      kept next (sym (ap (λ (t : Reading). t.commands) q.2))
  by (Some (Some says.Push)) ahead next said made =
      let p = step-of (λ (p : Draft). option_and_then (with_groups r) (each_of as_group (r.finished ++ p ∷ []))) r.current next made in
      let groups = step-of (with_groups r) (each_of as_group (r.finished ++ p.0 ∷ [])) next p.2 in
      pushed groups.0 next said groups.2
  by (Some (Some (says.Request command))) ahead next said made =
      let p = map-of (with_asked r command) (other_after command r.other) next (else-of (is_some r.current) (option_map (with_asked r command) (other_after command r.other)) next made) in
      asked next (record { line = length s.lines; packages = s.pushed; is_push = false }) command (sym (ap (λ (t : Reading). t.commands) p.2)) refl
      (said ∙ ap (λ (t : Statement). Some (Some t)) (said-by-itself command (line-brings-none command line said)))

-- one more line
one-line : (s : ScriptLines) (r next : Reading) (line : List ℕ) (ahead : List (List ℕ)) → AllZip (StandsAt s.lines) s.commands r.commands → after_line r line ahead ≡ Some next
    → AllZip (StandsAt (with_next_line s line).lines) (with_next_line s line).commands next.commands
one-line s r next line ahead all made =
    subst (λ (t : List (List ℕ)). AllZip (StandsAt (t ++ line ∷ [])) (with_next_line s line).commands next.commands) (sym (sort-lines s (sort_by (statement_of line))))
    (by s r line all (statement_of line) ahead next refl made)

more-lines : (lines : List (List ℕ)) (s : ScriptLines) (r next : Reading) → AllZip (StandsAt s.lines) s.commands r.commands → after_lines r lines ≡ Some next
    → AllZip (StandsAt (with_lines s lines).lines) (with_lines s lines).commands next.commands
more-lines [] s r next all made = subst (λ (t : Reading). AllZip (StandsAt s.lines) s.commands t.commands) (same-some r next made) all
more-lines (line ∷ lines) s r next all made =
    let p = step-of (λ (t : Reading). after_lines t lines) (after_line r line lines) next made in
    more-lines lines (with_next_line s line) p.0 next (one-line s r p.0 line lines all p.1) p.2

-- all lines of a script
pub at_lines : (text : List ℕ) (commands : List Request) → IsUnderstood text commands → AllZip (StandsAt (lines_of text)) (script_lines_of (lines_of text)).commands commands
at_lines text commands understood =
    subst (AllZip (StandsAt (lines_of text)) (script_lines_of (lines_of text)).commands) understood.asked
    (
    subst (λ (t : List (List ℕ)). AllZip (StandsAt t) (script_lines_of (lines_of text)).commands understood.reading.commands) (lines-kept no_lines (lines_of text))
    (more-lines (lines_of text) no_lines new_reading understood.reading tt understood.read)
    )
