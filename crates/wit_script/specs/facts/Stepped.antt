-- What a line does to the commands that are read, and to an `other` that waits for its `merge`.
use Rattle.std.proofs.Common.{◌≡◌, ◌∙◌, ℕ, ◌+◌, length, Bool, true, false, cond, List, [], ◌∷◌, ◌++◌, Option, None, Some, sym, ap, is_some}
use Rattle.std.specs.Option.{option_and_then, option_map}
use Rattle.wit_data.specs.declared.unresolved.UnresolvedPackageGroup.{UnresolvedPackageGroup}
use Rattle.wit_script_package.specs.Draft.{as_group, new_draft}
use Rattle.wit_script_package.specs.Lines.{with_line}
use Rattle.wit_script_package.specs.declared.draft.Draft.{Draft}
use Rattle.wit_script_lines.specs.PackageLine.{each_of}
use Rattle.wit_script_lines.specs.declared.request.Request.{Request}
use Rattle.wit_script_lines.specs.declared.statement.Statement.{Statement}
use Rattle.wit_script_lines.specs.declared.statement.Statement.TheVariants as says
use Rattle.wit_script.specs.Script.{mentions_ahead, after_statement_in, with_groups}
use Rattle.wit_script.specs.steps.Parts.{with_asked, with_begun, with_current, with_statement}
use Rattle.wit_script.specs.Ready.{other_after}
use Rattle.wit_script.specs.declared.reader.Reading.{Reading}
use Rattle.wit_commands.specs.declared.change.Change.TheVariants.{PushGroups}
use Rattle.wit_script_lines.specs.declared.request.Request.TheVariants as request
use Rattle.wit_script_lines.specs.facts.OptionFacts.{map-of, same-some, step-of}

-- ---- steps that were taken

else-of : {A : Type 0} (b : Bool) (o : Option A) (y : A) → cond b None o ≡ Some y → o ≡ Some y
else-of true o y h = cc
else-of false o y h = h

-- ---- what a line makes

-- a line leaves the commands as they are, and whether an `other` waits, or it adds a command after those before it
pub data Makes (r next : Reading) : Type 0 where
  stays : next.commands ≡ r.commands → next.other ≡ r.other → Makes r next
  adds : (command : Request) → next.commands ≡ r.commands ++ command ∷ []
      → other_after command r.other ≡ Some next.other → Makes r next

groups-make : (r : Reading) (groups : List UnresolvedPackageGroup) (next : Reading) → with_groups r groups ≡ Some next → Makes r next
groups-make r [] next made = cc
groups-make r (main ∷ deps) next made =
    let same = same-some _ next made in
    adds (request.Change (PushGroups main deps)) (sym (ap (λ (t : Reading). t.commands) same)) (ap (λ (t : Reading). Some t.other) same)

asked-makes : (r : Reading) (asked : Request) (next : Reading) → option_map (with_asked r asked) (other_after asked r.other) ≡ Some next → Makes r next
asked-makes r asked next made =
    let p = map-of (with_asked r asked) (other_after asked r.other) next made in
    adds asked (sym (ap (λ (t : Reading). t.commands) p.2)) (p.1 ∙ ap (λ (t : Reading). Some t.other) p.2)

statement-makes : (r : Reading) (said : Statement) (text : List ℕ) (ahead : List (List ℕ)) (next : Reading) → with_statement r said text ahead ≡ Some next → Makes r next
statement-makes r (says.Package name) text ahead next made =
    let p = map-of (with_begun r) (new_draft name text (mentions_ahead (length text + 1) ahead)) next made in
    stays (sym (ap (λ (t : Reading). t.commands) p.2)) (sym (ap (λ (t : Reading). t.other) p.2))
statement-makes r (says.Line said gate) text ahead next made =
    let p = step-of (λ (p : Draft). option_map (with_current r) (with_line p said gate text)) r.current next made in
    let q = map-of (with_current r) (with_line p.0 said gate text) next p.2 in
    stays (sym (ap (λ (t : Reading). t.commands) q.2)) (sym (ap (λ (t : Reading). t.other) q.2))
statement-makes r says.Push text ahead next made =
    let p = step-of (λ (p : Draft). option_and_then (with_groups r) (each_of as_group (r.finished ++ p ∷ []))) r.current next made in
    let groups = step-of (with_groups r) (each_of as_group (r.finished ++ p.0 ∷ [])) next p.2 in
    groups-make r groups.0 next groups.2
statement-makes r (says.Request asked) text ahead next made =
    asked-makes r asked next (else-of (is_some r.current) (option_map (with_asked r asked) (other_after asked r.other)) next made)

pub said-makes : (r : Reading) (text : List ℕ) (ahead : List (List ℕ)) (o : Option (Option Statement)) (next : Reading) → after_statement_in r text ahead o ≡ Some next → Makes r next
said-makes r text ahead None next made = cc
said-makes r text ahead (Some None) next made =
    let same : r ≡ next = same-some r next made in stays (sym (ap (λ (t : Reading). t.commands) same)) (sym (ap (λ (t : Reading). t.other) same))
said-makes r text ahead (Some (Some said)) next made = statement-makes r said text ahead next made
