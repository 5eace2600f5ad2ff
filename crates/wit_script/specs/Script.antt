-- A script, line by line: what the lines make, which scripts are understood, what they ask, and which line of another is
-- the first that isn't understood.
use Rattle.std.specs.Option.{option_map_or}
use Rattle.std.specs.Prelude.{◌≡◌, ◌⊎◌, ◌||◌, ℕ, zero, suc, ◌+◌, ◌<◌, false, List, [], ◌∷◌, ◌++◌, length, Option, Some, None, IsTrue, is_some, option_and_then, if◌then◌else◌, option_map, option_to_list}
use Rattle.wit_names.specs.declared.package_name.PackageName.{PackageName}
use Rattle.wit_data.specs.declared.stability.Stability.{Stability}
use Rattle.wit_data.specs.declared.unresolved.UnresolvedPackageGroup.{UnresolvedPackageGroup}
use Rattle.wit_script_package.specs.Draft.{as_group, new_draft, span_after}
use Rattle.wit_script_package.specs.Lines.{with_line}
use Rattle.wit_script_package.specs.declared.draft.Draft.{Draft}
use Rattle.wit_script_lines.specs.Line.{last_statement_line, lines_of}
use Rattle.wit_script_lines.specs.PackageLine.{each_of}
use Rattle.wit_script_lines.specs.Statement.{statement_of}
use Rattle.wit_script_lines.specs.declared.package_line.PackageLine.{PackageLine}
use Rattle.wit_commands.specs.declared.change.Change.TheVariants.{PushGroups}
use Rattle.wit_script_lines.specs.declared.request.Request.{Request}
use Rattle.wit_script_lines.specs.declared.request.Request.TheVariants as request
use Rattle.wit_script_lines.specs.declared.statement.Statement.{Statement}
use Rattle.wit_script_lines.specs.declared.statement.Statement.TheVariants as says
use Rattle.wit_script.specs.Ready.{AreReady, other_after}
use Rattle.wit_script.specs.declared.fault.ReadFault.{ReadFault}
use Rattle.wit_script.specs.declared.fault.ReadFault.TheVariants as read_fault
use Rattle.wit_script.specs.declared.reader.Reading.{Reading}
use Rattle.wit_script_package.specs.Mention.{mentions_of}
use Rattle.wit_script_package.specs.declared.mention.Mention.{Mention}

-- What the lines of a package mention of other packages, looked at ahead, since what is foreign stands first in a package.

-- what a line mentions, and the lines after it, where it is a line of the package and fits into its file. A line that isn't
-- understood is passed over: it mentions nothing, and those behind it are looked at. (What these mention changes no answer: the
-- script isn't understood at that line at the latest)
abbrev pub mentions_with : ℕ → List ℕ → (ℕ → List Mention) → Option (Option Statement)
    → List Mention
mentions_with at line after None =
    option_map_or (λ span. after (at + length line + 1)) (span_after at line) []
mentions_with at line after (Some None) = after at
mentions_with at line after (Some (Some (says.Line said gate))) =
    option_map_or (λ span. mentions_of said gate span ++ after (at + length line + 1))
    (span_after at line) []
mentions_with at line after (Some (Some _)) = []

-- what lines mention up to the end of the package, or to the first that doesn't fit into its file, which has so many bytes
-- before them
abbrev pub mentions_ahead : ℕ → List (List ℕ) → List Mention
mentions_ahead at [] = []
mentions_ahead at (line ∷ lines) =
    mentions_with at line (λ after. mentions_ahead after lines) (statement_of line)

-- no line is read
abbrev pub new_reading : Reading
new_reading = record { commands = []; finished = []; current = None; other = false }

-- `package PKG`, with what the lines ahead mention; the package before it, if there is one, gets no more lines
abbrev pub with_package : Reading → PackageName → List ℕ → List (List ℕ) → Option Reading
with_package r name line ahead =
    option_map (λ (p : Draft).
    record r { finished = r.finished ++ option_to_list r.current; current = Some p })
    (new_draft name line (mentions_ahead (length line + 1) ahead))

-- a line of the package that gets the lines
abbrev pub with_package_line : Reading → PackageLine → Stability → List ℕ → Option Reading
with_package_line r said gate line =
    option_and_then (λ p.
    option_map (λ (q : Draft). record r { current = Some q }) (with_line p said gate line))
    r.current

-- one more command
abbrev pub with_command : Reading → Request → Reading
with_command r command = record r { commands = r.commands ++ command ∷ [] }

-- groups that are pushed, the first being the main one; no package waits then
abbrev pub with_groups : Reading → List UnresolvedPackageGroup → Option Reading
with_groups r [] = None
with_groups r (main ∷ deps) =
    let pushed = with_command r (request.Change (PushGroups main deps)) in
    Some (record pushed { finished = []; current = None })

-- `push`, after a package or several, whose files fit into source maps
abbrev pub with_push : Reading → Option Reading
with_push r =
    option_and_then (λ p. option_and_then (with_groups r) (each_of as_group (r.finished ++ p ∷ [])))
    r.current

-- another command that can be asked, where no package waits for its `push`; an `other` waits for its `merge` then, or none does
abbrev pub with_request : Reading → Request → Option Reading
with_request r asked =
    if is_some r.current then None
    else option_map (λ other. record (with_command r asked) { other = other })
    (other_after asked r.other)

-- what a line says, before the lines ahead, added where it is understood: nothing for a line that says nothing
abbrev pub after_statement_in : Reading → List ℕ → List (List ℕ) → Option (Option Statement)
    → Option Reading
after_statement_in r line ahead None = None
after_statement_in r line ahead (Some None) = Some r
after_statement_in r line ahead (Some (Some (says.Package name))) = with_package r name line ahead
after_statement_in r line ahead (Some (Some (says.Line said gate))) =
    with_package_line r said gate line
after_statement_in r line ahead (Some (Some says.Push)) = with_push r
after_statement_in r line ahead (Some (Some (says.Request asked))) = with_request r asked

-- a line, before the lines ahead, added
abbrev pub after_line : Reading → List ℕ → List (List ℕ) → Option Reading
after_line r line ahead = after_statement_in r line ahead (statement_of line)

-- lines, one after another
abbrev pub after_lines : Reading → List (List ℕ) → Option Reading
after_lines r [] = Some r
after_lines r (line ∷ lines) =
    option_and_then (λ next. after_lines next lines) (after_line r line lines)

-- what lines say from the first on
abbrev pub reading_of : List (List ℕ) → Option Reading
reading_of lines = after_lines new_reading lines

-- what so many of the lines say, from the first on, where those behind them are known
abbrev pub after_first : Reading → ℕ → List (List ℕ) → Option Reading
after_first r zero lines = Some r
after_first r (suc k) [] = Some r
after_first r (suc k) (line ∷ lines) =
    option_and_then (λ next. after_first next k lines) (after_line r line lines)

-- the same from the first line of all
abbrev pub reading_before : ℕ → List (List ℕ) → Option Reading
reading_before k lines = after_first new_reading k lines

-- no reading comes out, or one with a command that isn't ready
abbrev pub IsBad : Option Reading → Type 0
IsBad None = Unit {0}
IsBad (Some next) = ¬ AreReady next.commands

-- the script is understood and asks this: each line is understood after those before it, the packages that are pushed have
-- their shape, no package waits for its `push`, and no `other` for its `merge`
pub record IsUnderstood (text : List ℕ) (commands : List Request) : Type 0 where
  pub reading : Reading
  pub read : reading_of (lines_of text) ≡ Some reading
  pub asked : reading.commands ≡ commands
  pub ready : AreReady commands
  pub ended : reading.current ≡ None
  pub closed : reading.other ≡ false

-- of these lines this one, counted from 1, isn't understood, and those before it are
pub record IsBadLine (lines : List (List ℕ)) (number : ℕ) : Type 0 where
  pub before : ℕ
  pub reading : Reading
  pub read : reading_before before lines ≡ Some reading
  pub ready : AreReady reading.commands
  pub there : before < length lines
  pub bad : IsBad (reading_before (before + 1) lines)
  pub counted : number ≡ before + 1

-- all lines are understood, but a package waits for its `push` or an `other` for its `merge`; this is the last line that
-- says something
pub record IsLeftOpen (lines : List (List ℕ)) (number : ℕ) : Type 0 where
  pub reading : Reading
  pub read : reading_of lines ≡ Some reading
  pub ready : AreReady reading.commands
  pub waits : IsTrue (is_some reading.current || reading.other)
  pub counted : number ≡ last_statement_line lines

-- the script isn't understood, and this line is named
abbrev pub IsNotUnderstood : List ℕ → ℕ → Type 0
IsNotUnderstood text number = IsBadLine (lines_of text) number ⊎ IsLeftOpen (lines_of text) number

-- why a script isn't read
abbrev pub HasReadFault : List ℕ → ReadFault → Type 0
HasReadFault text (read_fault.NotUnderstood number) = IsNotUnderstood text number
HasReadFault text read_fault.OutOfMemory = Unit {0}
