-- Words of inner contracts and proofs, beside `Mention`.
use Rattle.std.specs.Prelude.{◌≡◌, ℕ, ◌||◌, codes, Bool, List, [], Option, Some, None, bytes_eq}
use Rattle.wit_script_lines.specs.declared.statement.Statement.{Statement}
use Rattle.wit_script_lines.specs.declared.statement.Statement.TheVariants as line
use Rattle.wit_script_package.specs.Naming.{OptionalSpan}
use Rattle.wit_script_package.specs.Mention.{mentions_of}

-- a first token of lines of a package without a path
abbrev pub takes_no_path : List ℕ → Bool
takes_no_path word =
    bytes_eq word (codes "interface")
    || (bytes_eq word (codes "world")
    || (bytes_eq word (codes "type") || (bytes_eq word (codes "record")
    || (bytes_eq word (codes "resource")
    || (bytes_eq word (codes "func")
    || (bytes_eq word (codes "import-func") || bytes_eq word (codes "export-func")))))))

-- a first token of lines of a package with a path
abbrev pub takes_path : List ℕ → Bool
takes_path word =
    bytes_eq word (codes "use")
    || (bytes_eq word (codes "import")
    || (bytes_eq word (codes "export") || bytes_eq word (codes "include")))

-- what a line says, where it is understood, is a line of the package that mentions nothing
abbrev pub MentionsNothing : Option (Option Statement) → Type 0
MentionsNothing None = Unit {0}
MentionsNothing (Some None) = ⊥
MentionsNothing (Some (Some (line.Package name))) = ⊥
MentionsNothing (Some (Some (line.Line said gate))) =
    (span : OptionalSpan) → mentions_of said gate span ≡ []
MentionsNothing (Some (Some line.Push)) = ⊥
MentionsNothing (Some (Some (line.Request asked))) = ⊥
