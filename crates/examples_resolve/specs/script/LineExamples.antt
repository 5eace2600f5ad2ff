-- What lines say by their tokens alone: lines that say something, and near misses that aren't understood.
use Rattle.std.specs.Prelude.{◌≡◌, ℕ, List, [], ◌∷◌, Some, None, codes}
use Rattle.wit_names.specs.declared.package_name.PackageName.{PackageName}
use Rattle.wit_data.specs.declared.stability.Stability.TheVariants.{Unknown, Unstable}
use Rattle.wit_names.specs.declared.use_path.ParsedUsePath.TheVariants as path
use Rattle.wit_script_lines.specs.Statement.{statement_of}
use Rattle.wit_script_lines.specs.declared.package_line.PackageLine.TheVariants as line
use Rattle.wit_commands.specs.declared.change.Change.TheVariants as change
use Rattle.wit_script_lines.specs.declared.request.Request.TheVariants as request
use Rattle.wit_names.specs.declared.track.TrackRule.TheVariants as rule
use Rattle.wit_script_lines.specs.declared.statement.Statement.{Statement}
use Rattle.wit_script_lines.specs.declared.statement.Statement.TheVariants as says
use Rattle.wit_script_lines.specs.declared.type_text.TypeText.{TypeText}
use Rattle.wit_script_lines.specs.declared.type_text.Wrap.TheVariants as wrap
use Rattle.wit_script_lines.specs.declared.type_text.Written.TheVariants as written

-- a package of this namespace and name
abbrev pub package_of : List ℕ → List ℕ → PackageName
package_of namespace name = record { namespace = namespace; name = name; version = None }

abbrev pub a_b : PackageName
a_b = package_of (codes "a") (codes "b")

-- a line that says this
abbrev pub Says : List ℕ → Statement → Type 0
Says text said = statement_of text ≡ Some (Some said)

-- a line that isn't understood, wherever it stands
abbrev pub IsNeverUnderstood : List ℕ → Type 0
IsNeverUnderstood text = statement_of text ≡ None

-- a type by its name
abbrev pub named : List ℕ → TypeText
named name = record { wraps = []; core = written.Named name }

pub record ExamplesOfLines : Type 0 where
  pub nothing : statement_of (codes "   ") ≡ Some None
  pub comment : statement_of (codes "  # push") ≡ Some None
  pub package_line : Says (codes " package  a:b ") (says.Package a_b)
  pub gated : Says (codes "interface i @unstable=f")
      (says.Line (line.Interface (codes "i")) (Unstable (codes "f") None))
  pub world_line : Says (codes "world w") (says.Line (line.World (codes "w")) Unknown)
  pub type_line : Says (codes "type l list<option<own<r>>>")
      (says.Line (line.Type_ (codes "l")
      (record { wraps = wrap.List ∷ wrap.Option ∷ []; core = written.Own (codes "r") }))
      Unknown)
  pub plain_future : Says (codes "type f future")
      (says.Line (line.Type_ (codes "f") (record { wraps = []; core = written.Future })) Unknown)
  pub record_line : Says (codes "record r a:u32 b:l")
      (says.Line (line.Record (codes "r") (record { name = codes "a"; ty = named (codes "u32") }
      ∷ record { name = codes "b"; ty = named (codes "l") } ∷ [])) Unknown)
  pub resource_line : Says (codes "resource r") (says.Line (line.Resource (codes "r")) Unknown)
  pub use_own : Says (codes "use i t")
      (says.Line (line.Use (path.Name (codes "i")) (codes "t") (codes "t")) Unknown)
  pub use_foreign : Says (codes "use c:d/e t u")
      (says.Line (line.Use (path.Package (package_of (codes "c") (codes "d")) (codes "e"))
      (codes "t") (codes "u")) Unknown)
  pub func_line : Says (codes "func f(x:u32,y:l)->l")
      (says.Line (line.Function (record {
        name = codes "f";
        params =
            record { name = codes "x"; ty = named (codes "u32") }
            ∷ record { name = codes "y"; ty = named (codes "l") } ∷ [];
        answer = Some (named (codes "l"));
      }))
      Unknown)
  pub import_label : Says (codes "import lab=i")
      (says.Line (line.Import (Some (codes "lab")) (path.Name (codes "i"))) Unknown)
  -- a path without a colon is a name of the same package
  pub import_slash : Says (codes "import a/b")
      (says.Line (line.Import None (path.Name (codes "a/b"))) Unknown)
  pub export_line : Says (codes "export i")
      (says.Line (line.Export None (path.Name (codes "i"))) Unknown)
  pub import_func : Says (codes "import-func f()") (says.Line
      (line.ImportFunction (record { name = codes "f"; params = []; answer = None })) Unknown)
  pub include_line : Says (codes "include w a=b") (says.Line (line.Include (path.Name (codes "w"))
      (record { name = codes "a"; as_ = codes "b" } ∷ [])) Unknown)
  pub push_line : Says (codes "push") says.Push
  pub feature_line : Says (codes "feature f")
      (says.Request (request.Change (change.AddFeature (codes "f"))))
  pub tracks_line : Says (codes "tracks with-prereleases")
      (says.Request (request.Change (change.SetTrackRule rule.WithPrereleases)))
  pub importize_line : Says (codes "importize a:b w -")
      (says.Request (request.Change (change.Importize a_b (codes "w") (Some (codes "-")))))
  pub exportize_line : Says (codes "exportize a:b w - k") (says.Request
      (request.Change (change.Exportize a_b (codes "w") None (Some (codes "k" ∷ [])))))
  pub exportize_all : Says (codes "exportize a:b w x")
      (says.Request (request.Change (change.Exportize a_b (codes "w") (Some (codes "x")) None)))
  pub semver_line : Says (codes "semver a:b w")
      (says.Request (request.Change (change.Semver a_b (codes "w"))))
  pub select_line : Says (codes "select a:b") (says.Request (request.Select a_b None))
  -- an unknown word, a word too many
  pub no_word : IsNeverUnderstood (codes "interfaces i")
  pub two_names : IsNeverUnderstood (codes "interface i j")
  -- an empty part
  pub no_namespace : IsNeverUnderstood (codes "package :b")
  pub no_package_name : IsNeverUnderstood (codes "package a:")
  pub print_no_namespace : IsNeverUnderstood (codes "print :b w")
  pub select_no_namespace : IsNeverUnderstood (codes "select :b")
  pub no_feature : IsNeverUnderstood (codes "interface i @unstable=")
  pub no_label : IsNeverUnderstood (codes "import =i")
  pub no_path : IsNeverUnderstood (codes "import lab=")
  pub no_field_name : IsNeverUnderstood (codes "record r :u8")
  pub no_parameter_name : IsNeverUnderstood (codes "func f(:u8)")
  pub no_function_name : IsNeverUnderstood (codes "func ()")
  pub no_new_name : IsNeverUnderstood (codes "include v x=")
  pub no_old_name : IsNeverUnderstood (codes "include v =x")
  -- no field, no type of a parameter, an interface that is no kebab name, a rule that isn't one
  pub no_field : IsNeverUnderstood (codes "record r")
  pub no_type : IsNeverUnderstood (codes "func f(x)")
  pub no_kebab : IsNeverUnderstood (codes "use c:d/e_f t")
  pub no_rule : IsNeverUnderstood (codes "tracks none")
