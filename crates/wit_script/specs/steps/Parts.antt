-- Parts of definitions of `Script`, each under a name.
use Rattle.std.specs.Prelude.{ℕ, Bool, List, ◌++◌, Option, Some, option_to_list, ◌≡◌, codes, ◌⊎◌, [], ◌∷◌, Result, slice_get, MatchOption, flat_map}
use Rattle.wit_script_lines.specs.declared.request.Request.{Request}
use Rattle.wit_script_lines.specs.declared.statement.Statement.{Statement}
use Rattle.wit_script_package.specs.declared.draft.Draft.{Draft}
use Rattle.wit_script.specs.Script.{after_statement_in, with_command, mentions_with}
use Rattle.wit_script.specs.declared.reader.Reading.{Reading}
use Rattle.std.specs.Option.{option_map_or}
use Rattle.wit_graph_data.specs.declared.graph.Graph.{Graph}
use Rattle.wit_graph_data.specs.declared.graph.Package.{Package}
use Rattle.wit_graph_data.specs.declared.error_kind.ResolveErrorKind.{ResolveErrorKind}
use Rattle.wit_graph_data.specs.declared.error_kind.ResolveErrorKind.TheVariants.{OutOfMemory}
use Rattle.wit_names.specs.PackageName.{package_name_text}
use Rattle.wit_names.specs.declared.package_name.PackageName.{PackageName}
use Rattle.wit_queries.specs.Selection.{IsSelection}
use Rattle.wit_graph_data.specs.Named.{package_named, world_named}
use Rattle.wit_script.specs.World.{world_id_text_at, world_text_at, entry_line, world_id_text, entry_text}
use Rattle.wit_script_package.specs.Naming.{OptionalSpan}
use Rattle.wit_script_package.specs.declared.mention.Mention.{Mention}
use Rattle.wit_data.specs.declared.world.World.{World}
use Rattle.wit_data.specs.declared.world.WorldItem.{WorldItem}
use Rattle.wit_script.specs.Answer.{refusal_text, choice_text}
use Rattle.wit_data.specs.declared.world.WorldKey.TheVariants as key

-- of `with_package`: the package that begins
abbrev pub with_begun : Reading → Draft → Reading
with_begun r p = record r { finished = r.finished ++ option_to_list r.current; current = Some p }

-- of `with_package_line`: the package that gets the lines
abbrev pub with_current : Reading → Draft → Reading
with_current r p = record r { current = Some p }

-- of `with_request`: the command, after which an `other` waits for its `merge` or none does
abbrev pub with_asked : Reading → Request → Bool → Reading
with_asked r asked other = record (with_command r asked) { other = other }

-- of `after_statement_in`: a line that says something
abbrev pub with_statement : Reading → Statement → List ℕ → List (List ℕ) → Option Reading
with_statement r said line ahead = after_statement_in r line ahead (Some (Some said))

-- `pushed PKG`
abbrev pub pushed_text : Graph → ℕ → List ℕ
pushed_text g id =
    option_map_or (λ (p : Package). codes "pushed " ++ (package_name_text p.name ++ codes "\n"))
    (slice_get g.packages id) []

-- `selected ID`
abbrev pub selected_text : Graph → ℕ → List ℕ
selected_text g id = codes "selected " ++ (world_id_text_at g id ++ codes "\n")

-- `print`: the world, or want of memory; `no world` where it isn't there
abbrev pub AnswersPrint : Graph → PackageName → List ℕ → List ℕ → Type 0
AnswersPrint g owner world text =
    MatchOption (world_named g owner world) (text ≡ codes "no world\n")
    (λ id. (text ≡ world_text_at g id) ⊎ (text ≡ refusal_text OutOfMemory))

-- `select`: what `select_world` chooses of a package, or says, or want of memory; `no package` where the package isn't there
abbrev pub AnswersSelect : Graph → PackageName → Option (List ℕ) → List ℕ → Type 0
AnswersSelect g owner said text =
    MatchOption (package_named g owner) (text ≡ codes "no package\n")
    (λ id. (choice : Result ℕ ResolveErrorKind) × IsSelection g (id ∷ []) said choice
    × (text ≡ choice_text g choice))

-- what a line mentions that says something, and the lines after it
abbrev pub mentions_by : ℕ → List ℕ → (ℕ → List Mention) → Statement → List Mention
mentions_by at line after said = mentions_with at line after (Some (Some said))

-- what the lines after one mention that itself mentions nothing, where it fits into the file
abbrev pub mentions_past : ℕ → (ℕ → List Mention) → Option OptionalSpan → List Mention
mentions_past next after fits = option_map_or (λ span. after next) fits []

-- an entry under a label
abbrev pub labelled_text : Graph → List ℕ → WorldItem → List ℕ
labelled_text g label entry = entry_text g (key.Name label) entry

-- the lines of a world: its id text, its imports, its exports
abbrev pub world_text : Graph → World → List ℕ
world_text g world =
    codes "world " ++ (world_id_text g world ++ (codes "\n" ++
    (flat_map (entry_line g (codes "import")) world.imports
    ++ flat_map (entry_line g (codes "export")) world.exports)))
