-- Parts of the definitions under names of their own, for contracts of inner functions and for proofs. Each is what stands
-- in a definition in its place, so none has to be believed.
use Rattle.std.specs.Prelude.{ℕ, Bool, List, Option, Some, None, option_and_then, codes, if◌then◌else◌, option_map, bytes_eq, ◌-◌, length, ◌==◌}
use Rattle.wit_names.specs.declared.package_name.PackageName.{PackageName}
use Rattle.wit_script_lines.specs.Token.{package_name_of, part_of, path_of, alone_of, only_of}
use Rattle.wit_script_lines.specs.declared.request.Request.{Request}
use Rattle.std.specs.List.{suffix_len}
use Rattle.wit_names.specs.declared.use_path.ParsedUsePath.{ParsedUsePath}
use Rattle.wit_script_lines.specs.declared.signature.Signature.{Signature}
use Rattle.wit_script_lines.specs.Line.{tokens_of, is_blank_or_comment_of}
use Rattle.wit_script_lines.specs.declared.statement.Statement.{Statement}
use Rattle.wit_script_lines.specs.Request.{keys_of, track_rule_of, world_in}
use Rattle.wit_script_lines.specs.PackageLine.{signature_of, entry_of}
use Rattle.wit_commands.specs.declared.change.Change.TheVariants as change
use Rattle.wit_script_lines.specs.declared.request.Request.TheVariants as request
use Rattle.wit_script_lines.specs.declared.statement.Statement.TheVariants as says
use Rattle.std.specs.Option.{option_map_or}

-- how many bytes a line has without the spaces at its end
abbrev pub trimmed_len_of : List ℕ → ℕ
trimmed_len_of line = length line - suffix_len (λ b. b == 32) line

abbrev pub is_blank_or_comment : List ℕ → Bool
is_blank_or_comment line = is_blank_or_comment_of (tokens_of line)

-- one name
abbrev pub named_line_of : List (List ℕ) → Option (List ℕ)
named_line_of arguments = only_of part_of arguments

-- one function
abbrev pub signed_line_of : List (List ℕ) → Option Signature
signed_line_of arguments = only_of signature_of arguments

-- a label, where there is one, and a path
abbrev pub entry_by : List ℕ → Option (List ℕ × List ℕ) → Option (Option (List ℕ) × ParsedUsePath)
entry_by token split =
    option_map_or (λ (parts : List ℕ × List ℕ).
    option_and_then (λ label. option_map (λ path. (Some label, path)) (path_of parts.1))
    (part_of parts.0))
    split (option_map (λ path. (None, path)) (path_of token))

-- one entry
abbrev pub entry_tokens : List (List ℕ) → Option (Option (List ℕ) × ParsedUsePath)
entry_tokens arguments = only_of entry_of arguments

-- `NAME`
abbrev pub feature_of : List (List ℕ) → Option Request
feature_of arguments =
    option_map (λ n. request.Change (change.AddFeature n)) (only_of part_of arguments)

-- the rule of tracks of this name
abbrev pub tracks_of : List (List ℕ) → Option Request
tracks_of arguments =
    option_map (λ r. request.Change (change.SetTrackRule r)) (only_of track_rule_of arguments)

-- the new name of `exportize`, where `-` stands for none
abbrev pub new_name_of : List ℕ → Option (List ℕ)
new_name_of token = if bytes_eq token (codes "-") then None else Some token

-- the transformation of a world by these keys, which then has this name
abbrev pub exportize_to : List ℕ → List ℕ → List ℕ → List (List ℕ) → Option Request
exportize_to name world out keys =
    option_map (λ (named : PackageName × List ℕ).
    request.Change (change.Exportize named.0 named.1 (new_name_of out) (keys_of keys)))
    (world_in name world)

-- `package PKG`
abbrev pub package_statement_of : List (List ℕ) → Option Statement
package_statement_of arguments = option_map says.Package (only_of package_name_of arguments)

-- `push`
abbrev pub push_statement_of : List (List ℕ) → Option Statement
push_statement_of arguments = alone_of says.Push arguments
