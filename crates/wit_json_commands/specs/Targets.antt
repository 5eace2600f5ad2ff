-- What the names of a command lead to, as its answer tells it.
use Rattle.std.specs.Prelude.{ℕ, not, List, [], Option, None, bytes_eq, filter, map, slice_get, unwrap_or}
use Rattle.std.specs.List.{list_any}
use Rattle.std.specs.Option.{option_map_or}
use Rattle.wit_names.specs.declared.package_name.PackageName.{PackageName}
use Rattle.wit_data.specs.Entries.{Entry}
use Rattle.wit_data.specs.declared.world.World.{World}
use Rattle.wit_graph_data.specs.IdText.{key_text}
use Rattle.wit_graph_data.specs.Named.{package_named, world_in}
use Rattle.wit_graph_data.specs.declared.graph.Graph.{Graph}
use Rattle.wit_resolve_graph.specs.declared.command.Command.{Command}
use Rattle.wit_resolve_graph.specs.declared.command.Command.TheVariants as command
use Rattle.wit_json_commands.specs.declared.replies.answers.Answer.{Answer}
use Rattle.wit_json_commands.specs.declared.replies.answers.Answer.TheVariants as answer
use Rattle.wit_json_commands.specs.declared.runs.targets.Target.{Target}
use Rattle.wit_json_commands.specs.declared.runs.targets.Target.TheVariants as target

-- what names the keys of the imports of world w
abbrev pub import_key_texts : Graph → ℕ → List (List ℕ)
import_key_texts g w =
    option_map_or (λ (world : World).
    map (λ (e : Entry). key_text g.packages g.interfaces e.0) world.imports)
    (slice_get g.worlds w) []

-- those of some keys that aren't among others
abbrev pub keys_not_among : List (List ℕ) → List (List ℕ) → List (List ℕ)
keys_not_among others keys = filter (λ key. not (list_any (bytes_eq key) others)) keys

-- the world of a name in the package of a name, and which of the keys that are listed none of its imports has
abbrev pub world_target : Graph → PackageName → List ℕ → Option (List (List ℕ)) → Target
world_target g home name keys =
    option_map_or (λ p.
    option_map_or
    (λ w. target.World w (keys_not_among (import_key_texts g w) (unwrap_or keys [])))
    (world_in g name p) target.NoWorld)
    (package_named g home) target.NoPackage

abbrev pub target_of : Graph → Command → Target
target_of g (command.Importize home world out) = world_target g home world None
target_of g (command.Exportize home world out keys) = world_target g home world keys
target_of g (command.Semver home world) = world_target g home world None
target_of g _ = target.Graph

-- the answer to a command that is carried out
abbrev pub done_answer : Target → Answer
done_answer (target.World w unmatched) = answer.ChangedWorld w unmatched
done_answer _ = answer.Done

-- the answer to one whose world isn't there
abbrev pub missing_answer : Target → Answer
missing_answer target.NoPackage = answer.NoPackage
missing_answer _ = answer.NoWorld
