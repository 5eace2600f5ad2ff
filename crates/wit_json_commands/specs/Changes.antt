-- What changes of a graph are read from.
use Rattle.std.specs.Prelude.{ℕ, List, [], ◌∷◌, Ok, codes, if◌then◌else◌, bytes_eq}
use Rattle.json.specs.Json.{Json}
use Rattle.wit_json_reading.specs.Features.{read_rule}
use Rattle.wit_json_reading.specs.Groups.{read_group}
use Rattle.wit_json_reading.specs.Packages.{read_package_name}
use Rattle.wit_json_reading.specs.Reading.{Reading, ◌>>=◌, instead_of, read_list, only, read_optional, read_required}
use Rattle.wit_json_reading.specs.Values.{read_boolean, read_text}
use Rattle.wit_json_reading.specs.declared.fault.Expected.TheVariants as expected
use Rattle.wit_commands.specs.declared.change.Change.{Change}
use Rattle.wit_commands.specs.declared.change.Change.TheVariants as change

-- the group whose main package is answered, and those that come with it
unfoldable pub read_push : Json → Reading Change
read_push j = do
  _ ← only (codes "main" ∷ codes "deps" ∷ []) j
  main ← read_required read_group (codes "main") j
  deps ← read_required (read_list read_group) (codes "deps") j
  Ok (change.PushGroups main deps)

unfoldable pub read_importize : Json → Reading Change
read_importize j = do
  _ ← only (codes "package" ∷ codes "world" ∷ codes "out" ∷ []) j
  home ← read_required read_package_name (codes "package") j
  world ← read_required read_text (codes "world") j
  out ← read_optional read_text (codes "out") j
  Ok (change.Importize home world out)

unfoldable pub read_exportize : Json → Reading Change
read_exportize j = do
  _ ← only (codes "package" ∷ codes "world" ∷ codes "out" ∷ codes "keys" ∷ []) j
  home ← read_required read_package_name (codes "package") j
  world ← read_required read_text (codes "world") j
  out ← read_optional read_text (codes "out") j
  keys ← read_optional (read_list read_text) (codes "keys") j
  Ok (change.Exportize home world out keys)

unfoldable pub read_semver : Json → Reading Change
read_semver j = do
  _ ← only (codes "package" ∷ codes "world" ∷ []) j
  home ← read_required read_package_name (codes "package") j
  world ← read_required read_text (codes "world") j
  Ok (change.Semver home world)

-- the change of a name
unfoldable pub read_change_by : List ℕ → Json → Reading Change
read_change_by name j =
    if bytes_eq name (codes "add-feature")
    then (read_text j >>= λ feature. Ok (change.AddFeature feature))
    else if bytes_eq name (codes "set-all-features")
    then (read_boolean j >>= λ all. Ok (change.SetAllFeatures all))
    else if bytes_eq name (codes "set-track-rule")
    then (read_rule j >>= λ rule. Ok (change.SetTrackRule rule))
    else if bytes_eq name (codes "push-groups") then read_push j
    else if bytes_eq name (codes "importize") then read_importize j
    else if bytes_eq name (codes "exportize") then read_exportize j
    else if bytes_eq name (codes "semver") then read_semver j
    else instead_of expected.Command
