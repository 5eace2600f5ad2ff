-- What source maps and groups of packages are read from.
use Rattle.std.specs.Prelude.{ℕ, ◌^◌, List, [], ◌∷◌, length, Ok, codes, if◌then◌else◌, nat_lt, Result, Err}
use Rattle.json.specs.Json.{Items, Json}
use Rattle.json.specs.Json as json
use Rattle.wit_sources.specs.SourceMap.{Sources, end_after, with_file}
use Rattle.wit_data.specs.declared.unresolved.UnresolvedPackageGroup.{UnresolvedPackageGroup}
use Rattle.wit_json_reading.specs.Packages.{read_package}
use Rattle.wit_json_reading.specs.Reading.{Reading, ◌>>=◌, instead_of, read_list, only, read_required, under}
use Rattle.wit_json_reading.specs.Values.{read_text}
use Rattle.wit_json_reading.specs.declared.fault.Expected.TheVariants as expected
use Rattle.wit_json_reading.specs.declared.fault.Step.TheVariants as step

-- a path and a text
unfoldable pub read_source : Json → Reading (List ℕ × List ℕ)
read_source j = do
  _ ← only (codes "path" ∷ codes "text" ∷ []) j
  path ← read_required read_text (codes "path") j
  text ← read_required read_text (codes "text") j
  Ok (path, text)

-- the sources with one more file at their end, which is below 2 ^ 32
abbrev pub with_source : Sources → List ℕ × List ℕ → Reading Sources
with_source sources file =
    if nat_lt (end_after sources.end file.1) (2 ^ 32) then Ok (with_file sources file.0 file.1)
    else instead_of expected.Source

-- the files of items, behind those that are there
abbrev pub sources_from : Sources → Items → Reading Sources
sources_from sources json.no_items = Ok sources
sources_from sources (json.item j js) =
    under (step.Item (length sources.files)) (read_source j >>= λ file. with_source sources file)
    >>= λ more. sources_from more js

-- files in a row, from position 0 on
abbrev pub read_sources : Json → Reading Sources
read_sources (json.array js) = sources_from (record { files = []; end = 0 }) js
read_sources _ = instead_of expected.List

-- packages, and the files in which their spans are positions
unfoldable pub read_group : Json → Reading UnresolvedPackageGroup
read_group j = do
  _ ← only (codes "main" ∷ codes "nested" ∷ codes "sources" ∷ []) j
  main ← read_required read_package (codes "main") j
  nested ← read_required (read_list read_package) (codes "nested") j
  sources ← read_required read_sources (codes "sources") j
  Ok (record { main = main; nested = nested; source_map = sources })
