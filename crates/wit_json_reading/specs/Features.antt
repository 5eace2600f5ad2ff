-- What features and rules of tracks are read from.
use Rattle.std.specs.Prelude.{ℕ, List, [], ◌∷◌, ◌++◌, Ok, codes, if◌then◌else◌, bytes_eq, fold, Result, Err}
use Rattle.std.specs.List.{list_any}
use Rattle.json.specs.Json.{Json}
use Rattle.json.specs.Json as json
use Rattle.wit_names.specs.declared.track.TrackRule.{TrackRule}
use Rattle.wit_names.specs.declared.track.TrackRule.TheVariants.{Published, WithPrereleases}
use Rattle.wit_graph_data.specs.declared.features.Features.{Features}
use Rattle.wit_json_reading.specs.Reading.{Reading, ◌>>=◌, instead_of, read_list, only, read_required}
use Rattle.wit_json_reading.specs.Values.{read_boolean, read_text}
use Rattle.wit_json_reading.specs.declared.fault.Expected.TheVariants as expected

-- a name behind those that are there, unless it is one of them
abbrev pub names_with : List (List ℕ) → List ℕ → List (List ℕ)
names_with names name = if list_any (bytes_eq name) names then names else names ++ name ∷ []

-- names, of which one that stands twice counts once
unfoldable pub read_names : Json → Reading (List (List ℕ))
read_names j = read_list read_text j >>= λ texts. Ok (fold names_with [] texts)

-- the features that are on: all, or those that are named
unfoldable pub read_features : Json → Reading Features
read_features j = do
  _ ← only (codes "all" ∷ codes "names" ∷ []) j
  all ← read_required read_boolean (codes "all") j
  names ← read_required read_names (codes "names") j
  Ok (record { names = names; all = all })

-- a rule of tracks by its name
unfoldable pub read_rule : Json → Reading TrackRule
read_rule (json.string word) =
    if bytes_eq word (codes "published") then Ok Published
    else if bytes_eq word (codes "with-prereleases") then Ok WithPrereleases
    else instead_of expected.TrackRule
read_rule _ = instead_of expected.Text
