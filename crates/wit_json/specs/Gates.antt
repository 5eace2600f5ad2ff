-- Documentation and feature gates as JSON.
use Rattle.std.specs.Prelude.{List, ◌++◌, Option, Some, None, codes, ℕ}
use Rattle.std.specs.Option.{option_map}
use Rattle.json.specs.Json.{Json}
use Rattle.wit_values.specs.Version.{Parts}
use Rattle.wit_data.specs.declared.stability.Docs.{Docs}
use Rattle.wit_data.specs.declared.stability.Stability.{Stability}
use Rattle.wit_data.specs.declared.stability.Stability.TheVariants.{Unknown, Stable, Unstable}
use Rattle.wit_json.specs.Values.{Member, json_of_text, json_of_version, member, object, optional, tagged}

-- from which version on an item is deprecated
abbrev pub deprecated_member : Option Parts → List Member
deprecated_member deprecated = optional (codes "deprecated") (option_map json_of_version deprecated)

-- `{"stable": ..}` or `{"unstable": ..}`, nothing of an item without a gate
abbrev pub json_of_stability : Stability → Option Json
json_of_stability Unknown = None
json_of_stability (Stable since deprecated) =
    Some (tagged (codes "stable")
    (object (member (codes "since") (json_of_version since) ++ deprecated_member deprecated)))
json_of_stability (Unstable feature deprecated) =
    Some (tagged (codes "unstable")
    (object (member (codes "feature") (json_of_text feature) ++ deprecated_member deprecated)))

-- `{"contents": text}`, nothing where there are no docs
abbrev pub docs_member : Docs → List Member
docs_member docs =
    optional (codes "docs")
    (option_map (λ text. tagged (codes "contents") (json_of_text text)) docs.contents)

abbrev pub stability_member : Stability → List Member
stability_member stability = optional (codes "stability") (json_of_stability stability)
