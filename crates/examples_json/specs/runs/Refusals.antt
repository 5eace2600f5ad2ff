-- Refusals as data.
use Rattle.std.specs.Prelude.{◌≡◌, ◌≢◌, ℕ, List, [], ◌∷◌, ◌++◌, Option, Some, None, codes, filter_map}
use Rattle.wit_data.specs.declared.stability.Stability.TheVariants.{Stable, Unknown, Unstable}
use Rattle.wit_graph_data.specs.declared.cause.Cause.TheVariants as cause
use Rattle.wit_graph_data.specs.declared.error_kind.ResolveErrorKind.{ResolveErrorKind}
use Rattle.wit_graph_data.specs.declared.error_kind.ResolveErrorKind.TheVariants as kind
use Rattle.wit_names.specs.declared.package_name.PackageName.{PackageName}
use Rattle.wit_json.specs.Graph.{compact}
use Rattle.wit_json_commands.specs.FilePlaces.{file_place}
use Rattle.wit_json_commands.specs.Nearest.{nearest_known}
use Rattle.wit_json_commands.specs.RefusalJson.{json_of_fields, json_of_file_place, json_of_refused, json_of_way_step}
use Rattle.wit_json_commands.specs.Refusals.{error_spans, way_step}
use Rattle.wit_json_commands.specs.declared.replies.answers.Refusal.{Refusal}
use Rattle.wit_json_commands.specs.declared.replies.file_places.FilePlace.{FilePlace}
use Rattle.wit_json_commands.specs.declared.replies.refusals.WayStep.{WayStep}
use Rattle.wit_ways.specs.declared.arrow.Arrow.{Arrow}
use Rattle.examples_json.specs.runs.Answers.{a_name, one_file, two_lines, with_world}

abbrev pub other_name : PackageName
other_name = record a_name { version = Some (1, 0, 0, [], []) }

-- a:c, b:b and c:d; and the nearest of some names to a:b
abbrev pub near_name : PackageName
near_name = record a_name { name = codes "c" }

abbrev pub as_near_name : PackageName
as_near_name = record a_name { namespace = codes "b" }

abbrev pub far_name : PackageName
far_name = record near_name { namespace = codes "c"; name = codes "d" }

abbrev pub nearest_to_it : List PackageName → Option PackageName
nearest_to_it known = nearest_known (kind.PackageNotFound None a_name known)

abbrev pub fields_text : ResolveErrorKind → List ℕ
fields_text error = compact (json_of_fields error)

-- the second line of the first file, and the second character of the other one
abbrev pub second_line : FilePlace
second_line = record { path = codes "f"; line = 2; column = 1 }

abbrev pub second_character : FilePlace
second_character = record { path = codes "g"; line = 1; column = 2 }

abbrev pub places_of : ResolveErrorKind → List FilePlace
places_of error = filter_map (file_place two_lines.files) (error_spans with_world error)

abbrev pub a_step : Option FilePlace → WayStep
a_step place = record { from = codes "a:b"; to = codes "c:d"; place = place }

abbrev pub an_arrow : Option (ℕ × ℕ) → Arrow
an_arrow span = record { from = codes "a:b"; to = codes "c:d"; span = span }

abbrev pub a_refusal : Refusal
a_refusal = record {
  error = kind.PackageCycle (Some (20, 21)) a_name;
  places = second_character ∷ [];
  way = a_step None ∷ [];
  nearest = Some other_name;
  rendered = codes "shown";
}

pub record ExamplesOfRefusedData : Type 0 where
  -- each error's own fields, by their names
  pub known : fields_text (kind.PackageNotFound None a_name (other_name ∷ a_name ∷ []))
      ≡ codes "{\"requested\":\"a:b\",\"known\":[\"a:b@1.0.0\",\"a:b\"]}"
  pub not_sorted : fields_text (kind.PackageNotFound None a_name (other_name ∷ a_name ∷ []))
      ≢ codes "{\"requested\":\"a:b\",\"known\":[\"a:b\",\"a:b@1.0.0\"]}"
  pub world : fields_text (kind.WorldNotFound (Some (1, 2)) (codes "w") a_name)
      ≡ codes "{\"requested\":\"w\",\"package\":\"a:b\"}"
  pub no_span : fields_text (kind.WorldNotFound (Some (1, 2)) (codes "w") a_name)
      ≢ codes "{\"span\":[1,2],\"requested\":\"w\",\"package\":\"a:b\"}"
  pub interface : fields_text (kind.InterfaceNotFound None (codes "i") other_name)
      ≡ codes "{\"requested\":\"i\",\"package\":\"a:b@1.0.0\"}"
  pub conflict : fields_text (kind.InvalidTransitiveDependency None (codes "a:b/i"))
      ≡ codes "{\"name\":\"a:b/i\"}"
  pub twice : fields_text (kind.DuplicatePackage a_name (Some (20, 21)) None)
      ≡ codes "{\"name\":\"a:b\",\"span1\":[20,21],\"span2\":null}"
  pub cycle : fields_text (kind.PackageCycle None a_name) ≡ codes "{\"package\":\"a:b\"}"
  pub shadowing : fields_text (kind.ItemShadowing None (codes "import") (codes "f"))
      ≡ codes "{\"item-type\":\"import\",\"name\":\"f\"}"
  pub gates : fields_text
      (kind.StabilityMismatch None Unknown (Unstable (codes "f") (Some (1, 2, 0, [], []))))
      ≡ codes "{\"from\":null,\"into\":{\"unstable\":{\"feature\":\"f\",\"deprecated\":\"1.2.0\"}}}"
  pub not_turned : fields_text (kind.StabilityMismatch None Unknown (Stable (1, 0, 0, [], []) None))
      ≢ codes "{\"from\":{\"stable\":{\"since\":\"1.0.0\"}},\"into\":null}"
  pub message : fields_text (kind.Semantic None (codes "no") cause.TypeCycle)
      ≡ codes "{\"message\":\"no\"}"
  pub no_field : fields_text kind.OffsetOverflow ≡ codes "{}"
  -- the nearest known name: of three characters one may differ; versions count last; of two at one distance the first counts
  pub near : nearest_to_it (far_name ∷ near_name ∷ []) ≡ Some near_name
  pub none_near : nearest_to_it (far_name ∷ []) ≡ None
  pub version_last : nearest_to_it (near_name ∷ other_name ∷ []) ≡ Some other_name
  pub first_of_two : nearest_to_it (as_near_name ∷ near_name ∷ []) ≡ Some as_near_name
  pub not_the_last : nearest_to_it (as_near_name ∷ near_name ∷ []) ≢ Some near_name
  pub not_of_a_cycle : nearest_known (kind.PackageCycle None a_name) ≡ None
  -- where spans begin: in a file, at its end, in none
  pub there : file_place two_lines.files (Some (12, 17)) ≡ Some second_line
  pub in_the_other : file_place two_lines.files (Some (20, 21)) ≡ Some second_character
  pub not_from_zero : file_place two_lines.files (Some (20, 21))
      ≢ Some (record { path = codes "g"; line = 0; column = 1 })
  pub at_the_end : file_place one_file.files (Some (17, 17))
      ≡ Some (record { path = codes "f"; line = 2; column = 6 })
  pub past_the_end : file_place one_file.files (Some (18, 19)) ≡ None
  pub nowhere : file_place two_lines.files None ≡ None
  -- of a package that is defined twice both places, the other one by the graph; of what is in no file none
  pub both : places_of (kind.DuplicatePackage a_name (Some (20, 21)) None)
      ≡ second_character ∷ second_line ∷ []
  pub one : places_of (kind.PackageCycle (Some (12, 17)) a_name) ≡ second_line ∷ []
  pub none : places_of (kind.PackageCycle (Some (30, 31)) a_name) ≡ []
  -- the steps of a way, with their places where they have some
  pub step : way_step two_lines.files (an_arrow (Some (12, 17))) ≡ a_step (Some second_line)
  pub unplaced : way_step two_lines.files (an_arrow None) ≡ a_step None
  -- as texts
  pub place_text : compact (json_of_file_place second_character)
      ≡ codes "{\"path\":\"g\",\"line\":1,\"column\":2}"
  pub step_text : compact (json_of_way_step (a_step (Some second_line)))
      ≡ codes "{\"from\":\"a:b\",\"to\":\"c:d\","
      ++ codes "\"place\":{\"path\":\"f\",\"line\":2,\"column\":1}}"
  pub no_null : compact (json_of_way_step (a_step None))
      ≢ codes "{\"from\":\"a:b\",\"to\":\"c:d\",\"place\":null}"
  pub whole : compact (json_of_refused a_refusal)
      ≡ codes "{\"error\":{\"number\":6,\"cause\":\"package-cycle\","
      ++ codes "\"text\":\"package `a:b` creates a dependency cycle\",\"span\":[20,21]},"
      ++ codes "\"fields\":{\"package\":\"a:b\"},"
      ++ codes "\"places\":[{\"path\":\"g\",\"line\":1,\"column\":2}],"
      ++ codes "\"way\":[{\"from\":\"a:b\",\"to\":\"c:d\"}],"
      ++ codes "\"nearest\":\"a:b@1.0.0\",\"rendered\":\"shown\"}"
