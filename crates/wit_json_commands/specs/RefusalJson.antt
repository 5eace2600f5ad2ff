-- Refusals as JSON.
use Rattle.std.specs.Prelude.{List, [], ◌++◌, codes}
use Rattle.std.specs.Option.{option_map}
use Rattle.json.specs.Json.{Json}
use Rattle.wit_graph_data.specs.declared.error_kind.ResolveErrorKind.{ResolveErrorKind}
use Rattle.wit_graph_data.specs.declared.error_kind.ResolveErrorKind.TheVariants as kind
use Rattle.wit_json.specs.Details.{json_of_span}
use Rattle.wit_json.specs.Graph.{json_of_package_name}
use Rattle.wit_json.specs.Refusals.{json_of_refusal}
use Rattle.wit_json.specs.Unresolved.{json_of_gate}
use Rattle.wit_json.specs.Values.{Member, json_of_number, json_of_text, list_of, member, object, optional}
use Rattle.wit_json_commands.specs.declared.replies.answers.Refusal.{Refusal}
use Rattle.wit_json_commands.specs.declared.replies.file_places.FilePlace.{FilePlace}
use Rattle.wit_json_commands.specs.declared.replies.refusals.WayStep.{WayStep}

-- the fields of an error under their names, but for its span and its cause, which stand beside them
abbrev pub error_fields : ResolveErrorKind → List Member
error_fields (kind.PackageNotFound span requested known) =
    member (codes "requested") (json_of_package_name requested)
    ++ member (codes "known") (list_of json_of_package_name known)
error_fields (kind.WorldNotFound span requested home) =
    member (codes "requested") (json_of_text requested)
    ++ member (codes "package") (json_of_package_name home)
error_fields (kind.InterfaceNotFound span requested home) =
    member (codes "requested") (json_of_text requested)
    ++ member (codes "package") (json_of_package_name home)
error_fields (kind.InvalidTransitiveDependency span name) =
    member (codes "name") (json_of_text name)
error_fields (kind.DuplicatePackage name span1 span2) =
    member (codes "name") (json_of_package_name name)
    ++ member (codes "span1") (json_of_span span1) ++ member (codes "span2") (json_of_span span2)
error_fields (kind.PackageCycle span home) = member (codes "package") (json_of_package_name home)
error_fields (kind.ItemShadowing span item_type name) =
    member (codes "item-type") (json_of_text item_type)
    ++ member (codes "name") (json_of_text name)
error_fields (kind.StabilityMismatch span from into) =
    member (codes "from") (json_of_gate from) ++ member (codes "into") (json_of_gate into)
error_fields (kind.Semantic span message cause) = member (codes "message") (json_of_text message)
error_fields kind.OffsetOverflow = []
error_fields kind.OutOfMemory = []

abbrev pub json_of_fields : ResolveErrorKind → Json
json_of_fields error = object (error_fields error)

-- a file by its path, a line and a column, both from 1
abbrev pub json_of_file_place : FilePlace → Json
json_of_file_place place =
    object (member (codes "path") (json_of_text place.path)
    ++ member (codes "line") (json_of_number place.line)
    ++ member (codes "column") (json_of_number place.column))

-- what leads to what, and where that stands, left out where no line of a file says it
abbrev pub json_of_way_step : WayStep → Json
json_of_way_step step =
    object (member (codes "from") (json_of_text step.from)
    ++ member (codes "to") (json_of_text step.to)
    ++ optional (codes "place") (option_map json_of_file_place step.place))

-- the error, its fields, its places, its way and the nearest known name as data, and the text that shows all of them
abbrev pub json_of_refused : Refusal → Json
json_of_refused refusal =
    object (member (codes "error") (json_of_refusal refusal.error)
    ++ member (codes "fields") (json_of_fields refusal.error)
    ++ member (codes "places") (list_of json_of_file_place refusal.places)
    ++ member (codes "way") (list_of json_of_way_step refusal.way)
    ++ optional (codes "nearest") (option_map json_of_package_name refusal.nearest)
    ++ member (codes "rendered") (json_of_text refusal.rendered))
