-- What a push adds without its shape, as JSON.
use Rattle.std.specs.Prelude.{ℕ, List, [], ◌∷◌, ◌++◌, Option, None, Some, codes}
use Rattle.json.specs.Json.{Json}
use Rattle.json.specs.Json as json
use Rattle.json.specs.Value.{items_of}
use Rattle.wit_shape.specs.FaultText.{clause_name, clause_text, place_text}
use Rattle.wit_json.specs.Values.{json_of_number, json_of_text, member, object}
use Rattle.wit_json_commands.specs.declared.replies.unshaped.Unshaped.{Unshaped}

-- the main one, or one by its index in a list of this name
abbrev pub steps_to : List ℕ → Option ℕ → List Json
steps_to name None = json_of_text (codes "main") ∷ []
steps_to name (Some i) = json_of_text name ∷ json_of_number i ∷ []

-- the path to a package of a push: to its group, and to it in its group
abbrev pub package_path : Option ℕ → Option ℕ → Json
package_path group «package» =
    json.array (items_of (steps_to (codes "deps") group ++ steps_to (codes "nested") «package»))

-- where the package is, the clause of the shape that is broken, and what breaks it
abbrev pub json_of_unshaped : Unshaped → Json
json_of_unshaped it =
    object (member (codes "path") (package_path it.group it.«package»)
    ++ (member (codes "clause") (json_of_text (clause_name it.fault.clause))
    ++ member (codes "place") (json_of_text (place_text it.fault.place))
    ++ member (codes "text") (json_of_text (clause_text it.fault.clause))))
