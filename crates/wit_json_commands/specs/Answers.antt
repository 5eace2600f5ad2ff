-- Answers to commands as JSON.
use Rattle.std.specs.Prelude.{ℕ, List, [], ◌∷◌, ◌++◌, codes}
use Rattle.json.specs.Json.{Json}
use Rattle.wit_json.specs.Values.{Member, json_of_number, json_of_text, list_of, member, object, tagged}
use Rattle.wit_json_commands.specs.CoreNamesJson.{json_of_core_names}
use Rattle.wit_json_commands.specs.RefusalJson.{json_of_refused}
use Rattle.wit_json_commands.specs.Remaps.{json_of_remap}
use Rattle.wit_json_commands.specs.UnshapedJson.{json_of_unshaped}
use Rattle.wit_json_commands.specs.declared.replies.answers.Answer.{Answer}
use Rattle.wit_json_commands.specs.declared.replies.answers.Answer.TheVariants as answer
use Rattle.wit_json_commands.specs.declared.replies.answers.Response.{Response}
use Rattle.wit_json_commands.specs.declared.replies.answers.Response.TheVariants as response

-- the keys that no import had, left out where each was one's
abbrev pub unmatched_member : List (List ℕ) → List Member
unmatched_member [] = []
unmatched_member (key ∷ keys) =
    member (codes "unmatched") (list_of json_of_text (key ∷ keys))

-- the answer to a change or a question: a word, or what is answered under a word
abbrev pub json_of_answer : Answer → Json
json_of_answer answer.Done = json_of_text (codes "done")
json_of_answer (answer.ChangedWorld world unmatched) =
    tagged (codes "done")
    (object (member (codes "world") (json_of_number world) ++ unmatched_member unmatched))
json_of_answer (answer.Pushed id) = tagged (codes "pushed") (json_of_number id)
json_of_answer (answer.Merged remap) = tagged (codes "merged") (json_of_remap remap)
json_of_answer answer.NoPackage = json_of_text (codes "no-package")
json_of_answer answer.NoWorld = json_of_text (codes "no-world")
json_of_answer (answer.NotShaped it) = tagged (codes "not-shaped") (json_of_unshaped it)
json_of_answer answer.NotFound = json_of_text (codes "not-found")
json_of_answer (answer.Refused refusal) = tagged (codes "refused") (json_of_refused refusal)
json_of_answer (answer.World id) = tagged (codes "world") (json_of_number id)
json_of_answer (answer.Packages ids) = tagged (codes "packages") (list_of json_of_number ids)
json_of_answer (answer.Interfaces ids) = tagged (codes "interfaces") (list_of json_of_number ids)
json_of_answer (answer.Types ids) = tagged (codes "types") (list_of json_of_number ids)
json_of_answer (answer.Text text) = tagged (codes "text") (json_of_text text)
json_of_answer (answer.CoreNames names) = tagged (codes "core-names") (json_of_core_names names)

-- the answer to what is asked of a graph; of a merge the answers to what made the other graph, and to its merge
abbrev pub json_of_response : Response → Json
json_of_response (response.Answer it) = json_of_answer it
json_of_response (response.Merge replies reply) =
    tagged (codes "merge")
    (object (member (codes "replies") (list_of json_of_answer replies)
    ++ member (codes "reply") (json_of_answer reply)))
