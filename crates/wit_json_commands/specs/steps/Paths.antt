-- The tokens of the steps of a path, as a writer writes one after another.
use Rattle.std.specs.Prelude.{List, flat_map}
use Rattle.json.specs.Json.{Json}
use Rattle.json.specs.Token.{Token}
use Rattle.json.specs.Tree.{json_tokens}

abbrev pub steps_tokens : List Json → List Token
steps_tokens steps = flat_map json_tokens steps
