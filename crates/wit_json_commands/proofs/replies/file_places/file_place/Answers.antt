use Rattle.std.proofs.Common.{◌∙◌, List, ℕ, Option, Some, option_map, ap, sym}
use Rattle.wit_json_commands.specs.declared.replies.file_places.FilePlace.{FilePlace}
use Rattle.wit_json_commands.proofs.replies.file_places.file_place.Goals as goal

abbrev file_place_of : List ℕ × ℕ × ℕ → FilePlace
file_place_of it = record { path = it.0; line = it.1; column = it.2 }

pub returns-in_ok-path-in-Some : goal.returns-in_ok-path-in-Some
returns-in_ok-path-in-Some c =
    let with_path : List ℕ → Option FilePlace = λ path. Some (file_place_of (path, c.in-Some.location.line, c.in-Some.location.column)) in
    ap with_path c.in_ok-path-in-Some.ensures ∙ ap (option_map file_place_of) (ap (option_map (λ l. (l.path.now, l.line, l.column))) (sym c.in-Some.is) ∙ c.location.ensures)

pub returns-in-None : goal.returns-in-None
returns-in-None c = ap (option_map file_place_of) (ap (option_map (λ l. (l.path.now, l.line, l.column))) (sym c.in-None.is) ∙ c.location.ensures)
