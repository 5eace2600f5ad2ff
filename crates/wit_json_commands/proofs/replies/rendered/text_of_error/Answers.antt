use Rattle.std.proofs.Common.{◌≡◌, ◌∙◌, ◌++◌, ℕ, List, ap, string_bytes, rules, codes, decimal}
use Rattle.std.specs.List.{flat_map}
use Rattle.wit_graph_data.specs.Error.{error_number}
use Rattle.wit_graph_data.specs.ErrorText.{kind_text}
use Rattle.wit_json_commands.specs.Refusals.{place_lines, way_lines}
use Rattle.wit_json_commands.proofs.replies.rendered.text_of_error.Goals as goal

-- what was asked, and the number, on lines of their own
abbrev asked_text : List ℕ → ℕ → List ℕ
asked_text asked number = codes "\n      = " ++ (asked ++ (codes "\n      = " ++ (decimal number ++ codes " in docs/REFUSALS.md")))

pub returns : goal.returns
returns c =
    let error = c.args.error.now in
    let text_with : List ℕ → List ℕ → ℕ → List ℕ = λ places shown number. kind_text error ++ (places ++ (shown ++ asked_text c.args.asked.now number)) in
    let files = c.args.files.now.files in
    let places_are = flat_map (place_lines files) c.args.spans.now in
    let places : string_bytes c.in_ok-places.places ≡ places_are = c.in_ok-places.ensures in
    let shown : string_bytes c.in_ok-shown.shown ≡ way_lines files c.args.way.now = c.in_ok-shown.ensures in
    let number : c.number-number.result ≡ error_number error = search rules in
    let text : string_bytes c.in_ok-text.text ≡ text_with (string_bytes c.in_ok-places.places) (string_bytes c.in_ok-shown.shown) c.number-number.result = c.in_ok-text.ensures.ok in
    c.from_string.ensures ∙ text ∙ ap (λ (t : List ℕ). text_with t (string_bytes c.in_ok-shown.shown) c.number-number.result) places
    ∙ ap (λ (t : List ℕ). text_with places_are t c.number-number.result) shown ∙ ap (λ (n : ℕ). text_with places_are (way_lines files c.args.way.now) n) number
