-- What stands above a thing, each on a line of its own behind an indent (its documentation, its gate, its
-- external id), and the braces around what stands in it.
use Rattle.std.specs.Prelude.{ℕ, ◌==◌, List, [], ◌++◌, Option, codes, flat_map, length, if◌then◌else◌}
use Rattle.std.specs.List.{slice_split}
use Rattle.std.specs.Option.{option_map_or}
use Rattle.semver.specs.Identifiers.{parts_text}
use Rattle.wit_data.specs.declared.stability.Docs.{Docs}
use Rattle.wit_data.specs.declared.stability.Stability.{Stability}
use Rattle.wit_data.specs.declared.stability.Stability.TheVariants.{Unknown, Stable, Unstable}
use Rattle.wit_values.specs.Version.{Parts}
use Rattle.wit_print.specs.Names.{name_wit}

-- a line of documentation
abbrev pub doc_line : List ℕ → List ℕ → List ℕ
doc_line indent line =
    if length line == 0 then indent ++ codes "///\n"
    else indent ++ (codes "/// " ++ (line ++ codes "\n"))

-- documentation, line by line; 10 is a newline
unfoldable pub docs_wit : List ℕ → Docs → List ℕ
docs_wit indent docs =
    option_map_or (λ contents. flat_map (doc_line indent) (slice_split (λ b. b == 10) contents))
    docs.contents []

-- a line with a value in parentheses
abbrev pub attribute_wit : List ℕ → List ℕ → List ℕ → List ℕ
attribute_wit indent head value = indent ++ (head ++ (value ++ codes ")\n"))

abbrev pub deprecated_wit : List ℕ → Option Parts → List ℕ
deprecated_wit indent version =
    option_map_or
    (λ (v : Parts). attribute_wit indent (codes "@deprecated(version = ") (parts_text v))
    version []

-- a gate
unfoldable pub gate_wit : List ℕ → Stability → List ℕ
gate_wit indent Unknown = []
gate_wit indent (Stable since deprecated) =
    attribute_wit indent (codes "@since(version = ") (parts_text since)
    ++ deprecated_wit indent deprecated
gate_wit indent (Unstable feature deprecated) =
    attribute_wit indent (codes "@unstable(feature = ") (name_wit feature)
    ++ deprecated_wit indent deprecated

-- all that stands above a thing; an external id is quoted
unfoldable pub heading_wit : List ℕ → Docs → Stability → Option (List ℕ) → List ℕ
heading_wit indent docs stability id =
    docs_wit indent docs
    ++ (gate_wit indent stability
    ++ option_map_or
    (λ id. attribute_wit indent (codes "@external-id(\"") (id ++ codes "\"")) id [])

-- a word, a name, and a body in braces
unfoldable pub block_wit : List ℕ → List ℕ → List ℕ → List ℕ → List ℕ
block_wit indent word name body =
    indent ++ (word ++ (name_wit name ++ (codes " {\n" ++ (body ++ (indent ++ codes "}\n")))))
