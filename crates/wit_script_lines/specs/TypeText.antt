-- The texts of types: a name, `future`, `stream`, `own<NAME>` or `borrow<NAME>`, or a form around another text.
use Rattle.std.specs.Prelude.{ℕ, suc, zero, List, [], ◌∷◌, length, Option, codes, if◌then◌else◌, bytes_eq, option_map}
use Rattle.std.specs.Option.{option_map_or, option_or}
use Rattle.wit_script_lines.specs.Token.{inside}
use Rattle.wit_script_lines.specs.declared.type_text.TypeText.{TypeText}
use Rattle.wit_script_lines.specs.declared.type_text.Wrap.{Wrap}
use Rattle.wit_script_lines.specs.declared.type_text.Wrap.TheVariants as wrap
use Rattle.wit_script_lines.specs.declared.type_text.Written.{Written}
use Rattle.wit_script_lines.specs.declared.type_text.Written.TheVariants as written

-- the outermost form of a text, and what stands inside it
abbrev pub form_of : List ℕ → Option (Wrap × List ℕ)
form_of text =
    option_or (option_map (λ inner. (wrap.List, inner)) (inside (codes "list<") text))
    (option_or (option_map (λ inner. (wrap.Option, inner)) (inside (codes "option<") text))
    (option_or (option_map (λ inner. (wrap.Future, inner)) (inside (codes "future<") text))
    (option_map (λ inner. (wrap.Stream, inner)) (inside (codes "stream<") text))))

-- what a text without a form says
abbrev pub written_of : List ℕ → Written
written_of text =
    if bytes_eq text (codes "future") then written.Future
    else if bytes_eq text (codes "stream") then written.Stream
    else option_map_or written.Own (inside (codes "own<") text)
    (option_map_or written.Borrow (inside (codes "borrow<") text) (written.Named text))

-- what a text says by its outermost form, where it has one, and by the text inside it, where at most so many forms stand in
-- each other
abbrev pub type_text_within : ℕ → List ℕ → TypeText
type_text_within zero text = record { wraps = []; core = written_of text }
type_text_within (suc n) text =
    option_map_or (λ (form : Wrap × List ℕ). let inner = type_text_within n form.1 in
    record inner { wraps = form.0 ∷ inner.wraps })
    (form_of text) (record { wraps = []; core = written_of text })

-- what the text of a type says; no more forms can stand in each other than it has bytes
abbrev pub type_text_of : List ℕ → TypeText
type_text_of text = type_text_within (length text) text
