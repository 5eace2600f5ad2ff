-- Marks of a text, from which its lines are counted.
use Rattle.std.specs.Prelude.{ℕ, ◌+◌, ◌≡◌, List, [], ◌∷◌, count_by, take}
use Rattle.wit_sources.specs.Lines.{is_line_feed}

-- how many line feeds stand before a position
abbrev pub feeds_before : List ℕ → ℕ → ℕ
feeds_before text position = count_by is_line_feed (take position text)

-- they tell it of each 128th position behind this one, up to some
abbrev pub AreMarks : List ℕ → ℕ → List ℕ → Type 0
AreMarks text from [] = Unit {0}
AreMarks text from (mark ∷ marks) =
    (mark ≡ feeds_before text (from + 128)) × AreMarks text (from + 128) marks
