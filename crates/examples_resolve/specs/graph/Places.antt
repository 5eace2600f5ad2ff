-- Places in source texts as they are told, and texts that show them.
use Rattle.std.specs.Prelude.{◌≡◌, ◌≢◌, ℕ, List, [], ◌∷◌, ◌++◌, replicate, Some, None, codes}
use Rattle.wit_sources.specs.Lines.{len_in_line}
use Rattle.wit_sources.specs.Locations.{highlight_text, highlight_text_in, location_of, shown_in, shown_span}
use Rattle.wit_sources.specs.declared.source_map.SourceFile.{SourceFile}

-- a file of two lines, of 24 bytes
abbrev pub first : SourceFile
first = record { path = codes "m.wit"; contents = codes "package a:b;\nworld w {}\n"; start = 0 }

-- a file of 13 bytes that begins where the first one ends
abbrev pub second : SourceFile
second = record { path = codes "n.wit"; contents = codes "package c:d;\n"; start = 25 }

-- the first file in a map with a base
abbrev pub based : SourceFile
based = record first { start = 100 }

-- a letter of two bytes, a space, the letter again, and a line feed
abbrev pub wide_text : List ℕ
wide_text = 195 ∷ 169 ∷ 32 ∷ 195 ∷ 169 ∷ 10 ∷ []

abbrev pub wide : SourceFile
wide = record { path = codes "u.wit"; contents = wide_text; start = 0 }

-- a file of one line of so many bytes
abbrev pub line_of : ℕ → SourceFile
line_of n = record { path = codes "l.wit"; contents = replicate n 120; start = 0 }

-- where spans begin
pub record ExamplesOfLocations : Type 0 where
  pub beginning : location_of (first ∷ second ∷ []) (Some (0, 7)) ≡ codes "m.wit:1:1"
  pub second_line : location_of (first ∷ []) (Some (13, 18)) ≡ codes "m.wit:2:1"
  pub within_a_line : location_of (first ∷ []) (Some (19, 20)) ≡ codes "m.wit:2:7"
  pub at_a_line_feed : location_of (first ∷ []) (Some (12, 13)) ≡ codes "m.wit:1:13"
  pub end_of_a_file : location_of (first ∷ second ∷ []) (Some (24, 24)) ≡ codes "m.wit:3:1"
  pub next_file : location_of (first ∷ second ∷ []) (Some (25, 32)) ≡ codes "n.wit:1:1"
  pub end_of_all : location_of (first ∷ second ∷ []) (Some (38, 38)) ≡ codes "n.wit:2:1"
  pub past_all : location_of (first ∷ second ∷ []) (Some (39, 39)) ≡ codes "<unknown>"
  pub unknown : location_of (first ∷ second ∷ []) None ≡ codes "<unknown>"
  pub with_base : location_of (based ∷ []) (Some (113, 118)) ≡ codes "m.wit:2:1"
  pub before_base : location_of (based ∷ []) (Some (99, 113)) ≡ codes "<unknown>"
  pub after_a_wide_character : location_of (wide ∷ []) (Some (2, 3)) ≡ codes "u.wit:1:2"
  pub in_a_wide_character : location_of (wide ∷ []) (Some (4, 5)) ≡ codes "u.wit:1:4"
  -- near misses: bytes for characters, the end of a file in the next one, lines from 0, a line feed that ends nothing
  pub not_bytes : location_of (wide ∷ []) (Some (2, 3)) ≢ codes "u.wit:1:3"
  pub not_the_next_file : location_of (first ∷ second ∷ []) (Some (24, 24)) ≢ codes "n.wit:1:1"
  pub not_from_zero : location_of (first ∷ []) (Some (13, 18)) ≢ codes "m.wit:1:0"
  pub not_one_line : location_of (first ∷ []) (Some (13, 18)) ≢ codes "m.wit:1:14"

-- what stands under spans, and lines that are too long
pub record ExamplesOfHighlights : Type 0 where
  pub told : highlight_text (first ∷ []) (Some (13, 18)) (codes "bad")
      ≡ Some (codes "bad\n     --> m.wit:2:1\n      |\n    2 | world w {}\n      | ^----")
  pub later : highlight_text (first ∷ second ∷ []) (Some (33, 36)) (codes "bad")
      ≡ Some (codes "bad\n     --> n.wit:1:9\n      |\n    1 | package c:d;\n      |         ^--")
  pub end_of_a_file : highlight_text (first ∷ []) (Some (24, 24)) (codes "bad")
      ≡ Some (codes "bad\n     --> m.wit:3:1\n      |\n    3 | \n      | ^")
  pub in_no_file : highlight_text (first ∷ []) (Some (25, 26)) (codes "bad") ≡ None
  pub unknown : highlight_text (first ∷ []) None (codes "bad") ≡ None
  pub three_characters : highlight_text_in wide (Some (0, 5)) (codes "bad")
      ≡ codes "bad\n     --> u.wit:1:1\n      |\n    1 | "
      ++ (195 ∷ 169 ∷ 32 ∷ 195 ∷ 169 ∷ codes "\n      | ^--")
  pub within_a_line : len_in_line wide_text 0 5 ≡ 5
  pub one_character : len_in_line wide_text 0 2 ≡ 2
  pub empty : len_in_line wide_text 3 3 ≡ 0
  pub cut_at_its_end : len_in_line wide_text 0 4 ≡ 0
  pub cut_at_its_beginning : len_in_line wide_text 1 5 ≡ 0
  pub with_a_line_feed : len_in_line wide_text 0 6 ≡ 0
  pub past_the_file : len_in_line wide_text 3 7 ≡ 0
  pub too_long : highlight_text (line_of 501 ∷ []) (Some (1, 3)) (codes "bad")
      ≡ Some (codes "l.wit:1:2: bad")
  pub just_shown : highlight_text (line_of 500 ∷ []) (Some (1, 3)) (codes "bad")
      ≡ Some (codes "bad\n     --> l.wit:1:2\n      |\n    1 | "
      ++ (replicate 500 120 ++ codes "\n      |  ^-"))
  -- near misses: the mark a place too far, a dash too many, dashes for bytes
  pub not_further : highlight_text_in first (Some (13, 18)) (codes "bad")
      ≢ codes "bad\n     --> m.wit:2:1\n      |\n    2 | world w {}\n      |  ^----"
  pub not_longer : highlight_text_in first (Some (13, 18)) (codes "bad")
      ≢ codes "bad\n     --> m.wit:2:1\n      |\n    2 | world w {}\n      | ^-----"
  pub not_bytes : highlight_text_in wide (Some (0, 5)) (codes "bad")
      ≢ codes "bad\n     --> u.wit:1:1\n      |\n    1 | "
      ++ (195 ∷ 169 ∷ 32 ∷ 195 ∷ 169 ∷ codes "\n      | ^----")

-- a line of 501 bytes, of which the last character has two; and what of it is shown
abbrev pub long : SourceFile
long = record { path = codes "l.wit"; contents = replicate 499 120 ++ (195 ∷ 169 ∷ []); start = 0 }

-- places that are shown with their lines, and the beginnings of lines that are too long
pub record ExamplesOfShown : Type 0 where
  pub told : shown_span (first ∷ []) (Some (13, 18))
      ≡ Some (codes "     --> m.wit:2:1\n      |\n    2 | world w {}\n      | ^----")
  pub in_no_file : shown_span (first ∷ []) (Some (25, 26)) ≡ None
  pub unknown : shown_span (first ∷ []) None ≡ None
  pub whole_characters : shown_in long (Some (1, 3))
      ≡ codes "     --> l.wit:1:2\n      |\n    1 | "
      ++ (replicate 499 120 ++ codes " ..\n      |  ^-")
  pub to_its_end : shown_in long (Some (497, 501))
      ≡ codes "     --> l.wit:1:498\n      |\n    1 | "
      ++ (replicate 499 120 ++ (codes " ..\n      | " ++ (replicate 497 32 ++ codes "^-")))
  pub past_its_end : shown_in (line_of 600) (Some (550, 560))
      ≡ codes "     --> l.wit:1:551\n      |\n    1 | "
      ++ (replicate 500 120 ++ (codes " ..\n      | " ++ (replicate 500 32 ++ codes "^")))
  -- near misses: a part of a character, no dots
  pub not_a_part : shown_in long (Some (1, 3))
      ≢ codes "     --> l.wit:1:2\n      |\n    1 | "
      ++ (replicate 499 120 ++ (195 ∷ codes " ..\n      |  ^-"))
  pub not_as_whole : shown_in long (Some (1, 3))
      ≢ codes "     --> l.wit:1:2\n      |\n    1 | "
      ++ (replicate 499 120 ++ codes "\n      |  ^-")
