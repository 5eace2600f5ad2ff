use Rattle.std.proofs.Common.{◌≡◌, ◌||◌, ℕ, List}
use Rattle.std.specs.List.{list_any}
use Rattle.std.specs.Map.{keys_of}
use Rattle.std.specs.Str.{bytes_eq}
use Rattle.wit_link_include.specs.steps.Included.{has_word}
use Rattle.wit_link_include.proofs.renaming.add_words.Given as goal

-- the words so far with those that are left are those of all labels, besides those that were there
abbrev pub invariant-loop-key : goal.invariant-loop-key
invariant-loop-key l = (word : List ℕ) → (list_any (bytes_eq word) l.words || list_any (has_word word) (keys_of l.key-iterator)) ≡ (list_any (bytes_eq word) l.initial.words || list_any (has_word word) (keys_of l.entries))
