-- What a script answers to `other` and `merge`, which graphs are there after them, and what isn't answered.
use Rattle.std.specs.Prelude.{ℕ, List, [], ◌∷◌, codes}
use Rattle.wit_names.specs.declared.track.TrackRule.TheVariants.{WithPrereleases}
use Rattle.wit_graph_data.specs.examples.Samples.{foo_bar}
use Rattle.wit_script_lines.specs.declared.request.Request.TheVariants as request
use Rattle.wit_resolve_graph.specs.State.{State, new_state}
use Rattle.wit_script.specs.Answer.{Answers, InTurn, only_first}
use Rattle.wit_script.specs.declared.answer.Stage.{Stage}
use Rattle.wit_script_lines.specs.declared.request.Request.{Request}
use Rattle.examples_resolve.specs.script.SmallGraphs.{after, first_of, foo_baz, gated, one, second_of, two}
use Rattle.examples_resolve.specs.script.StepExamples.{IsAnswered, both, tracks_line}

-- the lines `other` and `merge`
abbrev pub other_line : Request
other_line = request.Other

abbrev pub merge_line : Request
merge_line = request.Merge

-- commands may be answered so, one after another
abbrev pub AreAnswered : Stage → List Request → List ℕ → Stage → Type 0
AreAnswered before commands text after = InTurn Answers before commands text after

-- foo:bar, and foo:baz that goes into it
abbrev pub bar : State
bar = first_of (one foo_bar)

abbrev pub baz : State
baz = second_of (one foo_baz)

-- an interface under a gate, and the same under another that goes into it, and what is answered then
abbrev pub under_f : State
under_f = first_of (gated (codes "f"))

abbrev pub under_g : State
under_g = second_of (gated (codes "g"))

abbrev pub gates_told : List ℕ
gates_told = codes "refused 8 mismatch in stability from 'unstable g' to 'unstable f'\n"

pub record ExamplesOfOtherLines : Type 0 where
  -- a second graph is there, which is new, and nothing is said
  pub opened : IsAnswered (only_first bar) other_line [] (both bar new_state)
  -- not: no second one, the same once more, one with the features of the first, the first left empty, a word
  pub not_alone : IsAnswered (only_first bar) other_line [] (only_first bar) → ⊥
  pub not_the_same : IsAnswered (only_first bar) other_line [] (both bar bar) → ⊥
  pub not_its_features : IsAnswered (only_first bar) other_line []
      (both bar (record new_state { features = bar.features })) → ⊥
  pub not_left_empty : IsAnswered (only_first bar) other_line [] (both new_state new_state) → ⊥
  pub not_aloud : IsAnswered (only_first bar) other_line (codes "done\n") (both bar new_state) → ⊥
  -- where a second one is open there is no other
  pub not_twice : (text : List ℕ) (last : Stage)
      → IsAnswered (both bar new_state) other_line text last → ⊥

pub record ExamplesOfMergeLines : Type 0 where
  -- the second graph goes into the first, and is no longer there
  pub merged : IsAnswered (both bar baz) merge_line (codes "merged\n")
      (only_first (after (two foo_bar foo_baz)))
  -- not: it stays open, a new one is opened, it is gone and didn't go into the first, no word, another word
  pub not_open : IsAnswered (both bar baz) merge_line (codes "merged\n")
      (both (after (two foo_bar foo_baz)) baz) → ⊥
  pub not_opened_anew : IsAnswered (both bar baz) merge_line (codes "merged\n")
      (both (after (two foo_bar foo_baz)) new_state) → ⊥
  pub not_dropped : IsAnswered (both bar baz) merge_line (codes "merged\n") (only_first bar) → ⊥
  pub not_quiet : IsAnswered (both bar baz) merge_line [] (only_first (after (two foo_bar foo_baz)))
      → ⊥
  pub not_done : IsAnswered (both bar baz) merge_line (codes "done\n")
      (only_first (after (two foo_bar foo_baz))) → ⊥
  -- nothing is merged without a second graph
  pub no_second : (text : List ℕ) (last : Stage) → IsAnswered (only_first bar) merge_line text last
      → ⊥
  -- after a refusal the second graph is gone too, and the first is as it was, but for the file
  pub refused : IsAnswered (both under_f under_g) merge_line gates_told
      (only_first (after (gated (codes "f"))))
  -- not: it stays open, all is as before, the first is changed, merged nevertheless
  pub refused_not_open : IsAnswered (both under_f under_g) merge_line gates_told
      (both (after (gated (codes "f"))) under_g) → ⊥
  pub refused_not_before : IsAnswered (both under_f under_g) merge_line gates_told
      (both under_f under_g) → ⊥
  pub refused_not_changed : IsAnswered (both under_f under_g) merge_line gates_told
      (only_first (after (gated (codes "g")))) → ⊥
  pub refused_not_merged : (last : Stage)
      → IsAnswered (both under_f under_g) merge_line (codes "merged\n") last → ⊥
  -- want of memory, after which the second is gone as well
  pub memory : IsAnswered (both bar baz) merge_line (codes "refused 28 out of memory\n")
      (only_first bar)
  pub memory_not_open : IsAnswered (both bar baz) merge_line (codes "refused 28 out of memory\n")
      (both bar baz) → ⊥
  -- the rule that is set between the two lines is that of the second graph, and lost with it
  pub lines : AreAnswered (only_first bar) (other_line ∷ tracks_line ∷ merge_line ∷ [])
      (codes "merged\n") (only_first bar)
  pub lines_not_set : AreAnswered (only_first bar) (other_line ∷ tracks_line ∷ merge_line ∷ [])
      (codes "merged\n") (only_first (record bar { track_rule = WithPrereleases })) → ⊥
