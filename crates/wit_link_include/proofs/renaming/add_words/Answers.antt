use Rattle.std.proofs.Common.{◌≡◌, ◌∙◌, ◌||◌, ℕ, Bool, List, ap, subst, sym}
use Rattle.std.proofs.lemmas.Map.Iter.{rest_more, rest_all}
use Rattle.std.specs.List.{list_any}
use Rattle.std.specs.Map.{keys_of}
use Rattle.std.specs.Map.Iter.{deref_pair}
use Rattle.std.specs.Str.{bytes_eq}
use Rattle.wit_data.specs.Entries.{Entry}
use Rattle.wit_link_include.specs.steps.Included.{has_word}
use Rattle.wit_link_include.proofs.Words.{or-false, words-next}
use Rattle.wit_link_include.proofs.renaming.add_words.Goals as goal

pub loop-key-preserved : goal.loop-key-preserved
loop-key-preserved c =
    let more = rest_more deref_pair _ _ _ _ c.in-Some.is c.next.ensures.steps in
    let whole : List ℕ → Bool = λ word. list_any (bytes_eq word) c.args.words.now || list_any (has_word word) (keys_of c.args.entries.now) in
    let left : List Entry = c.next.new.self in
    words-next c.loop-key.words c.add_word.new.words c.in-Some.key.now (keys_of left) whole c.in_ok-add_word.ensures
    (λ word. subst (λ (es : List Entry). (list_any (bytes_eq word) c.loop-key.words || list_any (has_word word) (keys_of es)) ≡ whole word) more (c.loop-key.invariant word))

pub returns : goal.returns
returns c =
    let none = rest_all deref_pair _ _ _ c.in-None.is c.next.ensures.steps in
    λ word. sym (or-false (list_any (bytes_eq word) c.loop-key.words)) ∙ ap (λ (es : List Entry). list_any (bytes_eq word) c.loop-key.words || list_any (has_word word) (keys_of es)) (sym none) ∙ c.loop-key.invariant word
