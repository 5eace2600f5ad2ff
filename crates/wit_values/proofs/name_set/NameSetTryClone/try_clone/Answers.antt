use Rattle.std.proofs.Common.{◌≡◌, ◌++◌, ◌∷◌, ap, sym, subst, ◌∙◌, string_bytes}
use Rattle.std.proofs.lemmas.List.{append-nil}
use Rattle.std.proofs.lemmas.Map.Iter.{rest_more, rest_all}
use Rattle.std.specs.List.{IsDistinct}
use Rattle.std.specs.Map.Iter.{deref}
use Rattle.std.specs.Str.{bytes_eq}
use Rattle.wit_values.specs.NameSet.{texts_of}
use Rattle.wit_values.proofs.NameSetLemmas.{IsDistinct-texts, insert-next}
use Rattle.wit_values.proofs.name_set.NameSetTryClone.try_clone.Goals as goal

pub loop-text-preserved : goal.loop-text-preserved
loop-text-preserved c =
    let more = rest_more deref _ _ _ _ c.in-Some.is c.next.ensures.steps in
    let whole : c.loop-text.copy ++ string_bytes c.in-Some.text.now ∷ texts_of c.next.new.self ≡ c.args.self.now = ap (λ l. c.loop-text.copy ++ texts_of l) (sym more) ∙ c.loop-text.invariant in
    let distinct : IsDistinct bytes_eq c.args.self.now = subst (IsDistinct bytes_eq) c.self.view_is (IsDistinct-texts c.self.inside.inner.keys c.iter-text-items.ensures.unique) in
    rw (c.in_ok-insert.ensures.ok, c.as_str.ensures.value) (insert-next c.loop-text.copy (string_bytes c.in-Some.text.now) (texts_of c.next.new.self) c.args.self.now whole distinct)

pub returns : goal.returns
returns c =
    let none = rest_all deref _ _ _ c.in-None.is c.next.ensures.steps in
    sym (append-nil c.loop-text.copy) ∙ ap (λ l. c.loop-text.copy ++ texts_of l) (sym none) ∙ c.loop-text.invariant
