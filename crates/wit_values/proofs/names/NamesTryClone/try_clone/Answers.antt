use Rattle.std.proofs.Common.{◌≡◌, ◌++◌, ◌∷◌, [], ap, sym, subst, ◌∙◌, append_assoc}
use Rattle.std.proofs.lemmas.List.{append-nil}
use Rattle.std.proofs.lemmas.Map.Iter.{rest_more, rest_all}
use Rattle.std.specs.Cmp.Lexicographic.{nat_list_eq_equiv}
use Rattle.std.specs.List.{IsDistinct}
use Rattle.std.specs.Str.{bytes_eq}
use Rattle.std.specs.Map.{keys_of}
use Rattle.wit_values.specs.Names.{deref_named}
use Rattle.wit_values.specs.facts.Lists.{lookup-before}
use Rattle.wit_values.proofs.names.NamesTryClone.try_clone.Goals as goal

pub push-requires : goal.push-requires
push-requires g c =
    let more = rest_more deref_named _ _ _ _ c.in-Some.is c.next.ensures.steps in
    let whole : c.loop-key.copy ++ (c.in-Some.key.now, c.in-Some.value.now) ∷ c.next.new.self ≡ c.args.self.now = ap (λ l. c.loop-key.copy ++ l) (sym more) ∙ c.loop-key.invariant in
    rw c.in_ok-key.ensures.0 (lookup-before nat_list_eq_equiv c.loop-key.copy c.next.new.self c.in-Some.key.now c.in-Some.value.now
    (subst (λ es. IsDistinct bytes_eq (keys_of es)) (sym whole) c.iter-key-items.ensures.distinct))

pub loop-key-preserved : goal.loop-key-preserved
loop-key-preserved g c =
    let more = rest_more deref_named _ _ _ _ c.in-Some.is c.next.ensures.steps in
    rw (c.in_ok-push.ensures.ok, c.in_ok-key.ensures.0, c.in_ok-key.ensures.1)
    (append_assoc c.loop-key.copy ((c.in-Some.key.now, c.in-Some.value.now) ∷ []) c.next.new.self ∙ ap (λ l. c.loop-key.copy ++ l) (sym more) ∙ c.loop-key.invariant)

pub returns : goal.returns
returns g c =
    let none = rest_all deref_named _ _ _ c.in-None.is c.next.ensures.steps in
    sym (append-nil c.loop-key.copy) ∙ ap (λ l. c.loop-key.copy ++ l) (sym none) ∙ c.loop-key.invariant
