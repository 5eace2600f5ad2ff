use Rattle.std.proofs.Common.{◌∙◌, ℕ, Bool, List, ap, filter, is_some, not, sym}
use Rattle.std.proofs.lemmas.Map.Iter.{rest_all, rest_more}
use Rattle.std.specs.Map.{lookup}
use Rattle.std.specs.Str.{bytes_eq}
use Rattle.wit_data.specs.declared.function.Function.{Function}
use Rattle.wit_elaboration.specs.facts.Filters.{filter-fail}
use Rattle.wit_values.specs.Names.{deref_named}
use Rattle.wit_merge_match.proofs.leaving.all_named.Goals as goal

pub loop-name-init : goal.loop-name-init
loop-name-init c =
    ap (filter (λ (e : List ℕ × Function). not (is_some (lookup (bytes_eq e.0) c.args.into.now)))) (sym (c.into_iter-name-iterator.ensures.into_iter_gives ∙ c.iter-name-items.ensures.rest))

pub loop-name-preserved : goal.loop-name-preserved
loop-name-preserved c =
    let test : List ℕ × Function → Bool = λ e. not (is_some (lookup (bytes_eq e.0) c.args.into.now)) in
    let first = rest_more deref_named _ _ _ _ c.in-Some.is c.next.ensures.steps in
    c.loop-name.invariant ∙ ap (filter test) first ∙ filter-fail test _ _ (ap not (sym c.contains_key.ensures ∙ c.if-not-contains_key.false))

pub returns : goal.returns
returns c = λ _. c.loop-name.invariant ∙ ap (filter (λ (e : List ℕ × Function). not (is_some (lookup (bytes_eq e.0) c.args.into.now)))) (rest_all deref_named _ _ _ c.in-None.is c.next.ensures.steps)
