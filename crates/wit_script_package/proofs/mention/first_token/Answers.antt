use Rattle.std.proofs.Common.{◌≡◌, ◌==◌, ◌∙◌, ℕ, true, List, [], ap, sym, not, length, filter, slice_get, take, arith, rules}
use Rattle.std.specs.List.{slice_split}
use Rattle.std.proofs.lemmas.Iterator.Consumers.{YieldsList-end, YieldsList-so_far, YieldsList-turn}
use Rattle.std.proofs.lemmas.Iterator.Splits.{YieldsList-from_str_split}
use Rattle.std.specs.Str.Iter.{split_has_more, split_pattern, split_text}
use Rattle.wit_script_lines.specs.Line.{tokens_of}
use Rattle.wit_script_package.proofs.FirstToken.{first-kept}
use Rattle.wit_script_package.proofs.mention.first_token.Goals as goal

pub returns-then-not-is_empty : goal.returns-then-not-is_empty
returns-then-not-is_empty c =
    let same = c.into_iter-part-iterator.ensures.into_iter_gives in
    let split = c.split-part-items.ensures in
    let all = YieldsList-from_str_split 32 c.args.line.now (omega arith) (ap split_text same ∙ split.text) (ap split_has_more same ∙ split.has_more) (ap split_pattern same ∙ split.pattern) in
    let so_far = YieldsList-so_far all c.loop-part.yielded _ c.loop-part.yielded_by in
    let turn = YieldsList-turn all c.loop-part.yielded _ c.loop-part.yielded_by _ _ c.in-Some.part c.in-Some.is c.next.ensures.steps in
    let none : filter (λ t. not (length t == 0)) (take (length c.loop-part.yielded) (slice_split (λ b. b == 32) c.args.line.now)) ≡ [] =
    ap (filter (λ (t : List ℕ). not (length t == 0))) (sym so_far) ∙ c.loop-part.invariant in
    let kept : not (length c.in-Some.part.now == 0) ≡ true = search rules in
    sym (first-kept (λ (t : List ℕ). not (length t == 0)) (slice_split (λ b. b == 32) c.args.line.now) (length c.loop-part.yielded) c.in-Some.part.now none turn.0 turn.1 kept)

pub returns : goal.returns
returns c =
    let same = c.into_iter-part-iterator.ensures.into_iter_gives in
    let split = c.split-part-items.ensures in
    let all = YieldsList-from_str_split 32 c.args.line.now (omega arith) (ap split_text same ∙ split.text) (ap split_has_more same ∙ split.has_more) (ap split_pattern same ∙ split.pattern) in
    let end = YieldsList-end all c.loop-part.yielded _ c.loop-part.yielded_by _ _ c.in-None.is c.next.ensures.steps in
    let none : tokens_of c.args.line.now ≡ [] = ap (filter (λ (t : List ℕ). not (length t == 0))) (sym end.0) ∙ c.loop-part.invariant in
    ap (λ (l : List (List ℕ)). slice_get l 0) (sym none)
