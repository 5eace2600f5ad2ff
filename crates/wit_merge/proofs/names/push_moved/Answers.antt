use Rattle.std.proofs.Common.{◌≡◌, ◌∙◌, ◌++◌, ℕ, List, None, ap, subst, sym}
use Rattle.std.proofs.lemmas.Map.Iter.{rest_all, rest_more}
use Rattle.std.proofs.lemmas.Slice.Eq.{bytes_eq-Decides}
use Rattle.std.specs.Map.{lookup}
use Rattle.std.specs.Str.{bytes_eq}
use Rattle.wit_values.specs.Names.{deref_named}
use Rattle.wit_merge_match.specs.steps.Matched.{moves}
use Rattle.wit_remap.specs.steps.Movers.{goes}
use Rattle.wit_merge.specs.steps.MergeSteps.{moved_names}
use Rattle.wit_merge.proofs.Chosen.{key_is_new, none_left, one_more, passed_over, split}
use Rattle.wit_merge.proofs.names.push_moved.Goals as goal

pub loop-name-init : goal.loop-name-init
loop-name-init g c = ap (λ (l : List (List ℕ × ℕ)). c.args.into.now ++ moved_names c.args.found.now c.args.new_ids.now l) (c.into_iter-name-iterator.ensures.into_iter_gives ∙ c.iter-name-items.ensures.rest)

pub push-requires : goal.push-requires
push-requires g c =
    let found = c.args.found.now in
    let new_ids = c.args.new_ids.now in
    let whole = c.args.into.now ++ moved_names found new_ids c.args.from.now in
    let e : List ℕ × ℕ = (c.in-Some.name.now, c.in-Some.id.now) in
    let image = λ (d : List ℕ × ℕ). let r : List ℕ × ℕ = (d.0, goes new_ids d.1) in r in
    let test = λ (d : List ℕ × ℕ). moves found d.1 in
    let takes = sym c.moves.ensures ∙ c.if-moves.true in
    let here = split image test c.loop-name.into _ _ e whole (rest_more deref_named _ _ _ _ c.in-Some.is c.next.ensures.steps) (ap (moves found) (sym (c.index.ensures ∙ c.in_ok-try_clone.ensures)) ∙ takes) c.loop-name.invariant in
    subst (λ (k : List ℕ). lookup (bytes_eq k) c.loop-name.into ≡ None) (sym c.in_ok-from_str.ensures.ok)
    (key_is_new (λ a b. (bytes_eq-Decides a b).0) c.loop-name.into _ whole e.0 (goes new_ids e.1) c.requires here)

pub loop-name-preserved-in_ok-push : goal.loop-name-preserved-in_ok-push
loop-name-preserved-in_ok-push g c =
    let found = c.args.found.now in
    let new_ids = c.args.new_ids.now in
    let whole = c.args.into.now ++ moved_names found new_ids c.args.from.now in
    let e : List ℕ × ℕ = (c.in-Some.name.now, c.in-Some.id.now) in
    let image = λ (d : List ℕ × ℕ). let r : List ℕ × ℕ = (d.0, goes new_ids d.1) in r in
    let test = λ (d : List ℕ × ℕ). moves found d.1 in
    let takes = ap (moves found) (sym (c.index.ensures ∙ c.in_ok-try_clone.ensures)) ∙ sym c.moves.ensures ∙ c.if-moves.true in
    one_more image test c.loop-name.into c.push.new.self _ _ e _ whole (rest_more deref_named _ _ _ _ c.in-Some.is c.next.ensures.steps) takes c.loop-name.invariant c.in_ok-push.ensures.ok
    (λ j. let r : List ℕ × ℕ = (c.in_ok-from_str.ensures.ok j, c.in_ok-goes.ensures j) in r)

pub loop-name-preserved : goal.loop-name-preserved
loop-name-preserved g c =
    let found = c.args.found.now in
    let new_ids = c.args.new_ids.now in
    let whole = c.args.into.now ++ moved_names found new_ids c.args.from.now in
    let e : List ℕ × ℕ = (c.in-Some.name.now, c.in-Some.id.now) in
    let image = λ (d : List ℕ × ℕ). let r : List ℕ × ℕ = (d.0, goes new_ids d.1) in r in
    let test = λ (d : List ℕ × ℕ). moves found d.1 in
    let leaves = ap (moves found) (sym (c.index.ensures ∙ c.in_ok-try_clone.ensures)) ∙ sym c.moves.ensures ∙ c.if-moves.false in
    passed_over image test c.loop-name.into _ _ e whole (rest_more deref_named _ _ _ _ c.in-Some.is c.next.ensures.steps) leaves c.loop-name.invariant

pub returns : goal.returns
returns g c =
    let image = λ (d : List ℕ × ℕ). let r : List ℕ × ℕ = (d.0, goes c.args.new_ids.now d.1) in r in
    none_left image (λ (d : List ℕ × ℕ). moves c.args.found.now d.1) c.loop-name.into _ (c.args.into.now ++ moved_names c.args.found.now c.args.new_ids.now c.args.from.now) (rest_all deref_named _ _ _ c.in-None.is c.next.ensures.steps)
    c.loop-name.invariant
