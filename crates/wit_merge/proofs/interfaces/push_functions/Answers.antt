use Rattle.std.proofs.Common.{◌≡◌, ◌∙◌, ◌++◌, ℕ, List, None, ap, is_some, not, subst, sym, Contains}
use Rattle.std.proofs.lemmas.Slice.Eq.{bytes_eq-Decides}
use Rattle.std.specs.Map.{lookup}
use Rattle.std.specs.Str.{bytes_eq}
use Rattle.wit_digraph.specs.facts.MemberFacts.{Contains-here, Contains-there}
use Rattle.wit_data.specs.declared.function.Function.{Function}
use Rattle.wit_remap_spec.specs.Image.{function_image}
use Rattle.wit_merge_spec.specs.Merged.{merge_maps}
use Rattle.wit_merge.specs.steps.MergeSteps.{brought_matched, functions_image, merging_of}
use Rattle.wit_merge.proofs.Chosen.{key_is_new, none_left, one_more, passed_over, split}
use Rattle.wit_merge.proofs.interfaces.push_functions.Goals as goal

abbrev Named : Type 0
Named = List ℕ × Function

pub loop-name-init : goal.loop-name-init
loop-name-init c =
    let m = merging_of c.args.plan.now in
    let whole = c.into_iter-name-iterator.ensures.into_iter_gives ∙ c.iter-name-items.ensures.rest in
    record {
      all = ap (λ (l : List Named). c.args.into.now ++ functions_image m (brought_matched c.args.known.now l)) whole;
      can = λ e has. c.requires.functions e (subst (λ (l : List Named). Contains l e) whole has);
    }

pub moved_function-requires-clause-moves : goal.moved_function-requires-clause-moves
moved_function-requires-clause-moves c =
    let e : Named = (c.in-Some.name.now, c.in-Some.function.now) in
    c.loop-name.invariant.can e (subst (λ (l : List Named). Contains l e) (sym c.in-Some.ensures.steps) (Contains-here e c.next.new.self))

pub push-requires : goal.push-requires
push-requires c =
    let m = merging_of c.args.plan.now in
    let known = c.args.known.now in
    let whole = c.args.into.now ++ functions_image m (brought_matched known c.args.from.now) in
    let e : Named = (c.in-Some.name.now, c.in-Some.function.now) in
    let image = λ (d : Named). let r : Named = (d.0, function_image (merge_maps m) d.1) in r in
    let test = λ (d : Named). not (is_some (lookup (bytes_eq d.0) known)) in
    let new = ap not (sym c.contains_key.ensures ∙ c.if-not-contains_key.true) in
    let here = split image test c.loop-name.into _ _ e whole c.in-Some.ensures.steps new c.loop-name.invariant.all in
    subst (λ (k : List ℕ). lookup (bytes_eq k) c.loop-name.into ≡ None) (sym c.in_ok-from_str.ensures.ok)
    (key_is_new (λ a b. (bytes_eq-Decides a b).0) c.loop-name.into _ whole e.0 (function_image (merge_maps m) e.1) c.requires.apart here)

pub loop-name-preserved-in_ok-push : goal.loop-name-preserved-in_ok-push
loop-name-preserved-in_ok-push c =
    let m = merging_of c.args.plan.now in
    let known = c.args.known.now in
    let whole = c.args.into.now ++ functions_image m (brought_matched known c.args.from.now) in
    let e : Named = (c.in-Some.name.now, c.in-Some.function.now) in
    let image = λ (d : Named). let r : Named = (d.0, function_image (merge_maps m) d.1) in r in
    let test = λ (d : Named). not (is_some (lookup (bytes_eq d.0) known)) in
    let new = ap not (sym c.contains_key.ensures ∙ c.if-not-contains_key.true) in
    record {
      all = one_more image test c.loop-name.into c.push.new.self _ _ e _ whole c.in-Some.ensures.steps new c.loop-name.invariant.all c.in_ok-push.ensures.ok
          (λ j. let r : Named = (c.in_ok-from_str.ensures.ok j, c.in_ok-moved.ensures j) in r);
      can = λ d has. c.loop-name.invariant.can d (subst (λ (l : List Named). Contains l d) (sym c.in-Some.ensures.steps) (Contains-there e d c.next.new.self has));
    }

pub loop-name-preserved : goal.loop-name-preserved
loop-name-preserved c =
    let m = merging_of c.args.plan.now in
    let known = c.args.known.now in
    let whole = c.args.into.now ++ functions_image m (brought_matched known c.args.from.now) in
    let e : Named = (c.in-Some.name.now, c.in-Some.function.now) in
    let image = λ (d : Named). let r : Named = (d.0, function_image (merge_maps m) d.1) in r in
    let test = λ (d : Named). not (is_some (lookup (bytes_eq d.0) known)) in
    let old = ap not (sym c.contains_key.ensures ∙ c.if-not-contains_key.false) in
    record {
      all = passed_over image test c.loop-name.into _ _ e whole c.in-Some.ensures.steps old c.loop-name.invariant.all;
      can = λ d has. c.loop-name.invariant.can d (subst (λ (l : List Named). Contains l d) (sym c.in-Some.ensures.steps) (Contains-there e d c.next.new.self has));
    }

pub returns : goal.returns
returns c =
    let m = merging_of c.args.plan.now in
    let known = c.args.known.now in
    let image = λ (d : Named). let r : Named = (d.0, function_image (merge_maps m) d.1) in r in
    none_left image (λ (d : Named). not (is_some (lookup (bytes_eq d.0) known))) c.loop-name.into _ (c.args.into.now ++ functions_image m (brought_matched known c.args.from.now)) c.in-None.ensures.steps.0
    c.loop-name.invariant.all
