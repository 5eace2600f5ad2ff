use Rattle.std.proofs.Common.{◌≡◌, ◌∙◌, ◌++◌, ℕ, List, Option, None, ap, is_some, not, subst, sym, Contains}
use Rattle.wit_digraph.specs.facts.MemberFacts.{Contains-here, Contains-there}
use Rattle.wit_names.specs.facts.PackageNameFacts.{same_package-Decides}
use Rattle.wit_names.specs.declared.package_name.PackageName.{PackageName}
use Rattle.wit_graph_data.specs.declared.graph.Package.{Package}
use Rattle.wit_graph_theory.specs.facts.ListFacts.{found_at, place_of}
use Rattle.std.proofs.lemmas.Option.{slice_get_within}
use Rattle.std.specs.Map.{lookup}
use Rattle.wit_names.specs.PackageName.{same_package}
use Rattle.wit_merge_match.specs.steps.Matched.{moves}
use Rattle.wit_merge_spec.specs.Merged.{merged_package}
use Rattle.wit_merge_laws.specs.facts.PackagesStand.{good_names}
use Rattle.wit_merge.specs.steps.MergeSteps.{merging_of}
use Rattle.wit_merge.proofs.BroughtNames.{brought_names}
use Rattle.wit_merge.proofs.Chosen.{key_is_new, none_left, one_more, passed_over, split}
use Rattle.wit_merge.proofs.packages.joined_names.Goals as goal
use Rattle.wit_merge_spec.specs.steps.Parts.{moves_package}

abbrev Listed : Type 0
Listed = PackageName × ℕ

pub loop-name-init : goal.loop-name-init
loop-name-init c =
    let m = merging_of c.args.plan.now in
    let other = c.args.plan.now.other.now in
    let whole = c.into_iter-name-iterator.ensures.into_iter_gives ∙ c.iter-name-items.ensures.rest in
    record {
      all = (λ j. c.in_ok-names.ensures j ++ brought_names m (whole j));
      there = λ e has.
          let place = place_of other.package_names e (subst (λ (l : List Listed). Contains l e) whole has) in
          let there = found_at (λ (home : Package). home.name ≡ e.0) other.packages e.1 (c.requires.valid_other.well_formed.package_names.own_name place.0 e place.1) in
          slice_get_within other.packages e.1 there.0 there.1;
    }

pub push-requires : goal.push-requires
push-requires c =
    let u = c.args.plan.now in
    let m = merging_of u in
    let whole = u.graph.now.package_names ++ brought_names m u.other.now.package_names in
    let e : Listed = (c.in-Some.name.now, c.in-Some.id.now) in
    let image = λ (d : Listed). let r : Listed = (d.0, merged_package m d.1) in r in
    let takes = ap (λ (o : Option ℕ). not (is_some o)) (sym (c.requires.matches.packages.each e.1)) ∙ ap (moves u.matches.now.packages) (sym c.index.ensures) ∙ sym c.moves.ensures ∙ c.if-moves.true in
    let here = split image (λ (d : Listed). moves_package m d.1) c.loop-name.names _ _ e whole c.in-Some.ensures.steps takes c.loop-name.invariant.all in
    subst (λ (k : PackageName). lookup (same_package k) c.loop-name.names ≡ None) (sym c.in_ok-try_clone.ensures)
    (key_is_new (λ a b. (same_package-Decides a b).0) c.loop-name.names _ whole e.0 (merged_package m e.1) (good_names m c.requires.valid c.requires.valid_other).distinct here)

pub loop-name-preserved-in_ok-push : goal.loop-name-preserved-in_ok-push
loop-name-preserved-in_ok-push c =
    let u = c.args.plan.now in
    let m = merging_of u in
    let whole = u.graph.now.package_names ++ brought_names m u.other.now.package_names in
    let e : Listed = (c.in-Some.name.now, c.in-Some.id.now) in
    let image = λ (d : Listed). let r : Listed = (d.0, merged_package m d.1) in r in
    let takes = ap (λ (o : Option ℕ). not (is_some o)) (sym (c.requires.matches.packages.each e.1)) ∙ ap (moves u.matches.now.packages) (sym c.index.ensures) ∙ sym c.moves.ensures ∙ c.if-moves.true in
    let there = c.loop-name.invariant.there e (subst (λ (l : List Listed). Contains l e) (sym c.in-Some.ensures.steps) (Contains-here e c.next.new.self)) in
    record {
      all = one_more image (λ (d : Listed). moves_package m d.1) c.loop-name.names c.push.new.self _ _ e _ whole c.in-Some.ensures.steps takes c.loop-name.invariant.all c.in_ok-push.ensures.ok
          (λ j. let r : Listed = (c.in_ok-try_clone.ensures j, c.merged_package.ensures there j) in r);
      there = λ d has. c.loop-name.invariant.there d (subst (λ (l : List Listed). Contains l d) (sym c.in-Some.ensures.steps) (Contains-there e d c.next.new.self has));
    }

pub loop-name-preserved : goal.loop-name-preserved
loop-name-preserved c =
    let u = c.args.plan.now in
    let m = merging_of u in
    let whole = u.graph.now.package_names ++ brought_names m u.other.now.package_names in
    let e : Listed = (c.in-Some.name.now, c.in-Some.id.now) in
    let image = λ (d : Listed). let r : Listed = (d.0, merged_package m d.1) in r in
    let leaves = ap (λ (o : Option ℕ). not (is_some o)) (sym (c.requires.matches.packages.each e.1)) ∙ ap (moves u.matches.now.packages) (sym c.index.ensures) ∙ sym c.moves.ensures ∙ c.if-moves.false in
    record {
      all = passed_over image (λ (d : Listed). moves_package m d.1) c.loop-name.names _ _ e whole c.in-Some.ensures.steps leaves c.loop-name.invariant.all;
      there = λ d has. c.loop-name.invariant.there d (subst (λ (l : List Listed). Contains l d) (sym c.in-Some.ensures.steps) (Contains-there e d c.next.new.self has));
    }

pub returns : goal.returns
returns c =
    let u = c.args.plan.now in
    let m = merging_of u in
    let image = λ (d : Listed). let r : Listed = (d.0, merged_package m d.1) in r in
    none_left image (λ (d : Listed). moves_package m d.1) c.loop-name.names _ (u.graph.now.package_names ++ brought_names m u.other.now.package_names) c.in-None.ensures.steps.0 c.loop-name.invariant.all
