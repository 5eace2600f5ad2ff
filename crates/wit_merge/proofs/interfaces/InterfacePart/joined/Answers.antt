use Rattle.std.proofs.Common.{◌≡◌, ◌∙◌, ◌++◌, ℕ, List, sym, subst}
use Rattle.wit_values.specs.Table.{HasDistinctKeys}
use Rattle.wit_data.specs.declared.function.Function.{Function}
use Rattle.wit_remap_spec.specs.Joined.{joined_stability}
use Rattle.wit_merge_spec.specs.Merged.{with_interface}
use Rattle.wit_merge.specs.steps.MergeSteps.{brought_matched, functions_image, moved_names, merging_of}
use Rattle.wit_merge.proofs.MovedNames.{Table, types_moved}
use Rattle.wit_merge.proofs.interfaces.InterfacePart.joined.Goals as goal

pub push_moved-requires : goal.push_moved-requires
push_moved-requires c =
    let u = c.args.plan.now in
    let from = c.args.from.now in
    let types : c.in_ok-joined.joined.types ++ moved_names u.matches.now.types u.merge_ids.now.new_ids.types from.types ≡ (with_interface (merging_of u) from c.args.self.now).types =
    λ j. (c.in_ok-joined.ensures j).types ++ types_moved u c.requires.ready from.types c.requires.can.types j in
    subst (λ (l : Table). HasDistinctKeys l) (sym types) c.requires.can.types_apart

pub push_functions-requires-clause-apart : goal.push_functions-requires-clause-apart
push_functions-requires-clause-apart c =
    let u = c.args.plan.now in
    let from = c.args.from.now in
    let brought = functions_image (merging_of u) (brought_matched c.args.self.now.functions from.functions) in
    let functions : c.in_ok-joined.joined.functions ++ brought ≡ (with_interface (merging_of u) from c.args.self.now).functions = λ j. (c.in_ok-joined.ensures j).functions ++ brought in
    subst (λ (l : List (List ℕ × Function)). HasDistinctKeys l) (sym functions) c.requires.can.functions_apart

pub returns : goal.returns
returns c = λ index.
    let u = c.args.plan.now in
    let m = merging_of u in
    let from = c.args.from.now in
    let self = c.args.self.now in
    let brought = functions_image m (brought_matched self.functions from.functions) in
    let kept = c.in_ok-joined.ensures in
    let listed : c.in_ok-joined.joined.types ++ moved_names u.matches.now.types u.merge_ids.now.new_ids.types from.types ≡ (with_interface m from self).types = λ j. (kept j).types ++ types_moved u c.requires.ready from.types c.requires.can.types j in
    let types : c.push_moved.new.into ≡ (with_interface m from self).types = c.in_ok-push_moved.ensures ∙ listed in
    let had : c.in_ok-joined.joined.functions ++ brought ≡ (with_interface m from self).functions = λ j. (kept j).functions ++ brought in
    let functions : c.push_functions.new.into ≡ (with_interface m from self).functions = c.in_ok-push_functions.ensures ∙ had in
    let was : joined_stability from.stability c.in_ok-joined.joined.stability ≡ (with_interface m from self).stability = λ j. joined_stability from.stability (kept j).stability in
    let stability : c.join_stability.new.into ≡ (with_interface m from self).stability = c.in_ok-join_stability.ensures ∙ was in
    λ j. record (kept j) { types = types j; functions = functions j; stability = stability j }
