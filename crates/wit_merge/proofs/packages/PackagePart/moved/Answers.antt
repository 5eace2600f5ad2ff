use Rattle.std.proofs.Common.{◌≡◌, ◌∙◌, ◌++◌, ℕ, List, ap, map, sym, subst}
use Rattle.wit_graph_theory.specs.facts.ImagesCome.{distinct_map}
use Rattle.wit_values.specs.Table.{HasDistinctKeys}
use Rattle.wit_merge_spec.specs.Merged.{merged_interface, merged_world, package_image}
use Rattle.wit_merge.specs.steps.MergeSteps.{moved_names, merging_of}
use Rattle.wit_merge.proofs.MovedNames.{Table, all_move, interfaces_moved, worlds_moved}
use Rattle.wit_merge.proofs.packages.PackagePart.moved.Goals as goal
use Rattle.wit_merge_spec.specs.steps.Parts.{moves_interface, moves_world}

pub push_tables-requires-clause-interfaces : goal.push_tables-requires-clause-interfaces
push_tables-requires-clause-interfaces c =
    let u = c.args.plan.now in
    let m = merging_of u in
    let self = c.args.self.now in
    let names = interfaces_moved u c.requires.ready self.interfaces (λ e has. (c.requires.can.interfaces e has).0) ∙ ap (map (λ (e : List ℕ × ℕ). (e.0, merged_interface m e.1))) (all_move (moves_interface m) self.interfaces (λ e has. (c.requires.can.interfaces e has).1)) in
    let whole : c.new.result ++ moved_names u.matches.now.interfaces u.merge_ids.now.new_ids.interfaces self.interfaces ≡ (package_image m self).interfaces = λ j. c.new.ensures j ++ names j in
    subst (λ (l : Table). HasDistinctKeys l) (sym whole) (distinct_map (merged_interface m) self.interfaces c.requires.can.interfaces_apart)

pub push_tables-requires-clause-worlds : goal.push_tables-requires-clause-worlds
push_tables-requires-clause-worlds c =
    let u = c.args.plan.now in
    let m = merging_of u in
    let self = c.args.self.now in
    let names = worlds_moved u c.requires.ready self.worlds (λ e has. (c.requires.can.worlds e has).0) ∙ ap (map (λ (e : List ℕ × ℕ). (e.0, merged_world m e.1))) (all_move (moves_world m) self.worlds (λ e has. (c.requires.can.worlds e has).1)) in
    let whole : c.new-2.result ++ moved_names u.matches.now.worlds u.merge_ids.now.new_ids.worlds self.worlds ≡ (package_image m self).worlds = λ j. c.new-2.ensures j ++ names j in
    subst (λ (l : Table). HasDistinctKeys l) (sym whole) (distinct_map (merged_world m) self.worlds c.requires.can.worlds_apart)

pub returns : goal.returns
returns c = λ index.
    let u = c.args.plan.now in
    let m = merging_of u in
    let self = c.args.self.now in
    let first = interfaces_moved u c.requires.ready self.interfaces (λ e has. (c.requires.can.interfaces e has).0) ∙ ap (map (λ (e : List ℕ × ℕ). (e.0, merged_interface m e.1))) (all_move (moves_interface m) self.interfaces (λ e has. (c.requires.can.interfaces e has).1)) in
    let second = worlds_moved u c.requires.ready self.worlds (λ e has. (c.requires.can.worlds e has).0) ∙ ap (map (λ (e : List ℕ × ℕ). (e.0, merged_world m e.1))) (all_move (moves_world m) self.worlds (λ e has. (c.requires.can.worlds e has).1)) in
    c.in_ok-push_tables.ensures ∙ (λ j. record { name = c.in_ok-try_clone.ensures j; docs = c.in_ok-try_clone-2.ensures j; interfaces = c.new.ensures j ++ first j; worlds = c.new-2.ensures j ++ second j })
