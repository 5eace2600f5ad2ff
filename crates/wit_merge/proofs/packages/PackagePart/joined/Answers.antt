use Rattle.std.proofs.Common.{◌≡◌, ◌∙◌, ◌++◌, sym, subst}
use Rattle.wit_values.specs.Table.{HasDistinctKeys}
use Rattle.wit_merge_spec.specs.Merged.{with_package}
use Rattle.wit_merge.specs.steps.MergeSteps.{moved_names, merging_of}
use Rattle.wit_merge.proofs.MovedNames.{Table, interfaces_moved, worlds_moved}
use Rattle.wit_merge.proofs.packages.PackagePart.joined.Goals as goal

pub push_tables-requires-clause-interfaces : goal.push_tables-requires-clause-interfaces
push_tables-requires-clause-interfaces c =
    let u = c.args.plan.now in
    let from = c.args.from.now in
    let names : c.in_ok-joined.joined.interfaces ++ moved_names u.matches.now.interfaces u.merge_ids.now.new_ids.interfaces from.interfaces ≡ (with_package (merging_of u) from c.args.self.now).interfaces =
    λ j. (c.in_ok-joined.ensures j).interfaces ++ interfaces_moved u c.requires.ready from.interfaces c.requires.can.interfaces j in
    subst (λ (l : Table). HasDistinctKeys l) (sym names) c.requires.can.interfaces_apart

pub push_tables-requires-clause-worlds : goal.push_tables-requires-clause-worlds
push_tables-requires-clause-worlds c =
    let u = c.args.plan.now in
    let from = c.args.from.now in
    let names : c.in_ok-joined.joined.worlds ++ moved_names u.matches.now.worlds u.merge_ids.now.new_ids.worlds from.worlds ≡ (with_package (merging_of u) from c.args.self.now).worlds =
    λ j. (c.in_ok-joined.ensures j).worlds ++ worlds_moved u c.requires.ready from.worlds c.requires.can.worlds j in
    subst (λ (l : Table). HasDistinctKeys l) (sym names) c.requires.can.worlds_apart

pub returns : goal.returns
returns c = λ index.
    let u = c.args.plan.now in
    let m = merging_of u in
    let ready = c.requires.ready in
    let from = c.args.from.now in
    let kept = c.in_ok-joined.ensures in
    let interfaces : c.in_ok-joined.joined.interfaces ++ moved_names u.matches.now.interfaces u.merge_ids.now.new_ids.interfaces from.interfaces ≡ (with_package m from c.args.self.now).interfaces =
    λ j. (kept j).interfaces ++ interfaces_moved u ready from.interfaces c.requires.can.interfaces j in
    let worlds : c.in_ok-joined.joined.worlds ++ moved_names u.matches.now.worlds u.merge_ids.now.new_ids.worlds from.worlds ≡ (with_package m from c.args.self.now).worlds =
    λ j. (kept j).worlds ++ worlds_moved u ready from.worlds c.requires.can.worlds j in
    c.in_ok-push_tables.ensures ∙ (λ j. record (kept j) { interfaces = interfaces j; worlds = worlds j })
