use Rattle.std.proofs.Common.{◌∙◌, Some, ap, length, map, refl, ℕ}
use Rattle.std.specs.List.{range_with_len}
use Rattle.wit_merge_match.specs.steps.Matched.{merge_of_graphs, new_id_from}
use Rattle.wit_merge_spec.specs.Matches.{counterpart_interface, counterpart_package, counterpart_type, counterpart_world}
use Rattle.wit_merge_match.proofs.Next.{all_same, counted_same}
use Rattle.wit_merge_match.proofs.merge_ids.find_ids.Goals as goal

pub returns : goal.returns
returns c =
    let m = merge_of_graphs c.args.graph.now c.args.other.now in
    let found = c.args.matches.now in
    let types = c.in_ok-new_ids.ensures ∙ (counted_same found.types c.len.ensures ∙ all_same (counterpart_type m) (length m.other.types) (length m.graph.types) found.types c.requires.types (λ (p : ℕ). Some p)) in
    let interfaces = c.in_ok-new_ids-2.ensures ∙ (counted_same found.interfaces c.len-2.ensures ∙ all_same (counterpart_interface m) (length m.other.interfaces) (length m.graph.interfaces) found.interfaces c.requires.interfaces (λ (p : ℕ). Some p)) in
    let worlds = c.in_ok-new_ids-3.ensures ∙ (counted_same found.worlds c.len-3.ensures ∙ all_same (counterpart_world m) (length m.other.worlds) (length m.graph.worlds) found.worlds c.requires.worlds (λ (p : ℕ). Some p)) in
    let packages =
    c.in_ok-packages.ensures ∙ (ap (λ (n : ℕ). map (new_id_from found.packages n) (range_with_len 0 (length found.packages))) c.len-4.ensures
    ∙ all_same (counterpart_package m) (length m.other.packages) (length m.graph.packages) found.packages c.requires.packages (λ (p : ℕ). p)) in
    rw (types, interfaces, worlds, packages) refl
