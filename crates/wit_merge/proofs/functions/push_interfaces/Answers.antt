use Rattle.std.proofs.Common.{◌≡◌, ◌∙◌, ◌++◌, ◌+◌, ℕ, List, Option, ap, drop, map, option_and_then, refl, slice_get, Some, subst}
use Rattle.std.proofs.lemmas.Option.{slice_get_read}
use Rattle.std.specs.List.{enumerate_from, flat_map}
use Rattle.std.specs.Option.{option_map_or}
use Rattle.wit_data.specs.declared.function.Function.{Function}
use Rattle.wit_data.specs.declared.interface.Interface.{Interface}
use Rattle.wit_merge_spec.specs.Matches.{GraphMerge}
use Rattle.wit_merge_spec.specs.Merged.{brought_functions}
use Rattle.wit_link_resources.specs.steps.Active.{seen}
use Rattle.wit_merge_match.specs.steps.Matched.{merge_of_graphs}
use Rattle.wit_merge.proofs.Left.{left-more}
use Rattle.wit_merge.proofs.Numbered.{first_behind}
use Rattle.wit_merge.proofs.functions.push_interfaces.Goals as goal
use Rattle.wit_merge_spec.specs.steps.Parts.{interface_functions}

pub loop-index-preserved : goal.loop-index-preserved
loop-index-preserved c =
    let m : GraphMerge = merge_of_graphs c.args.graph.now c.args.other.now in
    let place : ℕ = c.loop-index.index in
    let from : Interface = c.from-item.result in
    let read = slice_get_read c.as_slice-from-items.result.now _ place from refl c.loop-index-test.true c.from-item.is in
    let at : slice_get m.other.interfaces place ≡ Some from = subst (λ (xs : List Interface). slice_get xs place ≡ Some from) c.as_slice-from-items.ensures read in
    let before : List Function = seen c.loop-index.functions.items in
    let brought : ℕ × Interface → List Function = λ e. interface_functions m e.0 e.1 in
    let added : seen c.push_brought.new.functions.items ≡ before ++ interface_functions m place from =
    c.in_ok-push_brought.ensures ∙ ap (λ (o : Option Interface). before ++ map (λ (e : List ℕ × Function). e.1) (option_map_or (brought_functions from) o from.functions))
    (c.matched_interface-into.ensures ∙ ap (option_and_then (slice_get m.graph.interfaces)) (c.requires.interfaces.each place)) in
    left-more (flat_map brought) brought (λ e es. refl) before (seen c.push_brought.new.functions.items) _ (enumerate_from place (drop place m.other.interfaces)) (place, from) _
    (first_behind m.other.interfaces place (place + 1) from refl at) c.loop-index.invariant added
