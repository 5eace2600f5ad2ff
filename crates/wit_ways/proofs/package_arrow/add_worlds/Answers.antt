use Rattle.std.proofs.Common.{◌∙◌, ◌++◌, ℕ, List, Option, ap, append_assoc, filter_map, sym}
use Rattle.std.specs.List.{range_with_len}
use Rattle.std.specs.Option.{option_to_list}
use Rattle.wit_ways.specs.Packages.{package_world}
use Rattle.wit_ways.specs.declared.world_name.WorldPlace.{WorldPlace}
use Rattle.wit_ways.proofs.Ranges.{range_next_some}
use Rattle.wit_ways.proofs.package_arrow.add_worlds.Goals as goal

pub loop-index-preserved : goal.loop-index-preserved
loop-index-preserved c =
    let of = package_world c.args.offset c.args.«package».now in
    let n : ℕ = c.loop-index.index in
    let first = filter_map of (range_with_len 0 n) in
    c.in_ok-add_place.ensures ∙ ap (λ (place : Option WorldPlace). c.loop-index.places ++ option_to_list place) (c.in_ok-place.ensures ∙ ap of c.from_index.ensures)
    ∙ ap (λ (places : List WorldPlace). places ++ option_to_list (of n)) c.loop-index.invariant ∙ append_assoc c.args.places.now first (option_to_list (of n))
    ∙ ap (λ (places : List WorldPlace). c.args.places.now ++ places) (sym (range_next_some of n))
