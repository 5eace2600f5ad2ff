use Rattle.std.proofs.Common.{rules, ◌≡◌, ◌∙◌, ◌++◌, string_bytes}
use Rattle.std.proofs.lemmas.List.{length_push}
use Rattle.std.proofs.lemmas.Map.Iter.{iter_turn}
use Rattle.std.specs.Map.Iter.{deref_pair}
use Rattle.wit_script.specs.World.{entry_line}
use Rattle.wit_script.proofs.Pieces.{text-next}
use Rattle.wit_script.proofs.printer.print_entries.Goals as goal

pub loop-key-preserved : goal.loop-key-preserved
loop-key-preserved c =
    let turn = iter_turn deref_pair c.args.entries.now c.loop-key.yielded _ _ _ _ (c.into_iter-key-iterator.ensures.into_iter_gives ∙ c.iter-key-items.ensures.rest) c.loop-key.yielded_by _ c.in-Some.is c.next.ensures.steps in
    let line : string_bytes c.write.new.self ≡ string_bytes c.loop-key.text ++ entry_line c.args.graph.now c.args.word.now (c.in-Some.key.now, c.in-Some.item.now) = search rules in
    rw length_push
    (text-next (entry_line c.args.graph.now c.args.word.now) _ _ _ _ _ _ turn.1 c.loop-key.invariant line)
