use Rattle.std.proofs.Common.{◌≡◌, ◌∷◌, ◌≤◌, ap, arith, length, rules}
use Rattle.std.specs.Vec.Iter.{into_iter_items}
use Rattle.indexmap.specs.IndexMap.{spare}
use Rattle.wit_values.proofs.PairsLemmas.{one_more}
use Rattle.wit_values.proofs.pairs.fill.Goals as goal

pub loop-key-preserved-in-Ok : goal.loop-key-preserved-in-Ok
loop-key-preserved-in-Ok g c =
    let left = into_iter_items c.loop-key.key-iterator in
    let first : left ≡ (c.in-Some.key, c.in-Some.value) ∷ into_iter_items c.next.new.self = search rules in
    let long : length left ≤ spare c.loop-key.map = c.loop-key.invariant.room in
    record {
      pairs = one_more g.met.K.Eq.laws c.loop-key.map left (into_iter_items c.next.new.self) c.args.pairs.items c.insert.new.self.entries c.in-Some.key c.in-Some.value c.requires.distinct c.loop-key.invariant.pairs first c.in-Ok.ensures.entries;
      room = omega (arith, ap length first, long, c.insert.ensures.spare);
    }

pub loop-key-preserved-in-Ok-2 : goal.loop-key-preserved-in-Ok-2
loop-key-preserved-in-Ok-2 g c =
    let left = into_iter_items c.loop-key.key-iterator in
    let first : left ≡ (c.in-Some.key, c.in-Some.value) ∷ into_iter_items c.next.new.self = search rules in
    let long : length left ≤ spare c.loop-key.map = c.loop-key.invariant.room in
    record {
      pairs = one_more g.met.K.Eq.laws c.loop-key.map left (into_iter_items c.next.new.self) c.args.pairs.items c.insert.new.self.entries c.in-Some.key c.in-Some.value c.requires.distinct c.loop-key.invariant.pairs first c.in-Ok.ensures.entries;
      room = omega (arith, ap length first, long, c.insert.ensures.spare);
    }
