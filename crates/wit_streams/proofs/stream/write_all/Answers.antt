use Rattle.std.proofs.Common.{arith, subst, ◌≤◌, ◌-◌, length}
use Rattle.std.proofs.lemmas.Grind.{common_steps}
use Rattle.std.specs.Io.KnownBytes.{Appends}
use Rattle.wit_streams.proofs.Known.{Appends-more, take-more_of}
use Rattle.wit_streams.proofs.stream.write_all.Goals as goal

pub loop-at-preserved : goal.loop-at-preserved
loop-at-preserved g c =
    let le : c.in-Ok.count ≤ length c.as_bytes-bytes.result.now - c.loop-at.at = grind (arith, common_steps, c.in-Ok.ensures.bound) in
    record {
      within = omega arith;
      written = subst (Appends _ _) (take-more_of c.as_bytes-bytes.result.now c.loop-at.at c.in-Ok.count le) (Appends-more _ _ _ _ _ c.loop-at.invariant.written c.in-Ok.ensures.bytes);
    }
