use Rattle.std.proofs.Common.{◌≡◌, sym, subst, arith}
use Rattle.std.proofs.lemmas.Grind.{common_steps}
use Rattle.wit_sources.specs.SourceMap.{AreLaidOut}
use Rattle.wit_sources.proofs.source_map.SourceMapTryClone.try_clone.Goals as goal

pub invariant_of-result : goal.invariant_of-result
invariant_of-result c =
    let same : c.loop-file.files.items ≡ c.self.inside.files.items = grind (arith, common_steps) in
    subst (λ files. AreLaidOut 0 files c.self.inside.end) (sym same) c.self.invariant
