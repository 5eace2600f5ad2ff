use Rattle.std.proofs.Common.{◌<◌, length, add-one}
use Rattle.wit_sources.specs.SourceMap.{moved_file}
use Rattle.wit_sources.proofs.SourceMapLemmas.{map_first-set}
use Rattle.wit_sources.proofs.source_map.moved_files.Goals as goal

pub loop-file-preserved : goal.loop-file-preserved
loop-file-preserved c =
    let within : c.loop-file.file-index < length c.args.files.items = rw (← c.deref_mut-file-items.ensures.value) c.loop-file-test.true in
    rw (c.loop-file.invariant, add-one)
    (map_first-set (moved_file c.args.offset) c.args.files.items c.loop-file.file-index c.file-item.result within)
