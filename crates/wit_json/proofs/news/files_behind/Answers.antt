use Rattle.wit_sources.specs.SourceMap.{files_of}
use Rattle.wit_json.proofs.Behind.{one_less}
use Rattle.wit_json.proofs.news.files_behind.Goals as goal

pub loop-file-preserved : goal.loop-file-preserved
loop-file-preserved c = one_less (λ file. (file.0.now, file.1.now)) c.loop-file._file (files_of c.args.files.now.files) c.loop-file.left c.next.new.self c.next.result c.next.ensures.steps c.loop-file.invariant
