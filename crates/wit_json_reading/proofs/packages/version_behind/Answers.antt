use Rattle.std.proofs.Common.{None, lit<}
use Rattle.std.proofs.lemmas.Str.Pattern.{split_once_first}
use Rattle.wit_json_reading.proofs.Marks.{no_version}
use Rattle.wit_json_reading.proofs.packages.version_behind.Goals as goal

pub returns-in-None : goal.returns-in-None
returns-in-None c = no_version c.args.text.now (split_once_first 64 c.args.text.now None c.in-None.ensures.cases (lit< tt))
