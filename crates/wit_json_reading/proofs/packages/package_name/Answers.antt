use Rattle.std.proofs.Common.{None, lit<}
use Rattle.std.proofs.lemmas.Str.Pattern.{split_once_first}
use Rattle.wit_json_reading.proofs.Marks.{no_namespace}
use Rattle.wit_json_reading.proofs.Members.{reads_same}
use Rattle.wit_json_reading.proofs.packages.package_name.Goals as goal

pub returns-in-None : goal.returns-in-None
returns-in-None c =
    reads_same c.instead_of.result (no_namespace c.args.text.now (split_once_first 58 c.args.text.now None c.in-None.ensures.cases (lit< tt))) c.instead_of.ensures
