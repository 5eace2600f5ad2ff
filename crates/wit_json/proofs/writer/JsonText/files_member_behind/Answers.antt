use Rattle.std.proofs.Common.{codes, drop}
use Rattle.wit_sources.specs.SourceMap.{files_of}
use Rattle.wit_json.specs.Values.{list_of}
use Rattle.wit_json.specs.Whole.{json_of_file}
use Rattle.wit_json.specs.facts.MemberFacts.{value_added}
use Rattle.wit_json.proofs.writer.JsonText.files_member_behind.Goals as goal

pub returns : goal.returns
returns c =
    value_added c.files_behind.result c.args.self.now c.files_behind.new.self (codes "sources") (list_of json_of_file (drop c.args.told.files (files_of c.args.files.now.files))) c.in_ok-key.ensures
    c.files_behind.ensures
