use Rattle.wit_json_graphs.proofs.Packages.{packages_read_back}
use Rattle.wit_json_graphs.proofs.laws.packages_read_back.Goals as goal

pub returns : goal.returns
returns c = packages_read_back
