use Rattle.wit_json_commands.proofs.PackagePaths.{path_closed}
use Rattle.wit_json_commands.proofs.replies.unshaped.write_path.Goals as goal

pub returns : goal.returns
returns c = path_closed c.end_array.result c.args.out.now c.end_array.new.self c.args.group c.args.«package» c.in_ok-begin_array.ensures c.in_ok-write_group.ensures c.in_ok-write_package.ensures c.end_array.ensures
