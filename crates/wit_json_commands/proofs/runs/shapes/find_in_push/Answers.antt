use Rattle.wit_json_commands.proofs.FirstUnshaped.{push_main, push_told}
use Rattle.wit_json_commands.proofs.runs.shapes.find_in_push.Goals as goal

pub returns-in-Some : goal.returns-in-Some
returns-in-Some c = push_main c.args.main.now c.args.deps.now _ c.in-Some.«package» c.in-Some.fault c.in_ok-package.ensures c.in-Some.is

pub returns-in-None : goal.returns-in-None
returns-in-None c = push_told c.args.main.now c.args.deps.now _ c.find_in_deps.result c.in_ok-package.ensures c.in-None.is c.find_in_deps.ensures
