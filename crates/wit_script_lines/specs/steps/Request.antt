-- Words of inner contracts and proofs, beside `Request`.
use Rattle.wit_commands.specs.declared.change.Change.TheVariants as change
use Rattle.wit_script_lines.specs.declared.request.Request.{Request}
use Rattle.wit_script_lines.specs.declared.request.Request.TheVariants as request

-- it brings no package
abbrev pub BringsNone : Request → Type 0
BringsNone (request.Change (change.PushGroups main deps)) = ⊥
BringsNone _ = Unit {0}
