use Rattle.std.proofs.Common.{◌≡◌, length, Some, None, refl, rules}
use Rattle.std.specs.Prelude.{◌==◌}
use Rattle.std.specs.List.{position_or_len}
use Rattle.wit_names.specs.UsePath.{version_after}
use Rattle.wit_names.proofs.Cuts.{list_any-none}
use Rattle.wit_names.proofs.use_path.parse_version_after.Goals as goal

-- with no `@` there is no version
unversioned : (c : goal.In-None) → version_after c.args.tail.now ≡ Some None
unversioned c =
    let none : position_or_len (λ b. b == 64) c.args.tail.now ≡ length c.args.tail.now = search rules in
    rw (list_any-none (λ b. b == 64) c.args.tail.now none) refl

pub returns-in-None-clause-ok : goal.returns-in-None-clause-ok
returns-in-None-clause-ok c = unversioned c

pub returns-in-None-clause-invalid : goal.returns-in-None-clause-invalid
returns-in-None-clause-invalid c =
    let none = unversioned c in
    (λ invalid. cc, λ unread. cc)
