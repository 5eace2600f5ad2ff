use Rattle.std.proofs.Common.{◌∙◌, sym}
use Rattle.wit_link_lookup.proofs.VersionsMet.{told-lacking, told-unreleased}
use Rattle.wit_link_lookup.proofs.checker.Checker.check_since.Goals as goal

pub returns-then-lt-clause-cause : goal.returns-then-lt-clause-cause
returns-then-lt-clause-cause c =
    told-unreleased c.args.self.now c.args.since.now c.requires.0 c.in-Some.version c.args.span c.in_ok-unreleased-in-Some.field-0 c.requires.1 c.in-Some.is
    (sym c.lt.ensures ∙ c.if-lt.true) c.in_ok-unreleased-in-Some.ensures

pub returns-in_ok-without_version-in-None-clause-cause : goal.returns-in_ok-without_version-in-None-clause-cause
returns-in_ok-without_version-in-None-clause-cause c =
    told-lacking c.args.self.now c.args.since.now c.requires.0 c.args.span c.in_ok-without_version-in-None.field-0 c.requires.1 c.in-None.is c.in_ok-without_version-in-None.ensures
