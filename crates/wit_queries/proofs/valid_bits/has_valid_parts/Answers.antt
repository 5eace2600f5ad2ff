use Rattle.std.proofs.Common.{rules}
use Rattle.wit_queries.proofs.ValidParts.{kind_valid, other_valid}
use Rattle.wit_queries.proofs.valid_bits.has_valid_parts.Goals as goal

pub returns-in-Handle : goal.returns-in-Handle
returns-in-Handle c = rw (← kind_valid c.args.flags.now c.args.kind.now) (search rules)

pub returns-in-Type_ : goal.returns-in-Type_
returns-in-Type_ c = rw (← kind_valid c.args.flags.now c.args.kind.now) (search rules)

pub returns-in-FixedLengthList : goal.returns-in-FixedLengthList
returns-in-FixedLengthList c = rw (← kind_valid c.args.flags.now c.args.kind.now) (search rules)

pub returns-in-Record : goal.returns-in-Record
returns-in-Record c = rw (← kind_valid c.args.flags.now c.args.kind.now) (search rules)

pub returns-in-Tuple : goal.returns-in-Tuple
returns-in-Tuple c = rw (← kind_valid c.args.flags.now c.args.kind.now) (search rules)

pub returns-in_default : goal.returns-in_default
returns-in_default c =
    let d = c.in_default in
    other_valid c.args.flags.now c.args.kind.now d.not-Handle d.not-Type_ d.not-FixedLengthList d.not-Record d.not-Tuple
