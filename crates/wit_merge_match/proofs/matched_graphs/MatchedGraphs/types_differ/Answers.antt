use Rattle.std.proofs.Common.{ap, arith, length, List, string_bytes}
use Rattle.wit_data.specs.declared.types.TypeDef.{TypeDef}
use Rattle.wit_merge_match.proofs.TypesCompared.{is_of, named_alike, named_told}
use Rattle.wit_merge_match.proofs.matched_graphs.MatchedGraphs.types_differ.Goals as goal

pub difference-requires-clause-from : goal.difference-requires-clause-from
difference-requires-clause-from c =
    omega (arith, ap (λ (l : List TypeDef). length l) c.requires.of.from, c.index.ensures, c.requires.from)

pub difference-requires-clause-into : goal.difference-requires-clause-into
difference-requires-clause-into c =
    omega (arith, ap (λ (l : List TypeDef). length l) c.requires.of.into, c.index-2.ensures, c.requires.into)

pub returns-in_ok-in_type-in-Some-clause-some : goal.returns-in_ok-in_type-in-Some-clause-some
returns-in_ok-in_type-in-Some-clause-some c =
    let told = rw c.in-Some.is at c.in_ok-text.ensures.some in
    named_told c.args.self.now c.requires.comparable c.args.comparison.now c.requires.of c.args.name.now c.args.from c.args.into (string_bytes c.in-Some.text) _ (rw (c.index.ensures, c.index-2.ensures) at told) (rw c.deref.ensures at c.in_ok-in_type-in-Some.ensures)

pub returns-in-None-clause-none : goal.returns-in-None-clause-none
returns-in-None-clause-none c =
    named_alike c.args.self.now c.requires.comparable c.args.comparison.now c.requires.of c.args.name.now c.args.from c.args.into (rw (c.index.ensures, c.index-2.ensures) at (rw c.in-None.is at c.in_ok-text.ensures.none))

pub returns-in-None-clause-of : goal.returns-in-None-clause-of
returns-in-None-clause-of c =
    is_of c.args.self.now c.args.comparison.now c.difference.new.self c.requires.of c.difference.ensures.sides c.difference.ensures.sound

pub returns-in_ok-in_type-in-Some-clause-of : goal.returns-in_ok-in_type-in-Some-clause-of
returns-in_ok-in_type-in-Some-clause-of c =
    is_of c.args.self.now c.args.comparison.now c.difference.new.self c.requires.of c.difference.ensures.sides c.difference.ensures.sound

pub returns-in_err-in_type-in-Some-clause-of : goal.returns-in_err-in_type-in-Some-clause-of
returns-in_err-in_type-in-Some-clause-of c =
    is_of c.args.self.now c.args.comparison.now c.difference.new.self c.requires.of c.difference.ensures.sides c.difference.ensures.sound

pub returns-in_err-text-clause-of : goal.returns-in_err-text-clause-of
returns-in_err-text-clause-of c =
    is_of c.args.self.now c.args.comparison.now c.difference.new.self c.requires.of c.difference.ensures.sides c.difference.ensures.sound
