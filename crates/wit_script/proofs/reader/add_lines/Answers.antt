use Rattle.std.proofs.Common.{◌≡◌, ◌∙◌, ◌+◌, refl, sym, map, List, [], Some, ℕ, Bor}
use Rattle.wit_script.specs.Script.{reading_before}
use Rattle.wit_script.proofs.BuiltLines.{before-built}
use Rattle.wit_script.specs.facts.Scripts.{bad-line, read-all, read-next, last-silent, last-said}
use Rattle.wit_script.proofs.reader.add_lines.Goals as goal
use Rattle.wit_script.proofs.reader.add_lines.Goals.{then-says_something, else-says_something}

-- what is read past the end of the lines, where nothing is
none : Bor (List ℕ)
none = record { ref_ptr = (0, 0); now = [] }

pub returns-in-Err-NotUnderstood-clause-fault : goal.returns-in-Err-NotUnderstood-clause-fault
unfolding none
returns-in-Err-NotUnderstood-clause-fault c =
    bad-line c.args.lines.now c.loop-index.index none c.loop-index.reading refl c.loop-index-test.true c.loop-index.invariant.read c.loop-index.invariant.ready
    (rw c.in-Err-NotUnderstood.field-0-is at c.in-Err-NotUnderstood.ensures.next)

pub loop-index-preserved : goal.loop-index-preserved
unfolding none
loop-index-preserved c =
    let read : reading_before (c.loop-index.index + 1) (map (λ (x : Bor (List ℕ)). x.now) c.args.lines.now) ≡ Some c.add_line.new.reading =
    read-next c.args.lines.now c.loop-index.index none c.loop-index.reading c.add_line.new.reading refl
    c.loop-index-test.true c.loop-index.invariant.read c.in-Ok.ensures.next.0 in
    record {
      read = read;
      ready = c.in-Ok.ensures.next.1;
      last = elim c.if-says_something.branch [
        | then-says_something w ↦
            rw w.last-is (last-said c.args.lines.now c.loop-index.index none c.loop-index-test.true (sym w.if-says_something.true ∙ c.in-Ok.ensures.told))
        | else-says_something w ↦
            rw w.last-is (last-silent c.args.lines.now c.loop-index.index none c.loop-index.last c.loop-index-test.true c.loop-index.invariant.last
            (sym w.if-says_something.false ∙ c.in-Ok.ensures.told))
      ];
    }

pub returns-clause-read : goal.returns-clause-read
unfolding none
returns-clause-read c =
    read-all c.args.lines.now c.loop-index.index none c.loop-index.reading c.loop-index.auto.index-end c.loop-index-test.false c.loop-index.invariant.read

pub add_line-requires-clause-built : goal.add_line-requires-clause-built
add_line-requires-clause-built c = before-built c.loop-index.index _ c.loop-index.reading c.loop-index.invariant.read
