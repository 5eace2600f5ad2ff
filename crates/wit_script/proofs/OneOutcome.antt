-- Of a script one thing is said.
use Rattle.std.proofs.Common.{◌≡◌, ℕ, Bool, true, false, ◌||◌, List, length, Option, None, Some, IsTrue, is_some, refl, sym, ap, subst, ◌∙◌, arith}
use Rattle.wit_script_package.specs.declared.draft.Draft.{Draft}
use Rattle.wit_script_lines.specs.Line.{last_statement_line, lines_of}
use Rattle.wit_script.specs.facts.Scripts.{before-whole}
use Rattle.wit_script.proofs.Stays.{goes-on, no-reading, one-bad-line}
use Rattle.wit_script.specs.Ready.{AreReady}
use Rattle.wit_script.specs.Script.{IsBadLine, IsLeftOpen, IsUnderstood, reading_of}
use Rattle.wit_script.specs.laws.Outcome.{HasOneOutcome}
use Rattle.wit_script.specs.declared.reader.Reading.{Reading}
use Rattle.wit_script_lines.specs.declared.request.Request.{Request}
use Rattle.wit_script_lines.specs.facts.OptionFacts.{same-some}

-- a whole reading leaves no bad line
no-bad : (lines : List (List ℕ)) (number : ℕ) (r : Reading) → reading_of lines ≡ Some r → AreReady r.commands → IsBadLine lines number → ⊥
no-bad lines number r read ready bad =
    no-reading lines number (length lines) r bad bad.there (omega arith) (before-whole lines ∙ read) ready

-- nothing waits and something waits
neither : (c : Option Draft) (o : Bool) → c ≡ None → o ≡ false → IsTrue (is_some c || o) → ⊥
neither None true none closed waits = cc
neither None false none closed waits = cc
neither (Some p) o none closed waits = cc

-- a whole reading is understood or left open
whole : (text : List ℕ) (r : Reading) → reading_of (lines_of text) ≡ Some r → AreReady r.commands → ((commands : List Request) → ¬ IsUnderstood text commands)
    → ((number : ℕ) → ¬ IsLeftOpen (lines_of text) number) → ⊥
whole text r read ready not_understood not_open = at r.current r.other refl refl where
  open_at : IsTrue (is_some r.current || r.other) → ⊥
  open_at waits = not_open (last_statement_line (lines_of text)) (record { reading = r; read = read; ready = ready; waits = waits; counted = refl })

  at : (c : Option Draft) (o : Bool) → r.current ≡ c → r.other ≡ o → ⊥
  at None false ended closed = not_understood r.commands (record { reading = r; read = read; asked = refl; ready = ready; ended = ended; closed = closed })
  at None true ended other = open_at (rw (ended, other) refl)
  at (Some p) o current other = open_at (rw current refl)

pub told-once : (text : List ℕ) → HasOneOutcome text
told-once text = record {
  some = λ not_understood not_bad not_open.
      goes-on (lines_of text) (length (lines_of text)) (omega arith) not_bad (λ goes.
      whole text goes.0 (sym (before-whole (lines_of text)) ∙ goes.1) goes.2 not_understood not_open);
  understood_or_bad = λ commands number understood bad. no-bad (lines_of text) number understood.reading understood.read (subst AreReady (sym understood.asked) understood.ready) bad;
  understood_or_open = λ commands number understood left.
      let same : understood.reading ≡ left.reading = same-some _ _ (sym understood.read ∙ left.read) in
      neither left.reading.current left.reading.other (ap (λ (r : Reading). r.current) (sym same) ∙ understood.ended) (ap (λ (r : Reading). r.other) (sym same) ∙ understood.closed) left.waits;
  bad_or_open = λ m n bad left. no-bad (lines_of text) m left.reading left.read left.ready bad;
  commands = λ a b one two. sym one.asked ∙ ap (λ (r : Reading). r.commands) (same-some _ _ (sym one.read ∙ two.read)) ∙ two.asked;
  bad_line = one-bad-line (lines_of text);
  open_line = λ m n one two. one.counted ∙ sym two.counted;
}
