-- What isn't understood stays so, whatever lines come after it.
use Rattle.std.proofs.Common.{◌≡◌, ℕ, suc, zero, ◌+◌, ◌<◌, ◌≤◌, List, [], ◌∷◌, ◌++◌, length, drop, get_or, Option, None, Some, refl, sym, ap, subst, ◌∙◌, inl, inr, arith}
use Rattle.std.proofs.lemmas.Bool.{cases_order}
use Rattle.std.specs.Option.{option_and_then}
use Rattle.wit_script_lines.specs.Statement.{statement_of}
use Rattle.wit_script_lines.specs.declared.statement.Statement.{Statement}
use Rattle.wit_script.specs.facts.Scripts.{before-more, step_at}
use Rattle.wit_script.specs.facts.Stepped.{adds, said-makes, stays}
use Rattle.wit_script.specs.Ready.{AreReady}
use Rattle.wit_script.specs.Script.{IsBad, IsBadLine, after_line, after_statement_in, new_reading, reading_before}
use Rattle.wit_script.specs.declared.reader.Reading.{Reading}
use Rattle.wit_script_lines.specs.declared.request.Request.{Request}

-- ---- commands stay

front-ready : (commands more : List Request) → AreReady (commands ++ more) → AreReady commands
front-ready [] more ready = tt
front-ready (first ∷ commands) more ready = (ready.0, front-ready commands more ready.1)

said-stays : (r : Reading) (text : List ℕ) (ahead : List (List ℕ)) (o : Option (Option Statement)) (next : Reading) → after_statement_in r text ahead o ≡ Some next → AreReady next.commands → AreReady r.commands
said-stays r text ahead o next made ready = elim (said-makes r text ahead o next made) [
  | stays commands other ↦ subst AreReady commands ready
  | adds command commands waits ↦ front-ready r.commands (command ∷ []) (subst AreReady commands ready)
]

-- ---- what is bad stays bad

line-stays : (r : Reading) (text : List ℕ) (ahead : List (List ℕ)) → ¬ AreReady r.commands → IsBad (after_line r text ahead)
line-stays r text ahead bad = at (after_line r text ahead) refl where
  at : (o : Option Reading) → after_line r text ahead ≡ o → IsBad o
  at None made = tt
  at (Some next) made = λ ready. bad (said-stays r text ahead (statement_of text) next made ready)

bad-step : (lines : List (List ℕ)) (k : ℕ) (o : Option Reading) → IsBad o → IsBad (option_and_then (step_at lines k) o)
bad-step lines k None bad = tt
bad-step lines k (Some r) bad = line-stays r (get_or lines k []) (drop (suc k) lines) bad

difference : (a b : ℕ) → a ≤ b → (d : ℕ) × (b ≡ a + d)
difference zero b less = (b, omega arith)
difference (suc a) zero less = absurd (omega (arith, less))
difference (suc a) (suc b) less = let d = difference a b (omega (arith, less)) in (d.0, omega (arith, d.1))

module _ (lines : List (List ℕ)) where
  bad-next : (k : ℕ) → k < length lines → IsBad (reading_before k lines) → IsBad (reading_before (k + 1) lines)
  bad-next k within bad = subst IsBad (sym (before-more k lines within)) (bad-step lines k (reading_before k lines) bad)

  bad-after : (d k : ℕ) → k + d ≤ length lines → IsBad (reading_before k lines) → IsBad (reading_before (k + d) lines)
  bad-after zero k within bad = let same : k ≡ k + 0 = omega arith in subst (λ n. IsBad (reading_before n lines)) same bad
  bad-after (suc d) k within bad =
      let same : (k + 1) + d ≡ k + suc d = omega arith in
      subst (λ n. IsBad (reading_before n lines)) same (bad-after d (k + 1) (omega (arith, within)) (bad-next k (omega (arith, within)) bad))

  -- no reading that goes on comes after a bad line
  pub no-reading : (number n : ℕ) (r : Reading) → (bad : IsBadLine lines number) → bad.before < n → n ≤ length lines → reading_before n lines ≡ Some r → AreReady r.commands → ⊥
  no-reading number n r bad after within read ready =
      let rest : (d : ℕ) × (n ≡ (bad.before + 1) + d) = difference (bad.before + 1) n (omega (arith, after)) in
      let there : IsBad (reading_before n lines) =
      subst (λ m. IsBad (reading_before m lines)) (sym rest.1) (bad-after rest.0 (bad.before + 1) (omega (arith, within, rest.1)) bad.bad) in
      let gone : IsBad (Some r) = subst IsBad read there in
      gone ready

  -- there is one first bad line
  pub one-bad-line : (m n : ℕ) → IsBadLine lines m → IsBadLine lines n → m ≡ n
  one-bad-line m n a b = elim (cases_order a.before b.before) [
    | inl same ↦ a.counted ∙ ap (λ k. k + 1) same ∙ sym b.counted
    | inr other ↦
        elim other [
          | inl less ↦ absurd (no-reading m b.before b.reading a less (omega (arith, b.there)) b.read b.ready)
          | inr less ↦ absurd (no-reading n a.before a.reading b less (omega (arith, a.there)) a.read a.ready)
        ]
  ]

  -- ---- some line is bad, or all are read

  -- a reading after so many lines that goes on
  abbrev Goes : ℕ → Type 0
  Goes k = (r : Reading) × (reading_before k lines ≡ Some r) × AreReady r.commands

  bad-else : (o : Option Reading) → ¬ ((r : Reading) × (o ≡ Some r) × AreReady r.commands) → IsBad o
  bad-else None none = tt
  bad-else (Some r) none = λ ready. none (r, refl, ready)

  pub goes-on : (k : ℕ) → k ≤ length lines → ((number : ℕ) → ¬ IsBadLine lines number) → ¬ (¬ Goes k)
  goes-on zero within fine stuck = stuck (new_reading, refl, tt)
  goes-on (suc k) within fine stuck =
      goes-on k (omega (arith, within)) fine (λ goes.
      fine (k + 1) (record {
        before = k;
        reading = goes.0;
        read = goes.1;
        ready = goes.2;
        there = omega (arith, within);
        bad = let same : suc k ≡ k + 1 = omega arith in subst (λ n. IsBad (reading_before n lines)) same (bad-else (reading_before (suc k) lines) stuck);
        counted = refl;
      }))
