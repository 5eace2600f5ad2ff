use Rattle.std.proofs.Common.{◌≡◌, ◌≤◌, ◌<◌, ◌∙◌, ◌+◌, ◌-◌, ◌++◌, ◌∷◌, [], ℕ, List, Some, Vec, Global, length, take, sym, ap, arith, rules}
use Rattle.wit_json_reading.specs.Stops.{innermost, less_innermost}
use Rattle.wit_json_reading.specs.Syntax.{begun}
use Rattle.wit_json_reading.specs.declared.fault.Expected.TheVariants as expected
use Rattle.wit_json_reading.specs.declared.syntax.Bracket.{Bracket}
use Rattle.wit_json_reading.specs.declared.syntax.State.{State}
use Rattle.wit_json_reading.specs.declared.syntax.State.TheVariants as state
use Rattle.wit_json_reading.proofs.ByMoves.{closes, ends_early, ends_well, goes_to, nests_too_deep, opens, same_place, stops}
use Rattle.wit_json_reading.proofs.stops.first_stop.Goals as goal
use Rattle.wit_json_reading.proofs.stops.first_stop.Goals.{in-To, in-Open-2+in_ok-push-in-Open-2, in-Close}

pub returns-in-Open-clause-value : goal.returns-in-Open-clause-value
returns-in-Open-clause-value c =
    let around_is : c.copied-around.result ≡ innermost c.loop-index.brackets.items = search rules in
    let more : 128 ≤ length c.loop-index.brackets.items =
    let len = c.len.ensures in let ge = c.if-len-ge-MAX_DEPTH.true in let told = c.deref.ensures.len in let same = ap length c.deref.ensures.value in omega arith in
    nests_too_deep c.as_bytes-bytes.result.now c.loop-index.brackets.items c.loop-index.state c.loop-index.index _ c.loop-index.invariant c.copied-around.result c.next.result
    c.in-Open.field-0 c.loop-index-test.true around_is c.next.ensures c.in-Open.is more

pub returns-in-Stop-clause-value : goal.returns-in-Stop-clause-value
returns-in-Stop-clause-value c =
    let around_is : c.copied-around.result ≡ innermost c.loop-index.brackets.items = search rules in
    stops c.as_bytes-bytes.result.now c.loop-index.brackets.items c.loop-index.state c.loop-index.index _ c.loop-index.invariant c.copied-around.result c.next.result
    c.awaited.result c.loop-index-test.true around_is c.next.ensures c.in-Stop.is c.awaited.ensures

pub loop-index-preserved : goal.loop-index-preserved
loop-index-preserved c =
    let text : List ℕ = c.as_bytes-bytes.result.now in
    let brackets : List Bracket = c.loop-index.brackets.items in
    let s : State = c.loop-index.state in
    let i : ℕ = c.loop-index.index in
    let around_is : c.copied-around.result ≡ innermost c.loop-index.brackets.items = search rules in
    elim c.match-next.branch [
      | in-To w ↦
          same_place text (i + 1) brackets c.match-next.brackets.items w.in-To.then c.match-next.state _ (ap (λ (v : Vec Bracket Global). v.items) w.brackets-is) w.state-is
          (goes_to text brackets s i _ c.loop-index.invariant c.copied-around.result c.next.result w.in-To.then c.loop-index-test.true around_is c.next.ensures w.in-To.is)
      | in-Open-2+in_ok-push-in-Open-2 w ↦
          let less : length c.loop-index.brackets.items < 128 =
          let len = w.len.ensures in let lt = w.if-len-ge-MAX_DEPTH.false in let told = c.deref.ensures.len in let same = ap length c.deref.ensures.value in omega arith in
          same_place text (i + 1) (brackets ++ w.in-Open.field-0 ∷ []) c.match-next.brackets.items (begun w.in-Open.field-0) c.match-next.state _
          (ap (λ (v : Vec Bracket Global). v.items) w.brackets-is ∙ w.in_ok-push-in-Open-2.ensures.items) (w.state-is ∙ w.begun-state.ensures)
          (opens text brackets s i _ c.loop-index.invariant c.copied-around.result c.next.result w.in-Open.field-0 c.loop-index-test.true around_is c.next.ensures w.in-Open.is less)
      | in-Close w ↦
          let len : c.loop-index.brackets.len ≡ length c.loop-index.brackets.items = let told = c.deref.ensures.len in let same = ap length c.deref.ensures.value in omega arith in
          same_place text (i + 1) (less_innermost brackets) c.match-next.brackets.items state.ValueEnded c.match-next.state _
          (ap (λ (v : Vec Bracket Global). v.items) w.brackets-is ∙ w.pop.ensures.rest ∙ ap (λ (n : ℕ). take (n - 1) c.loop-index.brackets.items) len) w.state-is
          (closes text brackets s i _ c.loop-index.invariant c.copied-around.result c.next.result c.loop-index-test.true around_is c.next.ensures w.in-Close.is)
    ]

pub returns-then-may_end-clause-value : goal.returns-then-may_end-clause-value
returns-then-may_end-clause-value c =
    let around_is : c.copied-around-2.result ≡ innermost c.loop-index.brackets.items = search rules in
    ends_well c.as_bytes-bytes.result.now c.loop-index.brackets.items c.loop-index.state c.loop-index.index _ c.loop-index.invariant c.copied-around-2.result
    c.loop-index-test.false around_is (sym c.may_end.ensures ∙ c.if-may_end.true)

pub returns-clause-value : goal.returns-clause-value
returns-clause-value c =
    let around_is : c.copied-around-2.result ≡ innermost c.loop-index.brackets.items = search rules in
    let over : length c.as_bytes-bytes.result.now ≡ c.loop-index.index = let past = c.loop-index-test.false in let within = c.loop-index.auto.index-end in omega arith in
    ap (λ (n : ℕ). Some (n, expected.UnfinishedJson c.awaited-2.result)) over
    ∙ ends_early c.as_bytes-bytes.result.now c.loop-index.brackets.items c.loop-index.state c.loop-index.index _ c.loop-index.invariant c.copied-around-2.result c.awaited-2.result
    c.loop-index-test.false around_is (sym c.may_end.ensures ∙ c.if-may_end.false) c.awaited-2.ensures
