use Rattle.std.proofs.Common.{◌≡◌, ◌+◌, ℕ, Some, arith, length, refl, rules, subst, suc}
use Rattle.std.specs.Prelude.{slice_get}
use Rattle.std.proofs.lemmas.Option.{slice_get_read}
use Rattle.wit_ways.proofs.Searching.{index_next}
use Rattle.wit_ways.specs.steps.Searching.{IsIndexUpTo}
use Rattle.wit_ways.proofs.way.ArrowIndex.of.Goals as goal

pub loop-index-preserved : goal.loop-index-preserved
loop-index-preserved c =
    let n = c.loop-index.index in
    let there : slice_get c.args.arrows.now n ≡ Some c.index-arrows-index.result = slice_get_read c.args.arrows.now (length c.args.arrows.now) n c.index-arrows-index.result refl (search rules) (search rules) in
    let next : suc n ≡ n + 1 = omega arith in
    subst (λ (m : ℕ). IsIndexUpTo c.args.arrows.now m (record { last = c.insert.new.self; before = c.push.new.self })) next
    (index_next c.args.arrows.now n (record { last = c.loop-index.last; before = c.loop-index.before }) (record { last = c.insert.new.self; before = c.push.new.self })
    c.index-arrows-index.result c.in_ok-earlier.earlier c.loop-index.invariant there (search rules) (search rules) (search rules))
