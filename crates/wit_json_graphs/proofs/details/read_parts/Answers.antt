use Rattle.std.proofs.Common.{rules, ◌≡◌, ◌∙◌, [], Some, Err, slice_get, sym, subst, arith, refl}
use Rattle.std.proofs.lemmas.Option.{slice_get_read}
use Rattle.wit_json_reading.specs.declared.fault.Expected.TheVariants as expected
use Rattle.wit_json_graphs.specs.steps.Completes.{Completes}
use Rattle.wit_json_graphs.specs.steps.Parts.{with_parts}
use Rattle.wit_json_graphs.proofs.Completed.{fails}
use Rattle.wit_json_graphs.proofs.Rows.{stopped, too_few, too_many, turned}
use Rattle.wit_json_graphs.proofs.details.read_parts.Goals as goal

pub returns-in_default : goal.returns-in_default
returns-in_default g c =
    fails c.instead_of.result (record { path = []; expected = expected.Details }) _ c.loop-index.row
    (too_few g.R.Row.with_part c.many-many.result c.loop-index.index c.loop-index.row c.args.parts.now _ c.loop-index-test.true c.in_default.ensures.lookup.3 c.loop-index.invariant.up_to)
    c.instead_of.ensures

pub returns-in_err-read_part : goal.returns-in_err-read_part
returns-in_err-read_part g c =
    let at : slice_get c.args.parts.now c.loop-index.index ≡ Some c.in-Some.part.now =
    slice_get_read c.args.parts.now _ c.loop-index.index c.in-Some.part.now refl c.in-Some.ensures.lookup.3.0 c.in-Some.ensures.lookup.1 in
    let whole = with_parts g.R.Row.with_part (g.R.Row.many c.args.row.now) 0 c.args.row.now c.args.parts.now in
    let answered : c.from_residual.result ≡ Err c.in_err-read_part.field-0.0 = search rules in
    subst (λ r. Completes r whole c.read_part.new.self) (sym answered)
    (stopped g.R.Row.with_part c.many-many.result c.loop-index.index c.loop-index.row c.args.parts.now whole c.in-Some.part.now c.in_err-read_part.field-0.0 c.read_part.new.self c.read_part.new.self
    c.loop-index-test.true at c.in_err-read_part.ensures.part c.loop-index.invariant.up_to)

pub loop-index-preserved : goal.loop-index-preserved
loop-index-preserved g c =
    let at : slice_get c.args.parts.now c.loop-index.index ≡ Some c.in-Some.part.now =
    slice_get_read c.args.parts.now _ c.loop-index.index c.in-Some.part.now refl c.in-Some.ensures.lookup.3.0 c.in-Some.ensures.lookup.1 in
    let whole = with_parts g.R.Row.with_part (g.R.Row.many c.args.row.now) 0 c.args.row.now c.args.parts.now in record {
      many = c.loop-index.invariant.many ∙ sym c.read_part.ensures.many;
      first = c.loop-index.invariant.first;
      up_to = turned g.R.Row.with_part c.many-many.result c.loop-index.index c.loop-index.row c.args.parts.now whole c.in-Some.part.now c.read_part.new.self c.loop-index-test.true at
          c.in_ok-read_part.ensures.part c.loop-index.invariant.up_to;
    }

pub returns-then-many-parts : goal.returns-then-many-parts
returns-then-many-parts g c =
    fails c.instead_of-then-many-parts.result (record { path = []; expected = expected.Details }) _ c.loop-index.row
    (too_many g.R.Row.with_part c.many-many.result c.loop-index.index c.loop-index.row c.args.parts.now _ (omega (arith, c.loop-index-test.false)) (omega (arith, c.if-many-parts.true, c.loop-index.auto.index-end))
    c.loop-index.invariant.up_to) c.instead_of-then-many-parts.ensures
