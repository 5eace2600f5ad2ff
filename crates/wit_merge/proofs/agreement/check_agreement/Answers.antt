use Rattle.std.proofs.Common.{rules, ◌≡◌, inr, None, string_bytes, subst, sym}
use Rattle.wit_graph_data.specs.declared.cause.Cause.TheVariants as cause
use Rattle.wit_graph_data.specs.declared.error_kind.ResolveErrorKind.TheVariants.{OffsetOverflow, Semantic, StabilityMismatch}
use Rattle.wit_merge_match.specs.Differing.{merge_of_graphs_by}
use Rattle.wit_merge_match.specs.facts.OffsetFacts.{differ_by, mismatches_by, one_by}
use Rattle.wit_merge_spec.specs.Cause.{IsMergeCause, merge_mismatch_24, mismatch_8, offset_overflow_27}
use Rattle.wit_merge.proofs.agreement.check_agreement.Goals as goal

pub returns-in-Some-clause-cause : goal.returns-in-Some-clause-cause
returns-in-Some-clause-cause c =
    let g = c.args.graph.now in
    let other = c.args.other.now in
    let told : c.into.result ≡ Semantic None (string_bytes c.in-Some.message) cause.MergeMismatch = search rules in
    let differ = rw c.in-Some.is at c.in_ok-message.ensures.some in
    inr (subst (IsMergeCause (merge_of_graphs_by g other c.args.offset)) (sym told) (merge_mismatch_24 (string_bytes c.in-Some.message) (differ_by g other 0 c.args.offset (string_bytes c.in-Some.message) differ)))

pub returns-in-Some-2-clause-cause : goal.returns-in-Some-2-clause-cause
returns-in-Some-2-clause-cause c =
    let g = c.args.graph.now in
    let other = c.args.other.now in
    let pair = c.in-Some-2.pair in
    let told : c.into-in-Some-2.result ≡ StabilityMismatch None pair.from pair.into = search rules in
    let apart = rw c.in-Some-2.is at c.in_ok-pair.ensures.some in
    let differ = mismatches_by g other 0 c.args.offset pair.from pair.into apart in
    inr (subst (IsMergeCause (merge_of_graphs_by g other c.args.offset)) (sym told) (mismatch_8 pair.from pair.into differ.joined differ.apart))

pub returns-then-not-spans_fit-clause-cause : goal.returns-then-not-spans_fit-clause-cause
returns-then-not-spans_fit-clause-cause c =
    let g = c.args.graph.now in
    let told : c.into-then-not-spans_fit.result ≡ OffsetOverflow = search rules in
    let past = c.spans_fit.ensures.pass c.if-not-spans_fit.true g in
    inr (subst (IsMergeCause (merge_of_graphs_by g c.args.other.now c.args.offset)) (sym told) (offset_overflow_27 past.from past.to past.known past.past))

pub returns-clause-agree : goal.returns-clause-agree
returns-clause-agree c =
    let g = c.args.graph.now in
    let other = c.args.other.now in
    let alike = rw c.in_default.is at c.in_ok-message.ensures.none in
    let joinable = rw c.in_default-2.is at c.in_ok-pair.ensures.none in
    record {
      one = one_by g other 0 c.args.offset alike;
      stabilities = λ from into is. joinable from into (mismatches_by g other c.args.offset 0 from into is);
      spans = c.spans_fit.ensures.fit c.if-not-spans_fit.false g;
    }
