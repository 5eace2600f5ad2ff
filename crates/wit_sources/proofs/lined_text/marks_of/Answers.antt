use Rattle.std.proofs.Common.{◌≡◌, ◌∙◌, ◌+◌, ◌*◌, ap, length, sym, subst, arith}
use Rattle.std.proofs.lemmas.List.{length_push}
use Rattle.wit_sources.specs.steps.Marks.{AreMarks, feeds_before}
use Rattle.wit_sources.proofs.MarkLemmas.{AreMarks-push, feeds_more}
use Rattle.wit_sources.proofs.lined_text.marks_of.Goals as goal

pub loop-index-preserved : goal.loop-index-preserved
loop-index-preserved c =
    let bytes = c.args.bytes.now in
    let index = c.loop-index.index in
    let marks = c.loop-index.marks.items in
    let feeds = c.loop-index.feeds + c.count_feeds-feeds.result in
    let next : index * 128 + 128 ≡ (index + 1) * 128 = omega arith in
    let behind : index * 128 + 128 ≡ 0 + length marks * 128 + 128 = omega (arith, c.loop-index.invariant.number) in
    let more : feeds ≡ feeds_before bytes (index * 128 + 128) =
    ap (λ n. n + c.count_feeds-feeds.result) c.loop-index.invariant.feeds ∙ ap (λ n. feeds_before bytes (index * 128) + n) c.count_feeds-feeds.ensures.value
    ∙ sym (feeds_more bytes (index * 128) (index * 128 + 128) (omega arith)) in
    record {
      feeds = more ∙ ap (feeds_before bytes) next;
      number = ap length c.in_ok-push.ensures.items ∙ length_push marks feeds ∙ ap (λ n. n + 1) c.loop-index.invariant.number;
      marks = subst (AreMarks bytes 0) (sym c.in_ok-push.ensures.items)
          (AreMarks-push bytes 0 marks feeds c.loop-index.invariant.marks (more ∙ ap (feeds_before bytes) behind));
    }
