use Rattle.std.proofs.Common.{◌≡◌, ◌∙◌, ◌+◌, ◌-◌, List, ℕ, ap, count_by, drop, sym, take}
use Rattle.wit_sources.specs.Lines.{is_line_feed}
use Rattle.wit_sources.specs.steps.Marks.{feeds_before}
use Rattle.wit_sources.proofs.MarkLemmas.{feeds_more}
use Rattle.wit_sources.proofs.lined_text.LinedText.line_number.Goals as goal

pub returns : goal.returns
returns c =
    let text = c.args.self.now in
    let from = c.mark_before-from.result.0 in
    let offset = c.args.offset in
    let bytes : c.as_bytes-bytes.result.now ≡ text = c.as_bytes-bytes.ensures.value ∙ c.as_str.ensures in
    let between : c.count_feeds.result ≡ count_by is_line_feed (take (offset - from) (drop from text)) =
    c.count_feeds.ensures.value ∙ ap (λ (xs : List ℕ). count_by is_line_feed (take (offset - from) (drop from xs))) bytes in
    ap (λ n. n + c.count_feeds.result + 1) c.mark_before-from.ensures.feeds ∙ ap (λ n. feeds_before text from + n + 1) between
    ∙ ap (λ n. n + 1) (sym (feeds_more text from offset c.mark_before-from.ensures.before))
