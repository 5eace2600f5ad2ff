use Rattle.std.proofs.Common.{rules, ◌≡◌, List, ℕ, flat_map, sym, subst, ◌∙◌, map-id}
use Rattle.std.specs.Fmt.{HasWritten}
use Rattle.std.specs.Str.{IsUtf8, chars}
use Rattle.std.proofs.lemmas.Iterator.{YieldsList-from_chars}
use Rattle.std.proofs.lemmas.Iterator.Consumers.{YieldsList-end}
use Rattle.witgraph_dot.specs.Texts.{quoted_char}
use Rattle.witgraph_dot.proofs.texts.QuotedDisplay.fmt.Goals as goal

pub returns-clause-writes : goal.returns-clause-writes
returns-clause-writes g c =
    λ plain whole.
    let text = c.args.self.now.0.now in
    let utf8 : IsUtf8 text = search rules in
    let end = YieldsList-end (YieldsList-from_chars text utf8 cc) c.loop-char.yielded _ c.loop-char.yielded_by _ _ c.in-None.is c.next.ensures.steps in
    let all : c.loop-char.yielded ≡ chars text = sym (map-id c.loop-char.yielded) ∙ end.0 in
    subst (λ (characters : List ℕ). HasWritten g.W.Write.write_str_gives c.args.f.now (flat_map quoted_char characters) c.loop-char.f) all (c.loop-char.invariant plain)
