use Rattle.std.proofs.Common.{◌≡◌, ◌∙◌, rules, sym}
use denote.Enum.Bare.{differs_false}
use Rattle.wit_data.specs.Kind.{variant_of}
use Rattle.wit_data.specs.contracts.kind.Variant.{the_type}
use Rattle.wit_merge_match.proofs.KindParts.{lengths_differ, names_differ, variants_differ}
use Rattle.wit_merge_match.proofs.heads.head_difference.Goals as goal

pub returns-then-ne-clause-some : goal.returns-then-ne-clause-some
returns-then-ne-clause-some c =
    variants_differ c.args.from.now c.args.into.now
    (λ same. let both : c.variant_of.result ≡ c.variant_of-2.result = c.variant_of.ensures ∙ (same ∙ sym c.variant_of-2.ensures) in search rules)

pub returns-then-not-have_same_parts-clause-some : goal.returns-then-not-have_same_parts-clause-some
returns-then-not-have_same_parts-clause-some c =
    let one : variant_of c.args.from.now ≡ variant_of c.args.into.now = search rules in
    names_differ c.args.from.now c.args.into.now one (λ same. let on = c.have_same_parts.ensures.1 same in cc)

pub returns-then-ne-2-clause-some : goal.returns-then-ne-2-clause-some
returns-then-ne-2-clause-some c =
    let same : c.variant_of.result ≡ c.variant_of-2.result = differs_false the_type (search rules) c.variant_of.result c.variant_of-2.result (sym c.ne.ensures ∙ c.if-ne.false) in
    let one : variant_of c.args.from.now ≡ variant_of c.args.into.now = sym c.variant_of.ensures ∙ (same ∙ c.variant_of-2.ensures) in
    lengths_differ c.args.from.now c.args.into.now one (c.have_same_parts.ensures.0 c.if-not-have_same_parts.false)
    (λ same. let both : c.fixed_length.result ≡ c.fixed_length-2.result = c.fixed_length.ensures ∙ (same ∙ sym c.fixed_length-2.ensures) in search rules)
