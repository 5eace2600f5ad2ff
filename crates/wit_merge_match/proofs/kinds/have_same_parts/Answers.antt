use Rattle.std.proofs.Common.{◌≡◌, arith, length, refl}
use Rattle.wit_data.specs.Kind.{kind_parts}
use Rattle.wit_merge_match.proofs.KindParts.{same_names, same_steps}
use Rattle.wit_merge_match.proofs.kinds.have_same_parts.Goals as goal

pub returns-then-not-have_same_name : goal.returns-then-not-have_same_name
returns-then-not-have_same_name c =
    (λ h. cc, λ same. let on = c.have_same_name.ensures.1 (same_names c.args.from.now c.args.into.now c.requires same c.loop-index.index) in cc)

pub returns : goal.returns
returns c =
    let long : length (kind_parts c.args.from.now) ≡ length (kind_parts c.args.into.now) = omega arith in
    (λ so. same_steps c.args.from.now c.args.into.now c.requires long (λ i below. c.loop-index.invariant i (omega (arith, below))), λ same. refl)
