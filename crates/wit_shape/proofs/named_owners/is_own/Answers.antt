use Rattle.std.proofs.Common.{◌≡◌, ℕ, ◌<◌, length, Some, slice_get, subst, arith}
use Rattle.wit_data.specs.Ownership.{NamesThroughUnnamed}
use Rattle.wit_shape.proofs.Telling.{only_is}
use Rattle.wit_shape.proofs.named_owners.is_own.Goals as goal

pub returns : goal.returns
returns c =
    let within : c.args.id < length c.args.types.now = omega arith in
    let told = c.at.result.now in
    let at : slice_get c.args.shown.now c.args.id ≡ Some told = subst (λ (i : ℕ). slice_get c.args.shown.now i ≡ Some told) c.index-2.ensures c.at.ensures in
    let only = only_is (NamesThroughUnnamed c.args.types.now c.args.id) told c.args.owner (c.requires.each c.args.id told at) in
    (λ is. record { there = within; only = only.0 (c.is_only.ensures.0 is) }, λ own. c.is_only.ensures.1 (only.1 own.only))
