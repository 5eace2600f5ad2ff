use Rattle.std.proofs.Common.{ap, ◌≡◌, Some, arith, length, slice_get, string_bytes, subst}
use Rattle.wit_values.proofs.NamesLemmas.{length-named, slice_get-named}
use Rattle.wit_values.proofs.names.Names.entry_at.Goals as goal

pub entry_at-requires : goal.entry_at-requires
entry_at-requires g c = omega (arith, c.requires, ap length c.self.view_is, length-named c.self.inside.inner)

pub returns : goal.returns
returns g c =
    let at : slice_get c.args.self.now c.args.index ≡ Some (string_bytes c.entry_at.result.0.now, c.entry_at.result.1.now) =
    subst (λ es. slice_get es c.args.index ≡ Some (string_bytes c.entry_at.result.0.now, c.entry_at.result.1.now)) c.self.view_is (slice_get-named c.self.inside.inner c.args.index _ _ c.entry_at.ensures) in
    cc
