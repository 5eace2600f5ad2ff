use Rattle.std.proofs.Common.{◌≡◌, ◌∙◌, ap, sym, Some, arith}
use Rattle.wit_names.specs.facts.PackageNameFacts.{same_name}
use Rattle.wit_names.specs.declared.package_name.PackageName.{PackageName}
use Rattle.wit_link.proofs.Orders.{unnamed-next}
use Rattle.wit_link.proofs.Refusals.{none-named}
use Rattle.wit_link.proofs.refusal.dependency_span.Goals as goal

pub returns-then-eq : goal.returns-then-eq
returns-then-eq c =
    let same : c.entry_at.result.0.now ≡ c.args.name.now = same_name c.entry_at.result.0.now c.args.name.now (sym c.eq.ensures ∙ c.if-eq.true) in
    record {
      at = c.loop-place.place;
      items = c.entry_at.result.1.now;
      names = c.entry_at.ensures ∙ ap (λ (n : PackageName). Some (n, c.entry_at.result.1.now)) same;
      span_is = c.at.ensures;
    }

pub loop-place-preserved : goal.loop-place-preserved
loop-place-preserved c =
    unnamed-next c.args.«package».now.foreign_deps c.loop-place.place c.args.name.now (c.entry_at.result.0.now, c.entry_at.result.1.now) c.entry_at.ensures (sym c.eq.ensures ∙ c.if-eq.false) c.loop-place.invariant

pub unreachable-requires : goal.unreachable-requires
unreachable-requires c =
    none-named c.args.«package».now.foreign_deps c.loop-place.place c.args.name.now c.requires.depends (omega (arith, c.loop-place-test.false)) c.loop-place.invariant
