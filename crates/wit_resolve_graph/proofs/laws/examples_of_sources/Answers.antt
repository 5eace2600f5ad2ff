use Rattle.std.proofs.Common.{ℕ, ◌≡◌, Some, inl, inr, ap, refl, length, lit≤, arith}
use Rattle.std.specs.Fmt.{digits}
use Rattle.wit_resolve_graph.specs.Sources.{FaultOverflows}
use Rattle.wit_resolve_graph.specs.examples.SourcesExamples.{once, source}
use Rattle.wit_resolve_graph.specs.State.{State}
use Rattle.wit_resolve_graph.specs.declared.sources.SourceFault.{SourceFault}
use Rattle.wit_resolve_graph.specs.declared.sources.SourceFault.TheVariants as fault
use Rattle.wit_sources.specs.Span.{start_of}
use Rattle.wit_resolve_graph.proofs.laws.examples_of_sources.Goals as goal

room : FaultOverflows once source (Some (13, 18)) → ⊥
room (inl far) = absurd (omega (arith, far))
room (inr far) = absurd (omega (arith, far))

-- where the text can't be read
abbrev start_told : SourceFault → ℕ
start_told (fault.Parse span message) = start_of span
start_told (fault.Resolve kind) = 0

pub returns : goal.returns
unfolding digits
returns c = record {
  placed = record { told_is = refl; placed = refl; fits = room };
  shown = refl;
  no_room = record { cause = inr (refl, inl (lit≤ tt)); same = refl };
  not_left = λ p. let same : 13 ≡ 38 = ap start_told p.told_is in absurd (omega (arith, same));
  not_nowhere = λ p. let long : 1 ≡ 2 = ap (λ (s : State). length s.source_map.files) p.placed in absurd (omega (arith, long));
  has_room = λ p. elim p.cause [ inl memory ↦ cc | inr far ↦ room far.1 ];
}
