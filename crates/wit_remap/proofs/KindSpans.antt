-- The spans of the parts of a kind, part by part.
use Rattle.std.proofs.Common.{◌≡◌, ◌∙◌, ℕ, zero, suc, List, [], ◌∷◌, map, Option, Some, None, option_and_then, refl, sym, ap, subst}
use Rattle.std.specs.Prelude.{◌↔◌, IfSome, flat_map, option_to_list}
use Rattle.wit_data.specs.Each.{Each}
use Rattle.wit_data.specs.facts.EachFacts.{EachAt-nil, EachAt-one}
use Rattle.wit_data.specs.Kind.{KindPart, kind_parts}
use Rattle.wit_data.specs.facts.KindFacts.{plain_read}
use Rattle.wit_data.specs.declared.types.Case.{Case}
use Rattle.wit_data.specs.declared.types.EnumCase.{EnumCase}
use Rattle.wit_data.specs.declared.types.Field.{Field}
use Rattle.wit_data.specs.declared.types.Flag.{Flag}
use Rattle.wit_data.specs.declared.types.TypeDefKind.{TypeDefKind}
use Rattle.wit_data.specs.declared.types.TypeDefKind.TheVariants as kind
use Rattle.wit_link_spec.specs.Gates.{OptionalSpan}
use Rattle.wit_graph_theory.specs.facts.ListFacts.{at_map}
use Rattle.wit_remap.specs.facts.FittingFacts.{Each-append, Each-left, Each-right}
use Rattle.wit_remap_spec.specs.steps.Parts.{kind_spans}

module _ (P : OptionalSpan → Type 0) where
  abbrev part_spans : KindPart → List OptionalSpan
  part_spans p = option_to_list p.span

  one_part : (o : Option OptionalSpan) → IfSome o P → Each P (option_to_list o)
  one_part None holds = EachAt-nil (λ _ s. P s)
  one_part (Some s) holds = EachAt-one (λ _ s. P s) s holds

  pub spans_by_part : (ps : List KindPart) → Each (λ (p : KindPart). IfSome p.span P) ps → Each P (flat_map part_spans ps)
  spans_by_part [] each = EachAt-nil (λ _ s. P s)
  spans_by_part (p ∷ ps) each =
      Each-append P (part_spans p) (flat_map part_spans ps) (one_part p.span (each 0 p refl)) (spans_by_part ps (λ i q at. each (suc i) q at))

  of_part : (o : Option OptionalSpan) → Each P (option_to_list o) → IfSome o P
  of_part None all = tt
  of_part (Some s) all = all 0 s refl

  pub part_by_part : (ps : List KindPart) → Each P (flat_map part_spans ps) → Each (λ (p : KindPart). IfSome p.span P) ps
  part_by_part [] all i q at = EachAt-nil (λ _ (p : KindPart). IfSome p.span P) i q at
  part_by_part (p ∷ ps) all zero q at =
      let same : p ≡ q = cc in subst (λ (r : KindPart). IfSome r.span P) same (of_part p.span (Each-left P (part_spans p) (flat_map part_spans ps) all))
  part_by_part (p ∷ ps) all (suc i) q at = part_by_part ps (Each-right P (part_spans p) (flat_map part_spans ps) all) i q at

  -- of parts that are made of things with spans
  made_all : {X : Type 0} (make : X → KindPart) (span : X → OptionalSpan) → ((x : X) → (make x).span ≡ Some (span x)) → (xs : List X) → Each (λ (x : X). P (span x)) xs
      → Each P (flat_map part_spans (map make xs))
  made_all make span is [] all = EachAt-nil (λ _ s. P s)
  made_all make span is (x ∷ xs) all =
      Each-append P (part_spans (make x)) (flat_map part_spans (map make xs)) (one_part (make x).span (subst (λ (o : Option OptionalSpan). IfSome o P) (sym (is x)) (all 0 x refl)))
      (made_all make span is xs (λ i y at. all (suc i) y at))

  pub made_fit : {X : Type 0} (make : X → KindPart) (span : X → OptionalSpan) → ((x : X) → (make x).span ≡ Some (span x)) → (xs : List X) → Each P (flat_map part_spans (map make xs))
      → Each (λ (x : X). P (span x)) xs
  made_fit make span is xs all i x at = subst (λ (o : Option OptionalSpan). IfSome o P) (is x) (part_by_part (map make xs) all i (make x) (at_map make xs i x at))

  pub made_fit_too : {X : Type 0} (make : X → KindPart) (span : X → OptionalSpan) → ((x : X) → (make x).span ≡ Some (span x)) → (xs : List X)
      → Each (λ (x : X). P (span x)) xs ↔ Each P (flat_map part_spans (map make xs))
  made_fit_too make span is xs = (λ all. made_all make span is xs all, λ all. made_fit make span is xs all)

  -- parts without names have no spans
  pub no_spans : (k : TypeDefKind) → ((fields : List Field) → k ≡ kind.Record fields → ⊥) → ((flags : List Flag) → k ≡ kind.Flags flags → ⊥)
      → ((cases : List Case) → k ≡ kind.Variant cases → ⊥) → ((cases : List EnumCase) → k ≡ kind.Enum cases → ⊥) → Each P (kind_spans k)
  no_spans k no_record no_flags no_variant no_enum =
      spans_by_part (kind_parts k)
      (λ i p at.
      let none : None ≡ p.span =
      plain_read (λ (q : KindPart). q.span) (λ role step ty. refl) k no_record no_flags no_variant no_enum i ∙ ap (λ (o : Option KindPart). option_and_then (λ (q : KindPart). q.span) o) at in
      subst (λ (o : Option OptionalSpan). IfSome o P) none tt)
