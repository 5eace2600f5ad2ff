use Rattle.std.proofs.Common.{◌≡◌, ◌∙◌, None, Some, ap, refl, rules, slice_get, sym}
use Rattle.std.specs.Prelude.{option_and_then}
use Rattle.wit_data.specs.Kind.{KindPart, kind_parts, named_part}
use Rattle.wit_data.specs.declared.types.Case.{Case}
use Rattle.wit_data.specs.declared.types.EnumCase.{EnumCase}
use Rattle.wit_data.specs.declared.types.Flag.{Flag}
use Rattle.wit_data.specs.declared.types.TypeDefKind.{TypeDefKind}
use Rattle.wit_data.proofs.PartsRead.{none_typed, part_read, tuple_type}
use Rattle.wit_data.proofs.kind.part_type.Goals as goal

pub returns-in-Tuple : goal.returns-in-Tuple
returns-in-Tuple c = tuple_type c.args.kind.now c.in-Tuple.types c.args.index c.copied.result (search rules) (search rules)

pub returns-in_ok-get-in-Variant : goal.returns-in_ok-get-in-Variant
returns-in_ok-get-in-Variant c =
    let at : slice_get c.in-Variant.cases c.args.index ≡ Some c.in_ok-get-in-Variant.field-0.now = search rules in
    part_read (λ (p : KindPart). p.ty) (λ (x : Case). named_part x.name x.ty x.span) c.args.kind.now c.in-Variant.cases c.args.index c.in_ok-get-in-Variant.field-0.now (ap kind_parts c.in-Variant.is) at

pub returns-in-Flags : goal.returns-in-Flags
returns-in-Flags c =
    sym (ap (λ (k : TypeDefKind). option_and_then (λ (p : KindPart). p.ty) (slice_get (kind_parts k) c.args.index)) c.in-Flags.is
    ∙ none_typed (λ (f : Flag). named_part f.name None f.span) (λ f. refl) c.in-Flags.flags c.args.index)

pub returns-in-Enum : goal.returns-in-Enum
returns-in-Enum c =
    sym (ap (λ (k : TypeDefKind). option_and_then (λ (p : KindPart). p.ty) (slice_get (kind_parts k) c.args.index)) c.in-Enum.is
    ∙ none_typed (λ (x : EnumCase). named_part x.name None x.span) (λ x. refl) c.in-Enum.cases c.args.index)
