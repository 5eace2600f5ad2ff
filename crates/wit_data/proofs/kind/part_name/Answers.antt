use Rattle.std.proofs.Common.{◌≡◌, None, Some, ap, refl, rules, slice_get}
use Rattle.wit_data.specs.Kind.{kind_parts, named_part}
use Rattle.wit_data.specs.steps.Kind.{part_name}
use Rattle.wit_data.specs.facts.KindFacts.{plain_read}
use Rattle.wit_data.specs.declared.types.Case.{Case}
use Rattle.wit_data.specs.declared.types.EnumCase.{EnumCase}
use Rattle.wit_data.specs.declared.types.Field.{Field}
use Rattle.wit_data.specs.declared.types.Flag.{Flag}
use Rattle.wit_data.proofs.PartsRead.{part_read}
use Rattle.wit_data.proofs.kind.part_name.Goals as goal

pub returns-in_ok-get-in-Record : goal.returns-in_ok-get-in-Record
returns-in_ok-get-in-Record c =
    let at : slice_get c.in-Record.fields c.args.index ≡ Some c.in_ok-get-in-Record.field-0.now = search rules in
    part_read part_name (λ (x : Field). named_part x.name (Some x.ty) x.span) c.args.kind.now c.in-Record.fields c.args.index c.in_ok-get-in-Record.field-0.now (ap kind_parts c.in-Record.is) at

pub returns-in_ok-get-in-Flags : goal.returns-in_ok-get-in-Flags
returns-in_ok-get-in-Flags c =
    let at : slice_get c.in-Flags.flags c.args.index ≡ Some c.in_ok-get-in-Flags.field-0.now = search rules in
    part_read part_name (λ (x : Flag). named_part x.name None x.span) c.args.kind.now c.in-Flags.flags c.args.index c.in_ok-get-in-Flags.field-0.now (ap kind_parts c.in-Flags.is) at

pub returns-in_ok-get-in-Variant : goal.returns-in_ok-get-in-Variant
returns-in_ok-get-in-Variant c =
    let at : slice_get c.in-Variant.cases c.args.index ≡ Some c.in_ok-get-in-Variant.field-0.now = search rules in
    part_read part_name (λ (x : Case). named_part x.name x.ty x.span) c.args.kind.now c.in-Variant.cases c.args.index c.in_ok-get-in-Variant.field-0.now (ap kind_parts c.in-Variant.is) at

pub returns-in_ok-get-in-Enum : goal.returns-in_ok-get-in-Enum
returns-in_ok-get-in-Enum c =
    let at : slice_get c.in-Enum.cases c.args.index ≡ Some c.in_ok-get-in-Enum.field-0.now = search rules in
    part_read part_name (λ (x : EnumCase). named_part x.name None x.span) c.args.kind.now c.in-Enum.cases c.args.index c.in_ok-get-in-Enum.field-0.now (ap kind_parts c.in-Enum.is) at

pub returns-in_default : goal.returns-in_default
returns-in_default c = plain_read part_name (λ role step ty. refl) c.args.kind.now c.in_default.not-Record c.in_default.not-Flags c.in_default.not-Variant c.in_default.not-Enum c.args.index
