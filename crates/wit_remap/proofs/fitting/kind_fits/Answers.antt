use Rattle.std.proofs.Common.{None, Some, refl, rules, subst, sym}
use Rattle.std.specs.Prelude.{◌↔◌, IsTrue}
use Rattle.wit_data.specs.Each.{Each}
use Rattle.wit_data.specs.Kind.{named_part}
use Rattle.wit_data.specs.declared.types.Case.{Case}
use Rattle.wit_data.specs.declared.types.EnumCase.{EnumCase}
use Rattle.wit_data.specs.declared.types.Field.{Field}
use Rattle.wit_data.specs.declared.types.Flag.{Flag}
use Rattle.wit_data.specs.declared.types.TypeDefKind.{TypeDefKind}
use Rattle.wit_remap.specs.steps.Fits.{Fits}
use Rattle.wit_remap.proofs.KindSpans.{made_fit_too, no_spans}
use Rattle.wit_remap.proofs.fitting.kind_fits.Goals as goal
use Rattle.wit_remap_spec.specs.steps.Parts.{kind_spans}

pub returns-in-Record : goal.returns-in-Record
returns-in-Record c =
    let fit : IsTrue c.fields_fit.result ↔ Each (λ (x : Field). Fits c.args.offset x.span) c.in-Record.fields = search rules in
    let make = λ (x : Field). named_part x.name (Some x.ty) x.span in
    let same = made_fit_too (Fits c.args.offset) make (λ (x : Field). x.span) (λ x. refl) c.in-Record.fields in
    subst (λ (k : TypeDefKind). IsTrue c.fields_fit.result ↔ Each (Fits c.args.offset) (kind_spans k)) (sym c.in-Record.is) (λ h. same.0 (fit.0 h), λ all. fit.1 (same.1 all))

pub returns-in-Variant : goal.returns-in-Variant
returns-in-Variant c =
    let fit : IsTrue c.cases_fit.result ↔ Each (λ (x : Case). Fits c.args.offset x.span) c.in-Variant.cases = search rules in
    let make = λ (x : Case). named_part x.name x.ty x.span in
    let same = made_fit_too (Fits c.args.offset) make (λ (x : Case). x.span) (λ x. refl) c.in-Variant.cases in
    subst (λ (k : TypeDefKind). IsTrue c.cases_fit.result ↔ Each (Fits c.args.offset) (kind_spans k)) (sym c.in-Variant.is) (λ h. same.0 (fit.0 h), λ all. fit.1 (same.1 all))

pub returns-in-Flags : goal.returns-in-Flags
returns-in-Flags c =
    let fit : IsTrue c.flags_fit.result ↔ Each (λ (x : Flag). Fits c.args.offset x.span) c.in-Flags.flags = search rules in
    let make = λ (x : Flag). named_part x.name None x.span in
    let same = made_fit_too (Fits c.args.offset) make (λ (x : Flag). x.span) (λ x. refl) c.in-Flags.flags in
    subst (λ (k : TypeDefKind). IsTrue c.flags_fit.result ↔ Each (Fits c.args.offset) (kind_spans k)) (sym c.in-Flags.is) (λ h. same.0 (fit.0 h), λ all. fit.1 (same.1 all))

pub returns-in-Enum : goal.returns-in-Enum
returns-in-Enum c =
    let fit : IsTrue c.enum_cases_fit.result ↔ Each (λ (x : EnumCase). Fits c.args.offset x.span) c.in-Enum.cases = search rules in
    let make = λ (x : EnumCase). named_part x.name None x.span in
    let same = made_fit_too (Fits c.args.offset) make (λ (x : EnumCase). x.span) (λ x. refl) c.in-Enum.cases in
    subst (λ (k : TypeDefKind). IsTrue c.enum_cases_fit.result ↔ Each (Fits c.args.offset) (kind_spans k)) (sym c.in-Enum.is) (λ h. same.0 (fit.0 h), λ all. fit.1 (same.1 all))

pub returns-in_default : goal.returns-in_default
returns-in_default c =
    let d = c.in_default in
    (λ h. no_spans (Fits c.args.offset) c.args.kind.now d.not-Record d.not-Flags d.not-Variant d.not-Enum, λ all. refl)
