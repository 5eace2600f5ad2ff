use Rattle.std.proofs.Common.{None, Some, refl, subst}
use Rattle.wit_data.specs.Each.{Each}
use Rattle.wit_data.specs.Kind.{named_part}
use Rattle.wit_data.specs.declared.types.Case.{Case}
use Rattle.wit_data.specs.declared.types.EnumCase.{EnumCase}
use Rattle.wit_data.specs.declared.types.Field.{Field}
use Rattle.wit_data.specs.declared.types.Flag.{Flag}
use Rattle.wit_data.specs.declared.types.TypeDefKind.{TypeDefKind}
use Rattle.wit_remap.proofs.KindSpans.{made_fit}
use Rattle.wit_remap.proofs.types.TypeDefKindUpdate.update.Goals as goal
use Rattle.wit_remap_spec.specs.steps.Parts.{kind_spans}

pub update-requires : goal.update-requires
update-requires g c =
    let P = g.M.Moves.fits c.args.mover.now in
    made_fit P (λ (x : Field). named_part x.name (Some x.ty) x.span) (λ (x : Field). x.span) (λ x. refl) c.in-Record.fields (subst (λ (k : TypeDefKind). Each P (kind_spans k)) c.in-Record.is c.requires)

pub update-requires-in-Flags : goal.update-requires-in-Flags
update-requires-in-Flags g c =
    let P = g.M.Moves.fits c.args.mover.now in
    made_fit P (λ (x : Flag). named_part x.name None x.span) (λ (x : Flag). x.span) (λ x. refl) c.in-Flags.flags (subst (λ (k : TypeDefKind). Each P (kind_spans k)) c.in-Flags.is c.requires)

pub update-requires-in-Variant : goal.update-requires-in-Variant
update-requires-in-Variant g c =
    let P = g.M.Moves.fits c.args.mover.now in
    made_fit P (λ (x : Case). named_part x.name x.ty x.span) (λ (x : Case). x.span) (λ x. refl) c.in-Variant.cases (subst (λ (k : TypeDefKind). Each P (kind_spans k)) c.in-Variant.is c.requires)

pub update-requires-in-Enum : goal.update-requires-in-Enum
update-requires-in-Enum g c =
    let P = g.M.Moves.fits c.args.mover.now in
    made_fit P (λ (x : EnumCase). named_part x.name None x.span) (λ (x : EnumCase). x.span) (λ x. refl) c.in-Enum.cases (subst (λ (k : TypeDefKind). Each P (kind_spans k)) c.in-Enum.is c.requires)
