use Rattle.std.proofs.Common.{◌≡◌, refl, subst, sym}
use Rattle.wit_data.specs.Each.{Each}
use Rattle.wit_data.specs.facts.EachFacts.{EachAt-one}
use Rattle.wit_data.specs.Kind.{KindPart, kind_parts}
use Rattle.wit_data.specs.facts.KindFacts.{value_parts}
use Rattle.wit_data.specs.declared.kind.PartRole.TheVariants.{Argument, Target}
use Rattle.wit_data.specs.declared.types.TypeDefKind.{TypeDefKind}
use Rattle.wit_data.proofs.kind.part_role.Goals as goal

pub returns-in-Handle : goal.returns-in-Handle
returns-in-Handle c = subst (λ (k : TypeDefKind). Each (λ (p : KindPart). p.role ≡ Argument) (kind_parts k)) (sym c.in-Handle.is) (EachAt-one _ _ refl)

pub returns-in-Type_ : goal.returns-in-Type_
returns-in-Type_ c = subst (λ (k : TypeDefKind). Each (λ (p : KindPart). p.role ≡ Target) (kind_parts k)) (sym c.in-Type_.is) (EachAt-one _ _ refl)

pub returns-in_default : goal.returns-in_default
returns-in_default c = value_parts c.args.kind.now c.in_default.not-Handle c.in_default.not-Type_
