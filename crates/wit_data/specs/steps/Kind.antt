-- Words of inner contracts and proofs, beside `Kind`.
use Rattle.std.specs.Prelude.{ℕ, List, codes, decimal, nat_eq, Option, if◌then◌else◌, option_map}
use Rattle.wit_sources.specs.Span.{OptionalSpan}
use Rattle.wit_data.specs.declared.kind.Variant.{Variant}
use Rattle.wit_data.specs.declared.kind.Variant.TheVariants as variants
use Rattle.wit_data.specs.Kind.{KindPart}

-- its name, where it has one of its own
abbrev pub part_name : KindPart → Option (List ℕ)
part_name p = option_map (λ (span : OptionalSpan). p.step) p.span

-- what the code calls those of a variant that have no names of their own
abbrev pub plain_step : Variant → ℕ → List ℕ
plain_step variants.Own i = codes "handle"
plain_step variants.Borrow i = codes "handle"
plain_step variants.Alias i = codes "alias"
plain_step variants.Map i = if nat_eq i 0 then codes "key" else codes "value"
plain_step variants.Result_ i = if nat_eq i 0 then codes "ok" else codes "err"
plain_step variants.Tuple i = decimal i
plain_step other i = codes "element"
