use Rattle.std.proofs.Common.{◌≡◌, ◌∙◌, ◌++◌, ◌-◌, ℕ, suc, Some, None, OnOk, ap, arith, option_copied, rules, slice_get, string_bytes, sym}
use Rattle.std.proofs.lemmas.Grind.{common_steps}
use Rattle.wit_data.specs.declared.types.Type_.TheVariants as type
use Rattle.wit_print.specs.Names.{name_wit}
use Rattle.wit_print.specs.Types.{primitive_wit, type_within}
use Rattle.wit_print.proofs.PieceTexts.{as_cut, as_kind, as_name, as_nothing, as_word, kind_step, nothing_written, put, put_steps, some_step, stays_steps, written}
use Rattle.wit_print.specs.steps.Pieces.{kind_pieces, type_steps}
use Rattle.wit_print.proofs.types.write_part.Goals as goal

pub returns-in_default : goal.returns-in_default
returns-in_default c =
    let types = c.args.types.now in
    let pushed : OnOk c.push_str.result (string_bytes c.push_str.new.self ≡ string_bytes c.args.text.now ++ primitive_wit c.args.ty) = search rules in
    record {
      text = written c.push_str.result types c.args.stack.now _ _ _ _ (as_word types c.args.depth c.args.ty c.in_default.not-Id) pushed;
      steps = stays_steps c.push_str.result types c.args.stack.now c.args.depth c.args.ty;
    }

pub returns-in_default-def_at-clause-text : goal.returns-in_default-def_at-clause-text
returns-in_default-def_at-clause-text c =
    let types = c.args.types.now in
    let none : slice_get types c.in-Id.id ≡ None = sym c.def_at.ensures ∙ ap option_copied c.in_default-def_at.is in
    nothing_written types c.args.stack.now _ _ (ap (type_within types c.args.depth) c.in-Id.is ∙ as_nothing types c.args.depth c.in-Id.id none)

pub returns-in_default-def_at-clause-steps : goal.returns-in_default-def_at-clause-steps
returns-in_default-def_at-clause-steps c = omega (arith, some_step c.args.types.now c.args.depth c.args.ty)

pub returns-then-depth-eq0-clause-text : goal.returns-then-depth-eq0-clause-text
returns-then-depth-eq0-clause-text c =
    let types = c.args.types.now in
    let there : slice_get types c.in-Id.id ≡ Some c.in-Some.def.now = sym c.def_at.ensures ∙ ap option_copied c.in-Some.is in
    let unnamed : c.in-Some.def.now.name ≡ None = first_of (search rules, grind (arith, common_steps)) in
    let shut : c.args.depth ≡ 0 = first_of (omega arith, search rules) in
    nothing_written types c.args.stack.now _ _
    (ap (type_within types c.args.depth) c.in-Id.is ∙ (ap (λ (d : ℕ). type_within types d (type.Id c.in-Id.id)) shut ∙ as_cut types c.in-Id.id c.in-Some.def.now there unnamed))

pub returns-then-depth-eq0-clause-steps : goal.returns-then-depth-eq0-clause-steps
returns-then-depth-eq0-clause-steps c = omega (arith, some_step c.args.types.now c.args.depth c.args.ty)

pub returns-in_default-name-clause-text : goal.returns-in_default-name-clause-text
returns-in_default-name-clause-text c =
    let types = c.args.types.now in
    let there : slice_get types c.in-Id.id ≡ Some c.in-Some.def.now = sym c.def_at.ensures ∙ ap option_copied c.in-Some.is in
    let unnamed : c.in-Some.def.now.name ≡ None = first_of (search rules, grind (arith, common_steps)) in
    let more : c.args.depth ≡ suc (c.args.depth - 1) = omega arith in
    put c.push_kind.result types c.args.stack.now _ (kind_pieces c.in-Some.def.now.kind (c.args.depth - 1)) _ _
    (ap (type_within types c.args.depth) c.in-Id.is ∙ (ap (λ (d : ℕ). type_within types d (type.Id c.in-Id.id)) more ∙ as_kind types (c.args.depth - 1) c.in-Id.id c.in-Some.def.now there unnamed))
    c.push_kind.ensures

pub returns-in_default-name-clause-steps : goal.returns-in_default-name-clause-steps
returns-in_default-name-clause-steps c =
    let types = c.args.types.now in
    let there : slice_get types c.in-Id.id ≡ Some c.in-Some.def.now = sym c.def_at.ensures ∙ ap option_copied c.in-Some.is in
    let more : c.args.depth ≡ suc (c.args.depth - 1) = omega arith in
    put_steps c.push_kind.result types c.args.stack.now _ (kind_pieces c.in-Some.def.now.kind (c.args.depth - 1)) _
    (ap (type_steps types c.args.depth) c.in-Id.is ∙ (ap (λ (d : ℕ). type_steps types d (type.Id c.in-Id.id)) more ∙ kind_step types (c.args.depth - 1) c.in-Id.id c.in-Some.def.now there))
    c.push_kind.ensures

pub returns-clause-text : goal.returns-clause-text
returns-clause-text c =
    let types = c.args.types.now in
    let there : slice_get types c.in-Id.id ≡ Some c.in-Some.def.now = sym c.def_at.ensures ∙ ap option_copied c.in-Some.is in
    let named : c.in-Some.def.now.name ≡ Some c.as_str.result.now = first_of (search rules, grind (arith, common_steps)) in
    let had : OnOk c.write.result (string_bytes c.write.new.self ≡ string_bytes c.args.text.now ++ name_wit c.as_str.result.now) = search rules in
    written c.write.result types c.args.stack.now _ _ _ _
    (ap (type_within types c.args.depth) c.in-Id.is ∙ as_name types c.args.depth c.in-Id.id c.in-Some.def.now c.as_str.result.now there named) had

pub returns-clause-steps : goal.returns-clause-steps
returns-clause-steps c = stays_steps c.write.result c.args.types.now c.args.stack.now c.args.depth c.args.ty
