use Rattle.std.proofs.Common.{◌≡◌}
use Rattle.std.proofs.lemmas.Bool.{iff_false}
use Rattle.wit_names.specs.UsePath.{package_path_of, use_path_of}
use Rattle.wit_names.proofs.UsePathGrammar.{use_path_of-grammar, use_path_of-pieces}
use Rattle.wit_names.proofs.use_path.parse_use_path.Goals as goal

pub returns-in_err-try_from_str-clause-grammar : goal.returns-in_err-try_from_str-clause-grammar
returns-in_err-try_from_str-clause-grammar c = use_path_of-grammar c.args.text.now

pub returns-in_ok-try_from_str-clause-grammar : goal.returns-in_ok-try_from_str-clause-grammar
returns-in_ok-try_from_str-clause-grammar c = use_path_of-grammar c.args.text.now

pub returns-else-is_kebab_name-clause-grammar : goal.returns-else-is_kebab_name-clause-grammar
returns-else-is_kebab_name-clause-grammar c = use_path_of-grammar c.args.text.now

-- what is no name alone is read by `parse_package_path`
read : (c : goal.After-parse_package_path) → use_path_of c.args.text.now ≡ package_path_of c.parts_around.result.0.now c.parts_around-else-is_kebab_name.result.0.now c.parts_around-else-is_kebab_name.result.1.now
read c =
    let outer = c.parts_around in
    let inner = c.parts_around-else-is_kebab_name in
    use_path_of-pieces c.args.text.now outer.result.0.now outer.result.1.now inner.result.0.now inner.result.1.now
    (iff_false c.is_kebab_name.ensures c.if-is_kebab_name.false) outer.ensures.before outer.ensures.after inner.ensures.before inner.ensures.after

pub returns-else-is_kebab_name-clause-ok : goal.returns-else-is_kebab_name-clause-ok
returns-else-is_kebab_name-clause-ok c = rw (read c) c.parse_package_path.ensures.ok

pub returns-else-is_kebab_name-clause-invalid : goal.returns-else-is_kebab_name-clause-invalid
returns-else-is_kebab_name-clause-invalid c = rw (read c) c.parse_package_path.ensures.invalid
