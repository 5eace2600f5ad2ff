-- What the texts of types make: a primitive, an earlier type of the scope, or types without a name of their own. Each line
-- makes types of its own, which have its gate and its place.
use Rattle.std.specs.Prelude.{ℕ, List, [], ◌∷◌, ◌++◌, length, slice_get, Option, Some, None, option_and_then, option_map}
use Rattle.wit_data.specs.New.{new_function}
use Rattle.wit_data.specs.declared.types.Field.{Field}
use Rattle.wit_data.specs.declared.function.Function.{Function}
use Rattle.wit_data.specs.declared.function.FunctionKind.{FunctionKind}
use Rattle.wit_data.specs.declared.function.Param.{Param}
use Rattle.wit_data.specs.declared.types.TypeDef.{TypeDef}
use Rattle.wit_data.specs.declared.types.TypeDefKind.{TypeDefKind}
use Rattle.wit_data.specs.declared.types.Type_.{Type_}
use Rattle.wit_data.specs.declared.types.Handle.TheVariants as handle
use Rattle.wit_data.specs.declared.types.Type_.TheVariants as type
use Rattle.wit_data.specs.declared.types.TypeDefKind.TheVariants as kind
use Rattle.wit_data.specs.declared.types.TypeOwner.TheVariants as owner
use Rattle.wit_script_lines.specs.declared.signature.Signature.{Signature}
use Rattle.wit_script_lines.specs.declared.signature.TypedName.{TypedName}
use Rattle.wit_script_lines.specs.declared.type_text.TypeText.{TypeText}
use Rattle.wit_script_lines.specs.declared.type_text.Wrap.{Wrap}
use Rattle.wit_script_lines.specs.declared.type_text.Wrap.TheVariants as wrap
use Rattle.wit_script_lines.specs.declared.type_text.Written.{Written}
use Rattle.wit_script_lines.specs.declared.type_text.Written.TheVariants as written
use Rattle.wit_script_package.specs.Adding.{type_with, with_type}
use Rattle.wit_script_package.specs.Naming.{OptionalSpan, earlier}
use Rattle.wit_script_package.specs.Role.{function_kind_of}
use Rattle.wit_script_package.specs.declared.draft.Draft.{Draft}
use Rattle.wit_script_package.specs.declared.draft.LineContext.{LineContext}
use Rattle.std.specs.Option.{option_or}
use Rattle.wit_script_lines.specs.Token.{primitive_of}

-- the type at the end of aliases that a handle names is a resource; or a foreign type, which then has to be one; or the
-- line isn't understood
abbrev pub with_root : Draft → OptionalSpan → ℕ → TypeDefKind → Option Draft
with_root p span root kind.Resource = Some p
with_root p span root kind.Unknown = Some (record p { required = p.required ++ (root, span) ∷ [] })
with_root p span root other = None

-- the type of this id leads to a resource, or to a foreign type, which then has to be one; or the line isn't understood
abbrev pub with_resource : Draft → ℕ → OptionalSpan → Option Draft
with_resource p id span =
    option_and_then (λ root.
    option_and_then (λ (def : TypeDef). with_root p span root def.kind) (slice_get p.types root))
    (slice_get p.roots id)

-- the earlier type that a handle names
abbrev pub handle_argument : Draft → List ℕ → OptionalSpan → Option (ℕ × Draft)
handle_argument p name span =
    option_and_then (λ (id : ℕ). option_map (λ (q : Draft). (id, q)) (with_resource p id span))
    (earlier p name)

-- the kind of what stands innermost in the text of a type: of a name, an alias of what it names, which is a primitive, or
-- else an earlier type
abbrev pub written_made : Draft → Written → OptionalSpan → Option (TypeDefKind × Draft)
written_made p (written.Named name) span =
    option_map (λ ty. (kind.Type_ ty, p))
    (option_or (primitive_of name) (option_map type.Id (earlier p name)))
written_made p written.Future span = Some (kind.Future None, p)
written_made p written.Stream span = Some (kind.Stream None, p)
written_made p (written.Own name) span =
    option_map (λ (made : ℕ × Draft). (kind.Handle (handle.Own made.0), made.1))
    (handle_argument p name span)
written_made p (written.Borrow name) span =
    option_map (λ (made : ℕ × Draft). (kind.Handle (handle.Borrow made.0), made.1))
    (handle_argument p name span)

-- a type of this kind: of an alias what it is an alias of, of another kind a type without a name, at the next place
abbrev pub type_of : Draft → TypeDefKind → LineContext → Type_ × Draft
type_of p (kind.Type_ ty) here = (ty, p)
type_of p other here =
    (type.Id (length p.types), with_type p (type_with None other owner.None here))

-- the kind of a form around a type
abbrev pub around : Wrap → Type_ → TypeDefKind
around wrap.List ty = kind.List ty
around wrap.Option ty = kind.Option ty
around wrap.Future ty = kind.Future (Some ty)
around wrap.Stream ty = kind.Stream (Some ty)

-- forms around a type of this kind, the innermost last
abbrev pub forms_made : Draft → List Wrap → TypeDefKind → LineContext → TypeDefKind × Draft
forms_made p [] made here = (made, p)
forms_made p (form ∷ forms) made here =
    let inside = forms_made p forms made here in
    let inner = type_of inside.1 inside.0 here in (around form inner.0, inner.1)

-- the kind of a type that is named by a line
abbrev pub kind_made : Draft → TypeText → LineContext → Option (TypeDefKind × Draft)
kind_made p text here =
    option_map (λ (made : TypeDefKind × Draft). forms_made made.1 text.wraps made.0 here)
    (written_made p text.core here.span)

-- the type that a text says
abbrev pub type_made : Draft → TypeText → LineContext → Option (Type_ × Draft)
type_made p text here =
    option_map (λ (made : TypeDefKind × Draft). type_of made.1 made.0 here) (kind_made p text here)

-- what each of them makes, one after another
abbrev pub each_made : {A B S : Type 0} → (A → S → Option (B × S)) → List A → S
    → Option (List B × S)
each_made make [] s = Some ([], s)
each_made {A} {B} {S} make (x ∷ xs) s =
    option_and_then (λ (first : B × S).
    option_map (λ (rest : List B × S). (first.0 ∷ rest.0, rest.1))
    (each_made make xs first.1)) (make x s)

-- `F:TYPE`
abbrev pub field_made : LineContext → TypedName → Draft → Option (Field × Draft)
field_made here field p =
    option_map (λ (made : Type_ × Draft). (
      record {
        name = field.name;
        ty = made.0;
        docs = record { contents = None };
        span = here.span;
      },
      made.1,
    )) (type_made p field.ty here)

-- `P:TYPE`
abbrev pub param_made : LineContext → TypedName → Draft → Option (Param × Draft)
param_made here param p =
    option_map (λ (made : Type_ × Draft).
    (record { name = param.name; ty = made.0; span = here.span }, made.1))
    (type_made p param.ty here)

-- the type after `->`, where there is one
abbrev pub answer_made : Draft → Option TypeText → LineContext → Option (Option Type_ × Draft)
answer_made p None here = Some (None, p)
answer_made p (Some text) here =
    option_map (λ (made : Type_ × Draft). (Some made.0, made.1)) (type_made p text here)

-- the parameters and the result of a function, which is what its name says
abbrev pub function_by : Draft → Signature → LineContext → FunctionKind → Option (Function × Draft)
function_by p said here does =
    option_and_then (λ (params : List Param × Draft).
    option_map (λ (answer : Option Type_ × Draft). (
      record (new_function said.name does params.0 answer.0) {
        stability = here.gate;
        span = here.span;
      },
      answer.1,
    ))
    (answer_made params.1 said.answer here)) (each_made (param_made here) said.params p)

abbrev pub function_made : Draft → Signature → LineContext → Option (Function × Draft)
function_made p said here = option_and_then (function_by p said here) (function_kind_of p said.name)
