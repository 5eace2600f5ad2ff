-- What the groups that lead a function's name make of it: `[constructor]`, `[method]`, `[static]`, `[get]`, `[set]`, and
-- `[method]` or `[static]` followed by `[get]` or `[set]`. What follows them has at least one byte, and doesn't begin with
-- a `[` once more.
use Rattle.std.specs.Prelude.{ℕ, ◌==◌, not, Bool, false, List, [], ◌∷◌, Option, Some, None, option_and_then, codes, if◌then◌else◌, option_map}
use Rattle.std.specs.Option.{option_map_or}
use Rattle.wit_data.specs.declared.function.FunctionKind.{FunctionKind}
use Rattle.wit_data.specs.declared.function.FunctionKind.TheVariants as role
use Rattle.wit_script_lines.specs.Token.{after_prefix, split_at}
use Rattle.wit_script_package.specs.Naming.{earlier}
use Rattle.wit_script_package.specs.declared.draft.Draft.{Draft}

-- what may follow the groups
abbrev pub is_plain : List ℕ → Bool
is_plain [] = false
is_plain (b ∷ bs) = not (b == 91)

-- the resource of a member, which is the part before the first dot: an earlier type
abbrev pub member_of : Draft → List ℕ → Option ℕ
member_of p rest =
    if is_plain rest
    then option_and_then (λ (parts : List ℕ × List ℕ). earlier p parts.0) (split_at 46 rest)
    else None

-- a function that belongs to no resource
abbrev pub freestanding : FunctionKind → List ℕ → Option FunctionKind
freestanding does rest = if is_plain rest then Some does else None

-- what follows `[method]` or `[static]`: a getter, a setter or another member
abbrev pub member_role : (ℕ → FunctionKind) → (ℕ → FunctionKind) → (ℕ → FunctionKind) → Draft
    → List ℕ → Option FunctionKind
member_role getter setter other p rest =
    option_map_or (λ more. option_map getter (member_of p more))
    (after_prefix (codes "[get]") rest)
    (option_map_or (λ more. option_map setter (member_of p more))
    (after_prefix (codes "[set]") rest)
    (option_map other (member_of p rest)))

-- a name without the groups of a resource
abbrev pub freestanding_kind : List ℕ → Option FunctionKind
freestanding_kind name =
    option_map_or (freestanding role.Getter) (after_prefix (codes "[get]") name)
    (option_map_or (freestanding role.Setter) (after_prefix (codes "[set]") name)
    (freestanding role.Freestanding name))

-- what the name of a function makes of it; the resource of a constructor is an earlier type
abbrev pub function_kind_of : Draft → List ℕ → Option FunctionKind
function_kind_of p name =
    option_map_or (λ rest.
    option_map role.Constructor (if is_plain rest then earlier p rest else None))
    (after_prefix (codes "[constructor]") name)
    (option_map_or (member_role role.MethodGetter role.MethodSetter role.Method p)
    (after_prefix (codes "[method]") name)
    (option_map_or (member_role role.StaticGetter role.StaticSetter role.Static p)
    (after_prefix (codes "[static]") name) (freestanding_kind name)))
