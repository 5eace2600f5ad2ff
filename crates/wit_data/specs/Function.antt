-- What the kind of a function tells.
use Rattle.std.specs.Prelude.{ℕ, Option, Some, None}
use Rattle.wit_data.specs.declared.function.AccessorKind.{AccessorKind}
use Rattle.wit_data.specs.declared.function.FunctionKind.{FunctionKind}
use Rattle.wit_data.specs.declared.function.FunctionKind.TheVariants.{Freestanding, AsyncFreestanding, Method, AsyncMethod, Static, AsyncStatic, Constructor, MethodGetter, MethodSetter, StaticGetter, StaticSetter}
use Rattle.wit_data.specs.declared.function.FunctionKind.TheVariants as kind
use Rattle.wit_data.specs.declared.function.AccessorKind.TheVariants as accessor

-- the resource that a function belongs to
abbrev pub resource_of : FunctionKind → Option ℕ
resource_of Freestanding = None
resource_of AsyncFreestanding = None
resource_of (Method id) = Some id
resource_of (AsyncMethod id) = Some id
resource_of (Static id) = Some id
resource_of (AsyncStatic id) = Some id
resource_of (Constructor id) = Some id
resource_of kind.Getter = None
resource_of kind.Setter = None
resource_of (MethodGetter id) = Some id
resource_of (MethodSetter id) = Some id
resource_of (StaticGetter id) = Some id
resource_of (StaticSetter id) = Some id

-- whether a function reads or writes a property: what the last word of its kind says
abbrev pub accessor_of : FunctionKind → Option AccessorKind
accessor_of kind.Getter = Some accessor.Getter
accessor_of kind.Setter = Some accessor.Setter
accessor_of (MethodGetter id) = Some accessor.Getter
accessor_of (MethodSetter id) = Some accessor.Setter
accessor_of (StaticGetter id) = Some accessor.Getter
accessor_of (StaticSetter id) = Some accessor.Setter
accessor_of _ = None
