-- What faults of files say: the words of wit-parser.
use Rattle.std.specs.Prelude.{ℕ, List, [], ◌++◌, Option, Some, codes}
use Rattle.wit_groups.specs.declared.fault.EntrySide.TheVariants as side
use Rattle.wit_groups.specs.declared.fault.EntrySort.TheVariants as sort
use Rattle.wit_groups.specs.declared.fault.GroupFault.{GroupFault}
use Rattle.wit_groups.specs.declared.fault.GroupFault.TheVariants as group
use Rattle.wit_groups.specs.declared.fault.GroupFaultKind.{GroupFaultKind}
use Rattle.wit_groups.specs.declared.fault.GroupFaultKind.TheVariants as fault
use Rattle.wit_groups.specs.declared.fault.NameFault.{NameFault}
use Rattle.wit_groups.specs.declared.fault.NameFault.TheVariants as name
use Rattle.wit_groups.specs.declared.fault.RuleFault.{RuleFault}
use Rattle.wit_groups.specs.declared.fault.RuleFault.TheVariants as rule
use Rattle.wit_names.specs.PackageName.{package_name_text}
use Rattle.wit_shape.specs.FaultText.{fault_text}
use Rattle.wit_text.specs.ReadFault.{read_fault_text}

-- what stands before a name
abbrev pub before_name : NameFault → List ℕ
before_name name.DuplicateItem = codes "duplicate item named "
before_name name.DuplicateInFile = codes "duplicate name "
before_name name.NoItem = codes "interface or world "
before_name name.ItemDependsOnItself = codes "interface or world "
before_name name.NoType = codes "type "
before_name name.TypeDependsOnItself = codes "type "
before_name name.Float32 = codes "type "
before_name name.Float64 = codes "type "
before_name name.NoResource = codes "type "
before_name name.NoName = codes "name "
before_name name.NotAnInterface = codes "name "
before_name name.NotAWorld = codes "name "
before_name name.DefinedTwice = codes "name "
before_name name.DefinedAbove = codes "name "
before_name name.ParameterTwice = codes "param "
before_name name.FunctionTwice = codes "duplicate function name "
before_name (name.EntryConflict side.Import _) = codes "import "
before_name (name.EntryConflict side.Export _) = codes "export "
before_name name.UsedFunction = codes "cannot import function "
before_name name.FunctionAsType = codes "cannot use function "

-- what stands behind it
abbrev pub behind_name : NameFault → List ℕ
behind_name name.DuplicateItem = []
behind_name name.FunctionTwice = []
behind_name name.UsedFunction = []
behind_name name.DuplicateInFile = codes " in this file"
behind_name name.NoItem = codes " does not exist"
behind_name name.NoType = codes " does not exist"
behind_name name.NoName = codes " does not exist"
behind_name name.Float32 =
    codes " does not exist: the `float32` type has been renamed to `f32` and is no longer accepted"
behind_name name.Float64 =
    codes " does not exist: the `float64` type has been renamed to `f64` and is no longer accepted"
behind_name name.ItemDependsOnItself = codes " depends on itself"
behind_name name.TypeDependsOnItself = codes " depends on itself"
behind_name name.NotAnInterface = codes " is defined as a world, not an interface"
behind_name name.NotAWorld = codes " is defined as an interface, not a world"
behind_name name.DefinedTwice = codes " is defined more than once"
behind_name name.ParameterTwice = codes " is defined more than once"
behind_name name.DefinedAbove = codes " is defined more than once; a type above has it"
behind_name (name.EntryConflict _ sort.Interface) =
    codes " conflicts with prior interface of same name"
behind_name (name.EntryConflict _ sort.Function) = codes " conflicts with prior func of same name"
behind_name (name.EntryConflict _ sort.Type_) = codes " conflicts with prior type of same name"
behind_name name.FunctionAsType = codes " as a type"
behind_name name.NoResource = codes " used in a handle must be a resource"

-- what is told of a rule that isn't kept
abbrev pub rule_text : RuleFault → List ℕ
rule_text rule.AttributesOnUse = codes "attributes not allowed on top-level use"
rule_text rule.DeprecatedAlone = codes "must pair @deprecated with either @since or @unstable"
rule_text rule.UnsupportedAttributes = codes "unsupported combination of attributes"
rule_text rule.MisplacedExternalId = codes "`@external-id` not allowed here"
rule_text rule.NoPackage = codes "no `package` header was found in any WIT file for this package"
rule_text rule.NestedTooDeep = codes "nested packages must be placed at the top-level"
rule_text rule.SecondDocs = codes "found doc comments on multiple 'package' items"
rule_text rule.SecondConstructor = codes "duplicate constructors"
rule_text (rule.EntryTwice side.Import) = codes "interface cannot be imported more than once"
rule_text (rule.EntryTwice side.Export) = codes "interface cannot be exported more than once"
rule_text rule.EmptyVariant = codes "empty variant"
rule_text rule.EmptyEnum = codes "empty enum"
rule_text rule.EmptyFlags = codes "empty flags"
rule_text rule.MapKey =
    codes "invalid map key type: map keys must be bool, u8, u16, u32, u64, s8, s16, s32, s64, "
    ++ codes "char, or string"
rule_text rule.ConstructorResult =
    codes "if a constructor return type is declared it must be a `result`"
rule_text rule.ConstructorOk = codes "the `ok` type must be the resource being constructed"
rule_text rule.MissingPart = codes "a part of this type isn't there"

-- what a fault says, where `wit_text` says it
abbrev pub group_fault_text : GroupFaultKind → Option (List ℕ)
group_fault_text (fault.Syntax f) = read_fault_text f
group_fault_text (fault.Name f n) =
    Some (before_name f ++ (codes "`" ++ (n ++ (codes "`" ++ behind_name f))))
group_fault_text (fault.Rule f) = Some (rule_text f)
group_fault_text (fault.OtherPackage n previous) =
    Some (codes "package identifier `" ++ (package_name_text n
    ++ (codes "` does not match previous package name of `" ++ (package_name_text previous
    ++ codes "`"))))
group_fault_text (fault.Shape f) = Some (codes "this package can't be pushed: " ++ fault_text f)

-- the same of what isn't read
abbrev pub unread_group_text : GroupFault → Option (List ℕ)
unread_group_text (group.Text source_map span f) = group_fault_text f
unread_group_text group.OutOfMemory = Some (codes "out of memory")
