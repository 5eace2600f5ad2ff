-- The members that the objects of a document have.
use Rattle.std.specs.Prelude.{ℕ, List, [], ◌∷◌, Option, Some, None, codes, bytes_eq}
use Rattle.std.specs.Map.{lookup}
use Rattle.std.specs.Option.{option_or}
use Rattle.wit_json_layout.specs.declared.layout.Layout.{Layout}
use Rattle.wit_json_layout.specs.declared.layout.Layout.TheVariants.{Whole, Document, Command, Groups, Group, Source, Resolve, Features, Graph, Home, Package, ForeignDeps, ForeignItems, World, Entries, Entry, InterfaceEntry, TypeEntry, Include, IncludeName, Interface, Functions, Function, Param, TypeDef, Kind, Record, Variant, Flags, Enum, Tuple, Result_, Typed, Named, Docs, Gate, Stable, Unstable}

-- the members of an object that have names of their own, each with the layout of its value
abbrev pub named_parts : Layout → List (List ℕ × Layout)
named_parts Whole = []
named_parts Document = (codes "resolve", Resolve) ∷ (codes "commands", Command) ∷ []
named_parts Command = (codes "push-groups", Groups) ∷ (codes "merge", Command) ∷ []
named_parts Groups = (codes "main", Group) ∷ (codes "deps", Group) ∷ []
named_parts Group =
    (codes "main", Package) ∷ (codes "nested", Package) ∷ (codes "sources", Source) ∷ []
named_parts Source = (codes "path", Whole) ∷ (codes "text", Whole) ∷ []
named_parts Resolve =
    (codes "graph", Graph) ∷ (codes "details", Whole) ∷ (codes "features", Features) ∷
    (codes "track-rule", Whole) ∷ (codes "sources", Source) ∷ []
named_parts Features = (codes "all", Whole) ∷ (codes "names", Whole) ∷ []
named_parts Graph =
    (codes "worlds", World) ∷ (codes "interfaces", Interface) ∷ (codes "types", TypeDef) ∷
    (codes "packages", Home) ∷ []
named_parts Home =
    (codes "name", Whole) ∷ (codes "docs", Docs) ∷ (codes "interfaces", Whole) ∷
    (codes "worlds", Whole) ∷ []
named_parts Package =
    (codes "name", Whole) ∷ (codes "span", Whole) ∷ (codes "docs", Docs) ∷ (codes "worlds", World) ∷
    (codes "interfaces", Interface) ∷ (codes "types", TypeDef) ∷
    (codes "foreign-deps", ForeignDeps) ∷ (codes "foreign-dep-spans", Whole) ∷
    (codes "unknown-type-spans", Whole) ∷ (codes "required-resources", Whole) ∷ []
named_parts ForeignDeps = []
named_parts ForeignItems = []
named_parts World =
    (codes "name", Whole) ∷ (codes "imports", Entries) ∷ (codes "exports", Entries) ∷
    (codes "includes", Include) ∷ (codes "docs", Docs) ∷ (codes "stability", Gate) ∷
    (codes "package", Whole) ∷ (codes "span", Whole) ∷ []
named_parts Entries = []
named_parts Entry =
    (codes "interface", InterfaceEntry) ∷ (codes "function", Function) ∷ (codes "type", TypeEntry) ∷
    []
named_parts InterfaceEntry =
    (codes "id", Whole) ∷ (codes "stability", Gate) ∷ (codes "docs", Docs) ∷ (codes "span", Whole) ∷
    (codes "external-id", Whole) ∷ []
named_parts TypeEntry = (codes "id", Whole) ∷ (codes "span", Whole) ∷ []
named_parts Include =
    (codes "id", Whole) ∷ (codes "names", IncludeName) ∷ (codes "stability", Gate) ∷
    (codes "span", Whole) ∷ []
named_parts IncludeName = (codes "name", Whole) ∷ (codes "as", Whole) ∷ []
named_parts Interface =
    (codes "name", Whole) ∷ (codes "types", Whole) ∷ (codes "functions", Functions) ∷
    (codes "docs", Docs) ∷ (codes "stability", Gate) ∷ (codes "package", Whole) ∷
    (codes "span", Whole) ∷ []
named_parts Functions = []
named_parts Function =
    (codes "name", Whole) ∷ (codes "kind", Whole) ∷ (codes "params", Param) ∷
    (codes "result", Whole) ∷ (codes "docs", Docs) ∷ (codes "stability", Gate) ∷
    (codes "span", Whole) ∷ (codes "external-id", Whole) ∷ []
named_parts Param = (codes "name", Whole) ∷ (codes "type", Whole) ∷ (codes "span", Whole) ∷ []
named_parts TypeDef =
    (codes "name", Whole) ∷ (codes "kind", Kind) ∷ (codes "owner", Whole) ∷ (codes "docs", Docs) ∷
    (codes "stability", Gate) ∷ (codes "span", Whole) ∷ (codes "external-id", Whole) ∷ []
named_parts Kind =
    (codes "record", Record) ∷ (codes "variant", Variant) ∷ (codes "flags", Flags) ∷
    (codes "enum", Enum) ∷ (codes "tuple", Tuple) ∷ (codes "result", Result_) ∷ []
named_parts Record = (codes "fields", Typed) ∷ []
named_parts Variant = (codes "cases", Typed) ∷ []
named_parts Flags = (codes "flags", Named) ∷ []
named_parts Enum = (codes "cases", Named) ∷ []
named_parts Tuple = (codes "types", Whole) ∷ []
named_parts Result_ = (codes "ok", Whole) ∷ (codes "err", Whole) ∷ []
named_parts Typed =
    (codes "name", Whole) ∷ (codes "type", Whole) ∷ (codes "docs", Docs) ∷ (codes "span", Whole) ∷
    []
named_parts Named = (codes "name", Whole) ∷ (codes "docs", Docs) ∷ (codes "span", Whole) ∷ []
named_parts Docs = (codes "contents", Whole) ∷ []
named_parts Gate = (codes "stable", Stable) ∷ (codes "unstable", Unstable) ∷ []
named_parts Stable = (codes "since", Whole) ∷ (codes "deprecated", Whole) ∷ []
named_parts Unstable = (codes "feature", Whole) ∷ (codes "deprecated", Whole) ∷ []

-- the layout of what an object has under other names, or none if it has nothing else
abbrev pub other_parts : Layout → Option Layout
other_parts Whole = Some Whole
other_parts Document = Some Whole
other_parts Command = Some Whole
other_parts Groups = Some Whole
other_parts Group = None
other_parts Source = None
other_parts Resolve = None
other_parts Features = None
other_parts Graph = None
other_parts Home = None
other_parts Package = None
other_parts ForeignDeps = Some ForeignItems
other_parts ForeignItems = Some Gate
other_parts World = None
other_parts Entries = Some Entry
other_parts Entry = Some Whole
other_parts InterfaceEntry = None
other_parts TypeEntry = None
other_parts Include = None
other_parts IncludeName = None
other_parts Interface = None
other_parts Functions = Some Function
other_parts Function = None
other_parts Param = None
other_parts TypeDef = None
other_parts Kind = Some Whole
other_parts Record = None
other_parts Variant = None
other_parts Flags = None
other_parts Enum = None
other_parts Tuple = None
other_parts Result_ = None
other_parts Typed = None
other_parts Named = None
other_parts Docs = None
other_parts Gate = Some Whole
other_parts Stable = None
other_parts Unstable = None

-- the layout of the member of a name, or none if an object has no such member
abbrev pub part : Layout → List ℕ → Option Layout
part layout name = option_or (lookup (bytes_eq name) (named_parts layout)) (other_parts layout)
