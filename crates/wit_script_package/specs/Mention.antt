-- What the lines of a package mention of other packages, and what the package knows of it. What is foreign stands first
-- in the lists of a package, in the order of its first mention.
use Rattle.std.specs.Prelude.{ℕ, ◌&&◌, not, Bool, true, false, List, [], ◌∷◌, map, filter, Option, Some, None, is_some, if◌then◌else◌, bytes_eq, unwrap_or}
use Rattle.std.specs.List.{position_or_len}
use Rattle.wit_data.specs.Foreign.{ForeignItem}
use Rattle.wit_names.specs.PackageName.{same_package}
use Rattle.wit_data.specs.declared.interface.Interface.{Interface}
use Rattle.wit_names.specs.declared.use_path.ParsedUsePath.{ParsedUsePath}
use Rattle.wit_data.specs.declared.stability.Stability.{Stability}
use Rattle.wit_data.specs.declared.types.TypeDef.{TypeDef}
use Rattle.wit_data.specs.declared.stability.Stability.TheVariants.{Unknown}
use Rattle.wit_data.specs.declared.types.TypeDefKind.TheVariants as kind
use Rattle.wit_data.specs.declared.types.TypeOwner.TheVariants as owner
use Rattle.wit_data.specs.declared.unresolved.AstItem.TheVariants as item
use Rattle.wit_names.specs.declared.use_path.ParsedUsePath.TheVariants as path
use Rattle.wit_script_lines.specs.declared.package_line.PackageLine.{PackageLine}
use Rattle.wit_script_lines.specs.declared.package_line.PackageLine.TheVariants as says
use Rattle.wit_script_package.specs.Adding.{empty_interface, type_with}
use Rattle.wit_script_package.specs.Naming.{OptionalSpan}
use Rattle.wit_script_package.specs.declared.draft.Foreign.{Foreign}
use Rattle.wit_script_package.specs.declared.draft.LineContext.{LineContext}
use Rattle.wit_script_package.specs.declared.mention.Mention.{Mention}
use Rattle.wit_script_package.specs.declared.mention.MentionKind.{MentionKind}
use Rattle.wit_script_package.specs.declared.mention.MentionKind.TheVariants as taken

-- a line takes a name for that of a world
abbrev pub is_world : MentionKind → Bool
is_world taken.World = true
is_world _ = false

-- the name of the type that a line uses
abbrev pub used_type_name : MentionKind → Option (List ℕ)
used_type_name (taken.Type_ name) = Some name
used_type_name _ = None

-- what a path mentions: a name of the same package is no mention
abbrev pub path_mention : ParsedUsePath → MentionKind → Stability → OptionalSpan → List Mention
path_mention (path.Name own) takes gate span = []
path_mention (path.Package parent name) takes gate span =
    record { parent = parent; name = name; kind = takes; gate = gate; span = span } ∷ []

-- what a line mentions: nothing, where it takes no path
abbrev pub mentions_of : PackageLine → Stability → OptionalSpan → List Mention
mentions_of (says.Use from name new) gate span = path_mention from (taken.Type_ name) gate span
mentions_of (says.Import label from) gate span = path_mention from taken.Interface gate span
mentions_of (says.Export label from) gate span = path_mention from taken.Interface gate span
mentions_of (says.Include from names) gate span = path_mention from taken.World gate span
mentions_of said gate span = []

-- two mentions of one package
abbrev pub same_parent : Mention → Mention → Bool
same_parent a b = same_package a.parent b.parent

-- two mentions of one interface or world
abbrev pub same_item : Mention → Mention → Bool
same_item a b = same_parent a b && bytes_eq a.name b.name

-- two types are used, of one name
abbrev pub same_name : Option (List ℕ) → Option (List ℕ) → Bool
same_name a None = false
same_name None (Some name) = false
same_name (Some used) (Some name) = bytes_eq used name

-- two uses of one type
abbrev pub same_type : Mention → Mention → Bool
same_type a b = same_item a b && same_name (used_type_name a.kind) (used_type_name b.kind)

-- the first of each, where two of them may be the same
abbrev pub firsts : {X : Type 0} → (X → X → Bool) → List X → List X
firsts same [] = []
firsts same (x ∷ xs) = x ∷ filter (λ y. not (same x y)) (firsts same xs)

-- the foreign packages, interfaces, worlds and types, by their first mentions
abbrev pub first_packages : List Mention → List Mention
first_packages ms = firsts same_parent ms

abbrev pub first_interfaces : List Mention → List Mention
first_interfaces ms = firsts same_item (filter (λ m. not (is_world m.kind)) ms)

abbrev pub first_worlds : List Mention → List Mention
first_worlds ms = firsts same_item (filter (λ m. is_world m.kind) ms)

abbrev pub first_types : List Mention → List Mention
first_types ms = firsts same_type (filter (λ m. is_some (used_type_name m.kind)) ms)

-- the place of a foreign interface, of a foreign type
abbrev pub interface_id_of : List Mention → Mention → ℕ
interface_id_of ms m = position_or_len (same_item m) (first_interfaces ms)

abbrev pub type_id_of : List Mention → Mention → ℕ
type_id_of ms m = position_or_len (same_type m) (first_types ms)

-- a foreign interface or world, with a gate for each line that names it: the gate of that line
abbrev pub foreign_item : List Mention → Mention → ForeignItem
foreign_item ms m = (
  m.name,
  (
    (if is_world m.kind then item.World (position_or_len (same_item m) (first_worlds ms))
        else item.Interface (interface_id_of ms m)),
    map (λ (n : Mention). n.gate) (filter (same_item m) ms),
  ),
)

-- where an interface or a world of another package stands: at its first mention, without a gate
abbrev pub mentioned_at : Mention → LineContext
mentioned_at m = record { gate = Unknown; span = m.span }

-- a foreign interface: its name, and those of its types that lines use
abbrev pub foreign_interface : List Mention → Mention → Interface
foreign_interface ms m =
    record (empty_interface m.name (mentioned_at m)) {
      types = map (λ (t : Mention). (unwrap_or (used_type_name t.kind) [], type_id_of ms t))
          (filter (same_item m) (first_types ms));
    }

-- a foreign type, with the gate of the first line that uses it
abbrev pub foreign_type : List Mention → Mention → TypeDef
foreign_type ms m =
    type_with (used_type_name m.kind) kind.Unknown (owner.Interface (interface_id_of ms m))
    (record { gate = m.gate; span = m.span })

-- what is known of other packages: what is named of them, under the name of each
abbrev pub foreign_of : List Mention → Foreign
foreign_of ms = record {
  deps = map (λ (p : Mention).
      (p.parent, map (foreign_item ms) (firsts same_item (filter (same_parent p) ms))))
      (first_packages ms);
  dep_spans = map (λ (m : Mention). m.span) (first_packages ms);
  type_spans = map (λ (m : Mention). m.span) (first_types ms);
}

-- what the first of these mentions of an interface or world takes it for
abbrev pub first_role : Mention → List Mention → Bool
first_role m [] = is_world m.kind
first_role m (n ∷ ms) = if same_item m n then is_world n.kind else first_role m ms

-- the mentions that count: a line that takes an item for what its first mention doesn't isn't understood
abbrev pub known_mentions : List Mention → List Mention
known_mentions ms =
    filter (λ m. if is_world m.kind then first_role m ms else not (first_role m ms)) ms
