-- What one more mention changes in a package that has only what is foreign. Mention says what all of them make.
use Rattle.std.specs.Prelude.{ℕ, Bool, true, false, not, List, [], ◌∷◌, ◌++◌, length, is_some, Option, Some, None, if◌then◌else◌, bytes_eq}
use Rattle.std.specs.Map.{lookup}
use Rattle.std.specs.Option.{option_map_or}
use Rattle.wit_data.specs.Foreign.{ForeignItem, ForeignItems}
use Rattle.wit_names.specs.PackageName.{same_package}
use Rattle.wit_data.specs.declared.unresolved.AstItem.{AstItem}
use Rattle.wit_names.specs.declared.package_name.PackageName.{PackageName}
use Rattle.wit_data.specs.declared.stability.Stability.{Stability}
use Rattle.wit_data.specs.declared.types.TypeDefKind.TheVariants as kind
use Rattle.wit_data.specs.declared.unresolved.AstItem.TheVariants as item
use Rattle.wit_script_package.specs.Adding.{empty_interface, empty_world, with_interface_type}
use Rattle.wit_script_package.specs.Mention.{is_world, mentioned_at}
use Rattle.wit_script_package.specs.Naming.{OptionalSpan, foreign_named}
use Rattle.wit_script_package.specs.declared.draft.Draft.{Draft}
use Rattle.wit_script_package.specs.declared.draft.LineContext.{LineContext}
use Rattle.wit_script_package.specs.declared.mention.Mention.{Mention}
use Rattle.wit_script_package.specs.declared.mention.MentionKind.{MentionKind}
use Rattle.wit_script_package.specs.declared.mention.MentionKind.TheVariants as taken

-- a table with another value under a key; where nothing is under it, the key comes last, with what is made of a first value
abbrev pub with_value : {K V : Type 0} → (K → Bool) → K → V → (V → V) → List (K × V) → List (K × V)
with_value test key first change [] = (key, change first) ∷ []
with_value test key first change (e ∷ es) =
    if test e.0 then (e.0, change e.1) ∷ es else e ∷ with_value test key first change es

-- an item is that of a world
abbrev pub is_world_item : AstItem → Bool
is_world_item (item.Interface id) = false
is_world_item (item.World id) = true

-- a mention takes an item for what it is
abbrev pub fits : MentionKind → AstItem → Bool
fits takes named = if is_world takes then is_world_item named else not (is_world_item named)

-- one more gate of a foreign item
abbrev pub with_gate : Stability → AstItem × List Stability → AstItem × List Stability
with_gate gate noted = (noted.0, noted.1 ++ gate ∷ [])

abbrev pub with_item_gate : List ℕ → AstItem → Stability → List ForeignItem → List ForeignItem
with_item_gate name named gate items =
    with_value (bytes_eq name) name (named, []) (with_gate gate) items

abbrev pub with_package_gate : PackageName → List ℕ → AstItem → Stability → ForeignItems
    → ForeignItems
with_package_gate parent name named gate deps =
    with_value (same_package parent) parent [] (with_item_gate name named gate) deps

-- the places of packages, with that of one more, where it is the first mention of its package
abbrev pub with_dep_span : ForeignItems → PackageName → OptionalSpan → List OptionalSpan
    → List OptionalSpan
with_dep_span deps parent span spans =
    if is_some (lookup (same_package parent) deps) then spans else spans ++ span ∷ []

-- a gate of a foreign item
abbrev pub with_foreign_gate : Draft → Mention → AstItem → Draft
with_foreign_gate p m named = record p {
  foreign = record p.foreign {
    deps = with_package_gate m.parent m.name named m.gate p.foreign.deps;
    dep_spans = with_dep_span p.foreign.deps m.parent m.span p.foreign.dep_spans;
  };
}

-- a foreign interface or world that is mentioned first
abbrev pub with_foreign_as : Draft → Mention → MentionKind → AstItem × Draft
with_foreign_as p m taken.Interface = (
  item.Interface (length p.interfaces),
  record p { interfaces = p.interfaces ++ empty_interface m.name (mentioned_at m) ∷ [] },
)
with_foreign_as p m (taken.Type_ name) = (
  item.Interface (length p.interfaces),
  record p { interfaces = p.interfaces ++ empty_interface m.name (mentioned_at m) ∷ [] },
)
with_foreign_as p m taken.World = (
  item.World (length p.worlds),
  record p { worlds = p.worlds ++ empty_world m.name (mentioned_at m) ∷ [] },
)

abbrev pub with_foreign : Draft → Mention → AstItem × Draft
with_foreign p m = with_foreign_as p m m.kind

-- a type that is used first
abbrev pub with_type_span : OptionalSpan → Draft → Draft
with_type_span span p =
    record p { foreign = record p.foreign { type_spans = p.foreign.type_spans ++ span ∷ [] } }

-- a foreign type, where the interface has none of that name yet
abbrev pub with_foreign_type : Draft → List ℕ → LineContext → ℕ → Draft
with_foreign_type p name here at =
    option_map_or (with_type_span here.span) (with_interface_type p name kind.Unknown here at) p

abbrev pub with_use_as : Draft → Mention → AstItem → MentionKind → Draft
with_use_as p m named taken.Interface = p
with_use_as p m (item.Interface id) (taken.Type_ name) =
    with_foreign_type p name (record { gate = m.gate; span = m.span }) id
with_use_as p m (item.World id) (taken.Type_ name) = p
with_use_as p m named taken.World = p

-- a mention of this item
abbrev pub with_counted : Draft → Mention → AstItem → Draft
with_counted p m named = with_use_as (with_foreign_gate p m named) m named m.kind

abbrev pub with_mention_of : Draft → Mention → Option AstItem → Draft
with_mention_of p m (Some named) = if fits m.kind named then with_counted p m named else p
with_mention_of p m None = let begun = with_foreign p m in with_counted begun.1 m begun.0

-- one more mention
abbrev pub with_mention : Draft → Mention → Draft
with_mention p m = with_mention_of p m (foreign_named p m.parent m.name)
