-- A JSON value without the members that its layout lacks.
use Rattle.std.specs.Prelude.{ℕ, List, Option, Some, None}
use Rattle.std.specs.Option.{option_map}
use Rattle.json.specs.Json.{Json, null, boolean, number, string, array, object, Items, no_items, item, Members, no_members, member}
use Rattle.wit_json_layout.specs.Layouts.{part}
use Rattle.wit_json_layout.specs.declared.layout.Layout.{Layout}

-- members with one more in front, where there is one
abbrev pub member_if : List ℕ → Option Json → Members → Members
member_if name None ms = ms
member_if name (Some j) ms = member name j ms

abbrev mutual
  -- a value without the members that its layout lacks, at any depth
  pub known_part : Layout → Json → Json
  known_part layout null = null
  known_part layout (boolean b) = boolean b
  known_part layout (number s) = number s
  known_part layout (string s) = string s
  known_part layout (array js) = array (known_items layout js)
  known_part layout (object ms) = object (known_members layout ms)

  pub known_items : Layout → Items → Items
  known_items layout no_items = no_items
  known_items layout (item j js) = item (known_part layout j) (known_items layout js)

  pub known_members : Layout → Members → Members
  known_members layout no_members = no_members
  known_members layout (member name j ms) =
      member_if name (option_map (λ inner. known_part inner j) (part layout name))
      (known_members layout ms)
