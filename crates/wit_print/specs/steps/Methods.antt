-- What is written in the braces of resources, as code keeps it.
use Rattle.std.specs.Prelude.{ℕ, List, [], string_bytes}
use Rattle.std.specs.BTreeMap.{get}
use Rattle.std.specs.Option.{option_map_or}
use Rattle.std.specs.Ordering.{nat_cmp}
use Rattle.wit_print.specs.declared.methods.Methods.{Methods}

-- what is written in the braces of resource r
abbrev pub text_under : Methods → ℕ → List ℕ
text_under methods r = option_map_or string_bytes (get nat_cmp methods.texts r) []
