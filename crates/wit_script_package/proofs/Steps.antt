-- What each of some things makes, one after another.
use Rattle.std.specs.Prelude.{List, ◌++◌, Option}
use Rattle.std.specs.Option.{option_map}
use Rattle.wit_script_package.specs.Making.{each_made}

-- what is made so far, and behind it what those that are left make
abbrev pub made-behind : {A B S : Type 0} → (A → S → Option (B × S)) → List B → List A → S → Option (List B × S)
made-behind {A} {B} {S} make made left s = option_map (λ (rest : List B × S). (made ++ rest.0, rest.1)) (each_made make left s)
