-- The ids of packages of some names, one after another.
use Rattle.std.proofs.Common.{◌≡◌, ◌<◌, ◌∙◌, ℕ, suc, List, [], ◌∷◌, ◌++◌, Option, None, Some, length, get_or, drop, refl, sym, ap, append_assoc, drop-cons, option_and_then, option_map}
use Rattle.wit_names.specs.declared.package_name.PackageName.{PackageName}
use Rattle.wit_graph_data.specs.Named.{package_named}
use Rattle.wit_graph_data.specs.declared.graph.Graph.{Graph}
use Rattle.wit_json_commands.specs.Tells.{packages_named}

-- ids in front of others, where these are there
abbrev pub ids_before : List ℕ → Option (List ℕ) → Option (List ℕ)
ids_before ids None = None
ids_before ids (Some more) = Some (ids ++ more)

pub none_before : (r : Option (List ℕ)) → r ≡ ids_before [] r
none_before None = refl
none_before (Some more) = refl

-- the id of a name before those of others, where all are there
abbrev with_package : Option ℕ → Option (List ℕ) → Option (List ℕ)
with_package id others = option_and_then (λ i. option_map (λ ids. i ∷ ids) others) id

one_before : (ids : List ℕ) (id : ℕ) (r : Option (List ℕ)) → ids_before ids (with_package (Some id) r) ≡ ids_before (ids ++ id ∷ []) r
one_before ids id None = refl
one_before ids id (Some more) = ap Some (sym (append_assoc ids (id ∷ []) more))

-- the names from an index on
from_index : (g : Graph) (names : List PackageName) (i : ℕ) (name : PackageName) → i < length names → name ≡ get_or names i name
    → packages_named g (drop i names) ≡ with_package (package_named g name) (packages_named g (drop (suc i) names))
from_index g names i name small is = ap (packages_named g) (drop-cons names i name small ∙ ap (λ x. x ∷ drop (suc i) names) (sym is))

-- the next name has an id
pub next_id : (g : Graph) (names : List PackageName) (i : ℕ) (name : PackageName) (ids : List ℕ) (id : ℕ) → i < length names → name ≡ get_or names i name → package_named g name ≡ Some id
    → packages_named g names ≡ ids_before ids (packages_named g (drop i names)) → packages_named g names ≡ ids_before (ids ++ id ∷ []) (packages_named g (drop (suc i) names))
next_id g names i name ids id small is there so =
    so ∙ ap (ids_before ids) (from_index g names i name small is ∙ ap (λ x. with_package x (packages_named g (drop (suc i) names))) there)
    ∙ one_before ids id (packages_named g (drop (suc i) names))

-- the next name has none
pub no_id : (g : Graph) (names : List PackageName) (i : ℕ) (name : PackageName) (ids : List ℕ) → i < length names → name ≡ get_or names i name → package_named g name ≡ None
    → packages_named g names ≡ ids_before ids (packages_named g (drop i names)) → packages_named g names ≡ None
no_id g names i name ids small is there so =
    so ∙ ap (ids_before ids) (from_index g names i name small is ∙ ap (λ x. with_package x (packages_named g (drop (suc i) names))) there)
