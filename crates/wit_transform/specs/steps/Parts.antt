-- Parts of the definitions under names of their own, for contracts of inner functions and for proofs. Each is what stands
-- in a definition in its place, so none has to be believed.
use Rattle.std.specs.Prelude.{ℕ, ◌≡◌, not, List, [], ◌∷◌, ◌++◌, Option, Some, None, codes, filter, nat_eq, slice_get, slice_set, Contains, ◌≢◌, unwrap_or}
use Rattle.std.specs.Map.{keys_of}
use Rattle.wit_data.specs.declared.world.World.{World}
use Rattle.wit_data.specs.declared.world.WorldKey.TheVariants as key
use Rattle.wit_elaboration.specs.Elaboration.{elaborated_world}
use Rattle.wit_graph_data.specs.declared.graph.Graph.{Graph}
use Rattle.wit_graph_data.specs.declared.graph.Package.{Package}
use Rattle.wit_graph_data.specs.declared.cause.Cause.TheVariants.{NameTaken}
use Rattle.wit_graph_data.specs.declared.error_kind.ResolveErrorKind.{ResolveErrorKind}
use Rattle.wit_graph_data.specs.declared.error_kind.ResolveErrorKind.TheVariants.{Semantic}
use Rattle.wit_transform.specs.Transformed.{WorldLists, type_entries, with_renamed, HasNameTaken, name_taken_text}

-- the new name: the one that is given, be it empty, or else the old one with a suffix
abbrev pub new_name : List ℕ → Option (List ℕ) → List ℕ → List ℕ
new_name suffix out name = unwrap_or out (name ++ suffix)

-- a table of worlds with world w last, under its new name
abbrev pub put_last : List (List ℕ × ℕ) → ℕ → List ℕ → List (List ℕ × ℕ)
put_last table w name = filter (λ (e : List ℕ × ℕ). not (nat_eq e.1 w)) table ++ (name, w) ∷ []

-- the world under its new name, with its new lists, before it is elaborated
abbrev pub listed_world : World → WorldLists → World
listed_world world lists =
    record world { name = lists.name; imports = lists.imports; exports = lists.exports }

-- the world under its new name, with its new lists elaborated
abbrev pub transformed_world : Graph → World → WorldLists → World
transformed_world g world lists = elaborated_world g (listed_world world lists)

-- the graph with this world in the place of world w, and last in the table of its package
abbrev pub with_world : Graph → ℕ → World → Graph
with_world g w world =
    record g {
      worlds = slice_set g.worlds w world;
      packages = with_renamed g.packages world.package w world.name;
    }

-- 19: an export has the label of an import that stays
abbrev pub label_clash_text : List ℕ → List ℕ
label_clash_text label =
    codes "world export `" ++ (label ++ codes "` conflicts with import of same name")

-- 21: a type would be exported
abbrev pub type_exported_text : List ℕ → List ℕ
type_exported_text label = codes "type import `" ++ (label ++ codes "` cannot be exported")

-- an export has the label of a type among the imports
abbrev pub HasClash : World → List ℕ → Type 0
HasClash world label =
    Contains (keys_of world.exports) (key.Name label)
    × Contains (keys_of (type_entries world.imports)) (key.Name label)

-- the package of world w has another world of this name
abbrev pub NameIsTakenIn : Package → ℕ → List ℕ → Type 0
NameIsTakenIn home w name = (v : ℕ) × Contains home.worlds (name, v) × (v ≢ w)

-- another world of the package has the new name of world w, and the error says so
abbrev pub HasNameTakenAt : Graph → ℕ → List ℕ → Option (List ℕ) → ResolveErrorKind → Type 0
HasNameTakenAt g w suffix out error =
    (world : World) × (home : Package) × (slice_get g.worlds w ≡ Some world)
    × HasNameTaken g w world (new_name suffix out world.name) home
    × (error ≡ Semantic None (name_taken_text (new_name suffix out world.name) home.name) NameTaken)
