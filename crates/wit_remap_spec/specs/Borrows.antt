-- A borrow in what a function returns, which is refused (15).
-- Source: `append` and `merge` of wit-parser 0.263.0.
use Rattle.std.specs.Prelude.{◌≡◌, ℕ, List, ◌++◌, codes}
use Rattle.wit_digraph.specs.Relation.{Reaches}
use Rattle.wit_data.specs.Each.{SomeAt}
use Rattle.wit_data.specs.declared.types.TypeDef.{TypeDef}
use Rattle.wit_data.specs.declared.types.Handle.TheVariants.{Borrow}
use Rattle.wit_data.specs.declared.types.TypeDefKind.TheVariants as kind
use Rattle.wit_graph_data.specs.Queries.{type_contents}

-- the values of type t hold a borrow: it is one, or some type that they hold is
abbrev pub HoldsBorrow : List TypeDef → ℕ → Type 0
HoldsBorrow types t =
    (b : ℕ) × Reaches (type_contents types) t b
    × SomeAt types b (λ (def : TypeDef). (r : ℕ) × (def.kind ≡ kind.Handle (Borrow r)))

-- what the message says of a function of this name
abbrev pub borrow_text : List ℕ → List ℕ
borrow_text name =
    codes "function `"
    ++ (name ++ codes "` returns a type which contains a `borrow<T>` which is not supported")
