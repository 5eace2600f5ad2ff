-- Which types are known to hold no borrow, and what is told of a place of the package.
use Rattle.std.specs.Prelude.{◌≡◌, ◌⊎◌, ℕ, true, List, Some, Contains, ◌≤◌, ◌+◌, ◌^◌}
use Rattle.wit_digraph.specs.Relation.{direct}
use Rattle.wit_sources.specs.Span.{moved_by}
use Rattle.wit_data.specs.Kind.{named_option}
use Rattle.wit_data.specs.declared.function.Function.{Function}
use Rattle.wit_data.specs.declared.types.TypeDef.{TypeDef}
use Rattle.wit_graph_data.specs.Queries.{type_contents}
use Rattle.wit_graph_data.specs.declared.cause.Cause.{Cause}
use Rattle.wit_graph_data.specs.declared.error_kind.ResolveErrorKind.{ResolveErrorKind}
use Rattle.wit_graph_data.specs.declared.error_kind.ResolveErrorKind.TheVariants.{OffsetOverflow, Semantic}
use Rattle.wit_link_spec.specs.Addition.{Addition}
use Rattle.wit_link_spec.specs.Gates.{OptionalSpan, type_is_active}
use Rattle.wit_link_spec.specs.Lookup.{foreign_type_id}
use Rattle.wit_remap_spec.specs.Borrows.{HoldsBorrow}
use Rattle.wit_remap_spec.specs.steps.Parts.{IsBorrow}
use Rattle.wit_link_spec.specs.steps.Parts.{MayHoldBorrow}

-- these are no bad ones, and use each other alone
pub record AreFree (rows : List (List ℕ)) (Bad : ℕ → Type 0) (ids : List ℕ) : Type 0 where
  pub good : (t : ℕ) → Contains ids t → Bad t → ⊥
  pub closed : (t u : ℕ) → Contains ids t → Contains (direct rows t) u → Contains ids u

-- type t of the package is a borrow, or goes to a type of the graph that holds one
abbrev pub IsBorrowThere : Addition → ℕ → Type 0
IsBorrowThere a t =
    IsBorrow a.unresolved.types t
    ⊎ ((t' : ℕ) × (type_is_active a.features a.unresolved.types t ≡ true)
    × (foreign_type_id a.graph a.unresolved t ≡ Some t') × HoldsBorrow a.graph.types t')

-- these types of the graph hold no borrow
abbrev pub AreFreeTypes : List TypeDef → List ℕ → Type 0
AreFreeTypes types ids = AreFree (type_contents types) (IsBorrow types) ids

-- these types of the package hold no borrow
abbrev pub AreFreeOfUnresolved : Addition → List ℕ → Type 0
AreFreeOfUnresolved a ids = AreFree (type_contents a.unresolved.types) (IsBorrowThere a) ids

-- what a function returns holds no borrow
abbrev pub ReturnsNone : Addition → Function → Type 0
ReturnsNone a f = (t : ℕ) → Contains (named_option f.result_) t → MayHoldBorrow a t → ⊥

-- a message at a place that moves by an offset, or that the place would pass the end
abbrev pub IsErrorAtSpan : OptionalSpan → ℕ → List ℕ → Cause → ResolveErrorKind → Type 0
IsErrorAtSpan place offset message cause kind =
    ((kind ≡ OffsetOverflow)
    × ((range : ℕ × ℕ) × (place ≡ Some range) × (2 ^ 32 ≤ range.1 + offset)))
    ⊎ (kind ≡ Semantic (moved_by offset place) message cause)
