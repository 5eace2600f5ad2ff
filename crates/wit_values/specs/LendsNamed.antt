-- What a table under texts ends as, once a `&mut` to one of its values has ended.
use Rattle.std.specs.Prelude.{ℕ, List}
use Rattle.std.specs.Borrow.{Fml, Lends, MutBor, RattleType}
use Rattle.indexmap.specs.IndexMap.{set_value_at}
use Rattle.wit_values.specs.contracts.names.Names.{the_row}

-- the table has the last value written through r at an index
abbrev pub LendsNamedValue : (V : RattleType) → MutBor (List (List ℕ × V.Denot)) → ℕ
    → MutBor V.Denot → Fml
LendsNamedValue V es i r = Lends (the_row V) V es r (set_value_at es.now i)
