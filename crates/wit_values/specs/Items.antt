-- What a list ends as, once a `&mut` into it has ended.
use Rattle.std.specs.Prelude.{ℕ, List, slice_set}
use Rattle.std.specs.Borrow.{Lends, Fml, MutBor, RattleType}
use Rattle.wit_values.specs.contracts.items.Items.{the_row}

-- the list has the last value written through r at an index
abbrev pub LendsItem : (T : RattleType) → MutBor (List T.Denot) → ℕ → MutBor T.Denot → Fml
LendsItem T xs i r = Lends (the_row T) T xs r (slice_set xs.now i)
