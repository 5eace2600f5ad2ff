-- What a table ends as, once a `&mut` to one of its values has ended.
use Rattle.std.specs.Prelude.{ℕ, List, Option, None, Some, slice_get}
use Rattle.std.specs.Borrow.{Fml, Lends, MutBor, RattleType}
use Rattle.std.specs.HashMap.Lent.{HashMembers}
use Rattle.std.specs.Vec.{with_item}
use Rattle.std.specs.declared.alloc.Global.{Global}
use Rattle.std.specs.declared.vec.Vec.{Vec}
use Rattle.indexmap.specs.IndexMap.{set_value_at, with_value_at}
use Rattle.wit_values.specs.declared.pairs.Pairs.{Pairs}
use Rattle.wit_values.specs.declared.pairs.Pairs.TheVariants.{Few, Many}
use Rattle.wit_values.specs.contracts.pairs.Pairs as pairs
use Rattle.wit_values.specs.contracts.table.Table as table

module _ {K V : Type 0} where
  -- a list with another value in the pair at an index, which is there
  abbrev pub with_second : Vec (K × V) Global → ℕ → Option (K × V) → V → Vec (K × V) Global
  with_second few i None w = few
  with_second few i (Some e) w = with_item few i (e.0, w)

  -- pairs with another value at an index
  abbrev pub with_value : Pairs K V → ℕ → V → Pairs K V
  with_value (Few few) i w = Few (with_second few i (slice_get few.items i) w)
  with_value (Many map) i w = Many (record map { value = with_value_at map.value i w })

module _ (K V : RattleType) (key : HashMembers K.Denot) where
  -- the pairs have the last value written through r at an index
  abbrev pub LendsPairsValue : MutBor (Pairs K.Denot V.Denot) → ℕ → MutBor V.Denot → Fml
  LendsPairsValue es i r =
      Lends (pairs.the_row K V (record { eq = key.eq }) (record { hash_input = key.hash_input })) V
      es r (with_value es.now i)

  -- so has the table
  abbrev pub LendsValue : MutBor (List (K.Denot × V.Denot)) → ℕ → MutBor V.Denot → Fml
  LendsValue es i r =
      Lends (table.the_row K V (record { eq = key.eq }) (record { hash_input = key.hash_input })) V
      es r (set_value_at es.now i)
