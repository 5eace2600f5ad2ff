-- What contracts see of the pairs of a table that are left.
use Rattle.std.specs.Prelude.{List}
use Rattle.std.specs.Slice.Iter.{iter_rest}
use Rattle.std.specs.Vec.Iter.{into_iter_items}
use Rattle.wit_values.specs.declared.table_iter.PairsIter.{PairsIter}
use Rattle.wit_values.specs.declared.table_iter.PairsIter.TheVariants as lent
use Rattle.wit_values.specs.declared.table_iter.PairsIntoIter.{PairsIntoIter}
use Rattle.wit_values.specs.declared.table_iter.PairsIntoIter.TheVariants as owned

module _ {K V : Type 0} where
  -- the pairs that are left, in order
  abbrev pub pairs_left : PairsIter K V → List (K × V)
  pairs_left (lent.Few pairs) = iter_rest pairs
  pairs_left (lent.Many pairs) = pairs

  -- the same of pairs by value
  abbrev pub pairs_to_come : PairsIntoIter K V → List (K × V)
  pairs_to_come (owned.Few pairs) = into_iter_items pairs
  pairs_to_come (owned.Many pairs) = pairs
