-- The law: a covered graph of good sources is valid.
use Rattle.std.specs.Prelude.{ℕ}
use Rattle.wit_data.specs.Each.{EachAt}
use Rattle.wit_elaboration.specs.Valid.{IsInTable, IsValid, IsWorldInTable}
use Rattle.wit_graph_data.specs.declared.graph.Graph.{Graph}
use Rattle.wit_graph_theory.specs.facts.Covered.{IsCovered}
use Rattle.wit_graph_theory.specs.facts.Good.{IsGoodAsAWhole, IsGoodPackage}
use Rattle.wit_remap_spec.specs.steps.Kept.{everything}
use Rattle.wit_graph_theory.specs.steps.Sources.{Carries, IsGoodSource, Source}

-- the tables of packages hold the interfaces and the worlds, and nothing else
pub record HasGoodTables (g : Graph) : Type 0 where
  pub packages : EachAt (IsGoodPackage g.interfaces g.worlds) g.packages
  pub interfaces : EachAt (IsInTable g.packages) g.interfaces
  pub worlds : EachAt (IsWorldInTable g.packages) g.worlds

-- sources that are good and stand in a graph whose things all come from them make a valid graph, where
-- tables and what is about the whole are in order. (Of numbered sources, so that a contract can say it: the
-- lemmas are over any family.)
abbrev pub CoveredGraphsAreValid : Type 0
CoveredGraphsAreValid =
    (at : ℕ → Source) (g : Graph) → ((k : ℕ) → IsGoodSource (at k)) → ((k : ℕ) → Carries (at k) g)
    → IsCovered everything at g
    → HasGoodTables g → IsGoodAsAWhole g → IsValid g
