-- What is told of matched things doesn't hang on the offset by which spans move: facts for the proofs of the crates above.
use Rattle.std.specs.Prelude.{ℕ, List}
use Rattle.wit_data.specs.Entries.{Entry}
use Rattle.wit_data.specs.declared.stability.Stability.{Stability}
use Rattle.wit_data.specs.declared.world.WorldItem.{WorldItem}
use Rattle.wit_graph_data.specs.declared.graph.Graph.{Graph}
use Rattle.wit_merge_spec.specs.Cause.{EntriesDiffer, GraphsDiffer, ItemsDiffer, AreJoined, HasNoMismatch}
use Rattle.wit_merge_spec.specs.Cause as reasons
use Rattle.wit_merge_match.specs.Differing.{merge_of_graphs_by}
use Rattle.wit_merge_spec.specs.steps.Parts.{StabilitiesMismatch}

module _ (g other : Graph) (a b : ℕ) where
  items_by : (from into : WorldItem) (text : List ℕ) → ItemsDiffer (merge_of_graphs_by g other a) from into text → ItemsDiffer (merge_of_graphs_by g other b) from into text
  items_by from into _ (reasons.sorts off) = reasons.sorts off
  items_by from into _ (reasons.interfaces i i' from_is into_is apart) = reasons.interfaces i i' from_is into_is apart
  items_by from into _ (reasons.unnamed text p from_is into_is nameless apart) = reasons.unnamed text p from_is into_is nameless apart

  entries_by : (word : List ℕ) (from into : List Entry) (text : List ℕ) → EntriesDiffer (merge_of_graphs_by g other a) word from into text → EntriesDiffer (merge_of_graphs_by g other b) word from into text
  entries_by word from into _ (reasons.count apart) = reasons.count apart
  entries_by word from into _ (reasons.absent e listed none) = reasons.absent e listed none
  entries_by word from into _ (reasons.apart e there text listed found d) = reasons.apart e there text listed found (items_by e.1 there text d)

  -- a message of a mismatch is one by any offset
  pub differ_by : (message : List ℕ) → GraphsDiffer (merge_of_graphs_by g other a) message → GraphsDiffer (merge_of_graphs_by g other b) message
  differ_by _ (reasons.interfaces p home there name text named of is apart) = reasons.interfaces p home there name text named of is apart
  differ_by _ (reasons.worlds p home there exported text of is d) = reasons.worlds p home there exported text of is (entries_by _ _ _ text d)
  differ_by _ (reasons.types message first) = reasons.types message first

  joined_by : (from into : Stability) → AreJoined (merge_of_graphs_by g other a) from into → AreJoined (merge_of_graphs_by g other b) from into
  joined_by _ _ (reasons.types p) = reasons.types p
  joined_by _ _ (reasons.interfaces p) = reasons.interfaces p
  joined_by _ _ (reasons.worlds p) = reasons.worlds p
  joined_by _ _ (reasons.entries p exported i i' from into matched comes there) = reasons.entries p exported i i' from into matched comes there

  -- so are two stabilities that can't be joined
  pub mismatches_by : (from into : Stability) → StabilitiesMismatch (merge_of_graphs_by g other a) from into → StabilitiesMismatch (merge_of_graphs_by g other b) from into
  mismatches_by from into d = record { joined = joined_by from into d.joined; apart = d.apart }

-- and nothing differs by one offset where nothing does by another
pub one_by : (g other : Graph) (a b : ℕ) → HasNoMismatch (merge_of_graphs_by g other a) → HasNoMismatch (merge_of_graphs_by g other b)
one_by g other a b one message d = one message (differ_by g other b a message d)
