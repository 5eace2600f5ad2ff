-- A merge has the names of both graphs and no others.
use Rattle.std.specs.Prelude.{◌↔◌}
use Rattle.std.proofs.Common.{◌⊎◌, inl, inr}
use Rattle.wit_elaboration.specs.Valid.{IsValid}
use Rattle.wit_graph_theory.specs.facts.LawsOfElaboration.{LawsOfElaboration}
use Rattle.wit_merge_spec.specs.Matches.{GraphMerge}
use Rattle.wit_merge_spec.specs.Cause.{HasNoMismatch}
use Rattle.wit_merge_spec.specs.Merged.{merged}
use Rattle.wit_merge_laws.specs.facts.JoinedGood.{MergeCanElaborate}
use Rattle.wit_merge_laws.specs.laws.MergingLaws.{MergesHaveBothNames}
use Rattle.wit_merge_laws.specs.laws.Names.{HasName, Name}
use Rattle.wit_merge_laws.specs.facts.NamesCome.{names_come}
use Rattle.wit_merge_laws.specs.facts.NamesGo.{names_go}
use Rattle.wit_merge_laws.specs.facts.NamesParts.{going_to, graph_part, other_part, staying}
use Rattle.wit_merge_laws.specs.facts.NoCycles.{are_one, can_elaborate}

-- so where the two agree and can be elaborated as one
pub names_of_both : LawsOfElaboration → (m : GraphMerge) (name : Name) → IsValid m.graph → IsValid m.other → HasNoMismatch m → MergeCanElaborate m → HasName (merged m) name ↔ (HasName m.graph name ⊎ HasName m.other name)
names_of_both laws m name valid valid_other one elaborates = (
  λ has. names_come laws m valid valid_other one elaborates name has,
  λ has. elim has [
    | inl mine ↦ names_go m.graph (merged m) staying (graph_part laws m valid valid_other one elaborates) name mine
    | inr theirs ↦ names_go m.other (merged m) (going_to m) (other_part laws m valid valid_other one elaborates) name theirs
  ],
)

pub both_names : LawsOfElaboration → MergesHaveBothNames
both_names laws m name valid valid_other can = names_of_both laws m name valid valid_other (are_one m can) (can_elaborate m valid valid_other can laws.refused)
