-- The laws of elaboration on which laws of the crates above stand, together.
use Rattle.wit_elaboration.specs.laws.ElaborationLaws.{ConflictsAreRefused, ElaboratesOnce, ImportsAreExact}
use Rattle.wit_elaboration.specs.laws.KeptByElaboration.{ElaboratedEntries, ElaboratedOnce, ElaborationIsLocal, ExportKeysStay, ImportsAreLeast, LabelsStay}

pub record LawsOfElaboration : Type 0 where
  pub once : ElaboratesOnce
  pub entries : ElaboratedEntries
  pub distinct : ElaboratedOnce
  pub labels : LabelsStay
  pub least : ImportsAreLeast
  pub exact : ImportsAreExact
  pub refused : ConflictsAreRefused
  pub exports : ExportKeysStay
  pub local : ElaborationIsLocal
