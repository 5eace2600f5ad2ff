use Rattle.wit_json.proofs.types.TypeDefKindWriteJson.write_json.Goals as goal

pub returns-in-FixedLengthList : goal.returns-in-FixedLengthList
returns-in-FixedLengthList c = rw c.in-FixedLengthList.is c.tagged-in-FixedLengthList.ensures
