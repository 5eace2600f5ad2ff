use Rattle.std.proofs.Common.{rules}
use Rattle.wit_json.proofs.functions.FunctionKindWriteJson.write_json.Goals as goal

pub returns-in-AsyncMethod : goal.returns-in-AsyncMethod
returns-in-AsyncMethod c = rw c.in-AsyncMethod.is c.tagged-in-AsyncMethod.ensures

pub returns-in-StaticGetter : goal.returns-in-StaticGetter
returns-in-StaticGetter c = rw c.in-StaticGetter.is c.tagged-in-StaticGetter.ensures

pub returns-in-StaticSetter : goal.returns-in-StaticSetter
returns-in-StaticSetter c = rw c.in-StaticSetter.is c.tagged-in-StaticSetter.ensures
