-- All that types and functions refer to is what they may refer to.
use Rattle.std.proofs.Common.{◌≡◌, ◌↔◌, Bool, true, List, IfOk, IsTrue, None, Result, Ok, Err}
use Rattle.wit_data.specs.Each.{Each, EachAt}
use Rattle.wit_data.specs.Ownership.{FunctionsUseOwn, RefersToOwn}
use Rattle.wit_data.specs.declared.interface.Interface.{Interface}
use Rattle.wit_data.specs.declared.types.TypeDef.{TypeDef}
use Rattle.wit_elaboration.specs.Valid.{HasReferences}

-- all but functions do
pub by_functions : {E : Type 0} (types : List TypeDef) (interfaces : List Interface) (refer : Bool)
    → (IsTrue refer ↔ Each (RefersToOwn types) types) → refer ≡ true
    → (Each (RefersToOwn types) types → EachAt (FunctionsUseOwn types) interfaces → HasReferences types interfaces)
    → (answer : Result Bool E) → IfOk answer (λ own. IsTrue own ↔ EachAt (FunctionsUseOwn types) interfaces)
    → IfOk answer (λ holds. IsTrue holds ↔ HasReferences types interfaces)
by_functions types interfaces refer says refer_do whole (Ok own) told = (λ holds. whole (says.0 refer_do) (told.0 holds), λ has. told.1 has.own_functions)
by_functions types interfaces refer says refer_do whole (Err e) told = tt
