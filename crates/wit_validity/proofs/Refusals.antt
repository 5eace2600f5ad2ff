-- What the elaboration of a world, or its refusal, says of the world.
use Rattle.std.proofs.Common.{◌≡◌, ◌∙◌, ℕ, Bool, List, Ok, Err, Result, ap, sym}
use Rattle.std.specs.Prelude.{◌↔◌, IfOk, IsTrue}
use Rattle.wit_data.specs.declared.types.TypeDef.{TypeDef}
use Rattle.wit_data.specs.declared.world.World.{World}
use Rattle.wit_elaboration.specs.Elaborated.{Elaborated, elaborated_exports, elaborated_imports}
use Rattle.wit_elaboration.specs.Imported.{HasTransitiveConflict}
use Rattle.wit_elaboration.specs.declared.entries.Lists.{Lists}

-- a weaker fact of an answer
pub IfOk-weaker : {T E : Type 0} {P Q : T → Type 0} (r : Result T E) → ((x : T) → P x → Q x) → IfOk r P → IfOk r Q
IfOk-weaker (Ok x) weaker holds = weaker x holds
IfOk-weaker (Err e) weaker holds = tt

-- a world without a conflict is its own elaboration exactly if the elaborated lists are its lists
pub elaborated_is : (types : List TypeDef) (uses : List (List ℕ)) (world : World) (lists : Lists) (b : Bool) → (HasTransitiveConflict uses world.exports → ⊥)
    → lists.imports ≡ elaborated_imports types uses world.imports world.exports → lists.exports ≡ elaborated_exports uses world.exports
    → IsTrue b ↔ ((lists.imports ≡ world.imports) × (lists.exports ≡ world.exports)) → IsTrue b ↔ Elaborated types uses world world
elaborated_is types uses world lists b no_conflict imports exports test = (
  λ passed.
      let mine = test.0 passed in
      let first : world.imports ≡ elaborated_imports types uses world.imports world.exports = sym mine.0 ∙ imports in
      let second : world.exports ≡ elaborated_exports uses world.exports = sym mine.1 ∙ exports in
      record { no_conflict = no_conflict; world_is = λ k. record world { imports = first k; exports = second k } },
  λ canonical. test.1 (imports ∙ sym (ap (λ (x : World). x.imports) canonical.world_is), exports ∙ sym (ap (λ (x : World). x.exports) canonical.world_is)),
)
