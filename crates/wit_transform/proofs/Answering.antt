-- The answers of a filter, one after another.
use Rattle.std.proofs.Common.{◌≡◌, inl, inr, ℕ, ◌+◌, Bool, List, [], ◌∷◌, ◌++◌, take, Option, Some, slice_get, sym, subst, arith}
use Rattle.std.specs.Borrow.{Bor}
use Rattle.std.specs.Fn.{Shared}
use Rattle.std.proofs.lemmas.List.{length-append}
use Rattle.std.proofs.lemmas.Option.{slice_get_within}
use Rattle.wit_values.specs.facts.Lists.{push-cases, take-next_at}
use Rattle.wit_data.specs.declared.world.WorldItem.{WorldItem}
use Rattle.wit_data.specs.declared.world.WorldKey.{WorldKey}
use Rattle.wit_elaboration.specs.Entries.{Entry}
use Rattle.wit_transform.specs.Transformed.{AreAnswers, MayAnswer}

module _ {F : Type 0} (calls : Shared F (Bor WorldKey × (Bor WorldItem × Unit {0})) Bool) (filter : Option F) where
  -- one answer more, at the end
  pushed : (es : List Entry) (e : Entry) (before : List Bool) (answer : Bool) → AreAnswers calls filter es before → MayAnswer calls filter e answer → AreAnswers calls filter (es ++ e ∷ []) (before ++ answer ∷ [])
  pushed es e before answer are may = record {
    count = let many = are.count in omega (arith, length-append es (e ∷ []), length-append before (answer ∷ []), many);
    each = λ j d b at given.
        let many = are.count in
        elim (push-cases es e j d at) [
          | inl old ↦ elim (push-cases before answer j b given) [
            | inl had ↦ are.each j d b old had
            | inr last ↦ let within = slice_get_within es j d old in let place = last.0 in absurd (omega arith)
          ]
          | inr new ↦ elim (push-cases before answer j b given) [
            | inl had ↦ let within = slice_get_within before j b had in let place = new.0 in absurd (omega arith)
            | inr last ↦ subst (λ (x : Entry). MayAnswer calls filter x b) (sym new.1) (subst (MayAnswer calls filter e) (sym last.1) may)
          ]
        ];
  }

  pub answers-next : (es : List Entry) (i : ℕ) (e : Entry) (before after : List Bool) (answer : Bool) → slice_get es i ≡ Some e → AreAnswers calls filter (take i es) before → MayAnswer calls filter e answer
      → after ≡ before ++ answer ∷ [] → AreAnswers calls filter (take (i + 1) es) after
  answers-next es i e before after answer at are may added =
      subst (λ (xs : List Entry). AreAnswers calls filter xs after) (sym (take-next_at es i e at))
      (subst (AreAnswers calls filter (take i es ++ e ∷ [])) (sym added) (pushed (take i es) e before answer are may))
