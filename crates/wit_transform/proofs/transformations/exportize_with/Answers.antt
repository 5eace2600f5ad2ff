use Rattle.std.proofs.Common.{◌≡◌, ℕ, List, [], Option, Some, slice_get, sym, ap, subst}
use Rattle.std.specs.Option.{option_map_or}
use Rattle.wit_data.specs.declared.world.World.{World}
use Rattle.wit_elaboration.specs.Entries.{Entry}
use Rattle.wit_transform.specs.Transformed.{AreAnswers, imports_at}
use Rattle.wit_transform.proofs.transformations.exportize_with.Goals as goal

pub returns-clause-ok : goal.returns-clause-ok
returns-clause-ok g c =
    let there : slice_get c.args.graph.now.worlds c.args.world ≡ Some c.at.result.now = subst (λ (i : ℕ). slice_get c.args.graph.now.worlds i ≡ Some c.at.result.now) c.index.ensures c.at.ensures in
    let imports : imports_at c.args.graph.now c.args.world ≡ c.at.result.now.imports = ap (λ (o : Option World). option_map_or (λ (x : World). x.imports) o []) there in
    record {
      answers = c.in_ok-answers.answers;
      given = subst (λ (es : List Entry). AreAnswers g.F.Fn c.args.filter es c.in_ok-answers.answers) (sym imports) c.in_ok-answers.ensures;
      accepted = c.in_ok-exportize_answered_with.ensures.refuses;
      is_transformed = c.in_ok-exportize_answered_with.ensures.ok;
    }

pub returns-clause-refuses : goal.returns-clause-refuses
returns-clause-refuses g c =
    λ every.
    let there : slice_get c.args.graph.now.worlds c.args.world ≡ Some c.at.result.now = subst (λ (i : ℕ). slice_get c.args.graph.now.worlds i ≡ Some c.at.result.now) c.index.ensures c.at.ensures in
    let imports : imports_at c.args.graph.now c.args.world ≡ c.at.result.now.imports = ap (λ (o : Option World). option_map_or (λ (x : World). x.imports) o []) there in
    let reason = every c.in_ok-answers.answers (subst (λ (es : List Entry). AreAnswers g.F.Fn c.args.filter es c.in_ok-answers.answers) (sym imports) c.in_ok-answers.ensures) in
    c.in_ok-exportize_answered_with.ensures.refuses reason.0 reason.1
