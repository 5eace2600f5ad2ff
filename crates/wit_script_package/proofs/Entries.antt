-- Functions that a line adds to a world, under their names.
use Rattle.std.proofs.Common.{◌≡◌, ℕ, List, Option, Some, Result, ap, sym, subst, ◌∙◌}
use Rattle.std.specs.Option.{option_and_then}
use Rattle.wit_data.specs.declared.function.Function.{Function}
use Rattle.wit_data.specs.declared.world.WorldItem.TheVariants as item
use Rattle.wit_data.specs.declared.world.WorldKey.TheVariants as key
use Rattle.wit_script_lines.specs.declared.fault.LineFault.{LineFault}
use Rattle.wit_script_lines.specs.declared.signature.Signature.{Signature}
use Rattle.wit_script_package.specs.Adding.{with_export, with_import}
use Rattle.wit_script_package.specs.steps.DraftResult.{DraftResult}
use Rattle.wit_script_package.specs.Making.{function_made}
use Rattle.wit_script_package.specs.declared.draft.Draft.{Draft}
use Rattle.wit_script_package.specs.declared.draft.LineContext.{LineContext}
use Rattle.wit_script_package.specs.steps.Parts.{with_imported_function, with_exported_function}

module _ {A : Type 0} (p q new : Draft) (said : Signature) (here : LineContext) (f : Function) (name : List ℕ) (answer : Result A LineFault) where
  pub imported : function_made p said here ≡ Some (f, q) → name ≡ f.name → DraftResult (with_import q (key.Name name) (item.Function f)) answer new → DraftResult (with_imported_function p said here) answer new
  imported made same leads =
      let whole : with_import q (key.Name name) (item.Function f) ≡ with_imported_function p said here =
      ap (λ (n : List ℕ). with_import q (key.Name n) (item.Function f)) same
      ∙ sym (ap (option_and_then (λ (m : Function × Draft). with_import m.1 (key.Name m.0.name) (item.Function m.0))) made) in
      subst (λ (o : Option Draft). DraftResult o answer new) whole leads

  pub exported : function_made p said here ≡ Some (f, q) → name ≡ f.name → DraftResult (with_export q (key.Name name) (item.Function f)) answer new → DraftResult (with_exported_function p said here) answer new
  exported made same leads =
      let whole : with_export q (key.Name name) (item.Function f) ≡ with_exported_function p said here =
      ap (λ (n : List ℕ). with_export q (key.Name n) (item.Function f)) same
      ∙ sym (ap (option_and_then (λ (m : Function × Draft). with_export m.1 (key.Name m.0.name) (item.Function m.0))) made) in
      subst (λ (o : Option Draft). DraftResult o answer new) whole leads
