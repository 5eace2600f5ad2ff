-- Forms that are made from the innermost one on.
use Rattle.std.proofs.Common.{◌≡◌, ℕ, ◌+◌, ◌<◌, List, [], ◌∷◌, ◌++◌, length, take, get_or, refl, ap, ◌∙◌}
use Rattle.std.proofs.lemmas.Grind.{take_at_read}
use Rattle.wit_data.specs.declared.types.TypeDefKind.{TypeDefKind}
use Rattle.wit_data.specs.declared.types.Type_.{Type_}
use Rattle.wit_script_lines.specs.declared.type_text.Wrap.{Wrap}
use Rattle.wit_script_package.specs.Making.{around, forms_made, type_of}
use Rattle.wit_script_package.specs.declared.draft.Draft.{Draft}
use Rattle.wit_script_package.specs.declared.draft.LineContext.{LineContext}

-- a form around a type of this kind
abbrev around_made : Wrap → LineContext → TypeDefKind × Draft → TypeDefKind × Draft
around_made form here made = let inner = type_of made.1 made.0 here in (around form inner.0, inner.1)

-- the innermost form
innermost : (p : Draft) (forms : List Wrap) (form : Wrap) (made : TypeDefKind) (here : LineContext)
    → forms_made p (forms ++ form ∷ []) made here ≡ forms_made (around_made form here (made, p)).1 forms (around_made form here (made, p)).0 here
innermost p [] form made here = refl
innermost p (outer ∷ forms) form made here = ap (around_made outer here) (innermost p forms form made here)

-- a form of which the inner type is made
pub form-made : (p q : Draft) (forms : List Wrap) (i : ℕ) (d : Wrap) (made : TypeDefKind) (here : LineContext) (inner : Type_) → i < length forms → type_of p made here ≡ (inner, q)
    → forms_made p (take (i + 1) forms) made here ≡ forms_made q (take i forms) (around (get_or forms i d) inner) here
form-made p q forms i d made here inner within is =
    ap (λ (l : List Wrap). forms_made p l made here) (take_at_read forms i d within).1 ∙ innermost p (take i forms) (get_or forms i d) made here
    ∙ ap (λ (m : Type_ × Draft). forms_made m.1 (take i forms) (around (get_or forms i d) m.0) here) is
