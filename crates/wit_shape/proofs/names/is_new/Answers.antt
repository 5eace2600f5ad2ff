use Rattle.std.proofs.Common.{◌≡◌, ◌∙◌, ℕ, List, true, false, refl, sym}
use Rattle.std.specs.Prelude.{bytes_eq}
use Rattle.std.specs.Cmp.Lexicographic.{nat_list_eq_equiv}
use Rattle.std.specs.List.{list_any}
use Rattle.std.proofs.lemmas.Map.Views.{Contains-from_any, list_any-from_Contains}
use Rattle.std.proofs.lemmas.Slice.Eq.{bytes_eq-Decides}
use Rattle.wit_shape.proofs.names.is_new.Goals as goal

same : (xs ys : List ℕ) → bytes_eq xs ys ≡ true → xs ≡ ys
same xs ys equal = (bytes_eq-Decides xs ys).0 equal

pub returns-then-contains-clause-new : goal.returns-then-contains-clause-new
returns-then-contains-clause-new c =
    let found : list_any (bytes_eq c.args.name.now) c.args.met.now ≡ true = sym c.contains.ensures ∙ c.if-contains.true in
    (λ h. cc, λ none. absurd (none (Contains-from_any same c.args.name.now c.args.met.now found)))

pub returns-clause-new : goal.returns-clause-new
returns-clause-new c =
    let none : list_any (bytes_eq c.args.name.now) c.args.met.now ≡ false = sym c.contains.ensures ∙ c.if-contains.false in
    (λ h. λ has. let found = list_any-from_Contains nat_list_eq_equiv c.args.name.now c.args.met.now has in cc, λ h. refl)
