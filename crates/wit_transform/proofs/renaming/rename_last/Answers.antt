use Rattle.std.proofs.Common.{◌≡◌, ◌∙◌, ℕ, true, false, List, [], ◌∷◌, ◌++◌, None, sym, ap, subst}
use Rattle.std.specs.Prelude.{bytes_eq}
use Rattle.std.specs.Map.{lookup, remove_entry}
use Rattle.std.proofs.lemmas.Slice.Eq.{bytes_eq-Decides}
use Rattle.wit_transform.proofs.TableSteps.{name_is_new, put_under_new, put_under_old}
use Rattle.wit_transform.proofs.renaming.rename_last.Goals as goal

pub returns-then-eq-clause-ok : goal.returns-then-eq-clause-ok
returns-then-eq-clause-ok c =
    let same : c.args.name.now ≡ c.args.old_name.now = (bytes_eq-Decides c.args.name.now c.args.old_name.now).0 (sym c.eq.ensures ∙ c.if-eq.true) in
    ap (λ (table : List (List ℕ × ℕ)). record c.args.home.now { worlds = table })
    (c.move_last.ensures ∙ put_under_old c.args.world c.args.old_name.now c.args.home.now.worlds c.keys_differ.ensures.test c.keys_differ.ensures.keys c.requires.listed c.requires.once c.args.name.now same)

pub push-requires : goal.push-requires
push-requires c =
    let changes : c.args.name.now ≡ c.args.old_name.now → ⊥ = λ same.
    let equal : bytes_eq c.args.name.now c.args.old_name.now ≡ true = (bytes_eq-Decides c.args.name.now c.args.old_name.now).1 same in
    let other : bytes_eq c.args.name.now c.args.old_name.now ≡ false = sym c.eq.ensures ∙ c.if-eq.false in
    cc in
    subst (λ (name : List ℕ). lookup (bytes_eq name) c.args.home.now.worlds ≡ None) (sym c.in_ok-from_str.ensures.ok)
    (name_is_new c.args.world c.args.old_name.now c.args.home.now.worlds c.keys_differ.ensures.test c.keys_differ.ensures.keys c.requires.listed c.requires.once c.args.name.now changes c.requires.free)

pub returns-clause-ok : goal.returns-clause-ok
returns-clause-ok c =
    ap (λ (table : List (List ℕ × ℕ)). record c.args.home.now { worlds = table })
    (c.shift_remove.ensures.others
    ∙ ap (remove_entry (bytes_eq c.args.old_name.now)) (c.in_ok-push.ensures.ok ∙ ap (λ (name : List ℕ). c.args.home.now.worlds ++ (name, c.args.world) ∷ []) c.in_ok-from_str.ensures.ok)
    ∙ put_under_new c.args.world c.args.old_name.now c.args.home.now.worlds c.keys_differ.ensures.test c.keys_differ.ensures.keys c.requires.listed c.requires.once c.args.name.now)
