use Rattle.std.proofs.Common.{◌≡◌, ◌∙◌, ◌∷◌, [], ℕ, zero, suc, List, Ok, Err, Result, IfErr, Some, slice_get, sym, ap, subst}
use Rattle.std.specs.Map.{values_of}
use Rattle.indexmap.proofs.MapLemmas.{OnOk-map}
use Rattle.indexmap.specs.Layout.{set_value_at}
use Rattle.wit_data.specs.declared.world.WorldItem.{WorldItem}
use Rattle.wit_remap_spec.specs.Joined.{joined_item}
use Rattle.wit_link_include.specs.steps.Included.{IsItemError, ItemsAgree}
use Rattle.wit_link_include.proofs.joining.join_at.Goals as goal

if_err : {T E : Type 0} {P Q : E → Type 0} (r : Result T E) → IfErr r P → ((e : E) → P e → Q e) → IfErr r Q
if_err (Ok v) p gives = tt
if_err (Err e) p gives = gives e p

-- what is lent of a table at an index is the value there
lent_is : {K V : Type 0} (es : List (K × V)) (i : ℕ) (k : K) (into held : V) → slice_get (values_of es) i ≡ Some held → slice_get es i ≡ Some (k, into) → held ≡ into
lent_is [] zero k into held lent at = cc
lent_is [] (suc i) k into held lent at = cc
lent_is (e ∷ es) zero k into held lent at = let value : e.1 ≡ held = cc in let pair : e ≡ (k, into) = cc in sym value ∙ ap (λ p. p.1) pair
lent_is (e ∷ es) (suc i) k into held lent at = lent_is es i k into held lent at

pub returns-clause-ok : goal.returns-clause-ok
returns-clause-ok c =
    OnOk-map c.join_item.result _ _ (λ joined k into at. ap (λ (v : WorldItem). set_value_at c.args.entries.now c.args.index v)
    (joined ∙ ap (joined_item c.args.other c.args.item) (lent_is c.args.entries.now c.args.index k into c.value_at_mut.result.now c.value_at_mut.ensures.value at))) c.join_item.ensures.ok

pub returns-clause-fine : goal.returns-clause-fine
returns-clause-fine c =
    OnOk-map c.join_item.result _ _ (λ fine k into at. subst (ItemsAgree c.args.other c.args.item) (lent_is c.args.entries.now c.args.index k into c.value_at_mut.result.now c.value_at_mut.ensures.value at) fine)
    c.join_item.ensures.fine

pub returns-clause-cause : goal.returns-clause-cause
returns-clause-cause c =
    if_err c.join_item.result c.join_item.ensures.cause
    (λ e cause k into at. subst (λ (v : WorldItem). IsItemError c.args.other c.args.span c.args.item v e) (lent_is c.args.entries.now c.args.index k into c.value_at_mut.result.now c.value_at_mut.ensures.value at) cause)
