use Rattle.std.proofs.Common.{◌≡◌, ◌∙◌, ◌<◌, ℕ, Bool, List, All, length, map, nat_eq, ap, sym, subst}
use Rattle.std.specs.List.{list_any, range_with_len}
use Rattle.std.proofs.lemmas.Result.{IfOk-weaker}
use Rattle.wit_link_resources.specs.steps.Active.{seen}
use Rattle.wit_link_resources.specs.steps.IncomingTypes.{positions_of}
use Rattle.wit_link_resources.proofs.asked.asked.Goals as goal

pub marked-requires : goal.marked-requires
marked-requires c =
    subst (λ (ids : List ℕ). All (λ id. id < c.len.result) ids) (sym (c.as_slice.ensures ∙ c.in_ok-ids.ensures))
    (subst (λ (n : ℕ). All (λ id. id < n) (positions_of c.args.incoming.now (seen c.args.functions.now))) (sym c.len.ensures) c.requires)

pub returns : goal.returns
returns c =
    IfOk-weaker c.marked.result (λ (marks : List Bool). marks ≡ map (λ (t : ℕ). list_any (nat_eq t) c.as_slice.result.now) (range_with_len 0 c.len.result))
    (λ (marks : List Bool). marks ≡ map (λ (t : ℕ). list_any (nat_eq t) (positions_of c.args.incoming.now (seen c.args.functions.now))) (range_with_len 0 (length c.args.incoming.now.types.now)))
    (λ marks is. is ∙ (ap (λ (ids : List ℕ). map (λ (t : ℕ). list_any (nat_eq t) ids) (range_with_len 0 c.len.result)) (c.as_slice.ensures ∙ c.in_ok-ids.ensures)
    ∙ ap (λ (n : ℕ). map (λ (t : ℕ). list_any (nat_eq t) (positions_of c.args.incoming.now (seen c.args.functions.now))) (range_with_len 0 n)) c.len.ensures)) c.marked.ensures
