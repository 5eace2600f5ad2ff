use Rattle.std.proofs.Common.{◌≡◌, ◌∙◌, ℕ, Some, List, ap, length, slice_get, sym}
use Rattle.wit_data.specs.declared.interface.Interface.{Interface}
use Rattle.wit_data.specs.declared.world.World.{World}
use Rattle.wit_link_spec.specs.Include.{belongs_to}
use Rattle.wit_link_include.specs.steps.Included.{numbered, places}
use Rattle.wit_link_include.proofs.Standing.{goes_there}
use Rattle.wit_link_include.proofs.Steps.{if_ok}
use Rattle.wit_link_include.proofs.SelectedIndices.{are_places}
use Rattle.wit_link_include.proofs.fresh_copies.list_belonging.Goals as goal

pub returns-clause-table : goal.returns-clause-table
returns-clause-table c = λ world at.
    let g = c.args.graph.now in
    let both : Some c.at.result.now ≡ Some world = sym (ap (slice_get g.worlds) (sym c.index.ensures) ∙ c.at.ensures) ∙ at in
    let same : c.at.result.now ≡ world = cc in
    let ids : c.in_ok-ids.ids ≡ places (belongs_to g world) g.interfaces =
    are_places (belongs_to g world) g.interfaces (goes_there g world) c.in_ok-ids.ids c.in_ok-ids.ensures.rising
    (λ i. c.in_ok-ids.ensures.members i ∙ ap (λ (w : World). belongs_to g w i) same) in
    let first : c.len-2.result ≡ length g.interfaces = c.len-2.ensures ∙ ap (λ (xs : List Interface). length xs) c.in_ok-reserve.ensures.same in
    if_ok (λ (table : List (ℕ × ℕ)). table ≡ numbered c.len-2.result c.as_slice.result.now) (λ (table : List (ℕ × ℕ)). table ≡ numbered (length g.interfaces) (places (belongs_to g world) g.interfaces))
    (λ table is. is ∙ (ap (λ (n : ℕ). numbered n c.as_slice.result.now) first ∙ ap (numbered (length g.interfaces)) (c.as_slice.ensures ∙ ids)))
    c.numbered.result c.numbered.ensures
