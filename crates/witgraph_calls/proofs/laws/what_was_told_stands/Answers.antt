use Rattle.std.proofs.Common.{◌≡◌, ◌∙◌, ap, subst, sym}
use Rattle.wit_json.specs.declared.news.Told.{Told}
use Rattle.wit_json_commands.specs.declared.commands.orders.Document.{Document}
use Rattle.witgraph_calls.proofs.Stands.{all_stands, nothing_stands, orders_stand, start_stands}
use Rattle.witgraph_calls.specs.Graphs.{start_for}
use Rattle.witgraph_calls.specs.News.{Stands, told_after, told_before}
use Rattle.witgraph_calls.proofs.laws.what_was_told_stands.Goals as goal

pub returns-clause-all : goal.returns-clause-all
returns-clause-all c = all_stands

pub returns-clause-nothing : goal.returns-clause-nothing
returns-clause-nothing c = nothing_stands

pub returns-clause-after : goal.returns-clause-after
returns-clause-after c told left first old new input text made leaves stands =
    let same : leaves.document ≡ made.document = cc in
    let are : left ≡ told_after made.document told = leaves.left ∙ ap (λ (document : Document). told_after document told) same in
    subst (λ (it : Told). Stands it first new) (sym are)
    (orders_stand (told_before made.document.resolve told) first (start_for old made.document.resolve) new made.document.commands made.replied.replies made.replied.responds
    (start_stands told first old made.document.resolve stands))
