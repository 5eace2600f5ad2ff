use Rattle.witgraph_calls.proofs.Stands.{news_complete}
use Rattle.witgraph_calls.proofs.laws.news_complete_what_was_told.Goals as goal

pub returns : goal.returns
returns c = news_complete
