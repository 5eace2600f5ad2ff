use Rattle.std.proofs.Common.{rules}
use Rattle.wit_link.proofs.caches.CachesMark.cut.Goals as goal

pub returns-clause-cut : goal.returns-clause-cut
returns-clause-cut c = search rules

pub returns-clause-back : goal.returns-clause-back
returns-clause-back c = search rules
