-- What an error ends as, once a `&mut` to its kind has ended.
use Rattle.std.specs.Borrow.{Lends, Fml, MutBor}
use Rattle.wit_graph_data.specs.declared.error_kind.ResolveErrorKind.{ResolveErrorKind}
use Rattle.wit_graph_data.specs.contracts.error.ResolveError as error
use Rattle.wit_graph_data.specs.contracts.error_kind.ResolveErrorKind as kind

-- the error has the last kind written through r
abbrev pub LendsKind : MutBor ResolveErrorKind → MutBor ResolveErrorKind → Fml
LendsKind e r = Lends error.the_row kind.the_row e r (λ last. last)
