-- Rows of aliases are among those of references, so they are acyclic with them.
use Rattle.std.proofs.Common.{ℕ, List, option_to_list, Contains}
use Rattle.wit_digraph.specs.facts.MemberFacts.{Contains-nil}
use Rattle.wit_digraph.specs.Relation.{IsAcyclic}
use Rattle.wit_data.specs.Kind.{referred, type_references}
use Rattle.wit_data.specs.Uses.{alias_target, alias_rows}
use Rattle.wit_data.specs.declared.types.TypeDef.{TypeDef}
use Rattle.wit_data.specs.declared.types.TypeDefKind.{TypeDefKind}
use Rattle.wit_data.specs.declared.types.TypeDefKind.TheVariants as kind
use Rattle.wit_data.specs.declared.types.Type_.TheVariants as type
use Rattle.wit_graph_data.specs.facts.ContentFacts.{rows_acyclic}

alias_among : (k : TypeDefKind) (t : ℕ) → Contains (option_to_list (alias_target k)) t → Contains (referred k) t
alias_among (kind.Type_ (type.Id u)) t has = has
alias_among other t has = absurd (Contains-nil has)

pub alias_acyclic : (types : List TypeDef) → IsAcyclic (type_references types) → IsAcyclic (alias_rows types)
alias_acyclic types acyclic = rows_acyclic (λ k. option_to_list (alias_target k)) alias_among types acyclic
