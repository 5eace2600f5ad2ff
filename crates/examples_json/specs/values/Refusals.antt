-- Refusals.
use Rattle.std.specs.Prelude.{◌≡◌, ◌≢◌, ℕ, List, ◌++◌, Some, None, codes}
use Rattle.wit_graph_data.specs.declared.cause.Cause.TheVariants as cause
use Rattle.wit_graph_data.specs.declared.error_kind.ResolveErrorKind.{ResolveErrorKind}
use Rattle.wit_graph_data.specs.declared.error_kind.ResolveErrorKind.TheVariants as kind
use Rattle.wit_json.specs.Graph.{compact}
use Rattle.wit_json.specs.Refusals.{json_of_refusal}
use Rattle.examples_json.specs.values.Gates.{release}
use Rattle.examples_json.specs.values.Graphs.{foo_bar}

abbrev pub refusal_text : ResolveErrorKind → List ℕ
refusal_text refusal = compact (json_of_refusal refusal)

-- of world w of foo:bar, which isn't there
abbrev pub no_world : ResolveErrorKind
no_world = kind.WorldNotFound (Some (3, 4)) (codes "w") (foo_bar None)

-- a cause that is told by a message
abbrev pub a_cycle : ResolveErrorKind
a_cycle = kind.Semantic (Some (5, 9)) (codes "type `t` depends on itself") cause.TypeCycle

pub record ExamplesOfRefusals : Type 0 where
  pub world : refusal_text no_world
      ≡ codes "{\"number\":2,\"cause\":\"world-not-found\","
      ++ codes "\"text\":\"world 'w' not found in package 'foo:bar'\",\"span\":[3,4]}"
  pub not_next : refusal_text no_world
      ≢ codes "{\"number\":3,\"cause\":\"world-not-found\","
      ++ codes "\"text\":\"world 'w' not found in package 'foo:bar'\",\"span\":[3,4]}"
  pub no_other_cause : refusal_text no_world
      ≢ codes "{\"number\":2,\"cause\":\"interface-not-found\","
      ++ codes "\"text\":\"world 'w' not found in package 'foo:bar'\",\"span\":[3,4]}"
  pub not_without_span : refusal_text no_world
      ≢ codes "{\"number\":2,\"cause\":\"world-not-found\","
      ++ codes "\"text\":\"world 'w' not found in package 'foo:bar'\"}"
  -- the message of a cause is its text
  pub cycle : refusal_text a_cycle
      ≡ codes "{\"number\":23,\"cause\":\"type-cycle\","
      ++ codes "\"text\":\"type `t` depends on itself\",\"span\":[5,9]}"
  pub not_semantic : refusal_text a_cycle
      ≢ codes "{\"number\":23,\"cause\":\"semantic\","
      ++ codes "\"text\":\"type `t` depends on itself\",\"span\":[5,9]}"
  -- of two spans the first is told
  pub twice : refusal_text
      (kind.DuplicatePackage (foo_bar (Some (release 1 0 0))) (Some (1, 2)) (Some (7, 8)))
      ≡ codes "{\"number\":5,\"cause\":\"duplicate-package\","
      ++ codes "\"text\":\"package `foo:bar@1.0.0` is defined in two different locations\","
      ++ codes "\"span\":[1,2]}"
  -- a span that is unknown is left out
  pub memory : refusal_text kind.OutOfMemory
      ≡ codes "{\"number\":28,\"cause\":\"out-of-memory\",\"text\":\"out of memory\"}"
  pub not_null : refusal_text kind.OutOfMemory
      ≢ codes "{\"number\":28,\"cause\":\"out-of-memory\",\"text\":\"out of memory\",\"span\":null}"
