-- What comes of a source that is pushed, by what its parse answers, and what doesn't.
use Rattle.std.specs.Prelude.{◌≡◌, ◌⊎◌, ℕ, List, [], Some, None, Result, Ok, Err, codes, length, ⊤}
use Rattle.std.specs.Fn.{Once}
use Rattle.wit_sources.specs.SourceMap.{Sources, with_sources}
use Rattle.wit_sources.specs.Span.{OptionalSpan}
use Rattle.wit_data.specs.declared.unresolved.UnresolvedPackageGroup.{UnresolvedPackageGroup}
use Rattle.wit_graph_data.specs.examples.Samples.{foo_bar}
use Rattle.wit_graph_data.specs.declared.error_kind.ResolveErrorKind.TheVariants.{DuplicatePackage, OffsetOverflow, OutOfMemory}
use Rattle.wit_graph_data.specs.declared.graph.Graph.{Graph}
use Rattle.wit_resolve_graph.specs.examples.Examples.{first_package}
use Rattle.wit_resolve_graph.specs.examples.FilesExamples.{ending}
use Rattle.wit_resolve_graph.specs.Sources.{IsNoSource, PushesAnswer, PushesSource, RefusesAnswer, RefusesParse, RefusesSource, only_file}
use Rattle.wit_resolve_graph.specs.examples.SourcesExamples.{bad_at, full, once, source, twice}
use Rattle.wit_resolve_graph.specs.State.{State}
use Rattle.wit_resolve_graph.specs.declared.sources.ParseFault.{ParseFault}
use Rattle.wit_resolve_graph.specs.declared.sources.ParseFault.TheVariants as parse
use Rattle.wit_resolve_graph.specs.declared.sources.SourceFault.{SourceFault}
use Rattle.wit_resolve_graph.specs.declared.sources.SourceFault.TheVariants as fault
use Rattle.examples_resolve.specs.script.SmallGraphs.{nothing, one}

-- ---- before a parse

pub record ExamplesOfNoSources : Type 0 where
  -- a file of 4294967295 bytes passes the last position, one of a byte less doesn't
  pub too_long : (contents : List ℕ) → length contents ≡ 4294967295
      → IsNoSource contents (fault.Resolve OffsetOverflow)
  pub just_fits : (contents : List ℕ) → length contents ≡ 4294967294
      → IsNoSource contents (fault.Resolve OffsetOverflow) → ⊥
  -- memory may be wanted for any
  pub memory : (contents : List ℕ) → IsNoSource contents (fault.Resolve OutOfMemory)
  -- nothing else is told before a parse
  pub not_read : (contents : List ℕ) (span : OptionalSpan) (message : List ℕ)
      → IsNoSource contents (fault.Parse span message) → ⊥
  pub not_there : (contents : List ℕ)
      → IsNoSource contents (fault.Resolve (DuplicatePackage foo_bar None None)) → ⊥

-- ---- what comes of an answer

-- a parse that can't read the second word of the file of 24 bytes
abbrev pub bad : ParseFault
bad = parse.Text source (Some (13, 18)) (codes "bad")

-- foo:bar without anything, made of these files
abbrev pub made_of : Sources → UnresolvedPackageGroup
made_of files = record { main = first_package; nested = []; source_map = files }

-- a file of 17 bytes
abbrev pub text : List ℕ
text = codes "package foo:bar;\n"

abbrev pub file : Sources
file = only_file (codes "f.wit") text

-- the state with one file and this graph, and the same with that file at the end
abbrev pub before : Graph → State
before g = record once { graph = g }

abbrev pub behind : Graph → State
behind g = record (before g) { source_map = with_sources once.source_map file }

-- 5, of foo:bar
abbrev pub is_there : SourceFault
is_there = fault.Resolve (DuplicatePackage foo_bar None None)

pub record ExamplesOfParsed : Type 0 where
  -- a parse that wants memory: 28, and all is as it was
  pub memory : RefusesParse once (Err parse.OutOfMemory) (fault.Resolve OutOfMemory) once
  pub memory_not_added : RefusesParse once (Err parse.OutOfMemory) (fault.Resolve OutOfMemory) twice
      → ⊥
  pub memory_alone : (told : SourceFault) (new : State)
      → RefusesParse once (Err parse.OutOfMemory) told new → told ≡ fault.Resolve OutOfMemory
  -- a text that can't be read is told at its place, with its file at the end
  pub placed : RefusesParse once (Err bad) (bad_at 38 43) twice
  pub not_left_out : RefusesParse once (Err bad) (bad_at 38 43) once → ⊥
  pub not_moved : RefusesParse once (Err bad) (bad_at 13 18) twice → ⊥
  -- or for want of memory or of room as that, without its file
  pub no_memory : RefusesParse once (Err bad) (fault.Resolve OutOfMemory) once
  pub no_memory_not_added : RefusesParse once (Err bad) (fault.Resolve OutOfMemory) twice → ⊥
  pub no_room : RefusesParse full (Err bad) (fault.Resolve OffsetOverflow) full
  -- a package that is there: 5, with its file at the end; not without it, and not where it isn't there
  pub there : RefusesAnswer (before (one foo_bar)) (made_of file) is_there (behind (one foo_bar))
  pub there_told : RefusesParse (before (one foo_bar)) (Ok (made_of file)) is_there
      (behind (one foo_bar))
  pub there_not_left_out : RefusesAnswer (before (one foo_bar)) (made_of file) is_there
      (before (one foo_bar)) → ⊥
  pub not_there : (new : State) → RefusesAnswer once (made_of file) is_there new → ⊥
  -- its file past the end: 27, and all is as it was; a byte before it fits, and nothing but memory is told
  pub too_far : RefusesAnswer (ending 4294967278) (made_of file) (fault.Resolve OffsetOverflow)
      (ending 4294967278)
  pub just_fits : (told : SourceFault) (new : State)
      → RefusesAnswer (ending 4294967277) (made_of file) told new → told ≡ fault.Resolve OutOfMemory
  -- else it is added, with its file at the end
  pub pushed : PushesAnswer once (made_of file) 0 (behind (one foo_bar))
  -- not: another id, the graph as it was, its file left out, its file alone, a package that is there once more
  pub not_its_id : (new : State) → PushesAnswer once (made_of file) 1 new → ⊥
  pub not_as_it_was : PushesAnswer once (made_of file) 0 (behind nothing) → ⊥
  pub file_not_left_out : PushesAnswer once (made_of file) 0 (before (one foo_bar)) → ⊥
  pub file_not_alone : PushesAnswer once (made_of file) 0
      (record (before (one foo_bar)) { source_map = file }) → ⊥
  pub not_again : (id : ℕ) (new : State) → PushesAnswer (before (one foo_bar)) (made_of file) id new
      → ⊥

-- ---- with the parse

-- a parse that computes its answer, as contracts see it
abbrev pub Parse : Type 0
Parse = Sources → Result UnresolvedPackageGroup ParseFault

abbrev pub computing : Once Parse (Sources × Unit {0}) (Result UnresolvedPackageGroup ParseFault)
computing = record { pre = λ f given. ⊤; post = λ f given answer. answer ≡ f given.0 }

-- it makes foo:bar of what it is given, can't read it from its first byte to its seventh, or wants memory
abbrev pub making : Parse
making files = Ok (made_of files)

abbrev pub failing : Parse
failing files = Err (parse.Text files (Some (0, 7)) (codes "bad"))

abbrev pub wanting : Parse
wanting files = Err parse.OutOfMemory

-- and one that makes it or can't read it, as it happens
abbrev pub either : Once ⊤ (Sources × Unit {0}) (Result UnresolvedPackageGroup ParseFault)
either =
    record {
      pre = λ f given. ⊤;
      post = λ f given answer. (answer ≡ making given.0) ⊎ (answer ≡ failing given.0);
    }

-- file f.wit of this text is pushed, with this parse, behind another file
abbrev pub Pushes : Parse → Graph → ℕ → State → Type 0
Pushes f g id new = PushesSource computing f (before g) (codes "f.wit") text id new

abbrev pub Refuses : Parse → Graph → SourceFault → State → Type 0
Refuses f g told new = RefusesSource computing f (before g) (codes "f.wit") text told new

pub record ExamplesOfPushedSources : Type 0 where
  -- the package is added, and its file stands behind the other
  pub pushed : Pushes making nothing 0 (behind (one foo_bar))
  -- so where the parse may answer otherwise, too
  pub may_push : PushesSource either tt (before nothing) (codes "f.wit") text 0
      (behind (one foo_bar))
  -- not: its file left out, another parse than the incoming one, a file that is too long for any
  pub not_left_out : Pushes making nothing 0 (before (one foo_bar)) → ⊥
  pub not_failing : (id : ℕ) (new : State) → Pushes failing nothing id new → ⊥
  pub not_wanting : (id : ℕ) (new : State) → Pushes wanting nothing id new → ⊥
  pub not_too_long : (f : Parse) (contents : List ℕ) (id : ℕ) (new : State)
      → length contents ≡ 4294967295 → PushesSource computing f once (codes "f.wit") contents id new
      → ⊥

pub record ExamplesOfRefusedSources : Type 0 where
  -- a file that is too long is 27, whatever the parse would say of it, and all is as it was
  pub too_long : (f : Parse) (contents : List ℕ) → length contents ≡ 4294967295
      → RefusesSource computing f once (codes "f.wit") contents (fault.Resolve OffsetOverflow) once
  -- not of a file that fits, where its parse wants memory
  pub not_too_long : (new : State) → Refuses wanting nothing (fault.Resolve OffsetOverflow) new → ⊥
  -- a parse that wants memory: 28, without the file
  pub memory : Refuses wanting nothing (fault.Resolve OutOfMemory) (before nothing)
  pub memory_not_added : Refuses wanting nothing (fault.Resolve OutOfMemory) (behind nothing) → ⊥
  -- one that can't read it is told where its file stands then
  pub failed : Refuses failing nothing (bad_at 25 32) (behind nothing)
  pub may_fail : RefusesSource either tt (before nothing) (codes "f.wit") text (bad_at 25 32)
      (behind nothing)
  pub not_left_out : Refuses failing nothing (bad_at 25 32) (before nothing) → ⊥
  pub not_moved : Refuses failing nothing (bad_at 0 7) (behind nothing) → ⊥
  -- nor is that told of one that makes a package
  pub not_failed : (new : State) → Refuses making nothing (bad_at 25 32) new → ⊥
  -- the package that it makes is there
  pub there : Refuses making (one foo_bar) is_there (behind (one foo_bar))
  -- where it isn't, nothing but want of memory is told
  pub memory_alone : (told : SourceFault) (new : State) → Refuses making nothing told new
      → told ≡ fault.Resolve OutOfMemory
