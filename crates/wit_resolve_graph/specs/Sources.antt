-- Sources that are parsed and pushed in one call, what comes of them, and how their faults are told.
-- Source: `push_source` and `render_error` of wit-parser 0.263.0; that a parse comes in, and what is
-- refused by position, are rules of this project.
use Rattle.std.specs.Prelude.{◌≡◌, ◌⊎◌, ◌<◌, ◌≤◌, ◌+◌, ◌^◌, ℕ, List, [], ◌∷◌, Option, Result, Ok, Err}
use Rattle.std.specs.Fn.{Once}
use Rattle.wit_sources.specs.SourceMap.{Sources, end_after, with_file, with_sources}
use Rattle.wit_sources.specs.Span.{end_of, moved_by}
use Rattle.wit_sources.specs.declared.source_map.SourceFile.{SourceFile}
use Rattle.wit_data.specs.declared.unresolved.UnresolvedPackageGroup.{UnresolvedPackageGroup}
use Rattle.wit_graph_data.specs.Error.{NoCause}
use Rattle.wit_graph_data.specs.ErrorText.{rendered_text, text_at}
use Rattle.wit_graph_data.specs.declared.error_kind.ResolveErrorKind.{ResolveErrorKind}
use Rattle.wit_graph_data.specs.declared.error_kind.ResolveErrorKind.TheVariants.{OffsetOverflow, OutOfMemory}
use Rattle.wit_link.specs.Appending.{IsGroupsCause}
use Rattle.wit_resolve_graph.specs.State.{State}
use Rattle.wit_resolve_graph.specs.Step.{PushesGroups, RefusesGroups}
use Rattle.wit_resolve_graph.specs.declared.sources.ParseFault.{ParseFault}
use Rattle.wit_resolve_graph.specs.declared.sources.ParseFault.TheVariants as parse
use Rattle.wit_resolve_graph.specs.declared.sources.SourceFault.{SourceFault}
use Rattle.wit_resolve_graph.specs.declared.sources.SourceFault.TheVariants as fault

-- the sources that a parse is given: the one file
abbrev pub only_file : List ℕ → List ℕ → Sources
only_file path contents = with_file (record { files = []; end = 0 }) path contents

-- a fault as it is told: at its place, or as the error that it is
abbrev pub fault_rendered : List SourceFile → SourceFault → List ℕ
fault_rendered files (fault.Parse span message) = text_at files span message
fault_rendered files (fault.Resolve kind) = rendered_text files kind

-- ---- a text that can't be read

-- its files, or its place in them, would go past the last position where they follow what is there
abbrev pub FaultOverflows : State → Sources → Option (ℕ × ℕ) → Type 0
FaultOverflows old files span =
    (2 ^ 32 ≤ old.source_map.end + files.end) ⊎ (2 ^ 32 ≤ end_of span + old.source_map.end)

-- its files follow what is there, and its place is moved with them
pub record IsPlaced (old : State) (files : Sources) (span : Option (ℕ × ℕ)) (message : List ℕ)
    (told : SourceFault) (new : State) : Type 0 where
  pub told_is : told ≡ fault.Parse (moved_by old.source_map.end span) message
  pub placed : new ≡ record old { source_map = with_sources old.source_map files }
  pub fits : FaultOverflows old files span → ⊥

-- there is no room for its files (27, and 28 for memory), and nothing has changed
pub record IsNotPlaced (old : State) (files : Sources) (span : Option (ℕ × ℕ)) (told : SourceFault)
    (new : State) : Type 0 where
  pub cause : (told ≡ fault.Resolve OutOfMemory)
      ⊎ ((told ≡ fault.Resolve OffsetOverflow) × FaultOverflows old files span)
  pub same : new ≡ old

-- ---- what comes of what a parse answered

-- a group is added
pub record PushesAnswer (old : State) (group : UnresolvedPackageGroup) (id : ℕ) (new : State) : Type
    0 where
  pub pushes : PushesGroups old group [] id new
  pub accepted : NoCause (IsGroupsCause old.features old.graph old.source_map.end (group ∷ []))

-- a group is refused
pub record RefusesAnswer (old : State) (group : UnresolvedPackageGroup) (told : SourceFault)
    (new : State) : Type 0 where
  pub kind : ResolveErrorKind
  pub told_is : told ≡ fault.Resolve kind
  pub refuses : RefusesGroups old group [] kind new

-- what is told of an answer, where no package comes of it
abbrev pub RefusesParse : State → Result UnresolvedPackageGroup ParseFault → SourceFault → State
    → Type 0
RefusesParse old (Ok group) told new = RefusesAnswer old group told new
RefusesParse old (Err (parse.Text files span message)) told new =
    IsPlaced old files span message told new ⊎ IsNotPlaced old files span told new
RefusesParse old (Err parse.OutOfMemory) told new = (told ≡ fault.Resolve OutOfMemory) × (new ≡ old)

-- there is no source for the parse: it would go past the last position (27), or memory is wanted (28)
abbrev pub IsNoSource : List ℕ → SourceFault → Type 0
IsNoSource contents told =
    (told ≡ fault.Resolve OutOfMemory)
    ⊎ ((told ≡ fault.Resolve OffsetOverflow) × (2 ^ 32 ≤ end_after 0 contents))

module _ {F : Type 0} (calls : Once F (Sources × Unit {0}) (Result UnresolvedPackageGroup ParseFault)) (f : F) where
  -- a parse may answer this of a file
  abbrev pub MayParse : List ℕ → List ℕ → Result UnresolvedPackageGroup ParseFault → Type 0
  MayParse path contents answer = calls.post f (only_file path contents, tt) answer

  -- a parse gave a group of the file, which is added
  pub record PushesSource (old : State) (path contents : List ℕ) (id : ℕ) (new : State) : Type 0
    where
      pub group : UnresolvedPackageGroup
      pub fits : end_after 0 contents < 2 ^ 32
      pub given : MayParse path contents (Ok group)
      pub pushes : PushesAnswer old group id new

  -- a parse gave an answer of the file of which no package comes
  pub record RefusesParsed (old : State) (path contents : List ℕ) (told : SourceFault)
      (new : State) : Type 0 where
    pub answer : Result UnresolvedPackageGroup ParseFault
    pub given : MayParse path contents answer
    pub tells : RefusesParse old answer told new

  -- a source is refused, before the parse or after it
  abbrev pub RefusesSource : State → List ℕ → List ℕ → SourceFault → State → Type 0
  RefusesSource old path contents told new =
      (IsNoSource contents told × (new ≡ old)) ⊎ RefusesParsed old path contents told new
