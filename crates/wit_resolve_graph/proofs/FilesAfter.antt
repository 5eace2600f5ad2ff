-- Where files are after a refusal.
use Rattle.std.proofs.Common.{◌≡◌, ◌⊎◌, inl, inr, refl}
use Rattle.wit_sources.specs.SourceMap.{Sources}
use Rattle.wit_graph_data.specs.declared.error_kind.ResolveErrorKind.{ResolveErrorKind}
use Rattle.wit_graph_data.specs.declared.error_kind.ResolveErrorKind.TheVariants.{OffsetOverflow, OutOfMemory}
use Rattle.wit_resolve_graph.specs.Merging.{HasSourcesAfter}

-- they are at the end after a refusal that is not for a position
pub files_after : (error : ResolveErrorKind) (old added new : Sources) → (error ≡ OffsetOverflow → ⊥) → new ≡ added → HasSourcesAfter error old added new
files_after OffsetOverflow old added new other files = absurd (other refl)
files_after OutOfMemory old added new other files = inr files
files_after _ old added new other files = files

-- nothing has changed after a refusal for a position or for memory
pub files_stay : (error : ResolveErrorKind) (old added new : Sources) → (error ≡ OutOfMemory) ⊎ (error ≡ OffsetOverflow) → new ≡ old → HasSourcesAfter error old added new
files_stay OffsetOverflow old added new other files = files
files_stay OutOfMemory old added new other files = inl files
files_stay _ old added new (inl memory) files = cc
files_stay _ old added new (inr far) files = cc
