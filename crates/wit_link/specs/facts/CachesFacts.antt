-- Caches of a graph that stay, that grow, and that are cut back.
use Rattle.std.proofs.Common.{◌≡◌, ℕ, Bool, List, length, take, refl, subst, sym}
use Rattle.wit_graph_data.specs.declared.graph.Graph.{Graph}
use Rattle.wit_link.specs.Caches.{AreCachesOf, HaveGrown}
use Rattle.wit_link.specs.declared.caches.GraphCaches.{GraphCaches}
use Rattle.wit_link_resources.specs.facts.MetTypes.{begins_same, begins_then}
use Rattle.wit_link.specs.steps.CachesMarks.{caches_cut_at, caches_mark_of}
use Rattle.wit_link_resources.specs.steps.Leading.{AreRight}

-- caches of a graph are those of a graph that is the same
pub caches_of_same : (g new : Graph) (caches : GraphCaches) → new ≡ g → AreCachesOf g caches → AreCachesOf new caches
caches_of_same g new caches same of = subst (λ (h : Graph). AreCachesOf h caches) (sym same) of

-- and where more types were met, they still are
pub caches_with_met : (g : Graph) (caches : GraphCaches) (met : List (ℕ × Bool)) → AreCachesOf g caches → AreRight g.types met → AreCachesOf g (record caches { met = met })
caches_with_met g caches met of right = record { uses = of.uses; met = right }

pub grown_same : (caches : GraphCaches) → HaveGrown caches caches
grown_same caches = record { rows = begins_same caches.elaborator; met = begins_same caches.met }

-- caches that are the same have grown by nothing
pub grown_as : (old new : GraphCaches) → new ≡ old → HaveGrown old new
grown_as old new same = subst (HaveGrown old) (sym same) (grown_same old)

-- caches in which only the types grew that were met, or only the rows
pub grown_by_met : (caches : GraphCaches) (met : List (ℕ × Bool)) → take (length caches.met) met ≡ caches.met → HaveGrown caches (record caches { met = met })
grown_by_met caches met begins = record { rows = begins_same caches.elaborator; met = begins }

pub grown_by_rows : (caches : GraphCaches) (rows : List (List ℕ)) → take (length caches.elaborator) rows ≡ caches.elaborator → HaveGrown caches (record caches { elaborator = rows })
grown_by_rows caches rows begins = record { rows = begins; met = begins_same caches.met }

pub grown_then : (old mid new : GraphCaches) → HaveGrown old mid → HaveGrown mid new → HaveGrown old new
grown_then old mid new h k = record {
  rows = begins_then old.elaborator mid.elaborator new.elaborator h.rows k.rows;
  met = begins_then old.met mid.met new.met h.met k.met;
}

-- caches that grew are cut back to what they were
pub caches_back : (old new : GraphCaches) → HaveGrown old new → caches_cut_at (caches_mark_of old) new ≡ old
caches_back old new h = rw (h.rows, h.met) refl
