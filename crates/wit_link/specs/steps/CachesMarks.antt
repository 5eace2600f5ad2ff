-- How much caches hold, and what is left of them where they are cut to so much.
use Rattle.std.specs.Prelude.{length, take}
use Rattle.wit_link.specs.declared.caches.CachesMark.{CachesMark}
use Rattle.wit_link.specs.declared.caches.GraphCaches.{GraphCaches}

-- of how many interfaces and of how many types something is known
abbrev pub caches_mark_of : GraphCaches → CachesMark
caches_mark_of caches = record { interfaces = length caches.elaborator; met = length caches.met }

-- what is known of so many
abbrev pub caches_cut_at : CachesMark → GraphCaches → GraphCaches
caches_cut_at mark caches =
    record { elaborator = take mark.interfaces caches.elaborator; met = take mark.met caches.met }
