-- The search for a way: what it has reached, and how it goes on.
use Rattle.std.specs.Prelude.{◌≡◌, ℕ, zero, suc, ◌+◌, ◌<◌, ◌≤◌, ◌||◌, not, Bool, true, false, List, [], ◌∷◌, ◌++◌, length, slice_get, Contains, count_by, Option, None, Some, IfSome, bytes_eq, if◌then◌else◌}
use Rattle.std.specs.Map.{lookup}
use Rattle.wit_ways.specs.Ways.{is_among}
use Rattle.wit_ways.specs.declared.arrow.Arrow.{Arrow}
use Rattle.wit_ways.specs.declared.way.ArrowIndex.{ArrowIndex}
use Rattle.wit_ways.specs.declared.way.Reached.{Reached}
use Rattle.wit_ways.specs.declared.way.Search.{Search}

-- an arrow begins at a name
abbrev pub begins_at : Option Arrow → List ℕ → Bool
begins_at None name = false
begins_at (Some a) name = bytes_eq a.from name

-- the last of the first so many arrows that begins at a name
abbrev pub last_from : List Arrow → List ℕ → ℕ → Option ℕ
last_from arrows name zero = None
last_from arrows name (suc k) =
    if begins_at (slice_get arrows k) name then Some k else last_from arrows name k

-- the index of the first so many arrows
pub record IsIndexUpTo (arrows : List Arrow) (count : ℕ) (index : ArrowIndex) : Type 0 where
  pub last_is : (name : List ℕ)
      → lookup (bytes_eq name) index.last.entries ≡ last_from arrows name count
  pub before_is : (k : ℕ) (a : Arrow) → k < count → slice_get arrows k ≡ Some a
      → slice_get index.before k ≡ Some (last_from arrows a.from k)
  pub long : length index.before ≡ count

abbrev pub IsIndexOf : List Arrow → ArrowIndex → Type 0
IsIndexOf arrows index = IsIndexUpTo arrows (length arrows) index

-- the names that are reached with or without something that is no goal on the way
abbrev pub names_reached : Search → Bool → List (List ℕ)
names_reached s true = s.past
names_reached s false = s.plain

abbrev pub IsSeen : Search → List ℕ → Bool → Type 0
IsSeen s name met = is_among (names_reached s met) name ≡ true

-- a search stands at a name: at its start, or at what is reached
abbrev pub IsAt : List Arrow → List ℕ → Bool → List Reached → Option ℕ → List ℕ → Bool → Type 0
IsAt arrows start first reached None name met = (name ≡ start) × (met ≡ first)
IsAt arrows start first reached (Some q) name met =
    (r : Reached) × (a : Arrow) × (slice_get reached q ≡ Some r)
    × (slice_get arrows r.arrow ≡ Some a) × (name ≡ a.to) × (met ≡ r.met)

-- what is reached at place q is reached along its arrow from where the search stood before
pub record IsLinked (arrows : List Arrow) (goals : List (List ℕ)) (start : List ℕ) (first : Bool)
    (reached : List Reached) (q : ℕ) (r : Reached) : Type 0 where
  pub arrow : Arrow
  pub there : slice_get arrows r.arrow ≡ Some arrow
  pub met : Bool
  pub stood : IsAt arrows start first reached r.before arrow.from met
  pub met_is : r.met ≡ (met || not (is_among goals arrow.to))
  pub earlier : IfSome r.before (λ p. p < q)

-- a search from a start: all that it has reached is linked, and each name that is seen is reached
pub record IsSearching (arrows : List Arrow) (goals : List (List ℕ)) (start : List ℕ) (first : Bool)
    (s : Search) : Type 0 where
  pub linked : (q : ℕ) (r : Reached) → slice_get s.reached q ≡ Some r
      → IsLinked arrows goals start first s.reached q r
  pub seen : (name : List ℕ) (met : Bool) → IsSeen s name met
      → (q : ℕ) × IsAt arrows start first s.reached (Some q) name met

-- all to which an arrow leads from a name is seen
abbrev pub IsClosed : List Arrow → List (List ℕ) → Search → List ℕ → Bool → Type 0
IsClosed arrows goals s name met =
    (a : Arrow) → Contains arrows a → a.from ≡ name
    → IsSeen s a.to (met || not (is_among goals a.to))

-- a search that has come to its end
pub record IsSearched (arrows : List Arrow) (goals : List (List ℕ)) (start : List ℕ) (first : Bool)
    (s : Search) : Type 0 where
  pub searching : IsSearching arrows goals start first s
  pub begun : IsClosed arrows goals s start first
  pub closed : (q : ℕ) (name : List ℕ) (met : Bool)
      → IsAt arrows start first s.reached (Some q) name met → IsClosed arrows goals s name met

-- how many arrows lead to what isn't seen, with and without something that is no goal on the way
abbrev pub unseen : List Arrow → Search → ℕ
unseen arrows s =
    count_by (λ (a : Arrow). not (is_among s.plain a.to)) arrows + count_by
    (λ (a : Arrow). not (is_among s.past a.to)) arrows

-- one more is reached, where its name wasn't yet
abbrev pub with_new : Search → List ℕ → Reached → Bool → Search
with_new s to r true =
    record { reached = s.reached ++ r ∷ []; plain = s.plain; past = s.past ++ to ∷ [] }
with_new s to r false =
    record { reached = s.reached ++ r ∷ []; plain = s.plain ++ to ∷ []; past = s.past }

abbrev pub with_reached : Search → List ℕ → Reached → Search
with_reached s to r = if is_among (names_reached s r.met) to then s else with_new s to r r.met

-- a search goes on from a name at which it stands: it stays one, loses nothing, and comes nearer to its end
pub record GoesOn (arrows : List Arrow) (goals : List (List ℕ)) (from : List ℕ) (met : Bool)
    (before : Option ℕ) (old new : Search) : Type 0 where
  pub stays : (start : List ℕ) (first : Bool) → IsSearching arrows goals start first old
      → IsAt arrows start first old.reached before from met
      → IsSearching arrows goals start first new
  pub kept : (name : List ℕ) (m : Bool) → IsSeen old name m → IsSeen new name m
  pub same : (q : ℕ) (r : Reached) → slice_get old.reached q ≡ Some r
      → slice_get new.reached q ≡ Some r
  pub longer : length old.reached ≤ length new.reached
  pub nearer : unseen arrows new + length new.reached ≤ unseen arrows old + length old.reached
