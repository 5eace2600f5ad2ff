-- Files that stand one after another stay so when others come after them or when they move.
use Rattle.std.proofs.Common.{◌≡◌, ℕ, zero, suc, ◌+◌, ◌^◌, ◌<◌, ◌≤◌, List, [], ◌∷◌, ◌++◌, length, map, take, drop, set, get_or, refl, ap, arith}
use Rattle.std.specs.List.{AllByRecursion}
use Rattle.wit_sources.specs.declared.source_map.SourceFile.{SourceFile}
use Rattle.wit_sources.specs.SourceMap.{end_after, moved_file, AreLaidOut}

-- they also stand after an earlier position
pub AreLaidOut-from : (low from : ℕ) (files : List SourceFile) (end : ℕ) → low ≤ from → AreLaidOut from files end → AreLaidOut low files end
AreLaidOut-from low from [] end below laid = omega arith
AreLaidOut-from low from (file ∷ files) end below laid = (omega (arith, laid.0), laid.1)

-- the first position is not after the last
pub AreLaidOut-≤ : (from : ℕ) (files : List SourceFile) (end : ℕ) → AreLaidOut from files end → from ≤ end
AreLaidOut-≤ from [] end laid = laid
AreLaidOut-≤ from (file ∷ files) end laid =
    let rest : end_after file.start file.contents ≤ end = AreLaidOut-≤ (end_after file.start file.contents) files end laid.1 in
    omega (arith, laid.0)

pub AreLaidOut-append : (from middle : ℕ) (files others : List SourceFile) (end : ℕ) → AreLaidOut from files middle → AreLaidOut middle others end → AreLaidOut from (files ++ others) end
AreLaidOut-append from middle [] others end first second = AreLaidOut-from from middle others end first second
AreLaidOut-append from middle (file ∷ files) others end first second =
    (first.0, AreLaidOut-append (end_after file.start file.contents) middle files others end first.1 second)

pub AreLaidOut-moved : (offset from : ℕ) (files : List SourceFile) (end : ℕ) → AreLaidOut from files end → AreLaidOut (from + offset) (map (moved_file offset) files) (end + offset)
AreLaidOut-moved offset from [] end laid = omega arith
AreLaidOut-moved offset from (file ∷ files) end laid = (
  omega (arith, laid.0),
  AreLaidOut-from (end_after (file.start + offset) file.contents) (end_after file.start file.contents + offset) (map (moved_file offset) files) (end + offset)
      (omega arith) (AreLaidOut-moved offset (end_after file.start file.contents) files end laid.1),
)

-- where their end can move, so can each of them
pub moved_files_fit : (offset from : ℕ) (files : List SourceFile) (end : ℕ) → AreLaidOut from files end → offset + end < 2 ^ 32 → AllByRecursion (λ file. file.start + offset < 2 ^ 32) files
moved_files_fit offset from [] end laid fits = tt
moved_files_fit offset from (file ∷ files) end laid fits =
    let here : end_after file.start file.contents ≤ end = AreLaidOut-≤ (end_after file.start file.contents) files end laid.1 in
    (omega arith, moved_files_fit offset (end_after file.start file.contents) files end laid.1 fits)

-- a list whose first items are mapped
abbrev pub map_first : {X : Type 0} → (X → X) → ℕ → List X → List X
map_first f i xs = map f (take i xs) ++ drop i xs

-- one more item is mapped where it is written
pub map_first-set : {X : Type 0} (f : X → X) (xs : List X) (i : ℕ) (d : X) → i < length xs → set (map_first f i xs) i (f (get_or (map_first f i xs) i d)) ≡ map_first f (suc i) xs
map_first-set f [] i d within = absurd (omega arith)
map_first-set f (x ∷ xs) zero d within = refl
map_first-set f (x ∷ xs) (suc i) d within = ap (λ rest. f x ∷ rest) (map_first-set f xs i d (omega arith))
