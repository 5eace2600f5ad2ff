-- The rows of packages, each at its place, and the numbers of all rows.
use Rattle.std.proofs.Common.{◌≡◌, ℕ, ◌+◌, ◌<◌, ◌∙◌, zero, suc, List, [], ◌∷◌, ◌++◌, Some, length, map, get_or, slice_get, All, ap, sym, refl, arith}
use Rattle.std.specs.List.{enumerate_from, range_with_len}
use Rattle.std.proofs.lemmas.List.{get_or-map}
use Rattle.std.proofs.lemmas.List.FromFn.{get_or-enumerate_from, get_or-range_with_len, length-enumerate_from, length-range_with_len}
use Rattle.std.proofs.lemmas.Option.{get_or_from_slice_get, slice_get_within}
use Rattle.wit_data.specs.declared.interface.Interface.{Interface}
use Rattle.wit_data.specs.declared.types.TypeDef.{TypeDef}
use Rattle.wit_data.specs.declared.world.World.{World}
use Rattle.wit_graph_data.specs.Queries.{package_direct_deps, package_uses}
use Rattle.wit_graph_data.specs.declared.graph.Package.{Package}
use Rattle.wit_graph_data.specs.steps.Parts.{package_needs}

-- what f gives of the element at a place and the place
get_or-enumerated : {X Y : Type 0} (f : ℕ × X → Y) (xs : List X) (i : ℕ) (x : X) (d : Y) → slice_get xs i ≡ Some x → get_or (map f (enumerate_from 0 xs)) i d ≡ f (i, x)
get_or-enumerated f xs i x d at =
    let within : i < length xs = slice_get_within xs i x at in
    let there : i < length (enumerate_from 0 xs) = omega (arith, length-enumerate_from 0 xs) in
    let number : 0 + i ≡ i = omega arith in
    get_or-map f (enumerate_from 0 xs) i (0, x) d there ∙ ap f (get_or-enumerate_from 0 xs i (0, x) within)
    ∙ ap (λ n. f (n, get_or xs i x)) number ∙ ap (λ y. f (i, y)) (get_or_from_slice_get xs i x x at)

-- the row of a package that is there
pub row_of : (types : List TypeDef) (interfaces : List Interface) (worlds : List World) (packages : List Package) (p : ℕ) (home : Package) → slice_get packages p ≡ Some home
    → package_direct_deps types interfaces worlds packages p ≡ package_needs types interfaces worlds p home
row_of types interfaces worlds packages p home at =
    get_or-enumerated (λ (e : ℕ × Package). package_needs types interfaces worlds e.0 e.1) packages p home [] at

pub length-rows : (types : List TypeDef) (interfaces : List Interface) (worlds : List World) (packages : List Package) → length (package_uses types interfaces worlds packages) ≡ length packages
length-rows types interfaces worlds packages = length-mapped (enumerate_from 0 packages) ∙ length-enumerate_from 0 packages
  where
    length-mapped : (es : List (ℕ × Package)) → length (map (λ (e : ℕ × Package). package_needs types interfaces worlds e.0 e.1) es) ≡ length es
    length-mapped [] = refl
    length-mapped (e ∷ es) = ap suc (length-mapped es)

-- one number more
pub range_with_len-more : (a n j : ℕ) → a + n ≡ j → range_with_len a (n + 1) ≡ range_with_len a n ++ j ∷ []
range_with_len-more a zero j is = let same : a ≡ j = omega arith in ap (λ x. x ∷ []) same
range_with_len-more a (suc n) j is =
    let rest : range_with_len (a + 1) (n + 1) ≡ range_with_len (a + 1) n ++ j ∷ [] = range_with_len-more (a + 1) n j (omega arith) in
    let one : n + 1 ≡ suc n = omega arith in
    let two : suc n + 1 ≡ suc (suc n) = omega arith in
    ap (range_with_len a) two ∙ ap (λ l. a ∷ l) (ap (range_with_len (a + 1)) (sym one) ∙ rest)

-- the numbers are below their number
pub range-below : (n : ℕ) → All (λ i. i < n) (range_with_len 0 n)
range-below n k d below =
    let within : k < n = omega (arith, length-range_with_len 0 n) in
    omega (arith, get_or-range_with_len 0 n k d within)
