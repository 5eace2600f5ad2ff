-- What comes with one package or one group more.
use Rattle.std.proofs.Common.{◌≡◌, ◌∙◌, ℕ, ◌+◌, ◌<◌, ◌^◌, Bool, true, false, List, [], ◌∷◌, ◌++◌, Some, ap, arith, drop, flat_map, if◌then◌else◌, map, nat_lt, refl, sym, append_assoc, append-nil}
use Rattle.std.proofs.lemmas.List.Concat.{flat_map-append}
use Rattle.std.proofs.lemmas.List.{map-append}
use Rattle.std.specs.Prelude.{slice_get}
use Rattle.wit_data.specs.declared.unresolved.UnresolvedPackage.{UnresolvedPackage}
use Rattle.wit_data.specs.declared.unresolved.UnresolvedPackageGroup.{UnresolvedPackageGroup}
use Rattle.wit_graph_data.specs.declared.features.Features.{Features}
use Rattle.wit_ways.specs.Coming.{coming_packages, joined, placed_packages}
use Rattle.wit_ways.specs.declared.arrow.Arrow.{Arrow}
use Rattle.wit_ways.specs.declared.coming.Coming.{Coming}
use Rattle.wit_ways.specs.declared.include.Include.{Include}
use Rattle.wit_ways.specs.declared.world_name.WorldPlace.{WorldPlace}
use Rattle.wit_ways.proofs.Ranges.{drop_next}

-- the packages of a group, the nested ones before the main one, each with a position
abbrev pub packages_at : ℕ → UnresolvedPackageGroup → List (ℕ × UnresolvedPackage)
packages_at offset group = map (λ p. (offset, p)) (group.nested ++ group.main ∷ [])

abbrev pub made : List Arrow → List Arrow → List Include → List WorldPlace → Coming
made dependencies arrows includes worlds = record { dependencies = dependencies; arrows = arrows; includes = includes; worlds = worlds }

pub same : (a b : Coming) → a.dependencies ≡ b.dependencies → a.arrows ≡ b.arrows → a.includes ≡ b.includes → a.worlds ≡ b.worlds → a ≡ b
same a b dependencies arrows includes worlds =
    ap (λ (d : List Arrow). made d a.arrows a.includes a.worlds) dependencies ∙ ap (λ (r : List Arrow). made b.dependencies r a.includes a.worlds) arrows
    ∙ ap (λ (i : List Include). made b.dependencies b.arrows i a.worlds) includes ∙ ap (made b.dependencies b.arrows b.includes) worlds

appended : {X Y : Type 0} (of : X → List Y) (a : List Y) (xs ys : List X) → (a ++ flat_map of xs) ++ flat_map of ys ≡ a ++ flat_map of (xs ++ ys)
appended of a xs ys = append_assoc a (flat_map of xs) (flat_map of ys) ∙ ap (λ (more : _). a ++ more) (sym (flat_map-append of xs ys))

is_below : (n limit : ℕ) → n < limit → nat_lt n limit ≡ true
is_below n limit below = search (arith, below)

module _ (features : Features) where
  pub joined_more : (c : Coming) (xs ys : List (ℕ × UnresolvedPackage)) → joined (joined c (coming_packages features xs)) (coming_packages features ys) ≡ joined c (coming_packages features (xs ++ ys))
  joined_more c xs ys = same _ _ (appended _ c.dependencies xs ys) (appended _ c.arrows xs ys) (appended _ c.includes xs ys) (appended _ c.worlds xs ys)

  pub joined_none : (c : Coming) → joined c (coming_packages features []) ≡ c
  joined_none c = same _ _ (append-nil c.dependencies) (append-nil c.arrows) (append-nil c.includes) (append-nil c.worlds)

  -- ---- the packages of a group

  pub next_package : (offset : ℕ) (coming next : Coming) (packages : List UnresolvedPackage) (i : ℕ) (p : UnresolvedPackage) (all : Coming) → slice_get packages i ≡ Some p
      → next ≡ joined coming (coming_packages features ((offset, p) ∷ []))
      → joined coming (coming_packages features (map (λ (q : UnresolvedPackage). (offset, q)) (drop i packages))) ≡ all
      → joined next (coming_packages features (map (λ (q : UnresolvedPackage). (offset, q)) (drop (i + 1) packages))) ≡ all
  next_package offset coming next packages i p all there is so_far =
      let at : UnresolvedPackage → ℕ × UnresolvedPackage = λ q. (offset, q) in
      let rest = coming_packages features (map at (drop (i + 1) packages)) in
      ap (λ (c : Coming). joined c rest) is ∙ joined_more coming ((offset, p) ∷ []) (map at (drop (i + 1) packages))
      ∙ sym (ap (λ (left : List UnresolvedPackage). joined coming (coming_packages features (map at left))) (drop_next packages i p there)) ∙ so_far

  pub last_package : (offset : ℕ) (old coming next : Coming) (g : UnresolvedPackageGroup) (i : ℕ) → drop i g.nested ≡ []
      → next ≡ joined coming (coming_packages features ((offset, g.main) ∷ []))
      → joined coming (coming_packages features (map (λ (q : UnresolvedPackage). (offset, q)) (drop i g.nested))) ≡ joined old (coming_packages features (map (λ (q : UnresolvedPackage). (offset, q)) g.nested))
      → next ≡ joined old (coming_packages features (packages_at offset g))
  last_package offset old coming next g i none is so_far =
      let at : UnresolvedPackage → ℕ × UnresolvedPackage = λ q. (offset, q) in
      let coming_is : coming ≡ joined old (coming_packages features (map at g.nested)) =
      sym (joined_none coming) ∙ sym (ap (λ (left : List UnresolvedPackage). joined coming (coming_packages features (map at left))) none) ∙ so_far in
      is ∙ ap (λ (c : Coming). joined c (coming_packages features ((offset, g.main) ∷ []))) coming_is ∙ joined_more old (map at g.nested) ((offset, g.main) ∷ [])
      ∙ sym (ap (λ (xs : List (ℕ × UnresolvedPackage)). joined old (coming_packages features xs)) (map-append at g.nested (g.main ∷ [])))

  -- ---- the packages of groups

  one_group : (at : ℕ) (coming next : Coming) (g : UnresolvedPackageGroup) (groups : List UnresolvedPackageGroup) → at < 2 ^ 32
      → next ≡ joined coming (coming_packages features (packages_at at g))
      → joined next (coming_packages features (placed_packages (at + g.source_map.end) groups)) ≡ joined coming (coming_packages features (placed_packages at (g ∷ groups)))
  one_group at coming next g groups below is =
      let rest = placed_packages (at + g.source_map.end) groups in
      ap (λ (c : Coming). joined c (coming_packages features rest)) is ∙ joined_more coming (packages_at at g) rest
      ∙ sym (ap (λ (b : Bool). joined coming (coming_packages features (if b then packages_at at g ++ rest else []))) (is_below at (2 ^ 32) below))

  pub first_group : (at : ℕ) (next : Coming) (g : UnresolvedPackageGroup) (groups : List UnresolvedPackageGroup) → at < 2 ^ 32
      → next ≡ joined (made [] [] [] []) (coming_packages features (packages_at at g))
      → joined next (coming_packages features (placed_packages (at + g.source_map.end) groups)) ≡ coming_packages features (placed_packages at (g ∷ groups))
  first_group at next g groups below is = one_group at (made [] [] [] []) next g groups below is

  pub next_group : (at : ℕ) (coming next : Coming) (groups : List UnresolvedPackageGroup) (i : ℕ) (g : UnresolvedPackageGroup) (all : Coming) → slice_get groups i ≡ Some g → at < 2 ^ 32
      → next ≡ joined coming (coming_packages features (packages_at at g)) → joined coming (coming_packages features (placed_packages at (drop i groups))) ≡ all
      → joined next (coming_packages features (placed_packages (at + g.source_map.end) (drop (i + 1) groups))) ≡ all
  next_group at coming next groups i g all there below is so_far =
      one_group at coming next g (drop (i + 1) groups) below is
      ∙ sym (ap (λ (left : List UnresolvedPackageGroup). joined coming (coming_packages features (placed_packages at left))) (drop_next groups i g there)) ∙ so_far

  -- groups that begin past 4294967295 bring nothing
  pub none_placed : (at : ℕ) (groups : List UnresolvedPackageGroup) → nat_lt at (2 ^ 32) ≡ false → placed_packages at groups ≡ []
  none_placed at [] past = refl
  none_placed at (g ∷ groups) past = ap (λ (b : Bool). if b then packages_at at g ++ placed_packages (at + g.source_map.end) groups else []) past

  pub all_placed : (coming all : Coming) (packages : List (ℕ × UnresolvedPackage)) → packages ≡ [] → joined coming (coming_packages features packages) ≡ all → coming ≡ all
  all_placed coming all packages none so_far = sym (joined_none coming) ∙ sym (ap (λ (xs : List (ℕ × UnresolvedPackage)). joined coming (coming_packages features xs)) none) ∙ so_far
