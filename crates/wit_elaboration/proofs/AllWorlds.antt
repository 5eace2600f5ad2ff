-- Worlds that are elaborated one after another: the lists that are made, and those that are put in place.
use Rattle.std.proofs.Common.{◌≡◌, ◌∙◌, ◌⊎◌, inl, inr, ℕ, zero, suc, true, ◌+◌, ◌<◌, ◌≤◌, List, [], ◌∷◌, ◌++◌, length, map, take, Option, Some, slice_get, slice_set, refl, sym, ap, subst, arith, append_assoc, Contains}
use Rattle.std.specs.List.{AllZip}
use Rattle.std.proofs.lemmas.Option.{slice_get_within}
use Rattle.wit_values.specs.facts.Lists.{take-next_at}
use Rattle.wit_data.specs.Each.{EachAt}
use Rattle.wit_data.specs.facts.EachFacts.{EachBelow, all, more}
use Rattle.wit_data.specs.declared.world.World.{World}
use Rattle.wit_elaboration.specs.Elaborated.{elaborated_exports, elaborated_imports}
use Rattle.wit_elaboration.specs.Elaboration.{IsConflictError, graph_uses, elaborated_world}
use Rattle.wit_elaboration.specs.steps.Elaboration.{AreListsOf, IsRefusedWorld, with_lists}
use Rattle.wit_elaboration.specs.declared.entries.Lists.{Lists}
use Rattle.wit_graph_data.specs.declared.graph.Graph.{Graph}
use Rattle.wit_graph_data.specs.declared.error_kind.ResolveErrorKind.{ResolveErrorKind}
use Rattle.wit_graph_data.specs.declared.error_kind.ResolveErrorKind.TheVariants.{PackageNotFound, WorldNotFound, InterfaceNotFound, InvalidTransitiveDependency, DuplicatePackage, PackageCycle, ItemShadowing, StabilityMismatch, Semantic, OffsetOverflow, OutOfMemory}

-- ---- a refusal

contains_at : {X : Type 0} (xs : List X) (i : ℕ) (x : X) → slice_get xs i ≡ Some x → Contains xs x
contains_at [] i x at = cc
contains_at (y ∷ ys) zero x at = (0, omega arith, cc)
contains_at (y ∷ ys) (suc i) x at = let there = contains_at ys i x at in (suc there.0, omega (arith, there.1), there.2)

-- the error of one world is that of the graph
pub refused_world : (g : Graph) (i : ℕ) (world : World) (e : ResolveErrorKind) → slice_get g.worlds i ≡ Some world → (e ≡ OutOfMemory) ⊎ IsConflictError g world e → (e ≡ OutOfMemory) ⊎ IsRefusedWorld g e
refused_world g i world e at (inl none) = inl none
refused_world g i world e at (inr cause) = inr (record {
  world = world;
  there = contains_at g.worlds i world at;
  conflict = cause.2;
  name = cause.0;
  name_is = cause.3;
  error_is = cause.1;
})

-- ---- lists that are put in place

-- the lists of the first worlds are left; these are as they were, and the others are elaborated
pub record IsPlacing (g : Graph) (left : List (Option Lists)) (worlds : List World) : Type 0 where
  pub before : List World
  pub after : List World
  pub all : g.worlds ≡ before ++ after
  pub left_is : AreListsOf g before left
  pub worlds_are : worlds ≡ before ++ map (elaborated_world g) after

module _ {X Y : Type 0} (R : X → Y → Type 0) where
  -- two lists that go together, where the second has a last element
  pub record LastOf (xs : List X) (ys : List Y) (y : Y) : Type 0 where
    pub front : List X
    pub last : X
    pub all : xs ≡ front ++ last ∷ []
    pub before : AllZip R front ys
    pub here : R last y

  last_zipped : (xs : List X) (ys : List Y) (y : Y) → AllZip R xs (ys ++ y ∷ []) → LastOf xs ys y
  last_zipped [] [] y zip = absurd zip
  last_zipped [] (z ∷ ys) y zip = absurd zip
  last_zipped (x ∷ []) [] y zip = record { front = []; last = x; all = refl; before = tt; here = zip.0 }
  last_zipped (x ∷ w ∷ xs) [] y zip = absurd zip.1
  last_zipped (x ∷ xs) (z ∷ ys) y zip =
      let rest = last_zipped xs ys y zip.1 in
      record { front = x ∷ rest.front; last = rest.last; all = ap (λ (l : List X). x ∷ l) rest.all; before = (zip.0, rest.before); here = rest.here }

  -- with nothing goes nothing
  nil_zipped : (xs : List X) → AllZip R xs [] → xs ≡ []
  nil_zipped [] zip = refl
  nil_zipped (x ∷ xs) zip = absurd zip

  -- they are as long
  length_zipped : (xs : List X) (ys : List Y) → AllZip R xs ys → length ys ≡ length xs
  length_zipped [] [] zip = refl
  length_zipped [] (y ∷ ys) zip = absurd zip
  length_zipped (x ∷ xs) [] zip = absurd zip
  length_zipped (x ∷ xs) (y ∷ ys) zip = ap suc (length_zipped xs ys zip.1)

  -- and so they are with one more
  pub zipped-push : (xs : List X) (ys : List Y) (x : X) (y : Y) → AllZip R xs ys → R x y → AllZip R (xs ++ x ∷ []) (ys ++ y ∷ [])
  zipped-push [] [] x y zip here = (here, tt)
  zipped-push [] (z ∷ ys) x y zip here = absurd zip
  zipped-push (w ∷ xs) [] x y zip here = absurd zip
  zipped-push (w ∷ xs) (z ∷ ys) x y zip here = (zip.0, zipped-push xs ys x y zip.1 here)

module _ {X : Type 0} where
  get_behind : (xs : List X) (x : X) (ys : List X) (n : ℕ) → n ≡ length xs → slice_get (xs ++ x ∷ ys) n ≡ Some x
  get_behind [] x ys n is = rw is refl
  get_behind (z ∷ xs) x ys n is = rw is (get_behind xs x ys (length xs) refl)

  set_behind : (xs : List X) (x y : X) (ys : List X) (n : ℕ) → n ≡ length xs → slice_set (xs ++ x ∷ ys) n y ≡ xs ++ y ∷ ys
  set_behind [] x y ys n is = rw is refl
  set_behind (z ∷ xs) x y ys n is = rw is (ap (λ (l : List X). z ∷ l) (set_behind xs x y ys (length xs) refl))

module _ (g : Graph) where
  -- the last of the lists that are left are those of the world behind the others
  pub record IsNext (left : List (Option Lists)) (lists : Option Lists) (worlds : List World) : Type
      0 where
    pub world : World
    pub at : slice_get worlds (length left) ≡ Some world
    pub placed : IsPlacing g left (slice_set worlds (length left) (with_lists world lists))

  pub placing-next : (left : List (Option Lists)) (lists : Option Lists) (worlds : List World) → IsPlacing g (left ++ lists ∷ []) worlds → IsNext left lists worlds
  placing-next left lists worlds is =
      let fits = λ (w : World) (l : Option Lists). with_lists w l ≡ elaborated_world g w in
      let last = last_zipped fits is.before left lists is.left_is in
      let front = last.front in
      let world = last.last in
      let long : length left ≡ length front = length_zipped fits front left last.before in
      let split : worlds ≡ front ++ world ∷ map (elaborated_world g) is.after =
      is.worlds_are ∙ ap (λ (l : List World). l ++ map (elaborated_world g) is.after) last.all ∙ append_assoc front (world ∷ []) (map (elaborated_world g) is.after) in
      let new : with_lists world lists ≡ elaborated_world g world = last.here in
      record {
        world = world;
        at = rw split (get_behind front world (map (elaborated_world g) is.after) (length left) long);
        placed = record {
          before = front;
          after = world ∷ is.after;
          all = is.all ∙ ap (λ (l : List World). l ++ is.after) last.all ∙ append_assoc front (world ∷ []) is.after;
          left_is = last.before;
          worlds_are = rw (split, new) (set_behind front world (elaborated_world g world) (map (elaborated_world g) is.after) (length left) long);
        };
      }

  -- they are put in its place
  pub placing-step : (left : List (Option Lists)) (lists : Option Lists) (worlds : List World) (n : ℕ) (old : World) → IsPlacing g (left ++ lists ∷ []) worlds
      → n ≡ length left → slice_get worlds n ≡ Some old → IsPlacing g left (slice_set worlds n (with_lists old lists))
  placing-step left lists worlds n old is count at =
      let next = placing-next left lists worlds is in
      let there : slice_get worlds (length left) ≡ Some old = subst (λ (k : ℕ). slice_get worlds k ≡ Some old) count at in
      let world = next.world in
      let both : Some world ≡ Some old = sym next.at ∙ there in
      let same : world ≡ old = cc in
      rw count (subst (λ (w : World). IsPlacing g left (slice_set worlds (length left) (with_lists w lists))) same next.placed)

  -- it is there
  pub placing-within : (left : List (Option Lists)) (lists : Option Lists) (worlds : List World) → IsPlacing g (left ++ lists ∷ []) worlds → length left < length worlds
  placing-within left lists worlds is = let next = placing-next left lists worlds is in slice_get_within worlds (length left) next.world next.at

  -- none are left
  pub placing-done : (left : List (Option Lists)) (worlds : List World) → left ≡ [] → IsPlacing g left worlds → worlds ≡ map (elaborated_world g) g.worlds
  placing-done left worlds none is =
      let before : is.before ≡ [] = nil_zipped (λ (w : World) (l : Option Lists). with_lists w l ≡ elaborated_world g w) is.before (subst (AreListsOf g is.before) none is.left_is) in
      is.worlds_are ∙ ap (λ (l : List World). l ++ map (elaborated_world g) is.after) before ∙ ap (map (elaborated_world g)) (sym (is.all ∙ ap (λ (l : List World). l ++ is.after) before))

-- ---- lists that are made

module _ (g : Graph) where
  -- those of the first worlds and of one more
  pub made-next : (all : List (Option Lists)) (i : ℕ) (world : World) (lists : Option Lists) → slice_get g.worlds i ≡ Some world → AreListsOf g (take i g.worlds) all
      → with_lists world lists ≡ elaborated_world g world → AreListsOf g (take (i + 1) g.worlds) (all ++ lists ∷ [])
  made-next all i world lists at made here =
      rw (take-next_at g.worlds i world at) (zipped-push (λ (w : World) (l : Option Lists). with_lists w l ≡ elaborated_world g w) (take i g.worlds) all world lists made here)

  -- lists that elaboration makes, in place of a world's own
  pub made_lists : (world : World) (lists : Lists) → lists.imports ≡ elaborated_imports g.types (graph_uses g) world.imports world.exports
      → lists.exports ≡ elaborated_exports (graph_uses g) world.exports → with_lists world (Some lists) ≡ elaborated_world g world
  made_lists world lists imports exports = λ k. record world { imports = imports k; exports = exports k }

  -- a world that keeps its own
  pub kept_lists : (world : World) → elaborated_imports g.types (graph_uses g) world.imports world.exports ≡ world.imports
      → elaborated_exports (graph_uses g) world.exports ≡ world.exports → world ≡ elaborated_world g world
  kept_lists world imports exports = λ k. record world { imports = sym imports k; exports = sym exports k }

-- ---- loops

-- what a graph is but for its worlds stays
pub with_worlds : (g h : Graph) (worlds : List World) → g ≡ record h { worlds = g.worlds } → record g { worlds = worlds } ≡ record h { worlds = worlds }
with_worlds g h worlds same = ap (λ (x : Graph). record x { worlds = worlds }) same

-- what holds of the first elements and of one more
pub below-next : {X : Type 0} {P : ℕ → X → Type 0} {xs : List X} {n : ℕ} → EachBelow n P xs → (x : X) → slice_get xs n ≡ Some x → P n x → EachBelow (n + 1) P xs
below-next below x at here = more {b = true} below x at (λ _. here, λ _. refl) refl

-- so of all
pub below-all : {X : Type 0} {P : ℕ → X → Type 0} {xs : List X} {n : ℕ} → EachBelow n P xs → length xs ≤ n → EachAt P xs
below-all below reached = (all below reached).0 refl
