-- What becomes of a table of worlds whose world comes last under its new name.
use Rattle.std.proofs.Common.{◌≡◌, ◌≢◌, ◌∙◌, inl, inr, ℕ, Bool, true, false, not, cond, List, [], ◌∷◌, ◌++◌, Option, None, Some, IsSome, IsSomeAnd, Result, Ok, Err, OnErr, ◌<◌, length, filter, map, slice_get, slice_set, zero, suc, refl, sym, ap, subst, Contains, option_to_list}
use Rattle.std.specs.Prelude.{nat_eq, bytes_eq}
use Rattle.std.specs.Cmp.Lexicographic.{nat_list_eq_equiv}
use Rattle.std.specs.List.{IsDistinct}
use Rattle.std.specs.Map.{keys_of, lookup, remove_entry}
use Rattle.std.proofs.lemmas.Bool.{eqb-false}
use Rattle.std.proofs.lemmas.Option.{slice_get_within}
use Rattle.std.proofs.lemmas.Map.Views.{Contains-from_lookup, lookup-from_Contains}
use Rattle.std.proofs.lemmas.Slice.Eq.{bytes_eq-Decides}
use Rattle.wit_values.specs.Names.{moved_last}
use Rattle.wit_values.specs.Table.{HasDistinctKeys}
use Rattle.std.specs.Option.{option_map_or}
use Rattle.wit_data.specs.Each.{Each, SomeAt}
use Rattle.wit_data.specs.declared.world.World.{World}
use Rattle.wit_elaboration.specs.Valid.{HasTables}
use Rattle.wit_graph_data.specs.declared.graph.Graph.{Graph}
use Rattle.wit_graph_data.specs.declared.graph.Package.{Package}
use Rattle.wit_digraph.specs.facts.MemberFacts.{Contains-cons_cases, Contains-here, Contains-there}
use Rattle.wit_graph_theory.specs.facts.ListFacts.{found_at, place_of, same_at}
use Rattle.wit_transform.specs.facts.Distinct.{head_apart, same_entry, tail_distinct}
use Rattle.wit_transform.specs.facts.Looked.{is_other}
use Rattle.wit_transform.specs.Transformed.{with_renamed}
use Rattle.wit_transform.specs.steps.Transformed.{NameIsFreeAt}
use Rattle.wit_transform.specs.steps.Parts.{put_last, NameIsTakenIn}

-- entries of a table of worlds
abbrev Worlds : Type 0
Worlds = List (List ℕ × ℕ)

module _ (w : ℕ) where
  -- is the entry of another world?
  abbrev other : List ℕ × ℕ → Bool
  other e = not (nat_eq e.1 w)

  is_own : (b : Bool) (v : ℕ) → nat_eq v w ≡ b → v ≡ w → not b ≡ false
  is_own true v is same = refl
  is_own false v is same = absurd (eqb-false v w is same)

  -- where none is of the world, all stay
  all_others : (es : Worlds) → ((e : List ℕ × ℕ) → Contains es e → e.1 ≡ w → ⊥) → filter other es ≡ es
  all_others [] none = refl
  all_others (e ∷ es) none =
      (λ j. cond (is_other e.1 w (none e (Contains-here e es)) j) (e ∷ filter other es) (filter other es))
      ∙ ap (λ l. e ∷ l) (all_others es (λ d has. none d (Contains-there e d es has)))

  module _ (old : List ℕ) where
    -- without the world is without the one entry that has its old name
    pub without_world : (es : Worlds) → HasDistinctKeys es → Contains es (old, w) → ((e : List ℕ × ℕ) → Contains es e → e.1 ≡ w → e.0 ≡ old) → filter other es ≡ remove_entry (bytes_eq old) es
    without_world [] distinct has once = refl
    without_world (e ∷ es) distinct has once = by (bytes_eq old e.0) refl (λ behind. without_world es (tail_distinct e es distinct) behind (λ d among. once d (Contains-there e d es among)))
      where
        by : (b : Bool) → bytes_eq old e.0 ≡ b → (Contains es (old, w) → filter other es ≡ remove_entry (bytes_eq old) es) → filter other (e ∷ es) ≡ remove_entry (bytes_eq old) (e ∷ es)
        by true is rest =
            let own : e ≡ (old, w) = same_entry (e ∷ es) distinct e (old, w) (Contains-here e es) has (sym ((bytes_eq-Decides old e.0).0 is)) in
            let gone : other e ≡ false = is_own (nat_eq e.1 w) e.1 refl (ap (λ (p : List ℕ × ℕ). p.1) own) in
            (λ j. cond (gone j) (e ∷ filter other es) (filter other es))
            ∙ all_others es (λ d among same.
            let named : d.0 ≡ old = once d (Contains-there e d es among) same in
            head_apart e es distinct d among (ap (λ (p : List ℕ × ℕ). p.0) own ∙ sym named))
            ∙ sym (λ j. cond (is j) es (e ∷ remove_entry (bytes_eq old) es))
        by false is rest =
            let apart : e.1 ≡ w → ⊥ = λ same. let named = once e (Contains-here e es) same in let equal : bytes_eq old e.0 ≡ true = (bytes_eq-Decides old e.0).1 (sym named) in cc in
            let behind : Contains es (old, w) = elim (Contains-cons_cases e (old, w) es has) [
              | inl same ↦ absurd (apart (ap (λ (p : List ℕ × ℕ). p.1) same))
              | inr there ↦ there
            ] in
            (λ j. cond (is_other e.1 w apart j) (e ∷ filter other es) (filter other es))
            ∙ ap (λ l. e ∷ l) (rest behind)
            ∙ sym (λ j. cond (is j) es (e ∷ remove_entry (bytes_eq old) es))

    -- what is taken out before the last leaves the last
    taken_before : (es : Worlds) (last : List ℕ × ℕ) (v : ℕ) → lookup (bytes_eq old) es ≡ Some v → remove_entry (bytes_eq old) (es ++ last ∷ []) ≡ remove_entry (bytes_eq old) es ++ last ∷ []
    taken_before [] last v found = cc
    taken_before (e ∷ es) last v found = by (bytes_eq old e.0) refl (taken_before es last v)
      where
        by : (b : Bool) → bytes_eq old e.0 ≡ b → (lookup (bytes_eq old) es ≡ Some v → remove_entry (bytes_eq old) (es ++ last ∷ []) ≡ remove_entry (bytes_eq old) es ++ last ∷ [])
            → remove_entry (bytes_eq old) (e ∷ es ++ last ∷ []) ≡ remove_entry (bytes_eq old) (e ∷ es) ++ last ∷ []
        by true is rest = (λ j. cond (is j) (es ++ last ∷ []) (e ∷ remove_entry (bytes_eq old) (es ++ last ∷ []))) ∙ sym (λ j. cond (is j) es (e ∷ remove_entry (bytes_eq old) es) ++ last ∷ [])
        by false is rest =
            let behind : lookup (bytes_eq old) es ≡ Some v = sym (λ j. cond (is j) (Some e.1) (lookup (bytes_eq old) es)) ∙ found in
            (λ j. cond (is j) (es ++ last ∷ []) (e ∷ remove_entry (bytes_eq old) (es ++ last ∷ [])))
            ∙ ap (λ l. e ∷ l) (rest behind)
            ∙ sym (λ j. cond (is j) es (e ∷ remove_entry (bytes_eq old) es) ++ last ∷ [])

    module _ (es : Worlds) (test : IsDistinct bytes_eq (keys_of es)) (distinct : HasDistinctKeys es) (has : Contains es (old, w)) (once : Each (λ (e : List ℕ × ℕ). e.1 ≡ w → e.0 ≡ old) es) where
      own_name : (e : List ℕ × ℕ) → Contains es e → e.1 ≡ w → e.0 ≡ old
      own_name e among = let place = place_of es e among in once place.0 e place.1

      found : lookup (bytes_eq old) es ≡ Some w
      found = lookup-from_Contains nat_list_eq_equiv old w es test has

      -- a new name that no other world has isn't there
      pub name_is_new : (name : List ℕ) → (name ≡ old → ⊥) → ((v : ℕ) × Contains es (name, v) × (v ≢ w) → ⊥) → lookup (bytes_eq name) es ≡ None
      name_is_new name changes free = by (lookup (bytes_eq name) es) refl
        where
          by : (o : Option ℕ) → lookup (bytes_eq name) es ≡ o → o ≡ None
          by None is = refl
          by (Some v) is =
              let there = Contains-from_lookup (λ a b. (bytes_eq-Decides a b).0) name v es is in
              absurd (free (v, there, λ same. changes (own_name (name, v) there same)))

      -- the world came under its new name, and its old entry was taken out
      pub put_under_new : (name : List ℕ) → remove_entry (bytes_eq old) (es ++ (name, w) ∷ []) ≡ put_last es w name
      put_under_new name = taken_before es (name, w) w found ∙ ap (λ l. l ++ (name, w) ∷ []) (sym (without_world es distinct has own_name))

      -- where its name stays its entry was moved
      pub put_under_old : (name : List ℕ) → name ≡ old → moved_last old es ≡ put_last es w name
      put_under_old name same =
          ap (λ (o : Option ℕ). remove_entry (bytes_eq old) es ++ map (λ v. (old, v)) (option_to_list o)) found
          ∙ (λ j. sym (without_world es distinct has own_name) j ++ (sym same j, w) ∷ [])

-- ---- the world and the table of its package

module _ (g : Graph) (tables : HasTables g.packages g.interfaces g.worlds) (w : ℕ) (current : World) (there : slice_get g.worlds w ≡ Some current) (p : ℕ) (is : current.package ≡ Some p) (home : Package)
    (at : slice_get g.packages p ≡ Some home) where
  -- it stands there under its name
  pub listed_under_name : Contains home.worlds (current.name, w)
  listed_under_name =
      let listed = subst (λ (o : Option ℕ). IsSomeAnd o (λ q. SomeAt g.packages q (λ (h : Package). Contains h.worlds (current.name, w)))) is (tables.worlds_listed w current there) in
      let found = found_at (λ (h : Package). Contains h.worlds (current.name, w)) g.packages p listed in
      subst (λ (h : Package). Contains h.worlds (current.name, w)) (same_at g.packages p p found.0 home refl found.1 at) found.2

  -- and under no other
  pub named_once : Each (λ (e : List ℕ × ℕ). e.1 ≡ w → e.0 ≡ current.name) home.worlds
  named_once i e on same =
      let found = found_at (λ (world : World). (world.name ≡ e.0) × (world.package ≡ Some p)) g.worlds e.1 (tables.world_tables p home at i e on) in
      sym found.2.0 ∙ ap (λ (world : World). world.name) (same_at g.worlds e.1 w found.0 current same found.1 there)

  -- no other world has a name that is free
  pub free_at_home : (name : List ℕ) → NameIsFreeAt g w name → NameIsTakenIn home w name → ⊥
  free_at_home name free taken = free current home there (p, is, at, taken)

  -- the packages with its table changed
  pub renamed_home : (name : List ℕ) → slice_set g.packages p (record home { worlds = put_last home.worlds w name }) ≡ with_renamed g.packages (Some p) w name
  renamed_home name = sym (ap (λ (o : Option Package). option_map_or (λ (h : Package). slice_set g.packages p (record h { worlds = put_last h.worlds w name })) o g.packages) at)

-- what is put in its own place changes nothing
pub set_same : {X : Type 0} (xs : List X) (i : ℕ) (x : X) → slice_get xs i ≡ Some x → slice_set xs i x ≡ xs
set_same [] i x at = refl
set_same (y ∷ xs) zero x at = let same : y ≡ x = cc in ap (λ z. z ∷ xs) (sym same)
set_same (y ∷ xs) (suc i) x at = ap (λ l. y ∷ l) (set_same xs i x at)

-- ---- the package of a world

-- what is so of what stands at a place
pub holds_at : {X : Type 0} (P : X → Type 0) (xs : List X) (i : ℕ) (x : X) → SomeAt xs i P → slice_get xs i ≡ Some x → P x
holds_at P xs i x some at = let found = found_at P xs i some in subst P (same_at xs i i found.0 x refl found.1 at) found.2

is_some_of : {X : Type 0} (P : X → Type 0) (o : Option X) → IsSomeAnd o P → IsSome o
is_some_of P None h = absurd h
is_some_of P (Some x) h = refl

module _ (g : Graph) (tables : HasTables g.packages g.interfaces g.worlds) (w : ℕ) (current : World) (there : slice_get g.worlds w ≡ Some current) where
  -- a world has one
  pub has_package : IsSome current.package
  has_package = is_some_of (λ p. SomeAt g.packages p (λ (home : Package). Contains home.worlds (current.name, w))) current.package (tables.worlds_listed w current there)

  -- which is there
  pub home_is_there : (p : ℕ) → current.package ≡ Some p → p < length g.packages
  home_is_there p is =
      let listed = subst (λ (o : Option ℕ). IsSomeAnd o (λ q. SomeAt g.packages q (λ (h : Package). Contains h.worlds (current.name, w)))) is (tables.worlds_listed w current there) in
      let found = found_at (λ (h : Package). Contains h.worlds (current.name, w)) g.packages p listed in
      slice_get_within g.packages p found.0 found.1

-- what is so anyway is so after an error
pub on_err : {T E P : Type 0} (r : Result T E) → P → OnErr r P
on_err (Ok x) h = tt
on_err (Err e) h = h
