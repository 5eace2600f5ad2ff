-- Tables that take some entries of another one, one after another.
use Rattle.std.proofs.Common.{◌≡◌, ◌∙◌, ℕ, suc, Bool, true, false, List, [], ◌∷◌, ◌++◌, Option, None, Some, cond, filter, length, map, slice_get, append_assoc, refl, sym, ap, subst, arith, Contains}
use Rattle.std.proofs.lemmas.Bool.{false_from_ne_true}
use Rattle.std.proofs.lemmas.List.{append-nil}
use Rattle.std.proofs.lemmas.Map.Views.{Contains-from_lookup}
use Rattle.std.specs.List.{AllByRecursion, IsDistinct}
use Rattle.std.specs.Map.{keys_of, lookup}
use Rattle.wit_values.specs.facts.Lists.{slice_get-append, slice_get-behind}
use Rattle.wit_values.specs.Table.{HasDistinctKeys}
use Rattle.wit_graph_theory.specs.facts.ListFacts.{from_map, place_of}
use Rattle.std.proofs.lemmas.Option.{slice_get_within}

module _ {X Y : Type 0} (f : X → Y) (test : X → Bool) where
  abbrev pub chosen : List X → List Y
  chosen xs = map f (filter test xs)

  -- the first of those that are left is chosen
  pub split : (done : List Y) (left rest : List X) (e : X) (whole : List Y) → left ≡ e ∷ rest → test e ≡ true → done ++ chosen left ≡ whole → done ++ f e ∷ chosen rest ≡ whole
  split done left rest e whole first takes all =
      ap (λ (b : Bool). done ++ map f (cond b (e ∷ filter test rest) (filter test rest))) (sym takes) ∙ ap (λ (l : List X). done ++ chosen l) (sym first) ∙ all

  pub one_more : (done new : List Y) (left rest : List X) (e : X) (y : Y) (whole : List Y) → left ≡ e ∷ rest → test e ≡ true → done ++ chosen left ≡ whole → new ≡ done ++ y ∷ [] → y ≡ f e → new ++ chosen rest ≡ whole
  one_more done new left rest e y whole first takes all pushed is =
      ap (λ (l : List Y). l ++ chosen rest) pushed ∙ append_assoc done (y ∷ []) (chosen rest) ∙ ap (λ (z : Y). done ++ z ∷ chosen rest) is ∙ split done left rest e whole first takes all

  -- it isn't
  pub passed_over : (done : List Y) (left rest : List X) (e : X) (whole : List Y) → left ≡ e ∷ rest → test e ≡ false → done ++ chosen left ≡ whole → done ++ chosen rest ≡ whole
  passed_over done left rest e whole first leaves all =
      ap (λ (b : Bool). done ++ map f (cond b (e ∷ filter test rest) (filter test rest))) (sym leaves) ∙ ap (λ (l : List X). done ++ chosen l) (sym first) ∙ all

  pub none_left : (done : List Y) (left : List X) (whole : List Y) → left ≡ [] → done ++ chosen left ≡ whole → done ≡ whole
  none_left done left whole none all = sym (append-nil done) ∙ ap (λ (l : List X). done ++ chosen l) (sym none) ∙ all

-- where keys differ, one isn't among those before it
module _ {K V : Type 0} {eq : K → K → Bool} (decides : (a b : K) → eq a b ≡ true → a ≡ b) where
  pub key_is_new : (done rest whole : List (K × V)) (k : K) (v : V) → HasDistinctKeys whole → done ++ (k, v) ∷ rest ≡ whole → lookup (eq k) done ≡ None
  key_is_new done rest whole k v distinct all = by (lookup (eq k) done) refl
    where
      by : (o : Option V) → lookup (eq k) done ≡ o → lookup (eq k) done ≡ None
      by None is = is
      by (Some w) is =
          let has : Contains done (k, w) = Contains-from_lookup decides k w done is in
          let at = place_of done (k, w) has in
          let here = subst (λ (l : List (K × V)). slice_get l at.0 ≡ Some (k, w)) all (slice_get-append done ((k, v) ∷ rest) at.0 (k, w) at.1) in
          let there = subst (λ (l : List (K × V)). slice_get l (length done) ≡ Some (k, v)) all (slice_get-behind done rest (k, v)) in
          let same = distinct at.0 (length done) (k, w) (k, v) here there refl in
          let within = slice_get_within done at.0 (k, w) at.1 in
          absurd (omega (arith, same, within))

-- so of all of them, under keys that stay
module _ {X Y : Type 0} (f : X → Y) where
  pub mapped_split : (done : List Y) (left rest : List X) (e : X) (whole : List Y) → left ≡ e ∷ rest → done ++ map f left ≡ whole → done ++ f e ∷ map f rest ≡ whole
  mapped_split done left rest e whole first all = ap (λ (l : List X). done ++ map f l) (sym first) ∙ all

  pub mapped_more : (done new : List Y) (left rest : List X) (e : X) (y : Y) (whole : List Y) → left ≡ e ∷ rest → done ++ map f left ≡ whole → new ≡ done ++ y ∷ [] → y ≡ f e → new ++ map f rest ≡ whole
  mapped_more done new left rest e y whole first all pushed is =
      ap (λ (l : List Y). l ++ map f rest) pushed ∙ append_assoc done (y ∷ []) (map f rest) ∙ ap (λ (z : Y). done ++ z ∷ map f rest) is ∙ mapped_split done left rest e whole first all

  pub mapped_none : (done : List Y) (left : List X) (whole : List Y) → left ≡ [] → done ++ map f left ≡ whole → done ≡ whole
  mapped_none done left whole none all = sym (append-nil done) ∙ ap (λ (l : List X). done ++ map f l) (sym none) ∙ all

module _ {K V W : Type 0} (h : K × V → W) where
  -- keys that differ, differ under other values
  pub apart_keyed : (es : List (K × V)) → HasDistinctKeys es → HasDistinctKeys (map (λ (e : K × V). let r : K × W = (e.0, h e) in r) es)
  apart_keyed es distinct i j d e first second same =
      let f = λ (e : K × V). let r : K × W = (e.0, h e) in r in
      let one = from_map f es i d first in
      let two = from_map f es j e second in
      distinct i j one.0 two.0 one.1 two.1 (ap (λ (p : K × W). p.0) one.2 ∙ same ∙ ap (λ (p : K × W). p.0) (sym two.2))

-- keys that differ are told so
module _ {K V : Type 0} {eq : K → K → Bool} (decides : (a b : K) → eq a b ≡ true → a ≡ b) where
  apart_from : (e : K × V) (es : List (K × V)) → ((k : ℕ) (f : K × V) → slice_get es k ≡ Some f → e.0 ≡ f.0 → ⊥) → AllByRecursion (λ (y : K). eq e.0 y ≡ false) (keys_of es)
  apart_from e [] apart = tt
  apart_from e (f ∷ es) apart = (false_from_ne_true (eq e.0 f.0) (λ is. apart 0 f refl (decides e.0 f.0 is)), apart_from e es (λ k d at. apart (suc k) d at))

  pub told_apart : (es : List (K × V)) → HasDistinctKeys es → IsDistinct eq (keys_of es)
  unfolding IsDistinct
  told_apart [] distinct = tt
  told_apart (e ∷ es) distinct = (
    apart_from e es (λ k f at same. let none : 0 ≡ suc k = distinct 0 (suc k) e f refl at same in omega (arith, none)),
    told_apart es (λ i j d f first second same. let one : suc i ≡ suc j = distinct (suc i) (suc j) d f first second same in omega (arith, one)),
  )
