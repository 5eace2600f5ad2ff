-- What is noted of interfaces without names, the last first.
use Rattle.std.proofs.Common.{◌≡◌, ◌∙◌, ℕ, suc, Bool, true, false, List, [], ◌++◌, Option, None, Some, drop, get_or, length, slice_get, refl, sym, ap, subst, arith, if◌then◌else◌}
use Rattle.std.proofs.lemmas.List.{append_assoc, drop_all}
use Rattle.std.specs.List.{enumerate_from, flat_map}
use Rattle.wit_data.specs.Entries.{is_unnamed}
use Rattle.wit_data.specs.declared.world.World.{World}
use Rattle.wit_elaboration.specs.Entries.{Entry}
use Rattle.wit_graph_data.specs.declared.graph.Graph.{Graph}
use Rattle.wit_graph_theory.specs.facts.PackagesAcyclic.{length-numbered, numbered_into}
use Rattle.wit_merge_spec.specs.Matches.{WorldLabel, interface_at_label}
use Rattle.wit_merge_match.specs.steps.Matched.{AreLabelled}
use Rattle.wit_link_spec.specs.facts.DropFacts.{drop_at}
use Rattle.wit_merge_spec.specs.steps.Parts.{labels_of_world}

-- what some things give, from a place on
from_place : {X Y : Type 0} (f : X → List Y) (xs : List X) (k n : ℕ) (x : X) → n ≡ suc k → slice_get xs k ≡ Some x → flat_map f (drop k xs) ≡ f x ++ flat_map f (drop n xs)
from_place f xs k n x next at = ap (flat_map f) (drop_at xs k x at) ∙ ap (λ (m : ℕ). f x ++ flat_map f (drop m xs)) (sym next)

-- the labels of a side of a world, with those behind
pub side_from : (w : ℕ) (exported : Bool) (es : List Entry) (k n : ℕ) (e : Entry) (later : List (ℕ × WorldLabel)) → n ≡ suc k → slice_get es k ≡ Some e
    → flat_map (λ (d : Entry). interface_at_label w exported d.0 d.1) (drop k es) ++ later ≡ interface_at_label w exported e.0 e.1 ++ (flat_map (λ (d : Entry). interface_at_label w exported d.0 d.1) (drop n es) ++ later)
side_from w exported es k n e later next at =
    let f : Entry → List (ℕ × WorldLabel) = λ d. interface_at_label w exported d.0 d.1 in
    ap (λ (l : List (ℕ × WorldLabel)). l ++ later) (from_place f es k n e next at) ∙ append_assoc (f e) (flat_map f (drop n es)) later

abbrev labels_from : List World → ℕ → List (ℕ × WorldLabel)
labels_from worlds k = flat_map (λ (e : ℕ × World). labels_of_world e.0 e.1) (drop k (enumerate_from 0 worlds))

-- the labels of a world, with those of the worlds behind it
pub worlds_from : (worlds : List World) (k n : ℕ) (world : World) → n ≡ suc k → slice_get worlds k ≡ Some world
    → labels_from worlds k ≡ flat_map (λ (d : Entry). interface_at_label k false d.0 d.1) world.imports ++ (flat_map (λ (d : Entry). interface_at_label k true d.0 d.1) world.exports ++ labels_from worlds n)
worlds_from worlds k n world next at =
    let here = subst (λ (i : ℕ). slice_get (enumerate_from 0 worlds) k ≡ Some (i, world)) (omega arith) (numbered_into 0 worlds k world at) in
    from_place (λ (e : ℕ × World). labels_of_world e.0 e.1) (enumerate_from 0 worlds) k n (k, world) next here
    ∙ append_assoc (flat_map (λ (d : Entry). interface_at_label k false d.0 d.1) world.imports) (flat_map (λ (d : Entry). interface_at_label k true d.0 d.1) world.exports) (labels_from worlds n)

pub none_left : (worlds : List World) (k : ℕ) → k ≡ length worlds → labels_from worlds k ≡ []
none_left worlds k all = ap (flat_map (λ (e : ℕ × World). labels_of_world e.0 e.1)) (drop_all k (enumerate_from 0 worlds) (let long = length-numbered 0 worlds in omega arith))

-- nothing is noted yet
pub noted-none : (g other : Graph) (named : List (Option ℕ)) → length named ≡ length other.interfaces → ((i : ℕ) → is_unnamed other.interfaces i ≡ true → get_or named i None ≡ None) → AreLabelled g other named [] named
noted-none g other named long none = record { long = long; each = λ i. by i (is_unnamed other.interfaces i) refl }
  where
    by : (i : ℕ) (b : Bool) → is_unnamed other.interfaces i ≡ b → get_or named i None ≡ (if b then None else get_or named i None)
    by i true is = none i is
    by i false is = refl
