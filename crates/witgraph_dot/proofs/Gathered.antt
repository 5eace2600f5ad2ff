-- What is listed, added part by part.
use Rattle.std.proofs.Common.{◌≡◌, ◌∙◌, ◌+◌, ◌++◌, ◌-◌, ◌<◌, ◌∷◌, [], ℕ, zero, suc, Bool, true, false, List, Result, Ok, Err, Some, Option, OnOk, add-one, ap, append_assoc, drop, fold, get_or, if◌then◌else◌, length, refl, subst, sym, arith}
use Rattle.std.proofs.Math.Seq.{drop-cons}
use Rattle.std.proofs.lemmas.List.{append-nil, length-append}
use Rattle.std.proofs.lemmas.List.Sums.{fold-append}
use Rattle.std.specs.List.{enumerate_from, flat_map}
use Rattle.witgraph_dot.specs.Listed.{and_link, and_links, has_link, listed_for, with_links}
use Rattle.witgraph_dot.specs.Pushed.{repeated}
use Rattle.witgraph_dot.specs.steps.Parts.{links_for, world_links, with_brought}

-- what lines list for one world is added as things of that world
for-one : (links : List (ℕ × ℕ)) (things : List ℕ) (w : ℕ) → with_links links (links_for things w) ≡ and_links links w things
for-one links [] w = refl
for-one links (t ∷ ts) w = for-one (and_link links w t) ts w

pub world-listed : {X E : Type 0} (told : Result X E) (links after : List (ℕ × ℕ)) (things : List ℕ) (found : Option ℕ) (w : ℕ) → found ≡ Some w → after ≡ and_links links w things
    → OnOk told (after ≡ with_links links (world_links things found))
world-listed (Ok x) links after things found w is listed =
    listed ∙ (sym (for-one links things w) ∙ ap (λ (o : Option ℕ). with_links links (world_links things o)) (sym is))
world-listed (Err e) links after things found w is listed = tt

-- of what is left of a list, the first and the others
pub left-first : {X : Type 0} (xs : List X) (i : ℕ) (x : X) → i < length xs → x ≡ get_or xs i x → drop i xs ≡ x ∷ drop (i + 1) xs
left-first xs i x below is = drop-cons xs i x below ∙ (ap (λ y. y ∷ drop (suc i) xs) (sym is) ∙ ap (λ n. x ∷ drop n xs) (sym (add-one i)))

-- of what is left of a list with its places, the first and the others
pub first-left : {X : Type 0} (xs : List X) (i : ℕ) (x : X) → i < length xs → x ≡ get_or xs i x → enumerate_from i (drop i xs) ≡ (i, x) ∷ enumerate_from (i + 1) (drop (i + 1) xs)
first-left xs i x below is =
    ap (enumerate_from i) (left-first xs i x below is)

module _ {A X : Type 0} (piece : X → List A) (first : X) (left others : List X) (split : left ≡ first ∷ others) where
  -- the others make what is there with the first one what all make
  pub others-make : {B : Type 0} (add : B → A → B) (before after total : B) → fold add before (flat_map piece left) ≡ total → after ≡ fold add before (piece first) → fold add after (flat_map piece others) ≡ total
  others-make add before after total made next =
      ap (λ b. fold add b (flat_map piece others)) next ∙ (sym (fold-append add before (piece first) (flat_map piece others))
      ∙ (ap (λ l. fold add before (flat_map piece l)) (sym split) ∙ made))

  pub others-end : (before after total : List A) → before ++ flat_map piece left ≡ total → after ≡ before ++ piece first → after ++ flat_map piece others ≡ total
  others-end before after total made next =
      ap (λ (l : List A). l ++ flat_map piece others) next ∙ (append_assoc before (piece first) (flat_map piece others)
      ∙ (ap (λ l. before ++ flat_map piece l) (sym split) ∙ made))

-- the rounds that are left after one more
pub rounds-left : (includes : List (ℕ × ℕ)) (n k : ℕ) (before after total : List (ℕ × ℕ)) → k < n → repeated includes (n - k) before ≡ total
    → after ≡ fold with_brought before includes → repeated includes (n - (k + 1)) after ≡ total
rounds-left includes n k before after total below made next =
    let one : n - k ≡ suc (n - (k + 1)) = omega arith in
    ap (repeated includes (n - (k + 1))) next ∙ (sym (ap (λ m. repeated includes m before) one) ∙ made)

-- ---- a round that adds nothing

-- a list with more behind it
abbrev Grows : {A : Type 0} → List A → List A → Type 0
Grows {A} before after = (more : List A) × (after ≡ before ++ more)

grows-not : {A : Type 0} (xs : List A) → Grows xs xs
grows-not xs = ([], sym (append-nil xs))

grows-on : {A : Type 0} (a b c : List A) → Grows a b → Grows b c → Grows a c
grows-on a b c first second = (first.0 ++ second.0, second.1 ∙ (ap (λ l. l ++ second.0) first.1 ∙ append_assoc a first.0 second.0))

if-grows : {A : Type 0} (b : Bool) (xs : List A) (x : A) → Grows xs (if b then xs else xs ++ x ∷ [])
if-grows true xs x = grows-not xs
if-grows false xs x = (x ∷ [], refl)

and_links-grow : (links : List (ℕ × ℕ)) (w : ℕ) (things : List ℕ) → Grows links (and_links links w things)
and_links-grow links w [] = grows-not links
and_links-grow links w (t ∷ ts) =
    grows-on links (and_link links w t) (and_links links w (t ∷ ts)) (if-grows (has_link links w t) links (w, t)) (and_links-grow (and_link links w t) w ts)

fold-grows : {A X : Type 0} (step : List A → X → List A) → ((l : List A) (x : X) → Grows l (step l x)) → (l : List A) (xs : List X) → Grows l (fold step l xs)
fold-grows step grows l [] = grows-not l
fold-grows step grows l (x ∷ xs) = grows-on l (step l x) (fold step l (x ∷ xs)) (grows l x) (fold-grows step grows (step l x) xs)

-- what has grown and is as long is the same
grown-same : {A : Type 0} (before after : List A) → Grows before after → length after ≡ length before → after ≡ before
grown-same {A} before after grown same = of grown.0 grown.1 where
  of : (more : List A) → after ≡ before ++ more → after ≡ before
  of [] is = is ∙ append-nil before
  of (x ∷ more) is =
      let whole : length after ≡ length (before ++ x ∷ more) = ap length is in
      let sum : length (before ++ x ∷ more) ≡ length before + suc (length more) = length-append before (x ∷ more) in
      absurd (omega (arith, whole, sum, same))

repeated-same : (includes : List (ℕ × ℕ)) (n : ℕ) (all : List (ℕ × ℕ)) → fold with_brought all includes ≡ all → repeated includes n all ≡ all
repeated-same includes zero all same = refl
repeated-same includes (suc n) all same = ap (repeated includes n) same ∙ repeated-same includes n all same

-- what rounds make that are left where one adds nothing
pub rounds-end : (includes : List (ℕ × ℕ)) (n : ℕ) (before after total : List (ℕ × ℕ)) → repeated includes n before ≡ total → after ≡ fold with_brought before includes
    → length after ≡ length before → after ≡ total
rounds-end includes n before after total made next same =
    let grows = fold-grows with_brought (λ links (one : ℕ × ℕ). and_links-grow links one.0 (listed_for one.1 links)) before includes in
    let stays : after ≡ before = grown-same before after (subst (Grows before) (sym next) grows) same in
    stays ∙ (sym (repeated-same includes n before (sym next ∙ stays)) ∙ made)
