-- Lists that grow part by part.
use Rattle.std.proofs.Common.{◌≡◌, ◌∙◌, ◌+◌, ◌++◌, ◌<◌, ◌∷◌, [], ℕ, List, Result, Ok, Err, OnOk, ap, append_assoc, get_or, if◌then◌else◌, is_ok, length, sym, take}
use Rattle.std.proofs.lemmas.Grind.{flat_map-append}
use Rattle.std.proofs.lemmas.List.{append-nil, take_more}
use Rattle.std.specs.List.{flat_map}

appended : {A : Type 0} (start one two three end a b c d : List A) → one ≡ start ++ a → two ≡ one ++ b → three ≡ two ++ c → end ≡ three ++ d → end ≡ start ++ (a ++ (b ++ (c ++ d)))
appended start one two three end a b c d first second third fourth =
    fourth ∙ (ap (λ l. l ++ d) third ∙ (append_assoc two c d ∙ (ap (λ l. l ++ (c ++ d)) second ∙ (append_assoc one b (c ++ d) ∙ (ap (λ l. l ++ (b ++ (c ++ d))) first ∙ append_assoc start a (b ++ (c ++ d)))))))

-- what is so where all goes well
pub when-ok : {A X E : Type 0} (told : Result X E) (end part before : List A) → end ≡ (if is_ok told then part else before) → OnOk told (end ≡ part)
when-ok (Ok x) end part before is = is
when-ok (Err e) end part before is = tt

-- so where the last part comes only if all goes well
pub appended-ok : {A X E : Type 0} (told : Result X E) (start one two three end a b c d : List A) → one ≡ start ++ a → two ≡ one ++ b → three ≡ two ++ c
    → OnOk told (end ≡ three ++ d) → OnOk told (end ≡ start ++ (a ++ (b ++ (c ++ d))))
appended-ok (Ok x) start one two three end a b c d first second third fourth = appended start one two three end a b c d first second third fourth
appended-ok (Err e) start one two three end a b c d first second third fourth = tt

-- a list of six parts
pub joined : {A : Type 0} (one two three four five six a b c d e f : List A) → one ≡ a → two ≡ one ++ b → three ≡ two ++ c → four ≡ three ++ d → five ≡ four ++ e → six ≡ five ++ f
    → six ≡ a ++ (b ++ (c ++ (d ++ (e ++ f))))
joined one two three four five six a b c d e f first second third fourth fifth sixth =
    appended two three four five six c d e f third fourth fifth sixth ∙ (ap (λ l. l ++ (c ++ (d ++ (e ++ f)))) (second ∙ ap (λ l. l ++ b) first) ∙ append_assoc a b (c ++ (d ++ (e ++ f))))

-- three parts, so where the last part comes only if all goes well
pub three-ok : {A X E : Type 0} (told : Result X E) (start one two end a b c : List A) → one ≡ start ++ a → two ≡ one ++ b → OnOk told (end ≡ two ++ c) → OnOk told (end ≡ start ++ (a ++ (b ++ c)))
three-ok (Ok x) start one two end a b c first second third =
    third ∙ (ap (λ l. l ++ c) second ∙ (append_assoc one b c ∙ (ap (λ l. l ++ (b ++ c)) first ∙ append_assoc start a (b ++ c))))
three-ok (Err e) start one two end a b c first second third = tt

-- the piece of one more member, behind some part
pub piece-behind : {A X : Type 0} (piece : X → List A) (xs : List X) (i : ℕ) (x : X) (start part before after : List A) → i < length xs → x ≡ get_or xs i x
    → before ≡ start ++ (part ++ flat_map piece (take i xs)) → after ≡ before ++ piece x → after ≡ start ++ (part ++ flat_map piece (take (i + 1) xs))
piece-behind piece xs i x start part before after below is had next =
    let pieces = flat_map piece (take i xs) in
    let last : flat_map piece (x ∷ []) ≡ piece x = append-nil (piece x) in
    let more : flat_map piece (take (i + 1) xs) ≡ pieces ++ piece x =
    ap (flat_map piece) (take_more xs i x below ∙ ap (λ y. take i xs ++ y ∷ []) (sym is)) ∙ (flat_map-append piece (take i xs) (x ∷ []) ∙ ap (λ l. pieces ++ l) last) in
    next ∙ (ap (λ l. l ++ piece x) had ∙ (append_assoc start (part ++ pieces) (piece x)
    ∙ ap (λ l. start ++ l) (append_assoc part pieces (piece x) ∙ ap (λ l. part ++ l) (sym more))))
