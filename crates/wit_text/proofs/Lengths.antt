-- How far the parts of a text go, step by step.
use Rattle.std.proofs.Common.{◌≡◌, ◌∙◌, ℕ, zero, suc, ◌+◌, ◌-◌, ◌<◌, ◌≤◌, ◌==◌, List, [], ◌∷◌, Option, Some, None, Bool, true, false, not, length, get_or, drop, refl, sym, ap, arith}
use Rattle.std.proofs.lemmas.List.{at_drop_more}
use Rattle.std.proofs.lemmas.List.Sums.{suffix_len_is}
use Rattle.std.specs.List.{suffix_len}
use Rattle.wit_sources.specs.Lines.{is_line_feed}
use Rattle.wit_text.specs.Front.{closes, comment_len, more, opens}

-- the last line begins at n: no line feed from n on, and one before it
pub last_line_is : (bytes : List ℕ) (n : ℕ) → n ≤ length bytes → ((k : ℕ) → n ≤ k → k < length bytes → not (get_or bytes k 0 == 10) ≡ true)
    → (0 < n → not (get_or bytes (n - 1) 0 == 10) ≡ false) → n ≡ length bytes - suffix_len (λ b. not (is_line_feed b)) bytes
last_line_is bytes n within line begins =
    let told = suffix_len_is (λ b. not (is_line_feed b)) bytes n 0 within line begins in rw told (omega arith)

pub more-more : (m n : ℕ) (o : Option ℕ) → more m (more n o) ≡ more (m + n) o
more-more m n None = refl
more-more m n (Some k) = let same : m + (n + k) ≡ m + n + k = omega arith in ap Some same

-- comments
abbrev told : ℕ → ℕ → List ℕ → Bool → Bool → Option ℕ
told inner b bs opened closed = elim opened [
  | true ↦ more 2 (comment_len (suc inner) bs)
  | false ↦ elim closed [
    | true ↦ elim inner [ zero ↦ Some 2 | suc n ↦ more 2 (comment_len n bs) ]
    | false ↦ more 1 (comment_len inner (b ∷ bs))
  ]
]

pub comment_opened : (inner a b : ℕ) (bs : List ℕ) → opens a b ≡ true → comment_len inner (a ∷ b ∷ bs) ≡ more 2 (comment_len (suc inner) bs)
comment_opened inner a b bs is = ap (λ v. told inner b bs v (closes a b)) is

pub comment_closed : (a b : ℕ) (bs : List ℕ) → opens a b ≡ false → closes a b ≡ true → comment_len 0 (a ∷ b ∷ bs) ≡ Some 2
comment_closed a b bs not_open is = ap (λ v. told 0 b bs v (closes a b)) not_open ∙ ap (λ v. told 0 b bs false v) is

pub inner_closed : (n a b : ℕ) (bs : List ℕ) → opens a b ≡ false → closes a b ≡ true → comment_len (suc n) (a ∷ b ∷ bs) ≡ more 2 (comment_len n bs)
inner_closed n a b bs not_open is = ap (λ v. told (suc n) b bs v (closes a b)) not_open ∙ ap (λ v. told (suc n) b bs false v) is

pub comment_goes_on : (inner a b : ℕ) (bs : List ℕ) → opens a b ≡ false → closes a b ≡ false → comment_len inner (a ∷ b ∷ bs) ≡ more 1 (comment_len inner (b ∷ bs))
comment_goes_on inner a b bs not_open not_closed = ap (λ v. told inner b bs v (closes a b)) not_open ∙ ap (λ v. told inner b bs false v) not_closed

short_comment : (inner : ℕ) (bytes : List ℕ) → length bytes ≤ 1 → comment_len inner bytes ≡ None
short_comment inner [] short = refl
short_comment inner (a ∷ []) short = refl
short_comment inner (a ∷ b ∷ bs) short = absurd (omega arith)

pub comment_end : (bytes : List ℕ) (i inner : ℕ) (whole : Option ℕ) → length (drop i bytes) ≤ 1 → more i (comment_len inner (drop i bytes)) ≡ whole → None ≡ whole
comment_end bytes i inner whole short left = sym (ap (more i) (short_comment inner (drop i bytes) short)) ∙ left

module _ (bytes : List ℕ) (i inner : ℕ) (whole : Option ℕ) (within : i + 1 < length bytes) (left : more i (comment_len inner (drop i bytes)) ≡ whole) where
  two : drop i bytes ≡ get_or bytes i 0 ∷ get_or bytes (i + 1) 0 ∷ drop (i + 2) bytes
  two =
      let first : drop i bytes ≡ get_or bytes i 0 ∷ drop (i + 1) bytes = at_drop_more (λ xs. xs) bytes i 0 (omega arith) in
      let second : drop (i + 1) bytes ≡ get_or bytes (i + 1) 0 ∷ drop (i + 1 + 1) bytes = at_drop_more (λ xs. xs) bytes (i + 1) 0 within in
      let same : i + 1 + 1 ≡ i + 2 = omega arith in
      first ∙ ap (λ xs. get_or bytes i 0 ∷ xs) second ∙ ap (λ n. get_or bytes i 0 ∷ get_or bytes (i + 1) 0 ∷ drop n bytes) same

  rest : more i (comment_len inner (get_or bytes i 0 ∷ get_or bytes (i + 1) 0 ∷ drop (i + 2) bytes)) ≡ whole
  rest = sym (ap (λ xs. more i (comment_len inner xs)) two) ∙ left

  pub opens_here : opens (get_or bytes i 0) (get_or bytes (i + 1) 0) ≡ true → more (i + 2) (comment_len (inner + 1) (drop (i + 2) bytes)) ≡ whole
  opens_here is =
      let next : inner + 1 ≡ suc inner = omega arith in
      ap (λ n. more (i + 2) (comment_len n (drop (i + 2) bytes))) next ∙ sym (more-more i 2 (comment_len (suc inner) (drop (i + 2) bytes)))
      ∙ sym (ap (more i) (comment_opened inner (get_or bytes i 0) (get_or bytes (i + 1) 0) (drop (i + 2) bytes) is)) ∙ rest

  pub goes_on_here : opens (get_or bytes i 0) (get_or bytes (i + 1) 0) ≡ false → closes (get_or bytes i 0) (get_or bytes (i + 1) 0) ≡ false
      → more (i + 1) (comment_len inner (drop (i + 1) bytes)) ≡ whole
  goes_on_here not_open not_closed =
      let same : i + 1 + 1 ≡ i + 2 = omega arith in
      let second : drop (i + 1) bytes ≡ get_or bytes (i + 1) 0 ∷ drop (i + 2) bytes =
      at_drop_more (λ xs. xs) bytes (i + 1) 0 within ∙ ap (λ n. get_or bytes (i + 1) 0 ∷ drop n bytes) same in
      ap (λ xs. more (i + 1) (comment_len inner xs)) second ∙ sym (more-more i 1 (comment_len inner (get_or bytes (i + 1) 0 ∷ drop (i + 2) bytes)))
      ∙ sym (ap (more i) (comment_goes_on inner (get_or bytes i 0) (get_or bytes (i + 1) 0) (drop (i + 2) bytes) not_open not_closed)) ∙ rest

  pub closes_all : opens (get_or bytes i 0) (get_or bytes (i + 1) 0) ≡ false → closes (get_or bytes i 0) (get_or bytes (i + 1) 0) ≡ true → inner ≡ 0 → Some (i + 2) ≡ whole
  closes_all not_open is none =
      sym (ap (more i) (ap (λ n. comment_len n (get_or bytes i 0 ∷ get_or bytes (i + 1) 0 ∷ drop (i + 2) bytes)) none ∙ comment_closed (get_or bytes i 0) (get_or bytes (i + 1) 0) (drop (i + 2) bytes) not_open is)) ∙ rest

  pub closes_one : (n : ℕ) → opens (get_or bytes i 0) (get_or bytes (i + 1) 0) ≡ false → closes (get_or bytes i 0) (get_or bytes (i + 1) 0) ≡ true → inner ≡ suc n
      → more (i + 2) (comment_len n (drop (i + 2) bytes)) ≡ whole
  closes_one n not_open is one =
      sym (more-more i 2 (comment_len n (drop (i + 2) bytes)))
      ∙ sym (ap (more i) (ap (λ k. comment_len k (get_or bytes i 0 ∷ get_or bytes (i + 1) 0 ∷ drop (i + 2) bytes)) one ∙ inner_closed n (get_or bytes i 0) (get_or bytes (i + 1) 0) (drop (i + 2) bytes) not_open is)) ∙ rest
