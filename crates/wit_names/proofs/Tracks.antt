-- The text of a track, by the parts of the version that it has.
use Rattle.std.proofs.Common.{◌≡◌, ◌≤◌, ℕ, ◌∙◌, Bool, true, false, not, List, [], ◌∷◌, ◌++◌, inl, inr, ap, sym, subst, refl, length, take, length-append, append_assoc, eqb, arith}
use Rattle.std.specs.Prelude.{decimal, IsCharBoundary, IsUtf8}
use Rattle.std.specs.Fmt.{digits}
use Rattle.std.proofs.lemmas.Bool.{cond-true, cond-false, eq-eqb, false≢true}
use Rattle.std.proofs.lemmas.Bool.Decides.{eqb_tells}
use Rattle.std.proofs.lemmas.Str.{IsCharBoundary-from_take}
use Rattle.std.proofs.Math.Seq.{take-append_seam}
use Rattle.std.proofs.lemmas.List.{append-nil}
use Rattle.semver.specs.Identifiers.{marked, parts_text}
use Rattle.wit_values.specs.Version.{Parts}
use Rattle.wit_names.specs.Track.{release_track_text, track_text}

marked_some : (mark : ℕ) (bs : List ℕ) → eqb (length bs) 0 ≡ false → marked mark bs ≡ mark ∷ bs
marked_some mark [] fails = absurd (false≢true (sym fails))
marked_some mark (b ∷ bs) fails = refl

-- of a pre-release
pub track_of_pre : (v : Parts) → eqb (length v.3) 0 ≡ false → track_text v ≡ decimal v.0 ++ (46 ∷ (decimal v.1 ++ (46 ∷ (decimal v.2 ++ (45 ∷ v.3)))))
track_of_pre v fails =
    cond-false (eqb (length v.3) 0) (release_track_text v.0 v.1 v.2) (parts_text (v.0, v.1, v.2, v.3, [])) fails
    ∙ ap (λ (us : List ℕ). decimal v.0 ++ (46 ∷ (decimal v.1 ++ (46 ∷ (decimal v.2 ++ us))))) (append-nil (marked 45 v.3) ∙ marked_some 45 v.3 fails)

track_of_release : (v : Parts) → eqb (length v.3) 0 ≡ true → track_text v ≡ release_track_text v.0 v.1 v.2
track_of_release v is = cond-true (eqb (length v.3) 0) (release_track_text v.0 v.1 v.2) (parts_text (v.0, v.1, v.2, v.3, [])) is

-- of a release of a major version other than 0
pub track_of_major : (v : Parts) → eqb (length v.3) 0 ≡ true → eqb v.0 0 ≡ false → track_text v ≡ decimal v.0
track_of_major v is fails = track_of_release v is ∙ cond-false (eqb v.0 0) _ (decimal v.0) fails

-- of a minor version other than 0
pub track_of_minor : (v : Parts) → eqb (length v.3) 0 ≡ true → eqb v.0 0 ≡ true → eqb v.1 0 ≡ false → track_text v ≡ 48 ∷ 46 ∷ decimal v.1
track_of_minor v is none fails = track_of_release v is ∙ cond-true (eqb v.0 0) _ (decimal v.0) none ∙ cond-false (eqb v.1 0) _ (48 ∷ 46 ∷ decimal v.1) fails

-- of any other
pub track_of_patch : (v : Parts) → eqb (length v.3) 0 ≡ true → eqb v.0 0 ≡ true → eqb v.1 0 ≡ true → track_text v ≡ 48 ∷ 46 ∷ 48 ∷ 46 ∷ decimal v.2
unfolding digits
track_of_patch v is none also =
    track_of_release v is ∙ cond-true (eqb v.0 0) _ (decimal v.0) none ∙ cond-true (eqb v.1 0) (parts_text (0, 0, v.2, [], [])) (48 ∷ 46 ∷ decimal v.1) also
    ∙ ap (λ (us : List ℕ). 48 ∷ 46 ∷ 48 ∷ 46 ∷ us) (append-nil (decimal v.2))

pub not_false : (b : Bool) → not b ≡ false → b ≡ true
not_false true is = refl
not_false false is = sym is

-- ---- the text of a version begins with that of its track

-- something follows the text of the track
abbrev pub BeginsWithTrack : Parts → Type 0
BeginsWithTrack v = (rest : List ℕ) × (parts_text v ≡ track_text v ++ rest)

-- what follows the second number
abbrev after_minor : Parts → List ℕ
after_minor v = 46 ∷ (decimal v.2 ++ (marked 45 v.3 ++ marked 43 v.4))

pre_begins : (v : Parts) → eqb (length v.3) 0 ≡ false → BeginsWithTrack v
pre_begins v fails =
    let joined : decimal v.0 ++ (46 ∷ (decimal v.1 ++ (46 ∷ (decimal v.2 ++ ((45 ∷ v.3) ++ marked 43 v.4)))))
    ≡ (decimal v.0 ++ (46 ∷ (decimal v.1 ++ (46 ∷ (decimal v.2 ++ (45 ∷ v.3)))))) ++ marked 43 v.4 = simp append_assoc in (
      marked 43 v.4,
      ap (λ (us : List ℕ). decimal v.0 ++ (46 ∷ (decimal v.1 ++ (46 ∷ (decimal v.2 ++ (us ++ marked 43 v.4)))))) (marked_some 45 v.3 fails)
          ∙ joined ∙ ap (λ us. us ++ marked 43 v.4) (sym (track_of_pre v fails)),
    )

major_begins : (v : Parts) → eqb (length v.3) 0 ≡ true → eqb v.0 0 ≡ false → BeginsWithTrack v
major_begins v is fails =
    let rest = 46 ∷ (decimal v.1 ++ after_minor v) in (rest, ap (λ us. us ++ rest) (sym (track_of_major v is fails)))

minor_begins : (v : Parts) → eqb (length v.3) 0 ≡ true → v.0 ≡ 0 → eqb v.1 0 ≡ false → BeginsWithTrack v
unfolding digits
minor_begins v is none fails =
    let rest = after_minor v in
    (rest, ap (λ (n : ℕ). decimal n ++ (46 ∷ (decimal v.1 ++ rest))) none ∙ ap (λ us. us ++ rest) (sym (track_of_minor v is (eq-eqb v.0 0 none) fails)))

patch_begins : (v : Parts) → eqb (length v.3) 0 ≡ true → v.0 ≡ 0 → v.1 ≡ 0 → BeginsWithTrack v
unfolding digits
patch_begins v is none also =
    let rest = marked 45 v.3 ++ marked 43 v.4 in (
      rest,
      ap (λ (n : ℕ). decimal n ++ (46 ∷ (decimal v.1 ++ (46 ∷ (decimal v.2 ++ rest))))) none ∙ ap (λ (n : ℕ). 48 ∷ 46 ∷ (decimal n ++ (46 ∷ (decimal v.2 ++ rest)))) also
          ∙ ap (λ us. us ++ rest) (sym (track_of_patch v is (eq-eqb v.0 0 none) (eq-eqb v.1 0 also))),
    )

release_begins : (v : Parts) → eqb (length v.3) 0 ≡ true → BeginsWithTrack v
release_begins v is =
    elim (eqb_tells v.0 0) [
      | inl zero_major ↦ elim (eqb_tells v.1 0) [ inl zero_minor ↦ patch_begins v is zero_major.1 zero_minor.1 | inr some_minor ↦ minor_begins v is zero_major.1 some_minor.0 ]
      | inr some_major ↦ major_begins v is some_major.0
    ]

pub begins_with_track : (v : Parts) → BeginsWithTrack v
begins_with_track v = elim (eqb_tells (length v.3) 0) [ inl release ↦ release_begins v release.0 | inr pre ↦ pre_begins v pre.0 ]

-- the text of a version may be cut where that of its track ends
pub whole_after_track : (v : Parts) → IsUtf8 (parts_text v) → IsUtf8 (track_text v) → IsCharBoundary (parts_text v) (length (track_text v))
whole_after_track v whole track =
    let e : parts_text v ≡ track_text v ++ (begins_with_track v).0 = (begins_with_track v).1 in
    let cut : take (length (track_text v)) (parts_text v) ≡ track_text v = ap (take (length (track_text v))) e ∙ take-append_seam (track_text v) (begins_with_track v).0 in
    let within : length (track_text v) ≤ length (parts_text v) = omega (arith, ap length e, length-append (track_text v) (begins_with_track v).0) in
    IsCharBoundary-from_take (parts_text v) (length (track_text v)) whole within (subst IsUtf8 (sym cut) track)
