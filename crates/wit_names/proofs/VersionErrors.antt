-- A text that is no version is told so: the errors that `version_parts` gives are never want of memory.
use Rattle.std.proofs.Common.{◌≡◌, ℕ, ◌+◌, ◌-◌, ◌*◌, ◌==◌, List, [], ◌∷◌, length, Bool, true, false, Result, Ok, Err, refl, ap, ◌∙◌, sym, inl, inr}
use Rattle.std.specs.Prelude.{not, if◌then◌else◌, ◌⊎◌, ◌↔◌, IsErr}
use Rattle.semver.specs.declared.error.Error.{Error}
use Rattle.semver.specs.declared.error.ErrorKind.TheVariants as kind
use Rattle.semver.specs.declared.error.Position.{Position}
use Rattle.semver.specs.declared.error.Position.TheVariants as place
use Rattle.semver.specs.Parse.{◌>>=◌, memory_error, is_memory, digits_from, numeric, dot_of, part_end, starts_zero, scan, identifier_len, identifier_of, tail_end, tail_build, tail_pre, version_parts, IsRefused}
use Rattle.wit_values.specs.Version.{Parts}
use Rattle.wit_names.specs.declared.use_path.UsePathFault.{UsePathFault}
use Rattle.wit_names.specs.declared.use_path.UsePathFault.TheVariants as fault

-- whether an answer is no want of memory
abbrev is_told : {A : Type 0} → Result A Error → Bool
is_told (Ok x) = true
is_told (Err e) = not (is_memory e.kind)

is_told-if : {A : Type 0} (test : Bool) (first second : Result A Error) → is_told first ≡ true → is_told second ≡ true → is_told (if test then first else second) ≡ true
is_told-if true first second told others = told
is_told-if false first second told others = others

is_told-bind : {A B : Type 0} (first : Result A Error) (second : A → Result B Error) → is_told first ≡ true → ((x : A) → is_told (second x) ≡ true) → is_told (first >>= second) ≡ true
is_told-bind (Ok x) second told others = others x
is_told-bind (Err e) second told others = told

is_told-digits_from : (pos : Position) (value len : ℕ) (text : List ℕ) → is_told (digits_from pos value len text) ≡ true
unfolding digits_from
is_told-digits_from pos value len [] = search is_told-if
is_told-digits_from pos value len (b ∷ rest) =
    search (is_told-if, is_told-digits_from pos (value * 10 + (b - 48)) (len + 1) rest)

is_told-dot_of : (pos : Position) (text : List ℕ) → is_told (dot_of pos text) ≡ true
is_told-dot_of pos [] = refl
is_told-dot_of pos (b ∷ rest) = search is_told-if

is_told-part_end : (pos : Position) (acc seg : ℕ) (nondigit lead : Bool) → is_told (part_end pos acc seg nondigit lead) ≡ true
is_told-part_end pos acc seg nondigit lead = search is_told-if

is_told-scan : (pos : Position) (acc seg : ℕ) (nondigit lead : Bool) (text : List ℕ) → is_told (scan pos acc seg nondigit lead text) ≡ true
unfolding scan
is_told-scan pos acc seg nondigit lead [] = is_told-part_end pos acc seg nondigit lead
is_told-scan pos acc seg nondigit lead (b ∷ rest) =
    search (is_told-if, is_told-part_end, is_told-scan pos acc (seg + 1) true lead rest, is_told-scan pos acc (seg + 1) nondigit (starts_zero lead seg b) rest, is_told-scan pos (acc + seg + 1) 0 false false rest)

is_told-identifier_of : (pos : Position) (text : List ℕ) → is_told (identifier_of pos text) ≡ true
is_told-identifier_of pos text = is_told-bind (identifier_len pos text) _ (is_told-scan pos 0 0 false false text) (λ n. search is_told-if)

is_told-tail_end : (pos : Position) (major minor patch : ℕ) (pre build text : List ℕ) → is_told (tail_end pos major minor patch pre build text) ≡ true
is_told-tail_end pos major minor patch pre build [] = refl
is_told-tail_end pos major minor patch pre build (b ∷ rest) = refl

is_told-build : (major minor patch : ℕ) (pre text : List ℕ) → is_told (identifier_of place.Build text >>= λ x. tail_end place.Build major minor patch pre x.0 x.1) ≡ true
is_told-build major minor patch pre text =
    is_told-bind (identifier_of place.Build text) _ (is_told-identifier_of place.Build text) (λ x. is_told-tail_end place.Build major minor patch pre x.0 x.1)

is_told-tail_build : (pos : Position) (major minor patch : ℕ) (pre text : List ℕ) → is_told (tail_build pos major minor patch pre text) ≡ true
is_told-tail_build pos major minor patch pre [] = refl
is_told-tail_build pos major minor patch pre (b ∷ rest) = search (is_told-if, is_told-build)

is_told-pre : (major minor patch : ℕ) (text : List ℕ) → is_told (identifier_of place.Pre text >>= λ x. tail_build place.Pre major minor patch x.0 x.1) ≡ true
is_told-pre major minor patch text =
    is_told-bind (identifier_of place.Pre text) _ (is_told-identifier_of place.Pre text) (λ x. is_told-tail_build place.Pre major minor patch x.0 x.1)

is_told-tail_pre : (major minor patch : ℕ) (text : List ℕ) → is_told (tail_pre major minor patch text) ≡ true
is_told-tail_pre major minor patch [] = refl
is_told-tail_pre major minor patch (b ∷ rest) = search (is_told-if, is_told-pre, is_told-tail_build)

-- the numbers of a version, and what follows them
is_told-numbers : (text : List ℕ) → is_told (numeric place.Major text >>= λ x. dot_of place.Major x.1 >>= λ t. numeric place.Minor t >>= λ y. dot_of place.Minor y.1 >>= λ u. numeric place.Patch u >>= λ z. tail_pre x.0 y.0 z.0 z.1) ≡ true
is_told-numbers text =
    is_told-bind (numeric place.Major text) _ (is_told-digits_from place.Major 0 0 text) (λ x.
    is_told-bind (dot_of place.Major x.1) _ (is_told-dot_of place.Major x.1) (λ t.
    is_told-bind (numeric place.Minor t) _ (is_told-digits_from place.Minor 0 0 t) (λ y.
    is_told-bind (dot_of place.Minor y.1) _ (is_told-dot_of place.Minor y.1) (λ u.
    is_told-bind (numeric place.Patch u) _ (is_told-digits_from place.Patch 0 0 u) (λ z.
    is_told-tail_pre x.0 y.0 z.0 z.1)))))

is_told-version_parts : (text : List ℕ) → is_told (version_parts text) ≡ true
is_told-version_parts text = is_told-if (length text == 0) (Err (record { kind = kind.Empty })) _ refl (is_told-numbers text)

-- a text is never refused for want of memory
pub version_parts-not_memory : (text : List ℕ) → version_parts text ≡ Err memory_error → ⊥
version_parts-not_memory text refused = cc (sym (is_told-version_parts text) ∙ ap is_told refused)

-- the fault of a text that is no version is not want of memory, and that of one that is a version is
pub fault_told : (T : Type 0) (parts : Result Parts Error) (error : Error) (told : UsePathFault) → (parts ≡ Err memory_error → ⊥) → (error ≡ memory_error) ⊎ (parts ≡ Err error) → IsRefused {T = T} parts (Err error)
    → ((told ≡ fault.OutOfMemory) ↔ (error ≡ memory_error)) → (told ≡ fault.Invalid → IsErr parts) × (IsErr parts → told ≡ fault.Invalid)
fault_told T (Ok p) error told never which refused means =
    (λ invalid. elim which [ inl memory ↦ let same : told ≡ fault.OutOfMemory = means.1 memory in cc | inr same ↦ cc ], λ is. cc)
fault_told T (Err e) error fault.Invalid never which refused means = (λ _. refl, λ _. refl)
fault_told T (Err e) error fault.OutOfMemory never which refused means =
    let same : error ≡ e = cc in
    (λ _. refl, λ _. absurd (never (ap (λ (x : Error). Err x) (sym same ∙ means.0 refl))))
