-- The reading of use paths is that of their grammar.
use Rattle.std.proofs.Common.{◌≡◌, ℕ, List, [], ◌∷◌, ◌++◌, Bool, true, false, Option, Some, None, Result, Ok, Err, refl, sym, ap, ◌∙◌, subst, inl, inr, append-nil}
use Rattle.std.proofs.lemmas.Bool.{cases_Bool, and_parts, or_left, or_right, eq-eqb, false_from_ne_true}
use Rattle.std.specs.Prelude.{◌==◌, ◌&&◌, ◌↔◌, IfSome, option_map}
use Rattle.std.specs.List.{list_any, before_first, after_first}
use Rattle.std.specs.Result.{result_ok}
use Rattle.semver.specs.Grammar.{IsValid}
use Rattle.semver.specs.Parse.{version_parts}
use Rattle.semver.specs.Identifiers.{parts_text}
use Rattle.semver.specs.declared.error.Error.{Error}
use Rattle.semver.proofs.Grammar.{version_parts-sound, version_parts-complete}
use Rattle.wit_values.specs.Version.{Parts}
use Rattle.wit_names.specs.PackageName.{version_suffix}
use Rattle.wit_names.specs.declared.use_path.ParsedUsePath.{ParsedUsePath}
use Rattle.wit_names.specs.declared.use_path.ParsedUsePath.TheVariants.{Name, Package}
use Rattle.wit_names.specs.UsePath.{is_kebab_name, version_after, package_path_of, use_path_of, IsKebabName, IsUsePath}
use Rattle.wit_names.proofs.Cuts.{before_first-none, after_first-none, before_first-at, after_first-at, cut-whole}
use Rattle.wit_names.specs.declared.package_name.PackageName.{PackageName}
use Rattle.wit_names.proofs.Kebab.{is_kebab_byte, kebab-lacks}

-- ---- from a reading to the grammar

-- where what follows a byte is there, so is the byte
cut-there : (c : ℕ) (text : List ℕ) → (after_first (λ b. b == c) text ≡ [] → ⊥) → text ≡ before_first (λ b. b == c) text ++ (c ∷ after_first (λ b. b == c) text)
cut-there c text there = elim (cases_Bool (list_any (λ b. b == c) text)) [
  | inl some ↦ cut-whole c text some
  | inr none ↦ absurd (there (after_first-none (λ b. b == c) text none))
]

-- what a kebab name stands before is not empty
kebab-there : (c : ℕ) (text : List ℕ) → is_kebab_name (before_first (λ b. b == c) text) ≡ true → text ≡ [] → ⊥
unfolding is_kebab_name
kebab-there c text is empty = cc (sym (ap (λ (t : List ℕ). is_kebab_name (before_first (λ b. b == c) t)) empty) ∙ is)

-- the suffix of what follows a name
suffix_read : (tail : List ℕ) (version : Option Parts) → version_after tail ≡ Some version → (tail ≡ before_first (λ b. b == 64) tail ++ version_suffix version) × IfSome version IsValid
suffix_read tail version read = elim (cases_Bool (list_any (λ b. b == 64) tail)) [
  | inl some ↦ suffix_versioned tail (version_parts (after_first (λ b. b == 64) tail)) version refl some (rw some at read)
  | inr none ↦ suffix_bare tail version none (rw none at read)
]
  where
    suffix_bare : (tail : List ℕ) (version : Option Parts) → list_any (λ b. b == 64) tail ≡ false → Some None ≡ Some version → (tail ≡ before_first (λ b. b == 64) tail ++ version_suffix version) × IfSome version IsValid
    suffix_bare tail None none read = (sym (append-nil (before_first (λ b. b == 64) tail) ∙ before_first-none (λ b. b == 64) tail none), tt)
    suffix_bare tail (Some p) none read = cc

    suffix_versioned : (tail : List ℕ) (parts : Result Parts Error) (version : Option Parts) → version_parts (after_first (λ b. b == 64) tail) ≡ parts → list_any (λ b. b == 64) tail ≡ true
        → option_map Some (result_ok parts) ≡ Some version → (tail ≡ before_first (λ b. b == 64) tail ++ version_suffix version) × IfSome version IsValid
    suffix_versioned tail (Ok p) None is some read = cc
    suffix_versioned tail (Ok p) (Some q) is some read =
        let same : p ≡ q = cc in
        let sound = version_parts-sound (after_first (λ b. b == 64) tail) q (is ∙ ap (λ (v : Parts). Ok v) same) in
        (cut-whole 64 tail some ∙ ap (λ (rest : List ℕ). before_first (λ b. b == 64) tail ++ (64 ∷ rest)) (sym sound.0), sound.1)
    suffix_versioned tail (Err e) version is some read = cc

-- what a reading round the `:` and the `/` says
record IsPackageReading (namespace parent tail : List ℕ) (path : ParsedUsePath) : Type 0 where
  version : Option Parts
  is : path
      ≡ Package (record { namespace = namespace; name = parent; version = version })
      (before_first (λ b. b == 64) tail)
  namespace_kebab : is_kebab_name namespace ≡ true
  parent_kebab : is_kebab_name parent ≡ true
  name_kebab : is_kebab_name (before_first (λ b. b == 64) tail) ≡ true
  whole : tail ≡ before_first (λ b. b == 64) tail ++ version_suffix version
  valid : IfSome version IsValid

-- the three names of a reading
abbrev are_kebab : List ℕ → List ℕ → List ℕ → Bool
are_kebab namespace parent tail =
    is_kebab_name namespace
    && (is_kebab_name parent && is_kebab_name (before_first (λ b. b == 64) tail))

package_reading : (namespace parent tail : List ℕ) (path : ParsedUsePath) → package_path_of namespace parent tail ≡ Some path → IsPackageReading namespace parent tail path
package_reading namespace parent tail path read = elim (cases_Bool (are_kebab namespace parent tail)) [
  | inl kebab ↦ named (version_after tail) kebab refl (rw kebab at read)
  | inr other ↦ let never : None ≡ Some path = rw other at read in cc
]
  where
    named : (version : Option (Option Parts)) → are_kebab namespace parent tail ≡ true → version_after tail ≡ version
        → option_map (λ v. Package (record { namespace = namespace; name = parent; version = v }) (before_first (λ b. b == 64) tail)) version ≡ Some path → IsPackageReading namespace parent tail path
    named None kebab after read = cc
    named (Some version) kebab after read =
        let first = and_parts (is_kebab_name namespace) (is_kebab_name parent && is_kebab_name (before_first (λ b. b == 64) tail)) kebab in
        let second = and_parts (is_kebab_name parent) (is_kebab_name (before_first (λ b. b == 64) tail)) first.1 in
        let suffix = suffix_read tail version after in
        record {
          version = version;
          is = cc;
          namespace_kebab = first.0;
          parent_kebab = second.0;
          name_kebab = second.1;
          whole = suffix.0;
          valid = suffix.1;
        }

sound : (text : List ℕ) (path : ParsedUsePath) → use_path_of text ≡ Some path → IsUsePath text path
unfolding use_path_of
sound text path read = elim (cases_Bool (is_kebab_name text)) [
  | inl is ↦
      let alone : Some (Name text) ≡ Some path = rw is at read in
      let same : path ≡ Name text = cc in
      subst (IsUsePath text) (sym same) (is, refl)
  | inr other ↦
      let rest = after_first (λ b. b == 58) text in
      let parent = before_first (λ b. b == 47) rest in
      let tail = after_first (λ b. b == 47) rest in
      let reading = package_reading (before_first (λ b. b == 58) text) parent tail path (rw other at read) in
      let outer : text ≡ before_first (λ b. b == 58) text ++ (58 ∷ rest) = cut-there 58 text (kebab-there 47 rest reading.parent_kebab) in
      let inner : rest ≡ parent ++ (47 ∷ tail) = cut-there 47 rest (kebab-there 64 tail reading.name_kebab) in
      let whole = outer ∙ ap (λ (r : List ℕ). before_first (λ b. b == 58) text ++ (58 ∷ r)) (inner ∙ ap (λ (t : List ℕ). parent ++ (47 ∷ t)) reading.whole) in
      subst (IsUsePath text) (sym reading.is) (reading.namespace_kebab, reading.parent_kebab, reading.name_kebab, reading.valid, whole)
]

-- ---- from the grammar to a reading

-- a name before a byte that it lacks
has-byte : (c : ℕ) (name rest : List ℕ) → list_any (λ b. b == c) (name ++ (c ∷ rest)) ≡ true
has-byte c [] rest = or_left (c == c) (list_any (λ b. b == c) rest) (eq-eqb c c refl)
has-byte c (x ∷ name) rest = or_right (x == c) (list_any (λ b. b == c) (name ++ (c ∷ rest))) (has-byte c name rest)

before-name : (c : ℕ) (name rest : List ℕ) → is_kebab_byte c ≡ false → is_kebab_name name ≡ true → before_first (λ b. b == c) (name ++ (c ∷ rest)) ≡ name
before-name c name rest other is = before_first-at (λ b. b == c) name c rest (kebab-lacks c name other is) (eq-eqb c c refl)

after-name : (c : ℕ) (name rest : List ℕ) → is_kebab_byte c ≡ false → is_kebab_name name ≡ true → after_first (λ b. b == c) (name ++ (c ∷ rest)) ≡ rest
after-name c name rest other is = after_first-at (λ b. b == c) name c rest (kebab-lacks c name other is) (eq-eqb c c refl)

-- the name and the version of what follows the `/`
tail_name : (name : List ℕ) (version : Option Parts) → is_kebab_name name ≡ true → before_first (λ b. b == 64) (name ++ version_suffix version) ≡ name
tail_name name None is = ap (before_first (λ b. b == 64)) (append-nil name) ∙ before_first-none (λ b. b == 64) name (kebab-lacks 64 name refl is)
tail_name name (Some version) is = before-name 64 name (parts_text version) refl is

tail_version : (name : List ℕ) (version : Option Parts) → is_kebab_name name ≡ true → IfSome version IsValid → version_after (name ++ version_suffix version) ≡ Some version
tail_version name None is valid = ap version_after (append-nil name) ∙ rw (kebab-lacks 64 name refl is) refl
tail_version name (Some version) is valid =
    rw (has-byte 64 name (parts_text version), after-name 64 name (parts_text version) refl is, version_parts-complete version valid) refl

package_complete : (parent : PackageName) (name : List ℕ) → IsKebabName parent.namespace → IsKebabName parent.name → IsKebabName name → IfSome parent.version IsValid
    → package_path_of parent.namespace parent.name (name ++ version_suffix parent.version) ≡ Some (Package parent name)
package_complete parent name namespace_kebab parent_kebab name_kebab valid =
    rw (tail_name name parent.version name_kebab, namespace_kebab, parent_kebab, name_kebab, tail_version name parent.version name_kebab valid) refl

-- the three pieces of a text
pieces : {X : Type 0} (read : List ℕ → List ℕ → List ℕ → X) (text namespace rest parent tail : List ℕ) → before_first (λ b. b == 58) text ≡ namespace → after_first (λ b. b == 58) text ≡ rest
    → before_first (λ b. b == 47) rest ≡ parent → after_first (λ b. b == 47) rest ≡ tail
    → read (before_first (λ b. b == 58) text) (before_first (λ b. b == 47) (after_first (λ b. b == 58) text)) (after_first (λ b. b == 47) (after_first (λ b. b == 58) text)) ≡ read namespace parent tail
pieces read text namespace rest parent tail e1 e2 e3 e4 = rw (e1, e2, e3, e4) refl

complete : (text : List ℕ) (path : ParsedUsePath) → IsUsePath text path → use_path_of text ≡ Some path
unfolding use_path_of
complete text (Name name) is = rw (is.1, is.0) refl
complete text (Package parent name) is =
    let tail = name ++ version_suffix parent.version in
    let rest = parent.name ++ (47 ∷ tail) in
    let colon : list_any (λ b. b == 58) text ≡ true = ap (list_any (λ b. b == 58)) is.4 ∙ has-byte 58 parent.namespace rest in
    let other : is_kebab_name text ≡ false = false_from_ne_true (is_kebab_name text) (λ alone. let lacks = kebab-lacks 58 text refl alone in cc) in
    let namespace : before_first (λ b. b == 58) text ≡ parent.namespace = ap (before_first (λ b. b == 58)) is.4 ∙ before-name 58 parent.namespace rest refl is.0 in
    let follows : after_first (λ b. b == 58) text ≡ rest = ap (after_first (λ b. b == 58)) is.4 ∙ after-name 58 parent.namespace rest refl is.0 in
    rw other
    (pieces package_path_of text parent.namespace rest parent.name tail namespace follows (before-name 47 parent.name tail refl is.1) (after-name 47 parent.name tail refl is.1)
    ∙ package_complete parent name is.0 is.1 is.2 is.3)

-- the reading of a text is what its grammar says
pub use_path_of-grammar : (text : List ℕ) (path : ParsedUsePath) → (use_path_of text ≡ Some path) ↔ IsUsePath text path
use_path_of-grammar text path = (sound text path, complete text path)

-- a text that is no name alone is read in its pieces
pub use_path_of-pieces : (text namespace rest parent tail : List ℕ) → (is_kebab_name text ≡ true → ⊥) → namespace ≡ before_first (λ b. b == 58) text → rest ≡ after_first (λ b. b == 58) text
    → parent ≡ before_first (λ b. b == 47) rest → tail ≡ after_first (λ b. b == 47) rest → use_path_of text ≡ package_path_of namespace parent tail
unfolding use_path_of
use_path_of-pieces text namespace rest parent tail other e1 e2 e3 e4 =
    rw (false_from_ne_true (is_kebab_name text) other) (pieces package_path_of text namespace rest parent tail (sym e1) (sym e2) (sym e3) (sym e4))
