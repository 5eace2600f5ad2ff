-- What small values, spans, docs and gates are read from, each as its text.
use Rattle.std.specs.Prelude.{◌≡◌, ℕ, List, [], ◌∷◌, Option, Some, None, Ok, Err, true, codes}
use Rattle.wit_data.specs.declared.stability.Docs.{Docs}
use Rattle.wit_data.specs.declared.stability.Stability.{Stability}
use Rattle.wit_data.specs.declared.stability.Stability.TheVariants.{Unknown, Stable, Unstable}
use Rattle.wit_values.specs.Version.{Parts}
use Rattle.examples_json.specs.values.Gates.{docs_of, release}
use Rattle.wit_json_reading.specs.Documents.{read_from}
use Rattle.wit_json_reading.specs.Gates as gates
use Rattle.wit_json_reading.specs.Reading.{Reading, instead_of, read_list}
use Rattle.wit_json_reading.specs.Values as values
use Rattle.wit_json_reading.specs.declared.fault.Expected.{Expected}
use Rattle.wit_json_reading.specs.declared.fault.Expected.TheVariants as expected
use Rattle.wit_json_reading.specs.declared.fault.Step.{Step}
use Rattle.wit_json_reading.specs.declared.fault.Step.TheVariants as step
use Rattle.wit_json_reading.specs.declared.syntax.JsonPart.TheVariants as part

-- the fault at the end of a path, whose last step comes first
abbrev pub fault_at : {A : Type 0} → List Step → Expected → Reading A
fault_at path e = Err (record { path = path; expected = e })

-- the step to a member
abbrev pub to : List ℕ → Step
to name = step.Member name

abbrev pub number : List ℕ → Reading ℕ
number text = read_from values.read_number text

abbrev pub small_number : List ℕ → Reading ℕ
small_number text = read_from values.read_small_number text

abbrev pub version : List ℕ → Reading Parts
version text = read_from values.read_version text

pub record ExamplesOfReadValues : Type 0 where
  -- a text is one value, with whatever white space
  pub alone : number (codes "12") ≡ Ok 12
  pub in_spaces : number (codes " 12\n") ≡ Ok 12
  pub not_two : number (codes "12 3") ≡ instead_of (expected.Json part.TextEnd)
  pub not_empty : number (codes "") ≡ instead_of (expected.UnfinishedJson part.Value)
  pub not_cut : read_from (read_list values.read_number) (codes "[1,2")
      ≡ instead_of (expected.UnfinishedJson part.CommaOrListEnd)
  -- numbers: digits alone, below 2 ^ 64 or 2 ^ 32
  pub zero : number (codes "0") ≡ Ok 0
  pub largest : number (codes "18446744073709551615") ≡ Ok 18446744073709551615
  pub past_largest : number (codes "18446744073709551616") ≡ instead_of expected.Number
  pub no_fraction : number (codes "1.0") ≡ instead_of expected.Number
  pub no_exponent : number (codes "1e2") ≡ instead_of expected.Number
  pub no_sign : number (codes "-1") ≡ instead_of expected.Number
  pub no_text : number (codes "\"1\"") ≡ instead_of expected.Number
  pub largest_small : small_number (codes "4294967295") ≡ Ok 4294967295
  pub past_small : small_number (codes "4294967296") ≡ instead_of expected.SmallNumber
  pub past_both : small_number (codes "18446744073709551616") ≡ instead_of expected.Number
  -- texts, with escapes
  pub text : read_from values.read_text (codes "\"a\\n\"") ≡ Ok (codes "a\n")
  pub not_text : read_from values.read_text (codes "null") ≡ instead_of expected.Text
  pub true_ : read_from values.read_boolean (codes "true") ≡ Ok true
  pub not_one : read_from values.read_boolean (codes "1") ≡ instead_of expected.Boolean
  -- versions of SemVer 2.0.0
  pub version_ : version (codes "\"1.2.3\"") ≡ Ok (release 1 2 3)
  pub not_shorter : version (codes "\"1.2\"") ≡ instead_of expected.Version
  pub no_number : version (codes "1") ≡ instead_of expected.Text
  -- null for what isn't there
  pub nothing : read_from (values.nullable values.read_number) (codes "null") ≡ Ok None
  pub something : read_from (values.nullable values.read_number) (codes "7") ≡ Ok (Some 7)
  -- lists; the fault of an item is told at its index, the first one alone
  pub items : read_from (read_list values.read_number) (codes "[1, 2]") ≡ Ok (1 ∷ 2 ∷ [])
  pub first_fault : read_from (read_list values.read_number) (codes "[1,true,null]")
      ≡ fault_at (step.Item 1 ∷ []) expected.Number
  pub not_list : read_from (read_list values.read_number) (codes "{}") ≡ instead_of expected.List

abbrev pub span : List ℕ → Reading (Option (ℕ × ℕ))
span text = read_from gates.read_span text

abbrev pub docs : List ℕ → Reading Docs
docs text = read_from gates.read_docs text

abbrev pub stability : List ℕ → Reading Stability
stability text = read_from gates.read_stability text

-- of the members of an item
pub record ExamplesOfReadGates : Type 0 where
  pub placed : span (codes "{\"span\":[3,9]}") ≡ Ok (Some (3, 9))
  pub empty : span (codes "{\"span\":[3,3]}") ≡ Ok (Some (3, 3))
  pub not_backwards : span (codes "{\"span\":[9,3]}")
      ≡ fault_at (to (codes "span") ∷ []) expected.Span
  pub not_one : span (codes "{\"span\":[9]}") ≡ fault_at (to (codes "span") ∷ []) expected.Pair
  pub not_past : span (codes "{\"span\":[9,4294967296]}")
      ≡ fault_at (step.Item 1 ∷ to (codes "span") ∷ []) expected.SmallNumber
  -- one that is left out or null is unknown
  pub unknown : span (codes "{}") ≡ Ok None
  pub null_ : span (codes "{\"span\":null}") ≡ Ok None
  pub docs_ : docs (codes "{\"docs\":{\"contents\":\"A.\"}}") ≡ Ok (docs_of (Some (codes "A.")))
  pub no_docs : docs (codes "{}") ≡ Ok (docs_of None)
  pub not_bare : docs (codes "{\"docs\":\"A.\"}")
      ≡ fault_at (to (codes "docs") ∷ []) expected.Object
  pub no_more : docs (codes "{\"docs\":{\"contents\":\"A.\",\"more\":1}}")
      ≡ fault_at (to (codes "more") ∷ to (codes "docs") ∷ []) expected.NoMember
  pub ungated : stability (codes "{}") ≡ Ok Unknown
  pub stable : stability (codes "{\"stability\":{\"stable\":{\"since\":\"1.0.0\"}}}")
      ≡ Ok (Stable (release 1 0 0) None)
  pub unstable : stability
      (codes "{\"stability\":{\"unstable\":{\"deprecated\":\"2.0.0\",\"feature\":\"f\"}}}")
      ≡ Ok (Unstable (codes "f") (Some (release 2 0 0)))
  pub no_feature : stability (codes "{\"stability\":{\"unstable\":{}}}")
      ≡ fault_at (to (codes "feature") ∷ to (codes "unstable") ∷ to (codes "stability") ∷ [])
      expected.Member
  pub no_version : stability (codes "{\"stability\":{\"stable\":{\"since\":\"1\"}}}")
      ≡ fault_at (to (codes "since") ∷ to (codes "stable") ∷ to (codes "stability") ∷ [])
      expected.Version
  pub not_twice : stability
      (codes "{\"stability\":{\"stable\":{\"since\":\"1.0.0\",\"since\":\"1.0.0\"}}}")
      ≡ fault_at (to (codes "since") ∷ to (codes "stable") ∷ to (codes "stability") ∷ [])
      expected.NoSecondMember
  pub other_gate : stability (codes "{\"stability\":{\"Stable\":{}}}")
      ≡ fault_at (to (codes "Stable") ∷ to (codes "stability") ∷ []) expected.Gate
  pub two_gates : stability (codes "{\"stability\":{\"stable\":{},\"unstable\":{}}}")
      ≡ fault_at (to (codes "stability") ∷ []) expected.Gate
