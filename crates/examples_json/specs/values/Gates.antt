-- Docs and gates of a flag, of which nothing else is said.
use Rattle.std.specs.Prelude.{◌≡◌, ◌≢◌, ℕ, List, [], Option, Some, None, codes}
use Rattle.wit_values.specs.Version.{Parts}
use Rattle.wit_data.specs.declared.stability.Docs.{Docs}
use Rattle.wit_data.specs.declared.stability.Stability.{Stability}
use Rattle.wit_data.specs.declared.stability.Stability.TheVariants.{Unknown, Stable, Unstable}
use Rattle.wit_json.specs.Gates.{docs_member, stability_member}
use Rattle.wit_json.specs.Graph.{compact}
use Rattle.wit_json.specs.Values.{object}

abbrev pub docs_of : Option (List ℕ) → Docs
docs_of contents = record { contents = contents }

-- an object of what is written of docs alone, and of a gate alone
abbrev pub docs_text : Option (List ℕ) → List ℕ
docs_text contents = compact (object (docs_member (docs_of contents)))

abbrev pub gate_text : Stability → List ℕ
gate_text stability = compact (object (stability_member stability))

abbrev pub release : ℕ → ℕ → ℕ → Parts
release major minor patch = (major, minor, patch, [], [])

pub record ExamplesOfGates : Type 0 where
  pub docs : docs_text (Some (codes "Does.")) ≡ codes "{\"docs\":{\"contents\":\"Does.\"}}"
  pub not_bare : docs_text (Some (codes "Does.")) ≢ codes "{\"docs\":\"Does.\"}"
  pub not_dropped : docs_text (Some (codes "Does.")) ≢ codes "{}"
  -- quotes and newlines have their escapes
  pub escaped : docs_text (Some (codes "a \"b\"\n"))
      ≡ codes "{\"docs\":{\"contents\":\"a \\\"b\\\"\\n\"}}"
  -- docs that are empty are docs; where there are none the member is left out, and isn't null
  pub empty_docs : docs_text (Some []) ≡ codes "{\"docs\":{\"contents\":\"\"}}"
  pub no_docs : docs_text None ≡ codes "{}"
  pub no_null : docs_text None ≢ codes "{\"docs\":{\"contents\":null}}"
  -- gates
  pub since : gate_text (Stable (release 0 2 0) None)
      ≡ codes "{\"stability\":{\"stable\":{\"since\":\"0.2.0\"}}}"
  pub no_deprecation : gate_text (Stable (release 0 2 0) None)
      ≢ codes "{\"stability\":{\"stable\":{\"since\":\"0.2.0\",\"deprecated\":null}}}"
  pub deprecated : gate_text (Stable (release 0 2 0) (Some (release 0 2 1)))
      ≡ codes "{\"stability\":{\"stable\":{\"since\":\"0.2.0\",\"deprecated\":\"0.2.1\"}}}"
  pub not_exchanged : gate_text (Stable (release 0 2 0) (Some (release 0 2 1)))
      ≢ codes "{\"stability\":{\"stable\":{\"since\":\"0.2.1\",\"deprecated\":\"0.2.0\"}}}"
  pub feature : gate_text (Unstable (codes "f") None)
      ≡ codes "{\"stability\":{\"unstable\":{\"feature\":\"f\"}}}"
  pub not_stable : gate_text (Unstable (codes "f") None)
      ≢ codes "{\"stability\":{\"stable\":{\"feature\":\"f\"}}}"
  pub deprecated_feature : gate_text (Unstable (codes "f") (Some (release 1 0 0)))
      ≡ codes "{\"stability\":{\"unstable\":{\"feature\":\"f\",\"deprecated\":\"1.0.0\"}}}"
  pub unknown : gate_text Unknown ≡ codes "{}"
  pub not_said : gate_text Unknown ≢ codes "{\"stability\":\"unknown\"}"
