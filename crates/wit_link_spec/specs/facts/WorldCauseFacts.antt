-- What the causes of a world show, and what follows where there is none.
use Rattle.std.proofs.Common.{ℕ, zero, suc, ◌<◌, arith}
use Rattle.wit_graph_data.specs.declared.error_kind.ResolveErrorKind.{ResolveErrorKind}
use Rattle.wit_link_spec.specs.Addition.{Addition}
use Rattle.wit_link_spec.specs.Reasons.{IsResolved}
use Rattle.wit_link_spec.specs.WorldReasons.{IsCauseAtWorld, at_include, of_image, of_labels_alone}
use Rattle.wit_link_spec.specs.steps.Parts.{AtWorld, IncludeIsAccepted, WorldIsAccepted}

-- a cause of world k is of a world that is there
pub cause_world : (a : Addition) (k : ℕ) (error : ResolveErrorKind) → IsCauseAtWorld a k error → AtWorld a k
cause_world a k error (of_image w world is image why) = record { id = w; world = world; is = is }
cause_world a k error (of_labels_alone w world is none why) = record { id = w; world = world; is = is }

module _ (a : Addition) (k : ℕ) (image : IsResolved a) (accepted : WorldIsAccepted a k) where
  -- the first includes of an accepted world are accepted, one after another
  first_accepted : (n i : ℕ) → i < n → IncludeIsAccepted a k i
  first_accepted zero i below at include is error why = absurd (omega (arith, below))
  first_accepted (suc n) i below at include is error why =
      accepted error (of_image at.id at.world at.is image (at_include i include is (λ h before. first_accepted n h (omega (arith, below, before)) at) why))

  -- so all are
  pub includes_accepted : (j : ℕ) → IncludeIsAccepted a k j
  includes_accepted j = first_accepted (suc j) j (omega arith)
