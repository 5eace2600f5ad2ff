use Rattle.std.proofs.Common.{◌≡◌, ◌∙◌, ◌∷◌, ℕ, List, true, ap, sym, subst, length, eqb, eq-eqb, arith, rules}
use Rattle.std.specs.Prelude.{decimal}
use Rattle.std.specs.Fmt.{HasWritten}
use Rattle.wit_names.proofs.Tracks.{not_false, track_of_patch}
use Rattle.wit_names.proofs.track.TrackTextDisplay.fmt.Goals as goal

pub returns-clause-writes : goal.returns-clause-writes
returns-clause-writes g c = λ plain ok.
    let version = c.args.self.now.0.now in
    let major : version.0 ≡ 0 = omega (arith, c.major-major.ensures, c.if-major-ne0.false) in
    let minor : version.1 ≡ 0 = omega (arith, c.minor-minor.ensures, c.if-minor-ne0.false) in
    let none : c.is_empty.result ≡ true = first_of (assumption (c.if-not-is_empty.false), search (rules, not_false, c.if-not-is_empty.false), grind (arith, c.if-not-is_empty.false)) in
    let release : eqb (length version.3) 0 ≡ true = sym (c.is_empty.ensures ∙ ap (λ (s : List ℕ). eqb (length s) 0) c.pre-pre.ensures) ∙ none in
    subst (λ (t : List ℕ). HasWritten {W = g.row.W.Denot} g.W.Write.write_str_gives c.args.f.now t c.write-2.new.self)
    (ap (λ (n : ℕ). 48 ∷ 46 ∷ 48 ∷ 46 ∷ decimal n) c.patch-patch.ensures ∙ sym (track_of_patch version release (eq-eqb version.0 0 major) (eq-eqb version.1 0 minor)))
    (c.write-2.ensures.writes plain ok)
