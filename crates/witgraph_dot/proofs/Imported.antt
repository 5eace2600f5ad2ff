-- The arrows to what a world imports, by what is gathered for them.
use Rattle.std.proofs.Common.{◌≡◌, ◌∙◌, ◌++◌, ℕ, List, Result, OnOk, ap, subst}
use Rattle.witgraph_dot.proofs.Appended.{appended-ok}
use Rattle.witgraph_dot.specs.Bundles.{bundle, frame_arrows, whole_frames}
use Rattle.witgraph_dot.specs.Listed.{listed_for}
use Rattle.witgraph_dot.specs.Scene.{View, import_arrows, import_frames, included_imports, included_worlds, shown_imports}
use Rattle.witgraph_dot.specs.Sets.{intersection, without}
use Rattle.witgraph_dot.specs.declared.arrow.Arrow.{Arrow}
use Rattle.witgraph_dot.specs.declared.arrow.ArrowKind.TheVariants as kind
use Rattle.witgraph_dot.specs.steps.Parts.{included_arrows, left_imports, brought_imports, single_imports}

-- what stands in whole frames of what included worlds import
abbrev bundled_imports : View → ℕ → List ℕ
bundled_imports v w = whole_frames (import_frames v w) (brought_imports v w)

-- of what is left the arrows to what lines list, and to what elaboration added
abbrev listed_arrows : View → ℕ → List Arrow
listed_arrows v w = bundle (import_frames v w) kind.Listed (intersection (single_imports v w) (listed_for w v.imports))

abbrev unlisted_arrows : View → ℕ → List Arrow
unlisted_arrows v w = bundle (import_frames v w) kind.Added (without (single_imports v w) (listed_for w v.imports))

module _ (v : View) (w : ℕ) (frames : List (List ℕ)) (included left brought bundled single lines listed unlisted : List ℕ)
    (of_frames : frames ≡ import_frames v w) (of_included : included ≡ included_worlds v w)
    (of_left : left ≡ without (shown_imports v w) (included_imports v.graph.worlds included))
    (of_brought : brought ≡ intersection left (included_imports v.graph.worlds (listed_for w v.includes)))
    (of_bundled : bundled ≡ whole_frames frames brought) (of_single : single ≡ without left bundled) (of_lines : lines ≡ listed_for w v.imports)
    (of_listed : listed ≡ intersection single lines) (of_unlisted : unlisted ≡ without single lines) where
  left-is : left ≡ left_imports v w
  left-is = of_left ∙ ap (λ is. without (shown_imports v w) (included_imports v.graph.worlds is)) of_included

  brought-is : brought ≡ brought_imports v w
  brought-is = of_brought ∙ ap (λ is. intersection is (included_imports v.graph.worlds (listed_for w v.includes))) left-is

  bundled-is : bundled ≡ bundled_imports v w
  bundled-is = of_bundled ∙ (ap (λ fs. whole_frames fs brought) of_frames ∙ ap (whole_frames (import_frames v w)) brought-is)

  single-is : single ≡ single_imports v w
  single-is = of_single ∙ (ap (λ is. without is bundled) left-is ∙ ap (without (left_imports v w)) bundled-is)

  listed-is : listed ≡ intersection (single_imports v w) (listed_for w v.imports)
  listed-is = of_listed ∙ (ap (λ is. intersection is lines) single-is ∙ ap (intersection (single_imports v w)) of_lines)

  unlisted-is : unlisted ≡ without (single_imports v w) (listed_for w v.imports)
  unlisted-is = of_unlisted ∙ (ap (λ is. without is lines) single-is ∙ ap (without (single_imports v w)) of_lines)

  pub imports-added : {X E : Type 0} (told : Result X E) (start one two three end : List Arrow) → one ≡ start ++ included_arrows included → two ≡ one ++ frame_arrows frames kind.Listed brought
      → three ≡ two ++ bundle frames kind.Listed listed → OnOk told (end ≡ three ++ bundle frames kind.Added unlisted) → OnOk told (end ≡ start ++ import_arrows v w)
  imports-added told start one two three end first second third fourth =
      let brought_of = ap (λ fs. frame_arrows fs kind.Listed brought) of_frames ∙ ap (frame_arrows (import_frames v w) kind.Listed) brought-is in
      let listed_of = ap (λ fs. bundle fs kind.Listed listed) of_frames ∙ ap (bundle (import_frames v w) kind.Listed) listed-is in
      let unlisted_of = ap (λ fs. bundle fs kind.Added unlisted) of_frames ∙ ap (bundle (import_frames v w) kind.Added) unlisted-is in
      appended-ok told start one two three end (included_arrows (included_worlds v w)) (frame_arrows (import_frames v w) kind.Listed (brought_imports v w)) (listed_arrows v w) (unlisted_arrows v w)
      (first ∙ ap (λ is. start ++ included_arrows is) of_included) (second ∙ ap (λ l. one ++ l) brought_of) (third ∙ ap (λ l. two ++ l) listed_of)
      (subst (λ l. OnOk told (end ≡ three ++ l)) unlisted_of fourth)
