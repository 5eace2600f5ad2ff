-- A world of a package behind its includes, and what was reached where one of them is looked at.
use Rattle.std.specs.Prelude.{ℕ, ◌<◌}
use Rattle.wit_data.specs.declared.world.World.{World}
use Rattle.wit_link_spec.specs.Added.{finished_world}
use Rattle.wit_link_spec.specs.Addition.{Addition}
use Rattle.wit_link_spec.specs.Include.{EntryLists, PartiallyLinked, with_entry_lists}
use Rattle.wit_link_spec.specs.Reasons.{IsResolved}
use Rattle.wit_link_spec.specs.steps.Parts.{image_at, IncludeIsAccepted, IsReached}

-- world w of the package with these lists, before it is finished
abbrev pub unfinished_world : Addition → ℕ → World → EntryLists → World
unfinished_world a w world lists = with_entry_lists (image_at a w world) lists

-- world w of the package behind its includes, finished
abbrev pub linked_world : Addition → ℕ → World → PartiallyLinked → World
linked_world a w world b = finished_world b.graph (unfinished_world a w world b.lists)

-- the package has an image, every world before world k is accepted, and so is every include of world k before include j
pub record IncludeIsReached (a : Addition) (k j : ℕ) : Type 0 where
  pub has_image : IsResolved a
  pub worlds : IsReached a k
  pub includes : (i : ℕ) → i < j → IncludeIsAccepted a k i
