-- What a session keeps between lines: the invariant of a set, for which nothing but the laws of the interface is known.
use mathlib.Core.Path.{◌≡◌}
use lib.ListN.{length}
use Rattle.interface.specs.Set.{World, PlainMap}
use Rattle.session.specs.Step.{StepResult, no_set, size_fault}
use Rattle.session.specs.Lines.{world_of}
use Rattle.session.specs.Rule.{FewWait}

-- the set fits into the lent image and index, and with the plain map m it has the invariant
pub record SetKeeps (Inv : World → PlainMap → Type 0) (r : StepResult) (m : PlainMap) : Type 0 where
  pub size : size_fault r.session.n (length r.image) (length r.heads) (length r.next) ≡ 0
  pub waits : FewWait r.session.waiting
  pub set : Inv (world_of r) m

-- before an accepted n there is no set
pub data Keeps (Inv : World → PlainMap → Type 0) (r : StepResult) (m : PlainMap) : Type 0 where
  none_yet : r.session ≡ no_set → Keeps Inv r m
  kept : SetKeeps Inv r m → Keeps Inv r m
