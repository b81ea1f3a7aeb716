-- Answers of `log_stores_code::invalidation::fill_invalidations`.
use native.Mathlib.Omega.{arith}
use borrow.Author.Rules.{rules}
use Rattle.message_log.proofs.Recoveries.{invalidating_start, invalidating_next, invalidating_end, invalidating_room}
use Rattle.log_stores_code.proofs.invalidation.fill_invalidations.Goals as goal

pub loop-c-init : goal.loop-c-init
loop-c-init c =
    invalidating_start _ _ _ _ _

pub fill_invalidation-n-requires : goal.fill_invalidation-n-requires
fill_invalidation-n-requires c =
    record {
      inside = omega (arith, c.requires.all.size);
      cell = omega (arith, c.requires.all.few);
      room = invalidating_room _ _ _ _ _ _ _ _ _
          c.loop-c.invariant (search rules) c.requires.room;
    }

pub loop-c-preserved : goal.loop-c-preserved
loop-c-preserved c =
    invalidating_next _ _
    _ _ _ _ _ _ _ _ _ _ c.loop-c.invariant (search rules) c.fill_invalidation-n.ensures

pub shape_of-at : goal.shape_of-at
shape_of-at c =
    c.loop-c.invariant.left.ats.size

pub shape_of-value : goal.shape_of-value
shape_of-value c =
    c.loop-c.invariant.left.vals.size

pub returns : goal.returns
returns c =
    record { result = (invalidating_end _ _ _ _ _ _ _ _ _ c.loop-c.invariant c.loop-c-test.false) }
