-- Answers of `calls_write_layout_code::write::change_in`.
use mathlib.Core.Path.{refl, ap, ◌∙◌}
use native.Mathlib.Omega.{arith}
use borrow.Author.Rules.{rules}
use Rattle.calls.specs.Moved.{write_moved}
use Rattle.calls.specs.Change.{change_says, buffers_after, write_compared}
use Rattle.calls.proofs.Changes.{allowed, allowed_inside, changed_end}
use Rattle.calls.proofs.Results.{refused_count, allowed_count, write_refused, write_allowed}
use Rattle.calls_write_layout_code.proofs.Ends.{kept_end, changed_by}
use Rattle.calls_write_layout_code.proofs.write.change_in.Goals as goal

pub head_of-h-requires : goal.head_of-h-requires
head_of-h-requires g c =
    (allowed _ _ _ _ _ _ _ c.lookup-lookup.ensures.ready c.in-Accepted.is).some_head

pub write_place-after-requires : goal.write_place-after-requires
write_place-after-requires g c =
    allowed_inside _ _ _ _ _ _ _ c.lookup-lookup.ensures.ready c.in-Accepted.is _
    (c.head_of-h.ensures.result.1 c.args.high)

pub record_stores-moved-requires : goal.record_stores-moved-requires
record_stores-moved-requires g c =
    let ready = (allowed _ _ _ _ _ _ _ c.lookup-lookup.ensures.ready c.in-Accepted.is).recordable in
    (record { layout = c.requires; kind_fits = omega arith; number_fits = omega arith; size = ready.0; version_fits = ready.1 }, ready.2, ready.3)

pub shape_of-heads-in-Refused : goal.shape_of-heads-in-Refused
shape_of-heads-in-Refused g c =
    refl

pub shape_of-next-in-Refused : goal.shape_of-next-in-Refused
shape_of-next-in-Refused g c =
    refl

pub returns-in-Refused : goal.returns-in-Refused
unfolding change_says write_compared write_moved
returns-in-Refused g c =
    record {
      result = (kept_end (refused_count c.lookup-lookup.ensures _ _ c.in-Refused.is) _ _ _
          (write_refused _ _ _ _ _ _ _ _ c.lookup-lookup.ensures _ _ c.in-Refused.is));
      moved = (refl);
    }

pub shape_of-heads-in-Accepted : goal.shape_of-heads-in-Accepted
shape_of-heads-in-Accepted g c =
    c.write_place-after.auto.heads

pub shape_of-next-in-Accepted : goal.shape_of-next-in-Accepted
shape_of-next-in-Accepted g c =
    c.write_place-after.auto.next

pub returns-in-Accepted : goal.returns-in-Accepted
unfolding change_says write_compared write_moved
returns-in-Accepted g c =
    record {
      result = (changed_end _ _ _ _ _ _ _ _ _ _ c.record_stores-moved.ensures.stores _ _ _ _ _ c.write_place-after.ensures.result
          ∙ ap (buffers_after _)
          (changed_by (allowed_count c.lookup-lookup.ensures _ _ c.in-Accepted.is) _ _ _ _ _ _ _ _ _
          (write_allowed _ _ _ _ _ _ _ _ c.lookup-lookup.ensures _ _ _ c.in-Accepted.is
          (c.head_of-h.ensures.result.1 c.args.high))));
      moved = (c.record_stores-moved.ensures.moved);
    }
