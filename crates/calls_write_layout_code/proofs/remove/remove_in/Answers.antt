-- Answers of `calls_write_layout_code::remove::remove_in`.
use mathlib.Core.Path.{refl, ap, ◌∙◌}
use native.Mathlib.Omega.{arith}
use borrow.Author.Rules.{rules}
use Rattle.index.proofs.LookedUp.{allowed_at}
use Rattle.calls.specs.Compared.{key_compared}
use Rattle.calls.specs.Change.{change_says, buffers_after}
use Rattle.calls.proofs.Changes.{inside, some_head, changed_end}
use Rattle.calls.proofs.Results.{refused_count, allowed_count, remove_refused, remove-held, remove_not_held}
use Rattle.calls_write_layout_code.proofs.Ends.{kept_end, changed_by, removable}
use Rattle.calls_write_layout_code.proofs.remove.remove_in.Goals as goal

pub head_of-h-requires : goal.head_of-h-requires
head_of-h-requires c =
    some_head c.args.image.now c.args.heads.now c.args.next.now c.args.state _ _ _
    (removable _ _ _ _ _ c.remove_lookup-lookup.ensures.result.ready (allowed_at c.in-Accepted.is c.in-Held.is)).0

pub remove_held-after-requires : goal.remove_held-after-requires
remove_held-after-requires c =
    let ready = removable _ _ _ _ _ c.remove_lookup-lookup.ensures.result.ready
    (allowed_at c.in-Accepted.is c.in-Held.is) in (
      inside c.args.image.now c.args.heads.now c.args.next.now c.args.state _ _ _ _
          (c.head_of-h.ensures.result.1 c.args.high) ready.0,
      ready.1,
    )

pub remove_stores-requires : goal.remove_stores-requires
remove_stores-requires c =
    let w = (removable _ _ _ _ _ c.remove_lookup-lookup.ensures.result.ready
    (allowed_at c.in-Accepted.is c.in-Held.is)).0 in
    (c.requires, omega arith, w.index.version_fits, w.slot_fits, w.slot_in)

pub shape_of-heads-in-Refused : goal.shape_of-heads-in-Refused
shape_of-heads-in-Refused c =
    refl

pub shape_of-next-in-Refused : goal.shape_of-next-in-Refused
shape_of-next-in-Refused c =
    refl

pub returns-in-Refused : goal.returns-in-Refused
unfolding change_says key_compared
returns-in-Refused c =
    record {
      result = (kept_end (refused_count c.remove_lookup-lookup.ensures.result _ _ c.in-Refused.is) _ _ _
          (remove_refused _ _ _ _ _ _ c.remove_lookup-lookup.ensures.result _ _ c.in-Refused.is));
      moved = (refl);
    }

pub shape_of-heads-in-NotHeld : goal.shape_of-heads-in-NotHeld
shape_of-heads-in-NotHeld c =
    refl

pub shape_of-next-in-NotHeld : goal.shape_of-next-in-NotHeld
shape_of-next-in-NotHeld c =
    refl

pub returns-in-NotHeld : goal.returns-in-NotHeld
unfolding change_says key_compared
returns-in-NotHeld c =
    record {
      result = (kept_end (allowed_count c.remove_lookup-lookup.ensures.result _ _ c.in-Accepted.is) _ _ _
          (remove_not_held _ _ _ _ _ _ c.remove_lookup-lookup.ensures.result _ _ (allowed_at c.in-Accepted.is c.in-NotHeld.is)));
      moved = (refl);
    }

pub shape_of-heads-in-Held : goal.shape_of-heads-in-Held
shape_of-heads-in-Held c =
    c.remove_held-after.auto.heads

pub shape_of-next-in-Held : goal.shape_of-next-in-Held
shape_of-next-in-Held c =
    c.remove_held-after.auto.next

pub returns-in-Held : goal.returns-in-Held
unfolding change_says key_compared
returns-in-Held c =
    record {
      result = (changed_end _ _ _ _ _ _ _ _ _ _ c.remove_stores.ensures.result _ _ _ _ _ c.remove_held-after.ensures.result
          ∙ ap (buffers_after _)
          (changed_by (allowed_count c.remove_lookup-lookup.ensures.result _ _ c.in-Accepted.is) _ _ _ _ _ _ _ _ _
          (remove-held _ _ _ _ _ _ c.remove_lookup-lookup.ensures.result _ _ _ _
          (allowed_at c.in-Accepted.is c.in-Held.is) (c.head_of-h.ensures.result.1 c.args.high))));
      moved = (refl);
    }
