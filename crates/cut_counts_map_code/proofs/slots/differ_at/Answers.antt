-- Answers of `cut_counts_map_code::slots::differ_at`.
use mathlib.Core.Bool.{not}
use mathlib.Core.Path.{sym, ap, ◌∙◌}
use borrow.Author.Tests.{ne_eqb}
use Rattle.cut_counts.proofs.Slots.{own_inside, not_first, first_alone, held_both}
use Rattle.cut_counts_map_code.proofs.slots.differ_at.Goals as goal
use Rattle.cut_counts_map_code.proofs.slots.differ_at.Goals.{then-s-eq0-via-then-s-eq0, then-s-eq0-via-else-s-eq0+then-t-eq0}

pub returns-then-s-eq0 : goal.returns-then-s-eq0
returns-then-s-eq0 c =
    record {
      result =
          elim c.then-s-eq0.branch [
            | then-s-eq0-via-then-s-eq0 w ↦
                rw w.if-s-eq0.true (not_first _ _ _ _ _ _ c.slot_of-s.ensures c.slot_of-t.ensures w.if-s-eq0.true)
            | then-s-eq0-via-else-s-eq0+then-t-eq0 w ↦
                ap not (ne_eqb _ _ (λ e. w.if-s-eq0.false (sym e ∙ w.if-t-eq0.true)))
                ∙ first_alone _ _ _ _ _ _ c.slot_of-s.ensures c.slot_of-t.ensures w.if-s-eq0.false w.if-t-eq0.true
          ];
    }

pub values_differ-requires : goal.values_differ-requires
values_differ-requires c =
    record {
      sound = (let s = c.slot_of-s.ensures.held c.if-s-eq0.false in
          let t = c.slot_of-t.ensures.held c.if-t-eq0.false in (
            own_inside _ _ _ _ c.requires.1 _ c.requires.0 s.slot,
            own_inside _ _ _ _ c.requires.2 _ c.requires.0 t.slot,
            s.sound,
            t.sound,
          ));
    }

pub returns : goal.returns
returns c =
    record {
      result = (held_both _ _ _ _ _ _ c.slot_of-s.ensures c.slot_of-t.ensures c.if-s-eq0.false c.if-t-eq0.false _
          c.values_differ.ensures.result);
    }
