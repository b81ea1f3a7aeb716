-- Answers of `calls_basket_plan_code::slots::choose_slots`.
use mathlib.Core.Path.{refl, ◌∙◌}
use native.Mathlib.Omega.{arith}
use Rattle.layout.specs.Line.{version_fault}
use Rattle.allocation.specs.Allocation.{allocation_by}
use Rattle.allocation.proofs.Looks.{ends_by, full_refused}
use Rattle.calls.specs.Change.{store_fault}
use Rattle.calls.proofs.Lookups.{store_ends, store_live, store_take, store_room, store_version}
use Rattle.calls.proofs.BasketPlans.{no_choice, a_choice}
use borrow.Author.Rules.{rules}
use Rattle.calls_basket_plan_code.proofs.slots.choose_slots.Goals as goal

pub returns-then-ends-ne0 : goal.returns-then-ends-ne0
returns-then-ends-ne0 c =
    record {
      result = (no_choice _ _ _ _ _ _ _ _ _ c.none_chosen.ensures.result c.if-ends-ne0.true
          (store_ends _ _ c.args.state _ _ _ c.ends_fault-ends.ensures.result c.if-ends-ne0.true));
    }

pub returns-then-state-removes : goal.returns-then-state-removes
returns-then-state-removes c =
    record {
      result = (no_choice _ _ _ _ _ _ _ _ _ c.none_chosen-then-state-removes.ensures.result (λ z. omega arith)
          (store_live _ _ c.args.state _ _ _ c.ends_fault-ends.ensures.result c.if-ends-ne0.false c.if-state-removes.true));
    }

pub full_fault-full-requires : goal.full_fault-full-requires
full_fault-full-requires c =
    c.requires.0.next_size

pub returns-then-full-ne0 : goal.returns-then-full-ne0
unfolding store_fault
returns-then-full-ne0 c =
    record {
      result = (no_choice _ _ _ _ _ _ _ _ _ c.none_chosen-then-full-ne0.ensures.result c.if-full-ne0.true
          ((c.full_fault-full.ensures.result c.if-full-ne0.true).0
          ∙ full_refused
          (allocation_by c.args.own c.args.l c.args.image.now c.args.next.now c.args.n
          c.args.state.first c.args.state.newest c.args.wanted)
          c.args.n c.args.state.first c.args.state.last c.args.state.live c.args.inserts
          c.args.removes _ _ (version_fault c.args.state.version)
          c.ends_fault-ends.ensures.result c.if-ends-ne0.false c.if-state-removes.false
          (ends_by c.args.own c.args.l c.args.image.now c.args.next.now c.args.n
          c.args.state.first c.args.state.newest c.args.wanted
          (c.full_fault-full.ensures.result c.if-full-ne0.true).1)
          c.live_fault-room.ensures.result (λ z. c.if-full-ne0.true ((c.full_fault-full.ensures.result c.if-full-ne0.true).0 ∙ z))));
    }

pub returns-then-choice-ne0 : goal.returns-then-choice-ne0
returns-then-choice-ne0 c =
    record {
      result = (no_choice _ _ _ _ _ _ _ _ _ refl c.if-choice-ne0.true
          (store_take _ _ c.args.state _ _ _ c.ends_fault-ends.ensures.result c.if-ends-ne0.false
          c.if-state-removes.false _ c.choose_by-choice.ensures.result.fault_is c.if-choice-ne0.true));
    }

pub returns-then-room-ne0 : goal.returns-then-room-ne0
returns-then-room-ne0 c =
    record {
      result = (no_choice _ _ _ _ _ _ _ _ _ c.none_chosen-then-room-ne0.ensures.result c.if-room-ne0.true
          (store_room _ _ c.args.state _ _ _ c.ends_fault-ends.ensures.result c.if-ends-ne0.false
          c.if-state-removes.false _ c.choose_by-choice.ensures.result.fault_is c.if-choice-ne0.false _
          c.live_fault-room.ensures.result
          c.if-room-ne0.true));
    }

pub returns-then-version-ne0 : goal.returns-then-version-ne0
returns-then-version-ne0 c =
    record {
      result = (no_choice _ _ _ _ _ _ _ _ _ c.none_chosen-then-version-ne0.ensures.result c.if-version-ne0.true
          (store_version _ _ c.args.state _ _ _ c.ends_fault-ends.ensures.result c.if-ends-ne0.false
          c.if-state-removes.false _ c.choose_by-choice.ensures.result.fault_is c.if-choice-ne0.false _ c.live_fault-room.ensures.result
          c.if-room-ne0.false _ (c.return_code-version.ensures.result ∙ c.check_version.ensures.result)));
    }

pub returns : goal.returns
returns c =
    record {
      result = (a_choice _ _ _ _ _ _ _ _ c.choose_by-choice.ensures.result c.if-choice-ne0.false _ c.if-version-ne0.false
          (store_version _ _ c.args.state _ _ _ c.ends_fault-ends.ensures.result c.if-ends-ne0.false
          c.if-state-removes.false _ c.choose_by-choice.ensures.result.fault_is c.if-choice-ne0.false _ c.live_fault-room.ensures.result
          c.if-room-ne0.false _ (c.return_code-version.ensures.result ∙ c.check_version.ensures.result)));
    }
