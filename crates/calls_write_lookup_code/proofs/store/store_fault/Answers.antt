-- Answers of `calls_write_lookup_code::store::store_fault`.
use mathlib.Core.Path.{◌∙◌}
use borrow.Author.Rules.{rules}
use Rattle.layout.specs.Line.{version_fault}
use Rattle.allocation.specs.Allocation.{allocation_by}
use Rattle.allocation.proofs.Looks.{ends_by, full_refused}
use Rattle.calls.specs.Change.{store_fault}
use Rattle.calls.proofs.Lookups.{store_ends, store_live, store_take, store_room, store_version}
use Rattle.calls_write_lookup_code.proofs.store.store_fault.Goals as goal

pub returns-then-ends-ne0 : goal.returns-then-ends-ne0
returns-then-ends-ne0 c =
    record { result = (store_ends _ _ c.args.state _ _ _ c.ends_fault-ends.ensures.result c.if-ends-ne0.true) }

pub returns-then-state-removes : goal.returns-then-state-removes
returns-then-state-removes c =
    record { result = (store_live _ _ c.args.state _ _ _ c.ends_fault-ends.ensures.result c.if-ends-ne0.false c.if-state-removes.true) }

pub full_fault-full-requires : goal.full_fault-full-requires
full_fault-full-requires c =
    c.requires.next_size

pub returns-then-full-ne0 : goal.returns-then-full-ne0
unfolding store_fault
returns-then-full-ne0 c =
    record {
      result = ((c.full_fault-full.ensures.result c.if-full-ne0.true).0
          ∙ full_refused
          (allocation_by c.args.own c.args.l c.args.image.now c.args.next.now c.args.n
          c.args.state.first c.args.state.newest 1)
          c.args.n c.args.state.first c.args.state.last c.args.state.live c.args.inserts
          c.args.removes _ _ (version_fault c.args.state.version)
          c.ends_fault-ends.ensures.result c.if-ends-ne0.false c.if-state-removes.false
          (ends_by c.args.own c.args.l c.args.image.now c.args.next.now c.args.n
          c.args.state.first c.args.state.newest 1 (c.full_fault-full.ensures.result c.if-full-ne0.true).1)
          c.live_fault-room.ensures.result (λ z. c.if-full-ne0.true ((c.full_fault-full.ensures.result c.if-full-ne0.true).0 ∙ z)));
    }

pub take_fault_by-take-requires : goal.take_fault_by-take-requires
take_fault_by-take-requires c =
    c.requires

pub returns-then-take-ne0 : goal.returns-then-take-ne0
returns-then-take-ne0 c =
    record {
      result = (store_take _ _ c.args.state _ _ _ c.ends_fault-ends.ensures.result c.if-ends-ne0.false
          c.if-state-removes.false _ c.take_fault_by-take.ensures.result c.if-take-ne0.true);
    }

pub returns-then-room-ne0 : goal.returns-then-room-ne0
returns-then-room-ne0 c =
    record {
      result = (store_room _ _ c.args.state _ _ _ c.ends_fault-ends.ensures.result c.if-ends-ne0.false
          c.if-state-removes.false _ c.take_fault_by-take.ensures.result c.if-take-ne0.false _ c.live_fault-room.ensures.result
          c.if-room-ne0.true);
    }

pub returns : goal.returns
returns c =
    record {
      result = (store_version _ _ c.args.state _ _ _ c.ends_fault-ends.ensures.result c.if-ends-ne0.false
          c.if-state-removes.false _ c.take_fault_by-take.ensures.result c.if-take-ne0.false _
          c.live_fault-room.ensures.result
          c.if-room-ne0.false _ (c.return_code.ensures.result ∙ c.check_version.ensures.result));
    }
