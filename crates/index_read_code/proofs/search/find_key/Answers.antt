-- Answers of `index_read_code::search::find_key`.
use mathlib.Core.Path.{◌≡◌}
use Prim.Native.Nat.{◌+◌, ◌-◌}
use native.Mathlib.Omega.{arith}
use borrow.Author.Rules.{rules}
use Rattle.index.proofs.Walks.{begins, at-end, past, here, on, out}
use Rattle.index_read_code.proofs.search.find_key.Goals as goal

pub head_of-head-requires : goal.head_of-head-requires
head_of-head-requires c =
    c.requires.1.some_head

pub offset_bounds-heads-head : goal.offset_bounds-heads-head
offset_bounds-heads-head c =
    omega (arith, c.well_formed.1.1.0.1, c.head_of-head.ensures.result.0)

pub bounds-heads-head : goal.bounds-heads-head
bounds-heads-head c =
    c.head_of-head.ensures.result.0

pub loop-init : goal.loop-init
loop-init c =
    let all : c.args.n - 0 ≡ c.args.n = omega arith in
    rw all (begins _ _ _ _ _ _ _ c.requires.1.slot_count (c.head_of-head.ensures.result.1 c.args.high) (c.shared_slice_known-4-1.given _).fits)

pub returns-then-at-eq-END : goal.returns-then-at-eq-END
returns-then-at-eq-END c =
    record { result = (at-end _ _ _ _ _ _ _ _ _ _ c.loop.invariant (search rules) c.if-at-eq-END.true) }

pub returns-then-n-slot : goal.returns-then-n-slot
returns-then-n-slot c =
    record { result = (past _ _ _ _ _ _ _ _ _ _ c.loop.invariant (search rules) c.if-at-eq-END.false c.if-n-slot.true) }

pub has_key-requires : goal.has_key-requires
has_key-requires c =
    record { layout = c.requires.0; room = omega (arith, c.requires.1.image-size, c.if-n-slot.false) }

pub returns-then-has_key : goal.returns-then-has_key
returns-then-has_key c =
    record {
      result = (here _ _ _ _ _ _ _ _ _ _ c.loop.invariant (search rules) c.if-at-eq-END.false c.if-n-slot.false _
          c.has_key.ensures.result c.if-has_key.true);
    }

pub loop-preserved : goal.loop-preserved
loop-preserved c =
    let less : c.args.n - (c.loop.counter + 1) ≡ c.args.n - c.loop.counter - 1 = omega arith in
    rw less (on _ _ _ _ _ _ _ _ _ _ c.loop.invariant (search rules) c.if-at-eq-END.false c.if-n-slot.false _
    c.has_key.ensures.result c.if-has_key.false
    (c.shared_slice_known-in-loop-1.given _).fits)

pub returns : goal.returns
returns c =
    record { result = (out _ _ _ _ _ _ _ _ _ _ c.loop.invariant (omega (arith, c.loop-test.false))) }
