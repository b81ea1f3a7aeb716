-- What an accepted image's slots are, and that a call's stores and invalidating stores leave such slots, whatever a cut leaves of them. Assumes nothing.
use mathlib.Core.Path.{◌≡◌, sym, ap, ◌∙◌}
use mathlib.Core.List.{List}
use Prim.Native.Nat.{ℕ, ◌+◌, ◌*◌, ◌≤◌, ◌<◌}
use native.Mathlib.Omega.{arith}
use lib.ListN.{length}
use Rattle.words.specs.Word.{word}
use Rattle.prelude.specs.Members.{All, Once, Slot}
use Rattle.prelude.proofs.Choice.{pick_true}
use Rattle.layout.specs.Line.{line_a, line_b}
use Rattle.layout.specs.Slot.{line_verdict, is_valid}
use Rattle.layout.specs.Record.{Layout}
use Rattle.layout.specs.Content.{content, size_field_in}
use Rattle.layout.specs.Fault.{fault_of, record_fault}
use Rattle.layout.proofs.Content.{ValidAt, verdict_valid}
use Rattle.stores.specs.Basket.{BasketRecord, basket_slots}
use Rattle.stores.specs.Cut.{Confined, LawfulRecord, AllWritten}
use Rattle.table.specs.Table.{map_of, live_count}
use Rattle.table.specs.Complete.{size_field_for, settled, NoneVoid}
use Rattle.table.proofs.Complete.{settled_same}
use Rattle.table.proofs.Alike.{alike_count}
use Rattle.table.proofs.defs.Basket.{Basket, puts_in, held_in}
use Rattle.table.proofs.defs.Struck.{AcceptedTable}
use Rattle.table.proofs.defs.ReuseAfter.{BrokenTaken}
use Rattle.table.proofs.Accepted.{struck_accepted}
use Rattle.table.proofs.Opened.{opened_accepted}
use Rattle.table.proofs.defs.Entries.{record_at}
use Rattle.table.proofs.Cuts.{cut_struck}
use Rattle.table.proofs.Invalidations.{opened_image, all_opened, opened_at}

-- the marks of a slot are 0 or 1
abbrev pub BitMarks : (ℕ → ℕ) → ℕ → Type 0
BitMarks m s = (line_a m s 0 ≤ 1) × (line_b m s 0 ≤ 1)

-- what the refusals of the slots leave
pub record RightSlots (l : ℕ) (m : ℕ → ℕ) (n : ℕ) : Type 0 where
  pub marks : (s : ℕ) → Slot n s → BitMarks m s
  pub records : (s : ℕ) → Slot n s → record_fault l m s ≡ 0
  pub table : AcceptedTable (content l m) (size_field_in l m) n

-- a valid slot without a fault has none by its lines
pub valid_fault : (l : ℕ) (m : ℕ → ℕ) (s v : ℕ) → ValidAt (line_a m s) (line_b m s) v → record_fault l m s ≡ 0 → fault_of l (line_a m s) (line_b m s) ≡ 0
unfolding record_fault is_valid
valid_fault l m s v h e =
    sym
    (pick_true (is_valid (line_verdict (line_a m s) (line_b m s))) _ _
    (ap is_valid (verdict_valid (line_a m s) (line_b m s) h.pair (λ z. omega (arith, h.version, h.positive)))))
    ∙ e

-- stores that leave the table accepted leave right slots
confined_right : (l : ℕ) (m m' : ℕ → ℕ) (n : ℕ) (written : ℕ → Type 0) → Confined l m m' written → RightSlots l m n
    → AcceptedTable (content l m') (size_field_in l m') n → RightSlots l m' n
confined_right l m m' n written c r table =
    record {
      marks = λ t i. (c.marks (2 * t) (r.marks t i).0, c.marks (2 * t + 1) (r.marks t i).1);
      records = λ t i. c.faults t (r.records t i);
      table = table;
    }

-- a table without void records has its own live slots
pub settled_count : (l : ℕ) (m : ℕ → ℕ) (n : ℕ) → NoneVoid (content l m) (size_field_in l m) n
    → live_count (settled (content l m) (size_field_in l m) n) n ≡ live_count (content l m) n
settled_count l m n none =
    alike_count (content l m) (settled (content l m) (size_field_in l m) n) n (λ t i. settled_same (content l m) (size_field_in l m) n t (none t i))

-- A CALL'S STORES
pub right_cut : (l : ℕ) (m m' : ℕ → ℕ) (n number version : ℕ) (es : List BasketRecord) (counts : ℕ → ℕ) → Once (basket_slots es)
    → All (LawfulRecord l m number version) es → number ≡ size_field_for (length es) → AllWritten l m m' number version es counts → RightSlots l m n
    → Basket (content l m) (size_field_in l m) n version (basket_slots es) (record_at version es) → BrokenTaken (content l m) n (basket_slots es)
    → live_count (content l m) n + puts_in (basket_slots es) (record_at version es) < n + held_in (basket_slots es) (record_at version es)
    (map_of (content l m) n)
    → RightSlots l m' n
right_cut l m m' n number version es counts once fine is_number w r b first room =
    confined_right l m m' n _ w.rest r
    (struck_accepted b (cut_struck l m m' number version es counts once fine is_number w n) first r.table.few
    (omega (arith, r.table.idle, settled_count l m n b.none_void)) room)

-- RECOVERY'S OPENING STORES
pub right_opened : (l : ℕ) (lay : Layout l) (image : List ℕ) (n : ℕ) (size : length image ≡ 128 * (n + 1)) (counts : ℕ → ℕ) → RightSlots l (word image) n
    → RightSlots l (word (opened_image l lay image n size counts)) n
right_opened l lay image n size counts r =
    confined_right l (word image) _ n _ (all_opened l lay image n size counts).rest r
    (opened_accepted {f = content l (word image)} {f' = content l (word (opened_image l lay image n size counts))} {num = size_field_in l (word image)}
    {num' = size_field_in l (word (opened_image l lay image n size counts))} {n = n} (opened_at l lay image n size counts) r.table)
