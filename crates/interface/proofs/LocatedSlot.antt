-- A locate finds the slot of a key that the plain map holds. Assumes nothing.
use mathlib.Core.Path.{◌≡◌, refl}
use mathlib.Core.Bool.{cond}
use Prim.Native.Nat.{ℕ}
use Rattle.prelude.specs.Answer.{gives, absent}
use Rattle.table.specs.Complete.{table_of}
use Rattle.layout.specs.Size.{slots_in}
use Rattle.table.specs.Table.{holder, is_held}
use Rattle.calls.specs.Locate.{locate_answer}
use Rattle.plainmap.specs.World.{World, locate, call_result, reads_only}
use Rattle.plainmap.specs.Plain.{PlainMap, rule_fault, plain_answer}
use Rattle.plainmap.specs.Claims.{locate_typed}
use Rattle.interface.specs.Laws.{SetLaws}

pub located : (l : ℕ) (Inv : World → PlainMap → Type 0) → SetLaws l Inv → (w : World) (m : PlainMap) → Inv w m → (key : ℕ)
    → locate_answer l w.image w.index.heads w.index.next key ≡
    cond (is_held (m key)) (gives (holder (table_of l w.image) (slots_in w.image) key)) absent
unfolding call_result reads_only rule_fault plain_answer
located l Inv laws w m i key = (laws.answers w m i (locate key) locate_typed).answer refl
