-- The values of an accepted image: where a live slot keeps its value, and that each is within the limit. Assumes nothing.
use mathlib.Core.Path.{◌≡◌, sym, ap, ◌∙◌}
use mathlib.Core.Bool.{true}
use mathlib.Core.Option.{some}
use mathlib.Core.List.{List}
use Prim.Native.Nat.{ℕ, ◌≤◌}
use native.Mathlib.Omega.{arith}
use lib.ListN.{length}
use Rattle.words.specs.Word.{word}
use Rattle.layout.specs.Line.{line_a, line_b}
use Rattle.layout.specs.Record.{limit, value_of}
use Rattle.layout.specs.Content.{put_record, content, contents_of, size_fields_of}
use Rattle.table.specs.Complete.{table_of}
use Rattle.layout.proofs.Content.{PutAt, put_at, value-length, length_bound}
use Rattle.table.specs.Table.{value_in, map_of, live}
use Rattle.prelude.specs.Members.{Slot}
use Rattle.table.proofs.Map.{Live, lives, live_is}
use Rattle.table.proofs.OneSlot.{value-at}
use Rattle.table.proofs.Settled.{settled-live}
use Rattle.table.proofs.Held.{Held, held, unheld, held_or}
use Rattle.calls.specs.Get.{slot_length}
use Rattle.layout.specs.Size.{slots_in}
use Rattle.plainmap.specs.Plain.{size_of}
use Rattle.plainmap.specs.Accepted.{Accepted}
use Rattle.plainmap.specs.Claims.{slots_map}
use Rattle.table.proofs.Right.{RightSlots, valid_fault}
use Rattle.plainmap.proofs.AcceptedImages.{accepted_right}

-- slot s keeps the value v
pub record KeepsValue (l : ℕ) (image : List ℕ) (s : ℕ) (v : List ℕ) : Type 0 where
  pub value : value_of l (line_a (word image) s) (line_b (word image) s) ≡ v
  pub size : slot_length l image s ≡ length v
  pub fits : length v ≤ limit l

some-some : (v u : List ℕ) → some v ≡ some u → v ≡ u
some-some v u e = cc

module _ (l : ℕ) (image : List ℕ) (right : RightSlots l (word image) (slots_in image)) where
  abbrev n : ℕ
  n = slots_in image

  pub live_keeps : (s : ℕ) (v : List ℕ) → Slot n s → live (table_of l image) n s ≡ true → value_in (table_of l image s) ≡ some v
      → KeepsValue l image s v
  unfolding content value_in
  live_keeps s v i e q = go (live_is (table_of l image) n s e)
    where
      own : table_of l image s ≡ content l (word image) s
      own = settled-live (contents_of l image) (size_fields_of l image) n s e

      kept : (w k : ℕ) → PutAt l (line_a (word image) s) (line_b (word image) s) w k v → KeepsValue l image s v
      kept w k at =
          let size : slot_length l image s ≡ length v = sym (value-length l (line_a (word image) s) (line_b (word image) s)) ∙ ap length at.value in
          record {
            value = at.value;
            size = size;
            fits =
                omega (
                  arith,
                  length_bound l (line_a (word image) s) (line_b (word image) s)
                      (valid_fault l (word image) s w at.valid (right.records s i)),
                );
          }

      go : Live (table_of l image) n s → KeepsValue l image s v
      go (lives w k u d b) =
          kept w k
          (put_at l (line_a (word image) s) (line_b (word image) s) w k v
          (sym own ∙ d ∙ ap (λ (x : List ℕ). put_record w k x) (some-some u v (sym (ap value_in d) ∙ q))))

  map_fits : (key : ℕ) → size_of (map_of (table_of l image) n key) ≤ limit l
  unfolding size_of map_of
  map_fits key = go (held_or (table_of l image) n key)
    where
      go : Held (table_of l image) n key → size_of (map_of (table_of l image) n key) ≤ limit l
      go (unheld h m) = rw m (omega arith)
      go (held v i e m) = rw m (live_keeps _ v i e (sym (value-at (table_of l image) n _ i) ∙ m)).fits

-- THE LIMIT: in an accepted image no value is longer
pub accepted_fits : (l : ℕ) (image : List ℕ) → Accepted l image → (key : ℕ) → size_of (slots_map l image key) ≤ limit l
accepted_fits l image a key =
    map_fits l image (accepted_right l image a) key
