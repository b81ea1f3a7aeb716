-- The stores of an append and of a recovery are inside the area, and what is known of an append that is not refused. Assumes nothing.
use mathlib.Core.Path.{◌≡◌, ◌∙◌}
use mathlib.Core.Bool.{Bool, true, false, cond}
use mathlib.Core.List.{List, ◌∷◌}
use Prim.Native.Nat.{ℕ, zero, suc, ◌+◌, ◌*◌, ◌%◌, ◌^◌, ◌≤◌, ◌<◌}
use native.Mathlib.Nat.{mod-lt}
use native.Mathlib.Omega.{arith}
use lib.ListN.{length}
use lib.Dec.{eqb, ltb}
use borrow.Author.Tests.{eqb-false, ltb-false, leb-false}
use Rattle.prelude.proofs.Refusals.{refuse_if_zero, or_else_zero, or_else_first}
use Rattle.prelude.proofs.Choice.{positive}
use Rattle.words.specs.Word.{AreBytes, word}
use Rattle.words.proofs.Laws.{word_range}
use Rattle.layout.specs.Line.{version_fault}
use Rattle.stores.specs.Written.{line_stores}
use Rattle.stores.proofs.defs.Cut.{StoresInside, nil_in, cons_in}
use Rattle.stores.proofs.Bytes.{append_inside, run_inside, cond_below, marked_below}
use Rattle.message_log.specs.Area.{cells_in, area_fault, marked_line, payload_line}
use Rattle.message_log.specs.Bit.{bit_pair}
use Rattle.message_log.specs.Message.{highest}
use Rattle.message_log.specs.Append.{message_line, line_count, payload_stores, payloads_from, pairs_word, marked_body, message_stores, next_message}
use Rattle.message_log.specs.Append.{append_stores}
use Rattle.message_log.specs.Append.{message_fault, append_fault}
use Rattle.message_log.specs.AppendAfter.{append_after_fault}
use Rattle.message_log.specs.Recover.{is_above, invalidation, invalidations, recovery_stores}
use Rattle.message_log.proofs.Flexible.{count_within, pair_low, packed_low}
use Rattle.message_log.proofs.Parts.{area_cells}

module _ (m : ℕ → ℕ) (m-fits : (i : ℕ) → m i < 2 ^ 64) (c : ℕ) (message : List ℕ) (are-bytes : AreBytes message) where
  pairs_below : pairs_word m c message < 2 ^ 64
  unfolding pairs_word
  pairs_below =
      wide _
      (packed_low (λ k. bit_pair (payload_line m c k) (message_line message k))
      (λ k. pair_low (payload_line m c k) (message_line message k) (λ j l. m-fits (8 * (7 * c + 1 + k) + j % 8))
      (λ j l. word_range message (8 * k + j) are-bytes)) 0 6)
    where
      wide : (x : ℕ) → x < 1024 ^ 6 → x < 2 ^ 64
      wide x h = omega arith

  body_below : length message ≤ 384 → (i : ℕ) → marked_body (length message) (pairs_word m c message) i < 2 ^ 64
  unfolding marked_body
  body_below h i = cond_below (eqb i 1) _ _ _ (omega arith) (cond_below (eqb i 2) _ _ _ pairs_below (omega arith))

  from_inside : (n k j : ℕ) → k + j ≤ 6 → 448 * (c + 1) ≤ n → StoresInside n (payloads_from m c message k j)
  unfolding payloads_from payload_stores
  from_inside n k zero h l = nil_in
  from_inside n k (suc j) h l =
      append_inside
      (run_inside n (8 * (7 * c + 1 + k)) (message_line message k) 0 (line_count m c message k)
      (omega (arith, count_within (payload_line m c k) (message_line message k))) (λ i. word_range message (8 * k + i) are-bytes))
      (from_inside n (suc k) j (omega arith) l)

  message_inside : (n s : ℕ) → s < 2 ^ 63 → length message ≤ 384 → 448 * (c + 1) ≤ n → StoresInside n (message_stores m c s message)
  unfolding message_stores line_stores
  message_inside n s h l room =
      append_inside
      (run_inside n (8 * (7 * c)) _ 0 8 (omega arith)
      (marked_below (marked_line m c 7) s (marked_body (length message) (pairs_word m c message)) h (body_below l)))
      (from_inside n 0 6 (omega arith) room)

invalidations_inside : (n : ℕ) (m : ℕ → ℕ) (h k j : ℕ) → 448 * (k + j) ≤ n → StoresInside n (invalidations m h k j)
unfolding invalidations
invalidations_inside n m h k zero l = nil_in
invalidations_inside n m h k (suc j) l = go (is_above m h k) (invalidations_inside n m h (suc k) j (omega arith))
  where
    go : (t : Bool) → StoresInside n (invalidations m h (suc k) j)
        → StoresInside n (cond t (invalidation m k ∷ invalidations m h (suc k) j) (invalidations m h (suc k) j))
    go true r = cons_in {s = invalidation m k} (omega arith) (omega arith) r
    go false r = r

-- ---- what an append is refused with first, and what an accepted one knows

pub area_first_after : (area : List ℕ) (last : ℕ) (message : List ℕ) (ats vals : ℕ) → area_fault area ≡ 30
    → append_after_fault area last message ats vals ≡ 30
unfolding append_after_fault
area_first_after area last message ats vals e = or_else_first (area_fault area) _ (λ z. omega (arith, e)) ∙ e

pub area_first : (area message : List ℕ) (ats vals : ℕ) → area_fault area ≡ 30 → append_fault area message ats vals ≡ 30
unfolding append_fault
area_first area message ats vals e = or_else_first (area_fault area) _ (λ z. omega (arith, e)) ∙ e

pub record Accepted (area message : List ℕ) : Type 0 where
  pub area_fine : area_fault area ≡ 0
  pub some : 1 ≤ length message
  pub short : length message ≤ 384
  pub number : next_message (cells_in area) (word area) < 2 ^ 63

pub accepted : (area message : List ℕ) (ats vals : ℕ) → append_fault area message ats vals ≡ 0 → Accepted area message
unfolding append_fault message_fault version_fault
accepted area message ats vals z =
    let size = or_else_zero _ _ z in
    let rest = or_else_zero _ _ size.1 in
    let later = or_else_zero _ _ rest.1 in
    let long = refuse_if_zero (eqb (length message) 0) _ _ rest.0 (omega arith) in
    record {
      area_fine = size.0;
      some = positive (length message) (eqb-false (length message) 0 long.0);
      short = ltb-false 384 (length message) (refuse_if_zero (ltb 384 (length message)) _ _ long.1 (omega arith)).0;
      number = leb-false (2 ^ 63) (next_message (cells_in area) (word area)) (refuse_if_zero _ _ _ later.0 (omega arith)).0;
    }

pub append_inside_area : (area message : List ℕ) → AreBytes area → AreBytes message → Accepted area message
    → StoresInside (length area) (append_stores (cells_in area) (word area) message)
unfolding append_stores
append_inside_area area message bytes are-bytes ok =
    let all = area_cells area ok.area_fine in
    message_inside (word area) (λ i. word_range area i bytes) (next_message (cells_in area) (word area) % cells_in area) message are-bytes (length area)
    (next_message (cells_in area) (word area)) ok.number ok.short
    (omega (arith, all.size, mod-lt (next_message (cells_in area) (word area)) (let p : 0 < cells_in area = omega (arith, all.some) in p)))

pub recovery_inside_area : (area : List ℕ) → area_fault area ≡ 0 → StoresInside (length area) (recovery_stores (cells_in area) (word area))
unfolding recovery_stores
recovery_inside_area area fine =
    invalidations_inside (length area) (word area) (highest (cells_in area) (word area)) 0 (cells_in area) (omega (arith, (area_cells area fine).size))
