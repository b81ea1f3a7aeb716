-- A step of the session, by what its calls answer. Assumes nothing.
use mathlib.Core.Path.{◌≡◌, refl, sym, ap, ap₂, ◌∙◌}
use mathlib.Core.List.{List, [], ◌∷◌, ◌++◌}
use Prim.Native.Nat.{ℕ, ◌+◌, ◌*◌, ◌^◌, ◌≤◌, ◌<◌}
use native.Mathlib.Nat.{suc_inj}
use native.Mathlib.Omega.{arith}
use lib.ListN.{length, take, drop}
use lib.Seq.{length-take-le}
use borrow.Author.Tests.{ltb-false}
use Rattle.prelude.proofs.Refusals.{refuse_if_zero, or_else_zero, taken_leaves}
use Rattle.prelude.specs.Answer.{Answer, gives, absent, refused}
use Rattle.interface.specs.Laws.{write_writes, remove_writes}
use Rattle.interface.proofs.SetLaws.{layout_1, call_laws}
use Rattle.interface.specs.Set.{Store, Invalidations, stores_in, Mode, World, write, remove, call_result, stores_after, buffers_after, write_result}
use Rattle.interface.specs.Set.{remove_result}
use Rattle.interface.specs.Set.{zipped, word_numbers, values, Played, play_end, play_result, play_list_result, playing, CallResult, index_of}
use Rattle.text.specs.Output.{Printed}
use Rattle.session.specs.Step.{leaves, played_all, slots_for, size_fault, line_fault, changed_as, change_step, line_step, followed_by, front_step, step_result}
use Rattle.text.specs.declared.Line.{Line}
use Rattle.session.specs.declared.Session.{Session}

-- ---- the stores of a call

pub parts_zipped : (at value : List ℕ) → length at ≡ length value
    → (word_numbers (zipped at value) ≡ at) × (values (zipped at value) ≡ value)
unfolding word_numbers values zipped
parts_zipped [] [] e = (refl, refl)
parts_zipped [] (v ∷ value) e = absurd (let z : ⊥ = omega arith in z)
parts_zipped (w ∷ at) [] e = absurd (let z : ⊥ = omega arith in z)
parts_zipped (w ∷ at) (v ∷ value) e =
    let p = parts_zipped at value (suc_inj e) in (ap (λ (t : List ℕ). w ∷ t) p.0, ap (λ (t : List ℕ). v ∷ t) p.1)

-- the 16 stores of a call are played
pub played_on : (image at value : List ℕ) → length at ≡ 16 → length value ≡ 16 → (a b k : ℕ) (after : List ℕ)
    → play_end k after ≡ play_result image at value a b → after ≡ playing image (zipped at value) a b
unfolding playing
played_on image at value words numbers a b k after e =
    let p = parts_zipped at value (words ∙ sym numbers) in
    ap (λ (r : Played). r.bytes) (e ∙ ap₂ (λ (ws vs : List ℕ). play_result image ws vs a b) (sym p.0) (sym p.1))

-- and so are all stores of a list
pub list_played_on : (image at value : List ℕ) (n : ℕ) → length at ≡ n → length value ≡ n → (k : ℕ) (after : List ℕ)
    → play_end k after ≡ play_list_result image at value → after ≡ played_all image (zipped at value)
unfolding played_all
list_played_on image at value n words numbers k after e =
    let p = parts_zipped at value (words ∙ sym numbers) in
    ap (λ (r : Played). r.bytes) (e ∙ ap₂ (play_list_result image) (sym p.0) (sym p.1))

-- among them the invalidating stores of a recovery, of which there are at most eight
pub invalidations_played_on : (image : List ℕ) (o : Invalidations) → length o.at ≡ 8 → length o.value ≡ 8 → o.count ≤ 8 → (k : ℕ) (after : List ℕ)
    → play_end k after ≡ play_list_result image (take o.count o.at) (take o.count o.value) → after ≡ played_all image (stores_in o)
unfolding stores_in
invalidations_played_on image o words numbers few k after e =
    list_played_on image (take o.count o.at) (take o.count o.value) o.count (length-take-le o.count o.at (omega arith))
    (length-take-le o.count o.value (omega arith)) k after e

-- a step by what a call left in the stores lent to it: they are looked at only where it handed stores out
pub left_step : (s : Session) (image : List ℕ) (lent : List Store) (c : CallResult)
    → ((given : List ℕ) → c.answer ≡ gives given → stores_after c.stores lent ≡ c.stores) → change_step s image (buffers_after lent c) ≡ change_step s image c
unfolding change_step changed_as buffers_after
left_step s image lent c h = go c.answer h
  where
    go : (answer : Answer) → ((given : List ℕ) → answer ≡ gives given → stores_after c.stores lent ≡ c.stores)
        → changed_as s c.index.state (stores_after c.stores lent) image c.index.heads c.index.next answer ≡
        changed_as s c.index.state c.stores image c.index.heads c.index.next answer
    go (gives given) out = ap (λ (ss : List Store). changed_as s c.index.state ss image c.index.heads c.index.next (gives given)) (out given refl)
    go absent out = refl
    go (refused number) out = refl

-- the call of a line hands out stores where it answers a slot
module _ (s : Session) (image heads next : List ℕ) (lent : List Store) where
  abbrev line_world : World
  line_world = record { image = image; index = index_of heads next s.state }

  pub write_left : (mode : Mode) (key : ℕ) (value : List ℕ)
      → change_step s image (buffers_after lent (write_result 1 image (index_of heads next s.state) mode key value)) ≡
      change_step s image (write_result 1 image (index_of heads next s.state) mode key value)
  unfolding call_result
  write_left mode key value = left_step s image lent _ (λ given e. (call_laws 1 layout_1).hands_out line_world (write mode key value) write_writes given e lent)

  pub remove_left : (key : ℕ)
      → change_step s image (buffers_after lent (remove_result 1 image (index_of heads next s.state) key)) ≡
      change_step s image (remove_result 1 image (index_of heads next s.state) key)
  unfolding call_result
  remove_left key = left_step s image lent _ (λ given e. (call_laws 1 layout_1).hands_out line_world (remove key) remove_writes given e lent)

-- ---- the refusals before a step

-- a line that is not refused has room for its slots
pub record FitsLent (n image heads next : ℕ) : Type 0 where
  pub some : 2 ≤ n
  pub few : n ≤ 511
  pub image_room : 128 * (n + 1) ≤ image
  pub heads_room : 1 ≤ heads
  pub next_room : n + 1 ≤ next

pub room : (n image heads next : ℕ) → size_fault n image heads next ≡ 0 → FitsLent n image heads next
unfolding size_fault
room n image heads next z =
    let low = refuse_if_zero _ _ _ z (omega arith) in
    let high = refuse_if_zero _ _ _ low.1 (omega arith) in
    let bytes = refuse_if_zero _ _ _ high.1 (omega arith) in
    let head = refuse_if_zero _ _ _ bytes.1 (omega arith) in
    let numbers = refuse_if_zero _ _ _ head.1 (omega arith) in
    record {
      some = ltb-false n 2 low.0;
      few = ltb-false 511 n high.0;
      image_room = ltb-false image (128 * (n + 1)) bytes.0;
      heads_room = ltb-false heads 1 head.0;
      next_room = ltb-false next (n + 1) numbers.0;
    }

module _ (line : Line) (s : Session) (image heads next k n : ℕ) (e : k ≡ line_fault line s image heads next) (z : k ≡ 0)
    (g : n ≡ slots_for line s) where
  pub roomy : FitsLent n image heads next
  unfolding line_fault
  roomy =
      room n image heads next
      (ap (λ (x : ℕ). size_fault x image heads next) g ∙ (or_else_zero _ _ (or_else_zero _ _ (sym e ∙ z)).1).0)

  pub count_fits : n + 1 < 2 ^ 64
  count_fits = omega (arith, roomy)

  pub bytes_fit : 128 * (n + 1) < 2 ^ 64
  bytes_fit = omega (arith, roomy)

  pub image_fits : 128 * (n + 1) ≤ image
  image_fits = roomy.image_room

  pub heads_fit : 1 ≤ heads
  heads_fit = roomy.heads_room

  pub next_fits : n + 1 ≤ next
  next_fits = roomy.next_room

-- ---- the step

pub step_done : (line : Line) (s : Session) (image heads next : List ℕ) (k : ℕ)
    → k ≡ line_fault line s (length image) (length heads) (length next) → k ≡ 0 → (n : ℕ) → n ≡ slots_for line s
    → (p : Printed) (t : Session) (i h x : List ℕ)
    → leaves p t i h x ≡ line_step line s (take (128 * (n + 1)) image) (take 1 heads) (take (n + 1) next)
    → leaves p t (i ++ drop (128 * (n + 1)) image) (h ++ drop 1 heads) (x ++ drop (n + 1) next) ≡ step_result line s image heads next
unfolding step_result front_step followed_by
step_done line s image heads next k e z n g p t i h x f =
    ap (followed_by (drop (128 * (n + 1)) image) (drop 1 heads) (drop (n + 1) next)) f
    ∙ ap (λ (m : ℕ). front_step line s (m + 1) image heads next) g ∙ sym (taken_leaves _ _ _ (sym e ∙ z))
