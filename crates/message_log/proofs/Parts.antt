-- The bytes of a message in an area, and what a read gives of it. Assumes nothing.
use mathlib.Core.Path.{◌≡◌, sym, ap, ap₂, ◌∙◌, subst}
use mathlib.Core.Bool.{Bool, true, false, not}
use mathlib.Core.Logic.{by_cases}
use mathlib.Core.List.{List, []}
use Prim.Native.Nat.{ℕ, ◌+◌, ◌*◌, ◌/◌, ◌%◌, ◌^◌, ◌≤◌, ◌<◌}
use native.Mathlib.Decide.{dec_lt}
use native.Mathlib.Omega.{arith}
use lib.ListN.{length, get_or, take, drop, length-drop}
use lib.Seq.{length-take-le, get_or-take, get_or-drop, ext_get_or}
use lib.Dec.{eqb}
use borrow.Author.Tests.{le-ltb, eq-eqb, ne_eqb, eqb-false}
use Rattle.prelude.specs.Refusal.{refuse_if, unless_refused}
use Rattle.prelude.proofs.Tests.{tests}
use Rattle.prelude.proofs.Refusals.{refuse_if-true, refuse_if-false, refuse_if_zero, or_else_later}
use Rattle.words.specs.Word.{AreBytes, word}
use Rattle.words.proofs.Laws.{word_byte}
use Rattle.message_log.specs.Area.{cells_of, cells_in, area_fault, marked_line, payload_line}
use Rattle.message_log.specs.Message.{shown, message_start, message_in}
use Rattle.message_log.specs.Read.{read_fault, read_part}
use Rattle.message_log.specs.inner.Needs.{CellCount}
use Rattle.message_log.proofs.Cells.{SameCell, held}
use Rattle.message_log.proofs.Appends.{Message}

-- ---- the cells of an area

pub cells_sized : (k : ℕ) → 2 ≤ k → k ≤ 1000 → cells_of (448 * k) ≡ k
unfolding cells_of
cells_sized k low high =
    refuse_if-false _ _ _ (le-ltb (448 * k) 896 (omega arith)) ∙ refuse_if-false _ _ _ (le-ltb 448000 (448 * k) (omega arith))
    ∙ refuse_if-false _ _ _ (ap not (eq-eqb (448 * k % 448) 0 (omega arith))) ∙ omega arith

cells_known : (len : ℕ) → (cells_of len ≡ 0 → ⊥) → CellCount len (cells_of len)
unfolding cells_of refuse_if
cells_known len ne =
    by_cases (dec_lt len 896) (λ h. absurd (ne (search tests)))
    (λ h.
    let h' : 896 ≤ len = omega arith in
    by_cases (dec_lt 448000 len) (λ k. absurd (ne (search tests)))
    (λ k.
    let k' : len ≤ 448000 = omega arith in
    by_cases (dec_lt 0 (len % 448))
    (λ m. let z : len % 448 ≡ 0 → ⊥ = (λ q. omega arith) in absurd (ne (search tests)))
    (λ m.
    let z : len % 448 ≡ 0 = omega arith in
    let e : cells_of len ≡ len / 448 = search tests in
    record { some = omega arith; few = omega arith; size = omega arith })))

pub area_cells : (area : List ℕ) → area_fault area ≡ 0 → CellCount (length area) (cells_in area)
unfolding area_fault
area_cells area z = cells_known (length area) (eqb-false (cells_in area) 0 (refuse_if_zero _ _ _ z (omega arith)).0)

-- by a count that is known
module _ (area : List ℕ) (k : ℕ) (e : k ≡ cells_in area) where
  pub no_area : k ≡ 0 → area_fault area ≡ 30
  unfolding area_fault
  no_area z = refuse_if-true (eqb (cells_in area) 0) 30 0 (eq-eqb _ 0 (sym e ∙ z))

  pub is_area : (k ≡ 0 → ⊥) → area_fault area ≡ 0
  unfolding area_fault
  is_area ne = refuse_if-false (eqb (cells_in area) 0) 30 0 (ne_eqb _ 0 (λ z. ne (e ∙ z)))

  pub cells_by : 0 ≡ area_fault area → CellCount (length area) k
  cells_by fine = subst (CellCount (length area)) (sym e) (area_cells area (sym fine))

-- ---- the part that holds a message

part_by : (area : List ℕ) (c : ℕ) (t : List ℕ) → message_start c + 384 ≤ length area → marked_line (word area) c 1 ≡ length t → length t ≤ 384
    → ((i : ℕ) → i < length t → get_or area (message_start c + i) 0 ≡ get_or t i 0) → message_in area c ≡ t
unfolding message_in
part_by area c t room e short at =
    ap (λ (n : ℕ). take n (drop (message_start c) area)) e
    ∙ ext_get_or 0 (take (length t) (drop (message_start c) area)) t long
    (λ i h.
    let below : i < length t = subst (λ (x : ℕ). i < x) long h in
    get_or-take (length t) (drop (message_start c) area) i 0 below ∙ get_or-drop (message_start c) area i 0 ∙ at i below)
  where
    long : length (take (length t) (drop (message_start c) area)) ≡ length t
    long = length-take-le (length t) (drop (message_start c) area) (omega (arith, length-drop (message_start c) area))

-- a byte of a payload line
payload_byte : (area : List ℕ) (c i : ℕ) → AreBytes area → i < 384
    → get_or area (message_start c + i) 0 ≡ payload_line (word area) c (i / 64) (i / 8 % 8) / 256 ^ (i % 8) % 256
payload_byte area c i are-bytes h =
    sym (word_byte area (message_start c + i) are-bytes)
    ∙ ap₂ (λ (x y : ℕ). word area x / 256 ^ y % 256) (let e : (448 * c + 64 + i) / 8 ≡ 8 * (7 * c + 1 + i / 64) + i / 8 % 8 % 8 = omega arith in e)
    (let e : (448 * c + 64 + i) % 8 ≡ i % 8 = omega arith in e)

pub message_part : (area : List ℕ) (c s : ℕ) (message : List ℕ) → AreBytes area → AreBytes message → message_start c + 384 ≤ length area
    → Message (word area) c s message → message_in area c ≡ message
message_part area c s message are-bytes bytes room g =
    part_by area c message room g.size short
    (λ i h.
    payload_byte area c i are-bytes (omega (arith, short))
    ∙ ap (λ (w : ℕ). w / 256 ^ (i % 8) % 256)
    (g.words (i / 64) (i / 8 % 8) (omega (arith, short)) (omega arith)
    ∙ ap (word message) (let e : 8 * (i / 64) + i / 8 % 8 ≡ i / 8 = omega arith in e))
    ∙ word_byte message i bytes)
  where
    short : length message ≤ 384
    short = omega (arith, g.size, (held (word area) c s g.number).size_high)

pub same_part : (area area' : List ℕ) (c : ℕ) → AreBytes area → AreBytes area' → message_start c + 384 ≤ length area → length area' ≡ length area
    → marked_line (word area) c 1 ≤ 384 → SameCell (word area) (word area') c → message_in area' c ≡ message_in area c
unfolding message_in
same_part area area' c b b' room same short e =
    part_by area' c (take n (drop (message_start c) area)) (omega (arith, same)) (ap (λ (L : ℕ → ℕ). L 1) e.marked-line ∙ sym long)
    (omega (arith, long))
    (λ i h.
    let below : i < n = subst (λ (x : ℕ). i < x) long h in
    payload_byte area' c i b' (omega arith)
    ∙ ap (λ (L : ℕ → ℕ). L (i / 8 % 8) / 256 ^ (i % 8) % 256) (e.payload (i / 64) (omega arith))
    ∙ sym (payload_byte area c i b (omega arith))
    ∙ sym (get_or-take n (drop (message_start c) area) i 0 below ∙ get_or-drop (message_start c) area i 0))
  where
    n : ℕ
    n = marked_line (word area) c 1

    long : length (take n (drop (message_start c) area)) ≡ n
    long = length-take-le n (drop (message_start c) area) (omega (arith, length-drop (message_start c) area))

-- ---- a read

module _ (area : List ℕ) (fine : area_fault area ≡ 0) (s : ℕ) where
  pub read-fault : read_fault area s ≡ refuse_if (not (shown (cells_in area) (word area) s)) 31 0
  unfolding read_fault
  read-fault = or_else_later (area_fault area) _ fine

  pub read_shown : shown (cells_in area) (word area) s ≡ true → read_part area s ≡ message_in area (s % cells_in area)
  unfolding read_part refuse_if unless_refused
  read_shown e =
      ap (λ (f : ℕ). unless_refused f (message_in area (s % cells_in area)) []) (read-fault ∙ ap (λ (t : Bool). refuse_if (not t) 31 0) e)

  pub read_hidden : shown (cells_in area) (word area) s ≡ false → read_part area s ≡ []
  unfolding read_part refuse_if unless_refused
  read_hidden e =
      ap (λ (f : ℕ). unless_refused f (message_in area (s % cells_in area)) []) (read-fault ∙ ap (λ (t : Bool). refuse_if (not t) 31 0) e)
