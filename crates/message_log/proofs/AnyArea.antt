-- THE LAWS FROM ANY AREA: what is shown after any part of recovery's stores, after an append, and after any part of its stores. Assumes nothing.
use mathlib.Core.Path.{◌≡◌, refl, sym, ap, ◌∙◌, subst}
use mathlib.Core.Bool.{Bool, true, false, not, ◌&&◌}
use mathlib.Core.Logic.{◌⊎◌, inl, inr, by_cases}
use mathlib.Core.List.{List, []}
use Prim.Native.Nat.{ℕ, suc, ◌+◌, ◌-◌, ◌*◌, ◌/◌, ◌%◌, ◌^◌, ◌≤◌, ◌<◌}
use native.Mathlib.Nat.{mod-lt}
use native.Mathlib.Decide.{dec_lt}
use native.Mathlib.Omega.{arith}
use lib.ListN.{length}
use lib.Dec.{eqb, ltb}
use borrow.Author.Tests.{eqb-false, ne_eqb, not-true, ltb-true, ltb-false}
use Rattle.prelude.specs.Refusal.{refuse_if}
use Rattle.prelude.proofs.Choice.{same_test, split, both, both_left, both_of}
use Rattle.prelude.proofs.Any.{any_none, any_place}
use Rattle.words.specs.Word.{AreBytes, word}
use Rattle.words.proofs.Laws.{word_range}
use Rattle.stores.specs.Store.{Store, played, standing, on_line}
use Rattle.stores.specs.Cut.{after_cut}
use Rattle.stores.proofs.Bytes.{played-length, played_bytes, struck_words}
use Rattle.message_log.specs.Area.{cells_of, cells_in, area_fault, marked_line}
use Rattle.message_log.specs.Message.{is_complete, highest, in_window, shown, message_start, message_in}
use Rattle.message_log.specs.Append.{next_message, append_stores}
use Rattle.message_log.specs.Recover.{recovery_stores}
use Rattle.message_log.specs.Read.{read_part}
use Rattle.message_log.specs.Event.{is_torn}
use Rattle.message_log.specs.Laws.{ShowsSame, ShowsMore, RecoveryKeeps, Closed, whole_there, wholly_absent, AppendLeaves, AppendAllOrNone}
use Rattle.message_log.specs.inner.Needs.{CellCount}
use Rattle.message_log.proofs.Cells.{held, same_holds, Window, window, in-window}
use Rattle.message_log.proofs.Appends.{AllStand, on_other}
use Rattle.message_log.proofs.Shown.{KeepsShown, AddsShown, recovery_shown, torn_shown, done_shown}
use Rattle.message_log.proofs.Parts.{area_cells, message_part, same_part, read_shown, read_hidden}
use Rattle.message_log.proofs.Inside.{Accepted, accepted, append_inside_area, recovery_inside_area}

-- ---- what is shown, from the words

module _ (area area' : List ℕ) (fine : area_fault area ≡ 0) (bytes : AreBytes area) (bytes' : AreBytes area') (same : length area' ≡ length area) where
  abbrev K : ℕ
  K = cells_in area

  abbrev h : ℕ
  h = highest K (word area)

  abbrev s' : ℕ
  s' = next_message K (word area)

  all : CellCount (length area) K
  all = area_cells area fine

  above_top : s' ≡ suc h
  unfolding next_message
  above_top = refl

  same_count : cells_in area' ≡ K
  same_count = ap cells_of same

  fine' : area_fault area' ≡ 0
  unfolding area_fault
  fine' = ap (λ (k : ℕ). refuse_if (eqb k 0) 30 0) same_count ∙ fine

  room : (s : ℕ) → message_start (s % K) + 384 ≤ length area
  room s = omega (arith, all.size, mod-lt s (let p : 0 < K = omega (arith, all.some) in p))

  -- a read of area', by the cells of area
  there_shown : (s : ℕ) → shown K (word area') s ≡ true → read_part area' s ≡ message_in area' (s % K)
  there_shown s e =
      read_shown area' fine' s (ap (λ (k : ℕ). shown k (word area') s) same_count ∙ e) ∙ ap (λ (k : ℕ). message_in area' (s % k)) same_count

  there_hidden : (s : ℕ) → shown K (word area') s ≡ false → read_part area' s ≡ []
  there_hidden s e = read_hidden area' fine' s (ap (λ (k : ℕ). shown k (word area') s) same_count ∙ e)

  -- a number that is shown: it is in the window and complete
  shown_of : (m : ℕ → ℕ) (s : ℕ) → shown K m s ≡ true → Window K (highest K m) s × (is_complete K m s ≡ true)
  unfolding shown
  shown_of m s e = let b = both_of (in_window K (highest K m) s) (is_complete K m s) e in (window K (highest K m) s b.0, b.1)

  shown_by : (m : ℕ → ℕ) (t s : ℕ) → highest K m ≡ t → Window K t s → is_complete K m s ≡ true → shown K m s ≡ true
  unfolding shown
  shown_by m t s e w d = both _ _ (ap (λ (x : ℕ). in_window K x s) e ∙ in-window K t s w) d

  at_top : (m : ℕ → ℕ) (t s : ℕ) → highest K m ≡ t → Window K (highest K m) s → Window K t s
  at_top m t s e w = subst (λ (x : ℕ). Window K x s) e w

  short : (s : ℕ) → is_complete K (word area) s ≡ true → marked_line (word area) (s % K) 1 ≤ 384
  short s e = (held (word area) (s % K) s e).size_high

  -- THE SAME IS SHOWN
  pub keeps_shows : KeepsShown (cells_in area) (word area) (word area') → ShowsSame area area'
  keeps_shows k = record { top = k.top; numbers = numbers; parts = λ s. parts s (split (shown K (word area) s)) }
    where
      numbers : (s : ℕ) → shown K (word area') s ≡ shown K (word area) s
      numbers s =
          same_test (shown K (word area') s) (shown K (word area) s)
          (λ e.
          let b = shown_of (word area') s e in
          let w = at_top (word area') h s k.top b.0 in
          shown_by (word area) h s refl w (sym (k.numbers s w) ∙ b.1))
          (λ e.
          let b = shown_of (word area) s e in
          shown_by (word area') h s k.top b.0 (k.numbers s b.0 ∙ b.1))

      parts : (s : ℕ) → (shown K (word area) s ≡ true) ⊎ (shown K (word area) s ≡ false) → read_part area' s ≡ read_part area s
      parts s (inl e) =
          let b = shown_of (word area) s e in
          there_shown s (numbers s ∙ e)
          ∙ same_part area area' (s % K) bytes bytes' (room s) same (short s b.1) (k.same_cells s b.0 b.1)
          ∙ sym (read_shown area fine s e)
      parts s (inr e) = there_hidden s (numbers s ∙ e) ∙ sym (read_hidden area fine s e)

  -- ONE MORE IS SHOWN
  module _ (message : List ℕ) (are-bytes : AreBytes message) (g : AddsShown (cells_in area) (word area) (word area') message) where
    is_newest : shown K (word area') s' ≡ true
    is_newest =
        shown_by (word area') s' s' g.top (record { low = omega (arith, above_top); high = omega arith; near = omega (arith, all.some) })
        g.newest.number

    -- a number of the old window whose cell is the same
    forth : (s : ℕ) → s ≤ h → shown K (word area') s ≡ true → Window K s' s × (is_complete K (word area) s ≡ true)
    forth s p e =
        let b = shown_of (word area') s e in
        let w = at_top (word area') s' s g.top b.0 in
        (w, sym (same_holds (word area) (word area') (s % K) s (g.same_cells s p w)) ∙ b.1)

    not_oldest : (s : ℕ) → s ≤ h → shown K (word area') s ≡ true → (shown K (word area) s && not (eqb (s + K) (h + 2))) ≡ true
    not_oldest s p e =
        let b = forth s p e in
        both _ _
        (shown_by (word area) h s refl
        (record { low = b.0.low; high = p; near = omega (arith, b.0.near, above_top, p) }) b.1)
        (ap not (ne_eqb (s + K) (h + 2) (λ q. omega (arith, b.0.near, above_top, p))))

    still_shown : (s : ℕ) → s ≤ h → (shown K (word area) s && not (eqb (s + K) (h + 2))) ≡ true → shown K (word area') s ≡ true
    still_shown s p e =
        let b = both_of (shown K (word area) s) (not (eqb (s + K) (h + 2))) e in
        let o = shown_of (word area) s b.0 in
        let ne : s + K ≡ h + 2 → ⊥ = eqb-false (s + K) (h + 2) (not-true (eqb (s + K) (h + 2)) b.1) in
        let w : Window K s' s = record { low = o.0.low; high = omega (arith, above_top); near = nearer s o.0.near p ne } in
        shown_by (word area') s' s g.top w (same_holds (word area) (word area') (s % K) s (g.same_cells s p w) ∙ o.1)
      where
        nearer : (s : ℕ) → h - s < K - 1 → s ≤ h → (s + K ≡ h + 2 → ⊥) → s' - s < K - 1
        nearer s a b ne = by_cases (dec_lt (h + 2) (s + K)) (λ q. omega (arith, above_top)) (λ q. absurd (ne (omega (arith, all.some))))

    pub adds_shows : ShowsMore area message area'
    adds_shows =
        record {
          top = g.top;
          newest = is_newest;
          newest_part =
              there_shown s' is_newest
              ∙ message_part area' (s' % K) s' message bytes' are-bytes (omega (arith, same, room s')) g.newest;
          numbers = λ s p.
              same_test (shown K (word area') s) (shown K (word area) s && not (eqb (s + K) (h + 2))) (not_oldest s p) (still_shown s p);
          parts = λ s p e.
              let b = forth s p e in
              there_shown s e
              ∙ same_part area area' (s % K) bytes bytes' (room s) same (short s b.1) (g.same_cells s p b.0)
              ∙ sym (read_shown area fine s (both_left (shown K (word area) s) (not (eqb (s + K) (h + 2))) (not_oldest s p e)));
        }

-- ---- recovery

module _ (area : List ℕ) (bytes : AreBytes area) (fine : area_fault area ≡ 0) (counts : ℕ → ℕ) where
  abbrev opened : List ℕ
  opened = played (standing counts (recovery_stores (cells_in area) (word area))) area

  pub recovery_words : word (played (standing counts (recovery_stores (cells_in area) (word area))) area)
      ≡ after_cut counts (recovery_stores (cells_in area) (word area)) (word area)
  recovery_words = struck_words counts area (recovery_inside_area area fine)

  part_opened : ShowsSame area opened
  part_opened =
      keeps_shows area opened fine bytes (played_bytes _ area bytes) (played-length _ area)
      (subst (KeepsShown (cells_in area) (word area)) (sym recovery_words)
      (recovery_shown (cells_in area) (area_cells area fine).some (word area) counts))

-- ANY PART OF RECOVERY'S STORES leaves what is shown
pub recovery_keeps : RecoveryKeeps
recovery_keeps area bytes fine counts = part_opened area bytes fine counts

-- ---- append

module _ (area message : List ℕ) (bytes : AreBytes area) (are-bytes : AreBytes message) (ok : Accepted area message) (counts : ℕ → ℕ) where
  abbrev ss : List Store
  ss = append_stores (cells_in area) (word area) message

  abbrev after : List ℕ
  after = played (standing counts ss) area

  fits : (i : ℕ) → word area i < 2 ^ 64
  fits i = word_range area i bytes

  some : 2 ≤ cells_in area
  some = (area_cells area ok.area_fine).some

  pub append_words : word (played (standing counts (append_stores (cells_in area) (word area) message)) area)
      ≡ after_cut counts (append_stores (cells_in area) (word area) message) (word area)
  append_words = struck_words counts area (append_inside_area area message bytes are-bytes ok)

  -- lines of other cells have no store
  pub all-stand : is_torn counts (append_stores (cells_in area) (word area) message) (7 * cells_in area) ≡ false
      → AllStand counts (append_stores (cells_in area) (word area) message)
  unfolding is_torn append_stores
  all-stand e n =
      by_cases (dec_lt n (7 * cells_in area))
      (λ l.
      ltb-false (counts n) (length (on_line n ss))
      (ap (λ (k : ℕ). ltb (counts k) (length (on_line k ss))) (let z : n ≡ 0 + n = omega arith in z)
      ∙ any_none (λ k. ltb (counts k) (length (on_line k ss))) 0 (7 * cells_in area) e n l))
      (λ l.
      omega (
        arith,
        ap length
            (on_other (word area) (next_message (cells_in area) (word area) % cells_in area) message (next_message (cells_in area) (word area)) n
            (λ (q : n / 7 ≡ next_message (cells_in area) (word area) % cells_in area).
            omega (arith, mod-lt (next_message (cells_in area) (word area)) (let p : 0 < cells_in area = omega (arith, some) in p)))),
      ))

  missing : is_torn counts ss (7 * cells_in area) ≡ true → Closed (cells_in area) (word area) → ShowsSame area after
  unfolding is_torn
  missing e closed =
      let torn = any_place (λ k. ltb (counts k) (length (on_line k ss))) 0 (7 * cells_in area) e in
      keeps_shows area after ok.area_fine bytes (played_bytes _ area bytes) (played-length _ area)
      (subst (KeepsShown (cells_in area) (word area)) (sym append_words)
      (torn_shown (cells_in area) some (word area) fits message are-bytes counts closed torn.0
      (ltb-true (counts torn.0) (length (on_line torn.0 ss)) torn.2)))

  finished : is_torn counts ss (7 * cells_in area) ≡ false → ShowsMore area message after
  finished e =
      adds_shows area after ok.area_fine bytes (played_bytes _ area bytes) (played-length _ area) message are-bytes
      (subst (λ (m : ℕ → ℕ). AddsShown (cells_in area) (word area) m message) (sym append_words)
      (done_shown (cells_in area) some (word area) fits message are-bytes counts ok.some ok.short (all-stand e)))

  pub append_leaves : Closed (cells_in area) (word area)
      → AppendLeaves area message (played (standing counts (append_stores (cells_in area) (word area) message)) area)
      (is_torn counts (append_stores (cells_in area) (word area) message) (7 * cells_in area))
  append_leaves closed = go (is_torn counts ss (7 * cells_in area)) refl
    where
      go : (t : Bool) → is_torn counts ss (7 * cells_in area) ≡ t → AppendLeaves area message after t
      go true e = wholly_absent (missing e closed)
      go false e = whole_there (finished e)

-- ALL OR NONE: a finished append shows one more and drops the oldest; anything less leaves what is shown
pub append_all_or_none : AppendAllOrNone
append_all_or_none area message bytes are-bytes closed ats vals z counts =
    append_leaves area message bytes are-bytes (accepted area message ats vals z) counts closed
