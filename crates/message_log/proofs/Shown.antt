-- What is shown of the words of an area after a recovery and after an append, whatever stands in it. Assumes nothing.
use mathlib.Core.Path.{◌≡◌, refl, sym, ap, ◌∙◌, subst}
use mathlib.Core.Bool.{true, false}
use mathlib.Core.Logic.{◌⊎◌, inl, inr, by_cases}
use mathlib.Core.List.{List}
use Prim.Native.Nat.{ℕ, suc, ◌+◌, ◌-◌, ◌*◌, ◌/◌, ◌%◌, ◌^◌, ◌≤◌, ◌<◌}
use native.Mathlib.Nat.{mod-lt, div-add-mod', mul-le-mul_right, suc-mul}
use native.Mathlib.Decide.{dec_lt, ℕ_discrete}
use native.Mathlib.Omega.{arith}
use lib.ListN.{length}
use borrow.Author.Tests.{ltb-true}
use Rattle.prelude.proofs.Choice.{same_test, true-false, both_right}
use Rattle.words.specs.Word.{AreBytes}
use Rattle.layout.specs.Line.{whole, version_of}
use Rattle.stores.specs.Store.{on_line}
use Rattle.stores.specs.Cut.{after_cut}
use Rattle.message_log.specs.Area.{marked_line}
use Rattle.message_log.specs.Message.{holds_message, is_complete, highest}
use Rattle.message_log.specs.Append.{message_stores, next_message, append_stores}
use Rattle.message_log.specs.Recover.{is_above, invalidations, recovery_stores}
use Rattle.message_log.specs.Laws.{Closed}
use Rattle.message_log.proofs.Cells.{held, SameCell, same_holds, Highest, highest_is, highest_by, Window}
use Rattle.message_log.proofs.Appends.{Message, AllStand, append_others, append_done, done_version, append_torn}
use Rattle.message_log.proofs.Invalidations.{recovery_cell, recovery_closes}

-- the same numbers of the window are complete, and their cells are the same
pub record KeepsShown (cells : ℕ) (m m' : ℕ → ℕ) : Type 0 where
  pub top : highest cells m' ≡ highest cells m
  pub numbers : (s : ℕ) → Window cells (highest cells m) s → is_complete cells m' s ≡ is_complete cells m s
  pub same_cells : (s : ℕ) → Window cells (highest cells m) s → is_complete cells m s ≡ true → SameCell m m' (s % cells)

-- the next number is complete with this message, and the cells of the others in its window are the same
pub record AddsShown (cells : ℕ) (m m' : ℕ → ℕ) (message : List ℕ) : Type 0 where
  pub top : highest cells m' ≡ next_message cells m
  pub newest : Message m' (next_message cells m % cells) (next_message cells m) message
  pub same_cells : (s : ℕ) → s ≤ highest cells m → Window cells (next_message cells m) s → SameCell m m' (s % cells)

-- ---- recovery

module _ (cells : ℕ) (many : 2 ≤ cells) (m : ℕ → ℕ) (counts : ℕ → ℕ) where
  abbrev h : ℕ
  h = highest cells m

  abbrev restored : ℕ → ℕ
  restored = after_cut counts (invalidations m h 0 cells) m

  -- the cell of s is the same, or open
  cell_of : (s : ℕ)
      → SameCell m restored (s % cells)
      ⊎ ((is_above m h (s % cells) ≡ true) × (whole (marked_line restored (s % cells) 0) (marked_line restored (s % cells) 7) ≡ false))
  cell_of s = recovery_cell m h cells counts (s % cells) (mod-lt s (omega arith))

  top_is : Highest cells m h
  top_is = highest_is cells m (omega arith)

  -- a complete number's cell is the same
  steady : (s : ℕ) → is_complete cells m s ≡ true → SameCell m restored (s % cells)
  unfolding is_above
  steady s e = go (cell_of s)
    where
      go : SameCell m restored (s % cells)
          ⊎ ((is_above m h (s % cells) ≡ true) × (whole (marked_line restored (s % cells) 0) (marked_line restored (s % cells) 7) ≡ false))
          → SameCell m restored (s % cells)
      go (inl same) = same
      go (inr (a, o)) =
          absurd (omega (
            arith,
            top_is.above s e,
            (held m (s % cells) s e).version,
            ltb-true h (version_of (marked_line m (s % cells) 7)) (both_right (whole (marked_line m (s % cells) 0) (marked_line m (s % cells) 7)) _ a),
          ))

  still : (s : ℕ) → is_complete cells m s ≡ true → is_complete cells restored s ≡ true
  still s e = same_holds m restored (s % cells) s (steady s e) ∙ e

  back : (s : ℕ) → is_complete cells restored s ≡ true → is_complete cells m s ≡ true
  back s e = go (cell_of s)
    where
      go : SameCell m restored (s % cells)
          ⊎ ((is_above m h (s % cells) ≡ true) × (whole (marked_line restored (s % cells) 0) (marked_line restored (s % cells) 7) ≡ false))
          → is_complete cells m s ≡ true
      go (inl same) = sym (same_holds m restored (s % cells) s same) ∙ e
      go (inr (a, o)) = absurd (true-false (held restored (s % cells) s e).is_whole o)

  same_top : highest cells restored ≡ h
  same_top = highest_by cells restored (omega arith) h (record { above = λ s e. top_is.above s (back s e); reached = reached top_is.reached })
    where
      reached : (h ≡ 0) ⊎ (is_complete cells m h ≡ true) → (h ≡ 0) ⊎ (is_complete cells restored h ≡ true)
      reached (inl e) = inl e
      reached (inr e) = inr (still h e)

  -- WHATEVER STANDS of recovery's stores, the same is shown
  pub recovery_shown : KeepsShown cells m (after_cut counts (recovery_stores cells m) m)
  unfolding recovery_stores
  recovery_shown =
      record {
        top = same_top;
        numbers = λ s w. same_test (is_complete cells restored s) (is_complete cells m s) (back s) (still s);
        same_cells = λ s w e. steady s e;
      }

  -- ALL OF THEM STAND: no whole marked line is above the highest complete number
  pub recovery_closed : ((n : ℕ) → 0 < counts n) → Closed cells (after_cut counts (recovery_stores cells m) m)
  unfolding recovery_stores
  recovery_closed all c l w = omega (arith, same_top, recovery_closes m h cells counts all c l w)

-- ---- append

-- numbers less than k apart stand in different cells
multiples : (x y k r : ℕ) → (x ≤ y) ⊎ (y + k ≤ x) → y + r < x + r → x + r < y + r + k → ⊥
multiples x y k r (inl h) p q = omega arith
multiples x y k r (inr h) p q = omega arith

mod_apart : (k a b : ℕ) → a < b → b < a + k → a % k ≡ b % k → ⊥
mod_apart k a b h l e =
    multiples (b / k * k) (a / k * k) k (b % k)
    (by_cases (dec_lt (a / k) (b / k)) (λ p. inr (subst (λ (x : ℕ). x ≤ b / k * k) (suc-mul (a / k) k) (mul-le-mul_right k p)))
    (λ p. inl (mul-le-mul_right k (omega arith))))
    (less a b _ _ here there h) (near a b k _ _ here there l)
  where
    here : a ≡ a / k * k + b % k
    here = sym (ap (λ (r : ℕ). a / k * k + r) (sym e) ∙ div-add-mod' a k)

    there : b ≡ b / k * k + b % k
    there = sym (div-add-mod' b k)

    less : (a b a' b' : ℕ) → a ≡ a' → b ≡ b' → a < b → a' < b'
    less a b a' b' p q r = omega arith

    near : (a b k a' b' : ℕ) → a ≡ a' → b ≡ b' → b < a + k → b' < a' + k
    near a b k a' b' p q r = omega arith

module _ (cells : ℕ) (many : 2 ≤ cells) (m : ℕ → ℕ) (m-fits : (i : ℕ) → m i < 2 ^ 64) (message : List ℕ) (are-bytes : AreBytes message) (counts : ℕ → ℕ) where
  abbrev s' : ℕ
  s' = next_message cells m

  abbrev cell : ℕ
  cell = s' % cells

  abbrev after : ℕ → ℕ
  after = after_cut counts (message_stores m cell s' message) m

  above_top : next_message cells m ≡ suc (highest cells m)
  unfolding next_message
  above_top = refl

  top_was : Highest cells m (highest cells m)
  top_was = highest_is cells m (omega arith)

  cell_under : cell < cells
  cell_under = mod-lt s' (omega arith)

  others : (d : ℕ) → (d ≡ cell → ⊥) → SameCell m after d
  others d ne = append_others m m-fits cell s' message are-bytes counts d ne

  other_complete : (s : ℕ) → (s % cells ≡ cell → ⊥) → is_complete cells after s ≡ is_complete cells m s
  other_complete s ne = same_holds m after (s % cells) s (others (s % cells) ne)

  -- a number of the window up to the highest stands elsewhere
  elsewhere : (s : ℕ) → s ≤ highest cells m → highest cells m - s < cells - 1 → s % cells ≡ cell → ⊥
  elsewhere s p q = mod_apart cells s s' (omega (arith, above_top)) (omega (arith, above_top))

  -- A STORE IS MISSING: the same is shown
  pub torn_shown : Closed cells m → (n : ℕ) → counts n < length (on_line n (append_stores cells m message))
      → KeepsShown cells m (after_cut counts (append_stores cells m message) m)
  unfolding append_stores next_message
  torn_shown closed n l =
      record {
        top = highest_by cells after (omega arith) (highest cells m)
            (record { above = λ s e. bound s e (ℕ_discrete (s % cells) cell); reached = reached top_was.reached });
        numbers = λ s w. other_complete s (elsewhere s w.high w.near);
        same_cells = λ s w e. others (s % cells) (elsewhere s w.high w.near);
      }
    where
      bound : (s : ℕ) → is_complete cells after s ≡ true → Dec (s % cells ≡ cell) → s ≤ highest cells m
      bound s e d =
          by_cases d
          (λ z.
          let o = append_torn m m-fits cell s' message are-bytes counts n l s (ap (λ (x : ℕ). holds_message after x s) (sym z) ∙ e) in
          omega (arith, o.1, closed cell cell_under o.0))
          (λ ne. top_was.above s (sym (other_complete s ne) ∙ e))

      reached : (highest cells m ≡ 0) ⊎ (is_complete cells m (highest cells m) ≡ true)
          → (highest cells m ≡ 0) ⊎ (is_complete cells after (highest cells m) ≡ true)
      reached (inl e) = inl e
      reached (inr e) = inr (other_complete (highest cells m) (elsewhere (highest cells m) (omega arith) (omega arith)) ∙ e)

  -- ALL STORES STAND: the message is shown too
  module _ (size_low : 1 ≤ length message) (size_high : length message ≤ 384) (stand : AllStand counts (append_stores cells m message)) where
    all_here : AllStand counts (message_stores m cell s' message)
    unfolding append_stores next_message
    all_here = stand

    new : Message after cell s' message
    new = append_done m m-fits cell s' message are-bytes counts all_here (omega (arith, above_top)) size_low size_high

    version_is : version_of (marked_line after cell 7) ≡ s'
    version_is = done_version m m-fits cell s' message are-bytes counts all_here

    top_after : highest cells after ≡ s'
    top_after = highest_by cells after (omega arith) s' (record { above = λ s e. bound s e (ℕ_discrete (s % cells) cell); reached = inr new.number })
      where
        bound : (s : ℕ) → is_complete cells after s ≡ true → Dec (s % cells ≡ cell) → s ≤ s'
        bound s e d =
            by_cases d
            (λ q. omega (arith, (held after cell s (ap (λ (x : ℕ). holds_message after x s) (sym q) ∙ e)).version, version_is))
            (λ ne. omega (arith, above_top, top_was.above s (sym (other_complete s ne) ∙ e)))

    pub done_shown : AddsShown cells m (after_cut counts (append_stores cells m message) m) message
    unfolding append_stores next_message
    done_shown =
        record {
          top = top_after;
          newest = new;
          same_cells = λ s p w. others (s % cells) (elsewhere s p (omega (arith, w.near, above_top)));
        }

    pub done_closed : Closed cells m → Closed cells (after_cut counts (append_stores cells m message) m)
    unfolding append_stores next_message
    done_closed closed c l w =
        by_cases (ℕ_discrete c cell)
        (λ e. omega (arith, top_after, ap (λ (x : ℕ). version_of (marked_line after x 7)) e, version_is))
        (λ ne.
        let same = (others c ne).marked-line in
        omega (arith, top_after, above_top, ap (λ (L : ℕ → ℕ). version_of (L 7)) same, closed c l (sym (ap (λ (L : ℕ → ℕ). whole (L 0) (L 7)) same) ∙ w)))
