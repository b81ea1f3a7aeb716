-- THE APPEND LAW on words: with all its stores the cell holds the message; with one missing it holds no number that its
-- marked line did not carry before; no other cell
-- changes. Assumes nothing.
use mathlib.Core.Path.{◌≡◌, refl, sym, ap, ap₂, ◌∙◌, subst}
use mathlib.Core.Bool.{true, false}
use mathlib.Core.Logic.{◌⊎◌, inl, inr, by_cases}
use mathlib.Core.List.{List, [], ◌++◌, append-nil}
use Prim.Native.Nat.{ℕ, zero, suc, ◌+◌, ◌*◌, ◌/◌, ◌%◌, ◌^◌, ◌≤◌, ◌<◌}
use native.Mathlib.Nat.{mod-lt, zero-lt-suc, mod-eq_of_lt}
use native.Mathlib.Decide.{dec_lt, ℕ_discrete}
use native.Mathlib.Omega.{arith}
use lib.ListN.{length}
use lib.Dec.{eqb, ltb}
use borrow.Author.Tests.{eqb-true, eqb-false, lt-ltb, le-ltb}
use Rattle.prelude.proofs.Choice.{pick_true, pick_false, split, true-false}
use Rattle.prelude.proofs.Any.{any_clear, any_some}
use Rattle.words.specs.Word.{AreBytes}
use Rattle.words.proofs.Laws.{word_range}
use Rattle.layout.specs.Line.{whole, version_of}
use Rattle.stores.specs.Store.{Store, on_line}
use Rattle.stores.specs.Written.{line_stores}
use Rattle.stores.specs.Cut.{after_cut, LineCut, untouched, torn, full}
use Rattle.stores.proofs.StandingStores.{line_out}
use Rattle.stores.proofs.Line.{on_append, own_run, other_run, own_stores, other_stores, run_length, run_cut, run_past, marked-body, marked-whole}
use Rattle.stores.proofs.Line.{marked-version, line_full, line_law}
use Rattle.message_log.specs.Area.{marked_line, payload_line}
use Rattle.message_log.specs.Bit.{bit_pair, pair_in}
use Rattle.message_log.specs.Message.{bit_differs, bits_differ, holds_message}
use Rattle.message_log.specs.Append.{message_line, line_count, payload_stores, payloads_from, pairs_word, marked_body, marked_words, message_stores}
use Rattle.message_log.proofs.Flexible.{count_within, count-equal, pair_low, packed_pair, bit_matches, bit-differs}
use Rattle.message_log.proofs.Cells.{Held, held, holding, SameCell}

-- ---- which stores are on which line

module _ (m : ℕ → ℕ) (c : ℕ) (message : List ℕ) where
  small : (i : ℕ) → 0 + line_count m c message i ≤ 8
  small i = omega (arith, count_within (payload_line m c i) (message_line message i))

  one_own : (i : ℕ) → on_line (7 * c + 1 + i) (payload_stores m c message i) ≡ payload_stores m c message i
  unfolding payload_stores
  one_own i = own_run (7 * c + 1 + i) (message_line message i) 0 (line_count m c message i) (small i)

  one_other : (n i : ℕ) → (7 * c + 1 + i ≡ n → ⊥) → on_line n (payload_stores m c message i) ≡ []
  unfolding payload_stores
  one_other n i ne = other_run n (7 * c + 1 + i) (message_line message i) 0 (line_count m c message i) ne (small i)

  from_none : (n k j : ℕ) → ((i : ℕ) → k ≤ i → i < k + j → 7 * c + 1 + i ≡ n → ⊥) → on_line n (payloads_from m c message k j) ≡ []
  unfolding payloads_from on_line
  from_none n k zero h = refl
  from_none n k (suc j) h =
      on_append n (payload_stores m c message k) (payloads_from m c message (suc k) j)
      ∙ ap₂ (λ (x y : List Store). x ++ y) (one_other n k (h k (omega arith) (omega arith)))
      (from_none n (suc k) j (λ i p q. h i (omega arith) (omega arith)))

  from_one : (k j i : ℕ) → k ≤ i → i < k + j → on_line (7 * c + 1 + i) (payloads_from m c message k j) ≡ payload_stores m c message i
  unfolding payloads_from
  from_one k zero i p q = absurd (omega arith)
  from_one k (suc j) i p q =
      on_append (7 * c + 1 + i) (payload_stores m c message k) (payloads_from m c message (suc k) j) ∙ go (from_one (suc k) j i) (split (eqb i k))
    where
      go : (suc k ≤ i → i < suc k + j → on_line (7 * c + 1 + i) (payloads_from m c message (suc k) j) ≡ payload_stores m c message i)
          → (eqb i k ≡ true) ⊎ (eqb i k ≡ false)
          → on_line (7 * c + 1 + i) (payload_stores m c message k) ++ on_line (7 * c + 1 + i) (payloads_from m c message (suc k) j)
          ≡ payload_stores m c message i
      go ih (inl e) =
          ap₂ (λ (x y : List Store). x ++ y)
          (ap (λ (x : ℕ). on_line (7 * c + 1 + i) (payload_stores m c message x)) (sym (eqb-true i k e)) ∙ one_own i)
          (from_none (7 * c + 1 + i) (suc k) j (λ o a b d. omega (arith, eqb-true i k e)))
          ∙ append-nil (payload_stores m c message i)
      go ih (inr e) =
          ap₂ (λ (x y : List Store). x ++ y)
          (one_other (7 * c + 1 + i) k (λ (d : 7 * c + 1 + k ≡ 7 * c + 1 + i). eqb-false i k e (omega arith)))
          (ih (omega (arith, eqb-false i k e)) (omega arith))

  module _ (s : ℕ) where
    on_marked : on_line (7 * c) (message_stores m c s message) ≡ line_stores (7 * c) (marked_words m c s message)
    unfolding message_stores
    on_marked =
        on_append (7 * c) (line_stores (7 * c) (marked_words m c s message)) (payloads_from m c message 0 6)
        ∙ ap₂ (λ (x y : List Store). x ++ y) (own_stores (7 * c) (marked_words m c s message)) (from_none (7 * c) 0 6 (λ i a b d. omega arith))
        ∙ append-nil (line_stores (7 * c) (marked_words m c s message))

    on_payload : (i : ℕ) → i < 6 → on_line (7 * c + 1 + i) (message_stores m c s message) ≡ payload_stores m c message i
    unfolding message_stores
    on_payload i h =
        on_append (7 * c + 1 + i) (line_stores (7 * c) (marked_words m c s message)) (payloads_from m c message 0 6)
        ∙ ap₂ (λ (x y : List Store). x ++ y) (other_stores (7 * c + 1 + i) (7 * c) (marked_words m c s message) (λ e. omega arith))
        (from_one 0 6 i (omega arith) (omega arith))

    pub on_other : (n : ℕ) → (n / 7 ≡ c → ⊥) → on_line n (message_stores m c s message) ≡ []
    unfolding message_stores
    on_other n ne =
        on_append n (line_stores (7 * c) (marked_words m c s message)) (payloads_from m c message 0 6)
        ∙ ap₂ (λ (x y : List Store). x ++ y) (other_stores n (7 * c) (marked_words m c s message) (λ (e : 7 * c ≡ n). ne (omega arith)))
        (from_none n 0 6 (λ i a b (e : 7 * c + 1 + i ≡ n). ne (omega arith)))

    marked_count : length (on_line (7 * c) (message_stores m c s message)) ≡ 8
    unfolding line_stores
    marked_count = ap length on_marked ∙ run_length (8 * (7 * c)) (marked_words m c s message) 0 8

    payload_count : (i : ℕ) → i < 6 → length (on_line (7 * c + 1 + i) (message_stores m c s message)) ≡ line_count m c message i
    unfolding payload_stores
    payload_count i h = ap length (on_payload i h) ∙ run_length (8 * (7 * c + 1 + i)) (message_line message i) 0 (line_count m c message i)

-- ---- after a cut

-- cell c holds this message with this number
pub record Message (m : ℕ → ℕ) (c s : ℕ) (message : List ℕ) : Type 0 where
  pub number : holds_message m c s ≡ true
  pub size : marked_line m c 1 ≡ length message
  pub words : (i j : ℕ) → i < 6 → j < 8 → payload_line m c i j ≡ message_line message i j

-- each line holds all its stores
abbrev pub AllStand : (counts : ℕ → ℕ) → List Store → Type 0
AllStand counts ss = (n : ℕ) → length (on_line n ss) ≤ counts n

module _ (m : ℕ → ℕ) (m-fits : (i : ℕ) → m i < 2 ^ 64) (c s : ℕ) (message : List ℕ) (are-bytes : AreBytes message) (counts : ℕ → ℕ) where
  abbrev ss : List Store
  ss = message_stores m c s message

  abbrev now : ℕ → ℕ
  now = after_cut counts ss m

  -- no other cell changes
  pub append_others : (d : ℕ) → (d ≡ c → ⊥) → SameCell m (after_cut counts (message_stores m c s message) m) d
  append_others d ne =
      record {
        marked-line = line_out counts m ss (7 * d) (on_other m c message s (7 * d) (λ e. ne (omega arith)));
        payload = λ i l. line_out counts m ss (7 * d + 1 + i) (on_other m c message s (7 * d + 1 + i) (λ e. ne (omega arith)));
      }

  stored_pair : (w i : ℕ) → w ≡ pairs_word m c message → i < 6 → pair_in w i ≡ bit_pair (payload_line m c i) (message_line message i)
  unfolding pairs_word
  stored_pair w i e h =
      ap (λ (x : ℕ). pair_in x i) e
      ∙ packed_pair (λ k. bit_pair (payload_line m c k) (message_line message k))
      (λ k. pair_low (payload_line m c k) (message_line message k) (λ j l. m-fits (8 * (7 * c + 1 + k) + j % 8))
      (λ j l. word_range message (8 * k + j) are-bytes))
      0 6 i h
      ∙ ap (λ (k : ℕ). bit_pair (payload_line m c k) (message_line message k)) (let z : 0 + i ≡ i = omega arith in z)

  at_word : (i j : ℕ) → j < 8 → payload_line now c i j ≡ now (8 * (7 * c + 1 + i) + j)
  at_word i j l = ap (λ (x : ℕ). now (8 * (7 * c + 1 + i) + x)) (mod-eq_of_lt l)

  -- a payload line with all its stores
  line_made : (i j : ℕ) → i < 6 → j < 8 → length (on_line (7 * c + 1 + i) ss) ≤ counts (7 * c + 1 + i)
      → payload_line now c i j ≡ message_line message i j
  unfolding payload_stores
  line_made i j h l e =
      by_cases (dec_lt j (line_count m c message i))
      (λ (p : j < line_count m c message i).
      at_word i j l
      ∙ run_cut counts m ss (7 * c + 1 + i) (line_count m c message i) (message_line message i) (on_payload m c message s i h) j l p
      ∙ pick_true (ltb j (counts (7 * c + 1 + i))) _ _ (lt-ltb j (counts (7 * c + 1 + i)) (omega (arith, payload_count m c message s i h))))
      (λ (p : j < line_count m c message i → ⊥).
      at_word i j l
      ∙ run_past counts m ss (7 * c + 1 + i) (line_count m c message i) (message_line message i) (on_payload m c message s i h) j l (omega arith)
      ∙ sym (ap (λ (x : ℕ). m (8 * (7 * c + 1 + i) + x)) (mod-eq_of_lt l))
      ∙ count-equal (payload_line m c i) (message_line message i) j (omega arith) l)

  -- and without the last of them
  line_torn : (i j : ℕ) → i < 6 → line_count m c message i ≡ suc j → counts (7 * c + 1 + i) ≤ j → payload_line now c i j ≡ payload_line m c i j
  unfolding payload_stores
  line_torn i j h e l =
      let b : j < 8 = omega (arith, count_within (payload_line m c i) (message_line message i)) in
      run_cut counts m ss (7 * c + 1 + i) (line_count m c message i) (message_line message i) (on_payload m c message s i h) (j % 8)
      (mod-lt j (zero-lt-suc 7)) (omega (arith, mod-eq_of_lt b))
      ∙ pick_false (ltb (j % 8) (counts (7 * c + 1 + i))) _ _ (le-ltb (j % 8) (counts (7 * c + 1 + i)) (omega (arith, mod-eq_of_lt b)))

  -- the marked line with all its stores
  module _ (enough : 8 ≤ counts (7 * c)) where
    made_word : (i : ℕ) → i < 8 → marked_line now c i ≡ marked_words m c s message i
    made_word i h = line_full counts m ss (7 * c) (marked_words m c s message) (on_marked m c message s) enough i h

    made_whole : whole (marked_line now c 0) (marked_line now c 7) ≡ true
    made_whole =
        ap₂ whole (made_word 0 (omega arith)) (made_word 7 (omega arith))
        ∙ marked-whole (marked_line m c 7) s (marked_body (length message) (pairs_word m c message))

    made_version : version_of (marked_line now c 7) ≡ s
    made_version =
        ap version_of (made_word 7 (omega arith)) ∙ marked-version (marked_line m c 7) s (marked_body (length message) (pairs_word m c message))

    made_size : marked_line now c 1 ≡ length message
    unfolding marked_body
    made_size =
        made_word 1 (omega arith)
        ∙ marked-body (marked_line m c 7) s (marked_body (length message) (pairs_word m c message)) 1 (omega arith) (omega arith)

    made_pairs : marked_line now c 2 ≡ pairs_word m c message
    unfolding marked_body
    made_pairs =
        made_word 2 (omega arith)
        ∙ marked-body (marked_line m c 7) s (marked_body (length message) (pairs_word m c message)) 2 (omega arith) (omega arith)

    line_matches : (i : ℕ) → i < 6 → length (on_line (7 * c + 1 + i) ss) ≤ counts (7 * c + 1 + i)
        → bit_differs (marked_line now c 2) (payload_line now c i) i ≡ false
    line_matches i h e =
        bit_matches (payload_line m c i) (message_line message i) (λ j l. m-fits (8 * (7 * c + 1 + i) + j % 8))
        (λ j l. word_range message (8 * i + j) are-bytes)
        (marked_line now c 2) i (stored_pair _ i made_pairs h) (payload_line now c i) (λ j l. line_made i j h l e)

    line_differs : (i : ℕ) → i < 6 → counts (7 * c + 1 + i) < length (on_line (7 * c + 1 + i) ss)
        → bit_differs (marked_line now c 2) (payload_line now c i) i ≡ true
    line_differs i h e = go (line_count m c message i) refl (subst (λ (x : ℕ). counts (7 * c + 1 + i) < x) (payload_count m c message s i h) e)
      where
        go : (k : ℕ) → line_count m c message i ≡ k → counts (7 * c + 1 + i) < k → bit_differs (marked_line now c 2) (payload_line now c i) i ≡ true
        go zero q l = absurd (omega arith)
        go (suc j) q l =
            bit-differs (payload_line m c i) (message_line message i) (λ x y. m-fits (8 * (7 * c + 1 + i) + x % 8))
            (λ x y. word_range message (8 * i + x) are-bytes)
            (marked_line now c 2) i (stored_pair _ i made_pairs h) (payload_line now c i) j q (line_torn i j h q (omega arith))

  -- ALL STORES STAND: the cell holds the message
  module _ (stand : AllStand counts (message_stores m c s message)) where
    enough_marked : 8 ≤ counts (7 * c)
    enough_marked = omega (arith, marked_count m c message s, stand (7 * c))

    pub done_version : version_of (marked_line (after_cut counts (message_stores m c s message) m) c 7) ≡ s
    done_version = made_version enough_marked

    pub append_done : 1 ≤ s → 1 ≤ length message → length message ≤ 384 → Message (after_cut counts (message_stores m c s message) m) c s message
    unfolding bits_differ
    append_done low size_low size_high =
        record {
          number = holding now c s
              (record {
                low = low;
                is_whole = made_whole enough_marked;
                version = made_version enough_marked;
                size_low = omega (arith, made_size enough_marked);
                size_high = omega (arith, made_size enough_marked);
                bits = any_clear _ 0 6 (λ i h. line_matches enough_marked (0 + i) (omega arith) (stand (7 * c + 1 + (0 + i))));
              });
          size = made_size enough_marked;
          words = λ i j h l. line_made i j h l (stand (7 * c + 1 + i));
        }

  -- A STORE IS MISSING: whatever number the cell then holds, its marked line carried before
  torn_payload : (i x : ℕ) → i < 6 → counts (7 * c + 1 + i) < length (on_line (7 * c + 1 + i) ss) → 8 ≤ counts (7 * c)
      → holds_message now c x ≡ true → ⊥
  unfolding bits_differ
  torn_payload i x h l enough e =
      true-false (any_some (λ k. bit_differs (marked_line now c 2) (payload_line now c k) k) 0 6 i h (at (line_differs enough i h l))) (held now c x e).bits
    where
      at : bit_differs (marked_line now c 2) (payload_line now c i) i ≡ true → bit_differs (marked_line now c 2) (payload_line now c (0 + i)) (0 + i) ≡ true
      at = subst (λ (k : ℕ). bit_differs (marked_line now c 2) (payload_line now c k) k ≡ true) (let z : i ≡ 0 + i = omega arith in z)

  -- line n of the cell is the marked one or payload line i
  torn_line : (n x : ℕ) → n / 7 ≡ c → counts n < length (on_line n ss) → 8 ≤ counts (7 * c) → holds_message now c x ≡ true → ⊥
  torn_line n x d l enough e = go (n % 7) refl
    where
      go : (k : ℕ) → n % 7 ≡ k → ⊥
      go zero z =
          let q : n ≡ 7 * c = omega arith in
          omega (arith, marked_count m c message s, subst (λ (y : ℕ). counts y < length (on_line y ss)) q l)
      go (suc i) z =
          let q : n ≡ 7 * c + 1 + i = omega arith in
          torn_payload i x (omega (arith, mod-lt n (zero-lt-suc 6))) (subst (λ (y : ℕ). counts y < length (on_line y ss)) q l) enough e

  pub append_torn : (n : ℕ) → counts n < length (on_line n (message_stores m c s message)) → (x : ℕ)
      → holds_message (after_cut counts (message_stores m c s message) m) c x ≡ true
      → (whole (marked_line m c 0) (marked_line m c 7) ≡ true) × (version_of (marked_line m c 7) ≡ x)
  append_torn n l x e =
      by_cases (ℕ_discrete (n / 7) c)
      (λ d. go d (line_law counts m ss (7 * c) s (marked_body (length message) (pairs_word m c message)) (on_marked m c message s)) (held now c x e))
      (λ ne. absurd (omega (arith, ap length (on_other m c message s n ne))))
    where
      go : n / 7 ≡ c → LineCut (marked_line m c) (marked_words m c s message) (marked_line now c) (counts (7 * c)) → Held now c x
          → (whole (marked_line m c 0) (marked_line m c 7) ≡ true) × (version_of (marked_line m c 7) ≡ x)
      go d (untouched z q) h =
          (ap (λ (L : ℕ → ℕ). whole (L 0) (L 7)) (sym q) ∙ h.is_whole, ap (λ (L : ℕ → ℕ). version_of (L 7)) (sym q) ∙ h.version)
      go d (torn p q o) h = absurd (true-false h.is_whole o)
      go d (full p q) h = absurd (torn_line n x d l p e)
