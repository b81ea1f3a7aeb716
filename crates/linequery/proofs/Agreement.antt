-- The answers on every line are the set's own rules. Assumes nothing.
use mathlib.Core.Path.{◌≡◌, refl, sym, ap, ap₂, ◌∙◌}
use mathlib.Core.Bool.{Bool, true, false, cond}
use mathlib.Core.Logic.{by_cases}
use mathlib.Core.List.{List}
use Prim.Native.Nat.{ℕ, ◌+◌, ◌*◌, ◌/◌, ◌%◌, ◌^◌, ◌≤◌, ◌<◌, max}
use native.Mathlib.Decide.{ℕ_discrete}
use native.Mathlib.Omega.{arith}
use lib.Dec.{eqb, leb}
use lib.ListN.{length, drop, length-take, length-drop}
use borrow.Author.Tests.{lt-leb}
use Rattle.words.specs.Word.{AreBytes, word}
use Rattle.words.proofs.Laws.{word_same, word_range, word-take, word-drop}
use Rattle.prelude.specs.Refusal.{refuse_if}
use Rattle.prelude.proofs.Refusals.{refuse_if-false, or_else_later, taken_leaves}
use Rattle.layout.specs.Line.{line, whole, version_of, first_word, last_word_of, whole_version, version_fault}
use Rattle.layout.specs.Slot.{paired, verdict_of, line_verdict, slot_verdict}
use Rattle.layout.specs.declared.Verdict.TheVariants.{Valid, Empty, Broken}
use Rattle.stores.specs.Store.{Store, on_line}
use Rattle.stores.specs.Play.{values}
use Rattle.stores.specs.Written.{marked, body_a, body_b, run, line_stores, record_stores}
use Rattle.stores.proofs.defs.Cut.{Carries}
use Rattle.stores.proofs.Table.{record_carries}
use Rattle.linequery.specs.Query.{slice_fault, next_fault, queried, whole_query, version_query, first_query, last_query}
use Rattle.linequery.specs.Agreement.{line_bytes, answer_of, paired_by, verdict_by, Framed, LineAgreement, SlotAgreement, QueriesAgree}

-- ---- the answers on line n

module _ (image lent : List ℕ) (n : ℕ) (inside : 64 * (n + 1) ≤ length image) (room : length lent ≡ 8) where
  line_length : length (line_bytes image n) ≡ 64
  unfolding line_bytes
  line_length = length-take 64 (drop (64 * n) image) ∙ omega (arith, length-drop (64 * n) image)

  line_sized : slice_fault (length (line_bytes image n)) (length lent) ≡ 0
  unfolding slice_fault refuse_if
  line_sized = rw (line_length, room) refl

  line_word : (i : ℕ) → i < 8 → word (line_bytes image n) i ≡ line (word image) n i
  unfolding line_bytes
  line_word i h =
      let start : 64 * n ≡ 8 * (8 * n) = omega arith in
      word-take (drop (64 * n) image) 64 i (omega arith)
      ∙ ap (λ (k : ℕ). word (drop k image) i) start
      ∙ word-drop image (8 * n) i
      ∙ ap (word image) (omega arith)

  word_put : (fault value : ℕ) → fault ≡ 0 → value < 2 ^ 64 → word (queried fault value lent).answer 0 ≡ value
  unfolding queried
  word_put fault value z b =
      ap (λ (x : List ℕ). word x 0) (taken_leaves _ _ fault z) ∙ word_same lent 0 value (omega arith) b

  next_fine : (version : ℕ) → version < 2 ^ 63 → next_fault (length (line_bytes image n)) (length lent) version ≡ 0
  unfolding next_fault version_fault
  next_fine version h = or_else_later _ _ line_sized ∙ refuse_if-false (leb (2 ^ 63) version) 9 0 (lt-leb (2 ^ 63) version h)

  whole_answer : answer_of whole_query image lent n ≡ cond (whole (line (word image) n 0) (line (word image) n 7)) 1 0
  unfolding whole_query
  whole_answer =
      word_put _ _ line_sized (flag (whole (word (line_bytes image n) 0) (word (line_bytes image n) 7)))
      ∙ ap₂ (λ (x y : ℕ). cond (whole x y) 1 0) (line_word 0 (omega arith)) (line_word 7 (omega arith))
    where
      flag : (b : Bool) → cond b 1 0 < 2 ^ 64
      flag true = omega arith
      flag false = omega arith

  version_answer : AreBytes image → answer_of version_query image lent n ≡ version_of (line (word image) n 7)
  unfolding version_query
  version_answer bytes =
      word_put _ _ line_sized (omega (arith, line_word 7 (omega arith), word_range image (8 * n + 7 % 8) bytes))
      ∙ ap version_of (line_word 7 (omega arith))

  module _ (version : ℕ) (small : version < 2 ^ 63) where
    first_answer : answer_of (first_query version) image lent n ≡ first_word (line (word image) n 7)
    unfolding first_query
    first_answer = word_put _ _ (next_fine version small) (omega arith) ∙ ap first_word (line_word 7 (omega arith))

    last_answer : answer_of (last_query version) image lent n ≡ last_word_of (line (word image) n 7) version
    unfolding last_query
    last_answer =
        word_put _ _ (next_fine version small) (omega arith) ∙ ap (λ (x : ℕ). last_word_of x version) (line_word 7 (omega arith))

-- ONE LINE
line_agreement : (image lent : List ℕ) (n : ℕ) → AreBytes image → 64 * (n + 1) ≤ length image → length lent ≡ 8 → LineAgreement image lent n
unfolding whole_query version_query first_query last_query queried
line_agreement image lent n bytes inside room =
    record {
      sized = line_sized image lent n inside room;
      is_whole = whole_answer image lent n inside room;
      has-version = version_answer image lent n inside room bytes;
      first-word = first_answer image lent n inside room;
      last_word = last_answer image lent n inside room;
      whole_returns = line_sized image lent n inside room;
      version_returns = line_sized image lent n inside room;
      first_returns = next_fine image lent n inside room;
      last_returns = next_fine image lent n inside room;
    }

-- ---- the verdict, by whether each line is whole

by_answers : (a b : Bool) (va vb : ℕ) → verdict_by (cond a 1 0) va (cond b 1 0) vb ≡
    cond (cond a (cond b (eqb va vb) false) false) (cond (eqb va 0) Empty (Valid va)) (Broken (max (cond a va 0) (cond b vb 0)))
unfolding verdict_by paired_by
by_answers true true va vb = refl
by_answers true false va vb = refl
by_answers false true va vb = refl
by_answers false false va vb = refl

verdict_answered : (ma sa mb sb : ℕ)
    → verdict_by (cond (whole ma sa) 1 0) (version_of sa) (cond (whole mb sb) 1 0) (version_of sb) ≡ verdict_of ma sa mb sb
unfolding verdict_of paired whole_version
verdict_answered ma sa mb sb = by_answers (whole ma sa) (whole mb sb) (version_of sa) (version_of sb)

-- ---- the stores of a line that is written over one with this stamp

marked_framed : (n stamp version : ℕ) (body : ℕ → ℕ)
    → Framed (values (line_stores n (marked stamp version body))) (first_word stamp) (last_word_of stamp version)
unfolding values line_stores run marked
marked_framed n stamp version body = record { eight = refl; begins = refl; ends = refl }

-- line n, whose stores among ss are those of such a line
framed_by : (m : ℕ → ℕ) (ss : List Store) (n version : ℕ) (body : ℕ → ℕ) (first last : ℕ)
    → on_line n ss ≡ line_stores n (marked (line m n 7) version body) → first ≡ first_word (line m n 7) → last ≡ last_word_of (line m n 7) version
    → Framed (values (on_line n ss)) first last
framed_by m ss n version body first last own p q = rw (own, p, q) (marked_framed n (line m n 7) version body)

-- the stores of a record, on either line of its slot
record_framed : (l : ℕ) (m : ℕ → ℕ) (s key kind number : ℕ) (value : List ℕ) (version n first last : ℕ) → n / 2 ≡ s
    → first ≡ first_word (line m n 7) → last ≡ last_word_of (line m n 7) version
    → Framed (values (on_line n (record_stores l m s key kind number value version))) first last
record_framed l m s key kind number value version n first last h p q =
    by_cases (ℕ_discrete n (2 * s))
    (λ e. framed_by m _ n version (body_a l key kind number value) first last (own_at (2 * s) e (body_a l key kind number value) has.line_A) p q)
    (λ ne. framed_by m _ n version (body_b l value) first last (own_at (2 * s + 1) (omega (arith, ne)) (body_b l value) has.line_B) p q)
  where
    has : Carries l m (record_stores l m s key kind number value version) s key kind number value version
    has = record_carries l m s key kind number value version

    own_at : (k : ℕ) → n ≡ k → (body : ℕ → ℕ)
        → on_line k (record_stores l m s key kind number value version) ≡ line_stores k (marked (line m k 7) version body)
        → on_line n (record_stores l m s key kind number value version) ≡ line_stores n (marked (line m n 7) version body)
    own_at k e body own =
        ap (λ (x : ℕ). on_line x (record_stores l m s key kind number value version)) e ∙ own
        ∙ ap (λ (x : ℕ). line_stores x (marked (line m x 7) version body)) (sym e)

-- ---- both lines of slot s

module _ (image lent : List ℕ) (s : ℕ) (bytes : AreBytes image) (inside : 128 * (s + 1) ≤ length image) (room : length lent ≡ 8) where
  in_A : 64 * (2 * s + 1) ≤ length image
  in_A = omega arith

  in_B : 64 * (2 * s + 1 + 1) ≤ length image
  in_B = omega arith

  the_verdict : verdict_by (answer_of whole_query image lent (2 * s)) (answer_of version_query image lent (2 * s))
      (answer_of whole_query image lent (2 * s + 1)) (answer_of version_query image lent (2 * s + 1)) ≡ slot_verdict (word image) s
  unfolding slot_verdict line_verdict
  the_verdict =
      ap₂ (λ (x y : ℕ). verdict_by x y (answer_of whole_query image lent (2 * s + 1)) (answer_of version_query image lent (2 * s + 1)))
      (whole_answer image lent (2 * s) in_A room) (version_answer image lent (2 * s) in_A room bytes)
      ∙ ap₂ (λ (x y : ℕ). verdict_by (cond (whole (line (word image) (2 * s) 0) (line (word image) (2 * s) 7)) 1 0) (version_of (line (word image) (2 * s) 7)) x
      y)
      (whole_answer image lent (2 * s + 1) in_B room) (version_answer image lent (2 * s + 1) in_B room bytes)
      ∙ verdict_answered (line (word image) (2 * s) 0) (line (word image) (2 * s) 7) (line (word image) (2 * s + 1) 0) (line (word image) (2 * s + 1) 7)

  in_line : (n : ℕ) → n / 2 ≡ s → 64 * (n + 1) ≤ length image
  in_line n h = omega arith

  -- ONE SLOT
  slot_agreement : SlotAgreement image lent s
  slot_agreement =
      record {
        verdict = the_verdict;
        stores =
            λ l n key kind number value version h small.
            record_framed l (word image) s key kind number value version n _ _ h (first_answer image lent n (in_line n h) room version small)
            (last_answer image lent n (in_line n h) room version small);
      }

-- EVERY LINE
pub queries_agree : QueriesAgree
queries_agree image lent bytes room =
    record {
      on-line = λ n inside. line_agreement image lent n bytes inside room;
      on_slot = λ s inside. slot_agreement image lent s bytes inside room;
    }
