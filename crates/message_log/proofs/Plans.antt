-- What the plan of an append and the filling of its stores compute. Assumes nothing.
use mathlib.Core.Path.{◌≡◌, refl, sym, ap, ap₂, ◌∙◌, subst}
use mathlib.Core.List.{List, [], ◌∷◌, ◌++◌}
use Prim.Native.Nat.{ℕ, zero, suc, ◌+◌, ◌-◌, ◌*◌, ◌%◌, ◌^◌, ◌≤◌, ◌<◌}
use native.Mathlib.Nat.{mod-lt}
use native.Mathlib.Numerals.{add-one}
use native.Mathlib.Omega.{arith}
use lib.ListN.{length, length-append}
use lib.Dec.{ltb}
use borrow.Author.Tests.{ltb-false, leb-false}
use Rattle.std.specs.Prelude.{Result, IfOk}
use Rattle.std.proofs.lemmas.Result.{IfOk-weaker}
use Rattle.prelude.specs.Answer.{gives, refused}
use Rattle.refusals.specs.declared.Refusal.{Refusal}
use Rattle.message_log.specs.declared.AppendPlan.{AppendPlan}
use Rattle.prelude.proofs.Refusals.{refuse_if_zero, or_else_first, or_else_later}
use Rattle.words.specs.Word.{AreBytes, word}
use Rattle.words.proofs.Laws.{word_range}
use Rattle.layout.specs.Line.{line, version_fault}
use Rattle.stores.specs.Written.{marked, run, line_stores}
use Rattle.stores.proofs.Line.{run_length}
use Rattle.message_log.specs.Area.{cells_in, area_fault, payload_line}
use Rattle.message_log.specs.Bit.{differing_place, store_count, bit_pair, packed}
use Rattle.message_log.specs.Message.{highest}
use Rattle.message_log.specs.LogOutcome.{short_fault, log_end}
use Rattle.message_log.specs.Append.{message_line, line_count, payload_stores, payloads_from, pairs_word, marked_body, marked_words, message_stores}
use Rattle.message_log.specs.Append.{message_fault}
use Rattle.message_log.specs.Append.{next_message, append_stores, append_fault, append_result}
use Rattle.message_log.specs.AppendAfter.{append_after_stores, append_after_fault, append_after_result}
use Rattle.message_log.specs.inner.Needs.{CellCount, Filled, ListRoom, PayloadPlanned, AppendReady, AppendAfterReady}
use Rattle.message_log.proofs.Flexible.{count_within, pair_low, packed_low}
use Rattle.stores.proofs.Lists.{StoresFill, stores_begin, stores_on, stores_end, stores_room}
use Rattle.message_log.proofs.Fillings.{filled, filled_append, hand_refused, hand_done}
use Rattle.message_log.proofs.AppendAfter.{after_highest}
use Rattle.message_log.proofs.Parts.{is_area, cells_by}

-- ---- the payload lines

module _ (m : ℕ → ℕ) (c : ℕ) (message : List ℕ) where
  from_step : (i : ℕ) → i < 6 → payloads_from m c message i (6 - i) ≡ payload_stores m c message i ++ payloads_from m c message (i + 1) (6 - (i + 1))
  unfolding payloads_from
  from_step i h =
      ap (payloads_from m c message i) (let e : 6 - i ≡ suc (6 - (i + 1)) = omega arith in e)
      ∙ ap (λ (x : ℕ). payload_stores m c message i ++ payloads_from m c message x (6 - (i + 1))) (sym (add-one i))

  line_length : (i : ℕ) → length (payload_stores m c message i) ≡ line_count m c message i
  unfolding payload_stores
  line_length i = run_length (8 * (7 * c + 1 + i)) (message_line message i) 0 (line_count m c message i)

  line_few : (i : ℕ) → line_count m c message i ≤ 8
  line_few i = count_within (payload_line m c i) (message_line message i)

  from_few : (k n : ℕ) → length (payloads_from m c message k n) ≤ 8 * n
  unfolding payloads_from
  from_few k zero = omega arith
  from_few k (suc n) =
      omega
      (arith, length-append (payload_stores m c message k) (payloads_from m c message (suc k) n), line_length k, line_few k, from_few (suc k) n)

  abbrev pair_at : ℕ → ℕ
  pair_at j = bit_pair (payload_line m c j) (message_line message j)

  -- ---- their plan, from line 5 down: the lines from i on are done

  pub record Planning (pairs count i : ℕ) : Type 0 where
    pub left : i ≤ 6
    pub packs : pairs ≡ packed (λ j. bit_pair (payload_line m c j) (message_line message j)) i (6 - i)
    pub size : count ≡ length (payloads_from m c message i (6 - i))
    pub few : count + 8 * i ≤ 48

  pub plan_start : Planning 0 0 6
  unfolding packed payloads_from
  plan_start = record { left = omega arith; packs = refl; size = refl; few = omega arith }

  pub plan_next : (pairs count i k n r words : ℕ) → Planning pairs count i → 0 < i → k ≡ i - 1 → n ≡ 7 * c + 1 + k
      → words ≡ store_count (differing_place 8 (line m n) (message_line message k)) → r ≡ bit_pair (line m n) (message_line message k)
      → Planning (r + 1024 * pairs) (count + words) k
  unfolding packed payloads_from
  plan_next pairs count i k n r words g p q o e f =
      record {
        left = omega (arith, g.left);
        packs =
            ap₂ (λ (x y : ℕ). x + 1024 * y) (f ∙ ap (λ (x : ℕ). bit_pair (line m x) (message_line message k)) o)
            (g.packs ∙ ap₂ (packed pair_at) up fewer)
            ∙ ap (packed pair_at k) (sym more);
        size =
            sym
            (ap (λ (x : ℕ). length (payloads_from m c message k x)) more
            ∙ length-append (payload_stores m c message k) (payloads_from m c message (suc k) (6 - suc k))
            ∙ ap₂ (λ (x y : ℕ). x + y) (line_length k ∙ sym here) (sym (g.size ∙ ap₂ (λ (x y : ℕ). length (payloads_from m c message x y)) up fewer))
            ∙ (let z : words + count ≡ count + words = omega arith in z));
        few = omega (arith, g.few, here, line_few k);
      }
    where
      here : words ≡ line_count m c message k
      here = e ∙ ap (λ (x : ℕ). store_count (differing_place 8 (line m x) (message_line message k))) o

      up : i ≡ suc k
      up = omega arith

      fewer : 6 - i ≡ 6 - suc k
      fewer = ap (λ (x : ℕ). 6 - x) up

      more : 6 - k ≡ suc (6 - suc k)
      more = omega (arith, g.left)

  -- the pairs fit into a word
  pub plan_room : (pairs count i r : ℕ) → ((j : ℕ) → m j < 2 ^ 64) → AreBytes message → Planning pairs count i → 0 < i → (n k : ℕ)
      → r ≡ bit_pair (line m n) (message_line message k) → r + 1024 * pairs < 2 ^ 64
  plan_room pairs count i r fits b g h n k e =
      omega (
        arith,
        e,
        pair_low (line m n) (message_line message k) (λ j l. fits (8 * n + j % 8)) (λ j l. word_range message (8 * k + j) b),
        g.packs,
        low (6 - i) (omega (arith, g.left))
            (packed_low pair_at
            (λ x. pair_low (payload_line m c x) (message_line message x) (λ j l. fits (8 * (7 * c + 1 + x) + j % 8)) (λ j l. word_range message (8 * x + j) b))
            i
            (6 - i)),
      )
    where
      low : {x : ℕ} (n : ℕ) → n ≤ 5 → x < 1024 ^ n → x < 2 ^ 50
      low zero p q = omega arith
      low (suc zero) p q = omega arith
      low (suc (suc zero)) p q = omega arith
      low (suc (suc (suc zero))) p q = omega arith
      low (suc (suc (suc (suc zero)))) p q = omega arith
      low (suc (suc (suc (suc (suc zero))))) p q = omega arith
      low (suc (suc (suc (suc (suc (suc n)))))) p q = absurd (omega arith)

  pub count_room : (pairs count i n k words : ℕ) → Planning pairs count i → 0 < i
      → words ≡ store_count (differing_place 8 (line m n) (message_line message k)) → count + words ≤ 48
  count_room pairs count i n k words g h e = omega (arith, g.few, e, count_within (line m n) (message_line message k))

pub plan_end : (area : List ℕ) (c : ℕ) (message : List ℕ) (pairs count i : ℕ) → Planning (word area) c message pairs count i → i ≤ 0
    → PayloadPlanned area c message pairs count
unfolding pairs_word
plan_end area c message pairs count i g h =
    record {
      pairs_are = g.packs ∙ ap₂ (packed (λ j. bit_pair (payload_line (word area) c j) (message_line message j))) none all;
      size = g.size ∙ ap₂ (λ (x y : ℕ). length (payloads_from (word area) c message x y)) none all;
      few = omega (arith, g.few);
    }
  where
    none : i ≡ 0
    none = omega arith

    all : 6 - i ≡ 6
    all = omega arith

-- ---- their filling: the lines before i are in the lists

module _ (m : ℕ → ℕ) (c : ℕ) (message at₀ value₀ : List ℕ) where
  pub record Paying (at value : List ℕ) (k i : ℕ) : Type 0 where
    pub done : i ≤ 6
    pub left : StoresFill at₀ value₀ 8 (payloads_from m c message 0 6) at value k (payloads_from m c message i (6 - i))

  pub pay_start : Paying at₀ value₀ 8 0
  pay_start = record { done = omega arith; left = stores_begin refl refl }

  module _ (at value : List ℕ) (k i n count : ℕ) (g : Paying at value k i) (h : i < 6) (o : n ≡ 7 * c + 1 + i)
      (e : count ≡ store_count (differing_place 8 (line m n) (message_line message i))) where
    count_is : count ≡ line_count m c message i
    count_is = e ∙ ap (λ (x : ℕ). store_count (differing_place 8 (line m x) (message_line message i))) o

    pub pay_next : (at' value' : List ℕ) → Filled at value at' value' k (run (8 * n) (message_line message i) 0 count) → Paying at' value' (k + count) (i + 1)
    unfolding payload_stores
    pay_next at' value' f =
        let here = subst (Filled at value at' value' k) (ap₂ (λ (x y : ℕ). run (8 * x) (message_line message i) 0 y) o count_is) f in
        record {
          done = omega arith;
          left =
              stores_on g.left (payload_stores m c message i) (from_step m c message i h) here.ats here.vals
              (ap (λ (x : ℕ). k + x) (count_is ∙ sym (line_length m c message i)));
        }

    pub pay_few : count ≤ 8
    pay_few = omega (arith, count_is, line_few m c message i)

    -- there is room for the line
    pub pay_room : ListRoom (length at₀) (length value₀) 8 (length (payloads_from m c message 0 6)) → ListRoom (length at) (length value) k count
    pay_room r =
        record {
          at_room = omega (arith, r.at_room, stores_room g.left, g.left.ats.size, rest, count_is, line_length m c message i);
          value_room = omega (arith, r.value_room, stores_room g.left, g.left.vals.size, rest, count_is, line_length m c message i);
        }
      where
        rest : length (payloads_from m c message i (6 - i)) ≡ length (payload_stores m c message i) + length (payloads_from m c message (i + 1) (6 - (i + 1)))
        rest = ap length (from_step m c message i h) ∙ length-append (payload_stores m c message i) (payloads_from m c message (i + 1) (6 - (i + 1)))

  pub pay_end : (at value : List ℕ) (k i : ℕ) → Paying at value k i → 6 ≤ i → Filled at₀ value₀ at value 8 (payloads_from m c message 0 6)
  unfolding payloads_from
  pay_end at value k i g h =
      filled (stores_end g.left (ap (payloads_from m c message i) (let z : 6 - i ≡ 0 = omega arith in z)))

-- the marked line and then they
pub message_filled : (m : ℕ → ℕ) (c s : ℕ) (message at value at' value' at'' value'' : List ℕ) (stamp pairs : ℕ) → stamp ≡ m (8 * (7 * c) + 7)
    → pairs ≡ pairs_word m c message → Filled at value at' value' 0 (run (8 * (7 * c)) (marked stamp s (marked_body (length message) pairs)) 0 8)
    → Filled at' value' at'' value'' 8 (payloads_from m c message 0 6) → Filled at value at'' value'' 0 (message_stores m c s message)
unfolding message_stores line_stores
message_filled m c s message at value at' value' at'' value'' stamp pairs e q f g =
    filled_append at value at' value' at'' value'' 0 8 _ _
    (subst (Filled at value at' value' 0) (ap₂ (λ (x y : ℕ). run (8 * (7 * c)) (marked x s (marked_body (length message) y)) 0 8) e q) f)
    (sym (ap (λ (n : ℕ). 0 + n) (run_length (8 * (7 * c)) (marked_words m c s message) 0 8))) g

message-length : (m : ℕ → ℕ) (c s : ℕ) (message : List ℕ) → length (message_stores m c s message) ≡ 8 + length (payloads_from m c message 0 6)
unfolding message_stores line_stores
message-length m c s message =
    length-append (run (8 * (7 * c)) (marked_words m c s message) 0 8) (payloads_from m c message 0 6)
    ∙ ap (λ (n : ℕ). n + length (payloads_from m c message 0 6)) (run_length (8 * (7 * c)) (marked_words m c s message) 0 8)

-- an append has at most 56 stores
pub append_few : (cells : ℕ) (m : ℕ → ℕ) (message : List ℕ) → length (append_stores cells m message) ≤ 56
unfolding append_stores
append_few cells m message =
    omega (
      arith,
      message-length m (next_message cells m % cells) (next_message cells m) message,
      from_few m (next_message cells m % cells) message 0 6,
    )

-- ---- the refusals

-- a number that is not refused
number_low : (last : ℕ) → 0 ≡ version_fault (suc last) → suc last < 2 ^ 63
unfolding version_fault
number_low last fits = leb-false (2 ^ 63) (suc last) (refuse_if_zero _ _ _ (sym fits) (omega arith)).0

module _ (area : List ℕ) (last : ℕ) (message : List ℕ) (ats vals : ℕ) where
  pub plan_no_area : (fault : ℕ) → fault ≡ area_fault area → (fault ≡ 0 → ⊥) → fault ≡ append_after_fault area last message ats vals
  unfolding append_after_fault
  plan_no_area fault u ne = u ∙ sym (or_else_first (area_fault area) _ (λ z. ne (u ∙ z)))

  module _ (fine : 0 ≡ area_fault area) where
    pub plan_no_message : (fault : ℕ) → fault ≡ message_fault (length message) → (fault ≡ 0 → ⊥) → fault ≡ append_after_fault area last message ats vals
    unfolding append_after_fault
    plan_no_message fault u ne =
        u ∙ sym (or_else_later (area_fault area) _ (sym fine) ∙ or_else_first (message_fault (length message)) _ (λ z. ne (u ∙ z)))

    module _ (fit : 0 ≡ message_fault (length message)) where
      pub plan_no_number : (fault : ℕ) → fault ≡ version_fault (suc last) → (fault ≡ 0 → ⊥) → fault ≡ append_after_fault area last message ats vals
      unfolding append_after_fault
      plan_no_number fault u ne =
          u
          ∙ sym
          (or_else_later (area_fault area) _ (sym fine) ∙ or_else_later (message_fault (length message)) _ (sym fit)
          ∙ or_else_first (version_fault (suc last)) _ (λ z. ne (u ∙ z)))

      module _ (fits : 0 ≡ version_fault (suc last)) (k : ℕ) (e : k ≡ cells_in area) (number cell : ℕ) (s : number ≡ suc last) (p : cell ≡ number % k) where
        all : CellCount (length area) k
        all = cells_by area k e fine

        cell_under : cell < k
        cell_under = omega (arith, p, mod-lt number (let z : 0 < k = omega (arith, all.some) in z))

        pub cell_room : 448 * (cell + 1) ≤ length area
        cell_room = omega (arith, all.size, cell_under)

        cell_is : cell ≡ suc last % cells_in area
        cell_is = p ∙ ap₂ (λ (x y : ℕ). x % y) s e

        module _ (pairs stores : ℕ) (g : PayloadPlanned area cell message pairs stores) where
          size_is : 8 + stores ≡ length (append_after_stores (cells_in area) (word area) last message)
          unfolding append_after_stores
          size_is =
              ap (λ (n : ℕ). 8 + n) g.size ∙ sym (message-length (word area) cell (suc last) message)
              ∙ ap (λ (x : ℕ). length (message_stores (word area) x (suc last) message)) cell_is

          pub plan_fault : (fault : ℕ) → fault ≡ short_fault (8 + stores) ats vals → fault ≡ append_after_fault area last message ats vals
          unfolding append_after_fault
          plan_fault fault u =
              u ∙ ap (λ (n : ℕ). short_fault n ats vals) size_is
              ∙ sym
              (or_else_later (area_fault area) _ (sym fine) ∙ or_else_later (message_fault (length message)) _ (sym fit)
              ∙ or_else_later (version_fault (suc last)) _ (sym fits))

          pub plan_ready : 0 ≡ short_fault (8 + stores) ats vals → AppendAfterReady area last message ats vals number cell pairs (8 + stores)
          unfolding short_fault
          plan_ready z =
              let one = refuse_if_zero (ltb ats (8 + stores)) _ _ (sym z) (omega arith) in
              let two = refuse_if_zero (ltb vals (8 + stores)) _ _ one.1 (omega arith) in
              record {
                next = s;
                there = cell_is;
                size = size_is;
                room = record {
                  payload = record {
                    room = record {
                      at_room = omega (arith, g.size, ltb-false ats (8 + stores) one.0);
                      value_room = omega (arith, g.size, ltb-false vals (8 + stores) two.0);
                    };
                    cell = omega (arith, cell_under, all.few);
                    inside = cell_room;
                  };
                  number_fits = omega (arith, s, number_low last fits);
                  pairs_are = g.pairs_are;
                };
              }

-- an append after this number whose payload is planned is planned
module _ (area : List ℕ) (last : ℕ) (message : List ℕ) (ats vals k : ℕ) (e : k ≡ cells_in area) (some : k ≡ 0 → ⊥) (unfit : ℕ)
    (u : unfit ≡ message_fault (length message)) (fit : unfit ≡ 0) (over : ℕ) (v : over ≡ version_fault (suc last)) (fits : over ≡ 0) (cell : ℕ)
    (p : cell ≡ (last + 1) % k) (pairs stores : ℕ) (g : PayloadPlanned area cell message pairs stores) where
  fine : 0 ≡ area_fault area
  fine = sym (is_area area k e some)

  pub plan_done_after : (fault : ℕ) → fault ≡ short_fault (8 + stores) ats vals
      → (fault ≡ append_after_fault area last message ats vals) × (fault ≡ 0 → AppendAfterReady area last message ats vals (last + 1) cell pairs (8 + stores))
  plan_done_after fault r = (
    plan_fault area last message ats vals fine (sym fit ∙ u) (sym fits ∙ v) k e (last + 1) cell (add-one last) p pairs stores g fault r,
    (λ z. plan_ready area last message ats vals fine (sym fit ∙ u) (sym fits ∙ v) k e (last + 1) cell (add-one last) p pairs stores g (sym z ∙ r)),
  )

-- ---- the call

module _ (area : List ℕ) (last : ℕ) (message at value : List ℕ) where
  pub after_refused : (fault : ℕ) → fault ≡ append_after_fault area last message (length at) (length value) → (fault ≡ 0 → ⊥)
      → log_end (refused fault) at value ≡ append_after_result area last message at value
  unfolding append_after_result
  after_refused fault u ne = hand_refused _ _ _ at value fault u ne

  module _ (fine : 0 ≡ append_after_fault area last message (length at) (length value)) (number cell pairs count : ℕ)
      (ready : AppendAfterReady area last message (length at) (length value) number cell pairs count) where
    stores_are : message_stores (word area) cell number message ≡ append_after_stores (cells_in area) (word area) last message
    unfolding append_after_stores
    stores_are = ap₂ (λ (x y : ℕ). message_stores (word area) x y message) ready.there ready.next

    long : length (append_after_stores (cells_in area) (word area) last message) ≡ 8 + length (payloads_from (word area) cell message 0 6)
    long = sym (ap length stores_are) ∙ message-length (word area) cell number message

    pub after_taken : (at' value' : List ℕ) → Filled at value at' value' 0 (message_stores (word area) cell number message)
        → log_end (gives (number ∷ count ∷ [])) at' value' ≡ append_after_result area last message at value
    unfolding append_after_result
    after_taken at' value' f =
        hand_done _ _ (append_after_stores (cells_in area) (word area) last message) at value at' value' number count (sym fine) ready.next
        ready.size (subst (Filled at value at' value' 0) stores_are f)
        (omega (arith, ready.room.payload.room.at_room, long)) (omega (arith, ready.room.payload.room.value_room, long))

-- ---- append: append_after of the highest complete number

module _ (area message : List ℕ) (ats vals number cell pairs count : ℕ) where
  ready_highest : AppendAfterReady area (highest (cells_in area) (word area)) message ats vals number cell pairs count
      → AppendReady area message ats vals number cell pairs count
  unfolding append_after_stores next_message append_stores
  ready_highest r = record { next = r.next; there = r.there; size = r.size; room = r.room }

  highest_ready : AppendReady area message ats vals number cell pairs count
      → AppendAfterReady area (highest (cells_in area) (word area)) message ats vals number cell pairs count
  unfolding append_after_stores next_message append_stores
  highest_ready r = record { next = r.next; there = r.there; size = r.size; room = r.room }

-- the plans are the same
module _ (area message : List ℕ) (ats vals k : ℕ) (e : k ≡ cells_in area) (top : ℕ) (f : top ≡ highest k (word area)) where
  top_is : top ≡ highest (cells_in area) (word area)
  top_is = f ∙ ap (λ (j : ℕ). highest j (word area)) e

  pub fault_by : (fault : ℕ) → fault ≡ append_after_fault area top message ats vals → fault ≡ append_fault area message ats vals
  fault_by fault u = u ∙ ap (λ (n : ℕ). append_after_fault area n message ats vals) top_is ∙ after_highest.fault area message ats vals

  pub ready_by : (r : Result AppendPlan Refusal)
      → IfOk r (λ p. AppendAfterReady area top message ats vals p.number p.cell p.pairs p.count)
      → IfOk r (λ p. AppendReady area message ats vals p.number p.cell p.pairs p.count)
  ready_by r =
      IfOk-weaker r _ _
      (λ p g.
      ready_highest area message ats vals p.number p.cell p.pairs p.count
      (subst (λ (n : ℕ). AppendAfterReady area n message ats vals p.number p.cell p.pairs p.count) top_is g))

-- an append whose payload is planned is planned
module _ (area message : List ℕ) (ats vals k : ℕ) (e : k ≡ cells_in area) (some : k ≡ 0 → ⊥) (unfit : ℕ) (u : unfit ≡ message_fault (length message))
    (fit : unfit ≡ 0) (top : ℕ) (f : top ≡ highest k (word area)) (over : ℕ) (v : over ≡ version_fault (top + 1)) (fits : over ≡ 0) (cell : ℕ)
    (p : cell ≡ (top + 1) % k) (pairs stores : ℕ) (g : PayloadPlanned area cell message pairs stores) where
  pub plan_done : (fault : ℕ) → fault ≡ short_fault (8 + stores) ats vals
      → (fault ≡ append_fault area message ats vals) × (fault ≡ 0 → AppendReady area message ats vals (top + 1) cell pairs (8 + stores))
  plan_done fault r =
      let done =
      plan_done_after area top message ats vals k e some unfit u fit over (v ∙ ap version_fault (add-one top)) fits cell p pairs stores g fault r in (
        fault_by area message ats vals k e top f fault done.0,
        (λ z.
            ready_highest area message ats vals (top + 1) cell pairs (8 + stores)
            (subst (λ (n : ℕ). AppendAfterReady area n message ats vals (top + 1) cell pairs (8 + stores))
            (top_is area message ats vals k e top f) (done.1 z))),
      )

module _ (area message : List ℕ) where
  pub no_area_first : (ats vals fault : ℕ) → fault ≡ area_fault area → (fault ≡ 0 → ⊥) → fault ≡ append_fault area message ats vals
  unfolding append_fault
  no_area_first ats vals fault u ne = u ∙ sym (or_else_first (area_fault area) _ (λ z. ne (u ∙ z)))

module _ (area message at value : List ℕ) where
  pub append_refused : (fault : ℕ) → fault ≡ append_fault area message (length at) (length value) → (fault ≡ 0 → ⊥)
      → log_end (refused fault) at value ≡ append_result area message at value
  append_refused fault u ne =
      after_refused area (highest (cells_in area) (word area)) message at value fault
      (u ∙ sym (after_highest.fault area message (length at) (length value))) ne
      ∙ after_highest.result area message at value

  pub append_taken : 0 ≡ append_fault area message (length at) (length value) → (number cell pairs count : ℕ)
      → AppendReady area message (length at) (length value) number cell pairs count
      → (at' value' : List ℕ) → Filled at value at' value' 0 (message_stores (word area) cell number message)
      → log_end (gives (number ∷ count ∷ [])) at' value' ≡ append_result area message at value
  append_taken fine number cell pairs count ready at' value' f =
      after_taken area (highest (cells_in area) (word area)) message at value
      (fine ∙ sym (after_highest.fault area message (length at) (length value)))
      number cell pairs count (highest_ready area message (length at) (length value) number cell pairs count ready) at' value' f
      ∙ after_highest.result area message at value
