-- What judging needs: the refusals of the slots, and the arranged slots of an accepted image. Assumes nothing.
use mathlib.Core.Path.{◌≡◌, sym, ap, ap₂, ◌∙◌}
use mathlib.Core.Bool.{Bool, true, false, cond}
use mathlib.Core.Logic.{◌⊎◌, inl, inr}
use mathlib.Core.List.{List}
use Prim.Native.Nat.{ℕ, suc, ◌+◌, ◌-◌, ◌*◌, ◌^◌, ◌≤◌, ◌<◌}
use native.Mathlib.Omega.{arith}
use lib.Dec.{eqb, ltb}
use lib.ListN.{length, get_or}
use Rattle.words.specs.Word.{AreBytes, word}
use Rattle.words.proofs.Laws.{word_range}
use Rattle.prelude.proofs.Choice.{pick_true, pick_false, split}
use Rattle.prelude.specs.Refusal.{refuse_if, or_else}
use Rattle.prelude.specs.Range.{any_of, at_lowest}
use Rattle.prelude.specs.Filter.{filter}
use Rattle.layout.specs.Record.{Layout}
use Rattle.layout.specs.Line.{line_a, line_b, whole, version_of, whole_version}
use Rattle.layout.specs.Slot.{highest_whole_of}
use Rattle.layout.specs.Content.{content, highest_whole, highest_whole_in, Table, contents_of, size_fields_of}
use Rattle.layout.specs.Fault.{mark_fault, record_fault}
use Rattle.prelude.proofs.Refusals.{refuse_if-true}
use Rattle.layout.proofs.Content.{top_is}
use Rattle.prelude.specs.Members.{slot_numbers}
use Rattle.sorting.proofs.Order.{sorted_alike}
use Rattle.table.specs.Table.{is_broken, broken_count, broken_limit, live_count, next_version, many_broken, all_live}
use Rattle.table.specs.Complete.{SizeFields, highest_complete, is_void, settled}
use Rattle.table.specs.Shared.{sharers_fault}
use Rattle.table.specs.Order.{rank_of, ordered}
use Rattle.table.proofs.defs.Shared.{Agreed}
use Rattle.table.proofs.Shared.{fault_agreed, agreed_apart}
use Rattle.table.proofs.Settled.{settled_apart}
use Rattle.table.proofs.defs.Write.{ApartByKey}
use Rattle.table.proofs.Complete.{settled_next}
use Rattle.prelude.proofs.Count.{count-filter, count_most}
use Rattle.prelude.proofs.Lists.{slots-in, AllSlots}
use Rattle.sorting.proofs.Whole.{whole_sorted}
use Rattle.prelude.proofs.Most.{greatest_least}
use Rattle.prelude.proofs.Lists.{filter_alike}
use Rattle.stores.specs.Invalidation.{invalidating_stores}
use Rattle.recovery.specs.Invalidation.{void_slots, invalidations_of}
use Rattle.recovery.specs.Recover.{settled_fault, slots_fault, slots_named}
use Rattle.recovery.specs.inner.Scan.{key_at, Listed, Scanned}
use Rattle.recovery.specs.inner.Decide.{judged_rank, decided, placed_count, live_place, Within, NoneOrAll}
use Rattle.recovery.specs.inner.Judge.{InOrder, OrderNumbered, Compared, Settled, found_fault, found_slot, Judgement}
use Rattle.recovery.specs.declared.Scan.{Scan}
use Rattle.recovery.specs.declared.Invalidations.{Invalidations}
use Rattle.recovery.proofs.Clear.{slots_clear}
use Rattle.recovery.proofs.Orders.{whole_order, whole_within}
use Rattle.recovery.proofs.Neighbours.{orders_shared}
use Rattle.recovery.proofs.Void.{judged_is, above_void, settled_listed, broken_with_void}
use Rattle.recovery.proofs.InvalidatingStores.{invalidations_length}
use Rattle.recovery.proofs.Scans.{highs_all}
use Rattle.recovery.proofs.Decides.{decided_live, counted_live}

-- ---- versions fit

line_small : (mark stamp : ℕ) → stamp < 2 ^ 64 → whole_version mark stamp < 2 ^ 63
unfolding whole_version
line_small mark stamp h = go (split (whole mark stamp))
  where
    go : (whole mark stamp ≡ true) ⊎ (whole mark stamp ≡ false) → cond (whole mark stamp) (version_of stamp) 0 < 2 ^ 63
    go (inl e) = omega (arith, pick_true (whole mark stamp) (version_of stamp) 0 e)
    go (inr e) = omega (arith, pick_false (whole mark stamp) (version_of stamp) 0 e)

top_small : (l : ℕ) (image : List ℕ) (s : ℕ) → AreBytes image → highest_whole_in (contents_of l image s) < 2 ^ 63
unfolding highest_whole highest_whole_of
top_small l image s b =
    omega (
      arith,
      top_is l (word image) s,
      line_small (line_a (word image) s 0) (line_a (word image) s 7) (word_range image (8 * (2 * s) + 7) b),
      line_small (line_b (word image) s 0) (line_b (word image) s 7) (word_range image (8 * (2 * s + 1) + 7) b),
    )

-- ---- judge_slots

module _ (l : ℕ) (image : List ℕ) (n b : ℕ) (ranks lows highs places₁ order₁ by-key₁ ranks₂ places₂ order by_key places : List ℕ) (all : Scan)
    (shared : Bool) (limit live-count broken : ℕ) (opened : Invalidations) (bytes : AreBytes image) (size : length places₁ ≡ n + 1)
    (s : Scanned l (word image) n b ranks lows highs places₁ all)
    (twin : Compared (size_fields_of l image) ranks lows highs n order₁ by-key₁ shared) (limit-by : limit ≡ judged_rank (size_fields_of l image) ranks order₁ n)
    (v : Settled (word image) limit n ranks lows highs places₁ ranks₂ places₂ order by_key opened)
    (done : places ≡ decided (key_at lows highs) by_key n places₂) (counted : live-count ≡ placed_count places n)
    (sum : broken ≡ all.classes.broken + opened.count) where
  abbrev raw : Table
  raw = contents_of l image

  abbrev num : SizeFields
  num = size_fields_of l image

  abbrev f : Table
  f = settled raw num n

  shared_is : shared ≡ sharers_fault (contents_of l image) (size_fields_of l image) n
  shared_is =
      twin.shared_is ∙ orders_shared raw num n b ranks lows highs places₁ order₁ by-key₁ s.listed twin.in_order.by_rank twin.in_order.keyed

  module _ (fine : sharers_fault (contents_of l image) (size_fields_of l image) n ≡ false) where
    agreed : Agreed (contents_of l image) (size_fields_of l image) n
    agreed = fault_agreed raw num n fine

    apart : ApartByKey (settled (contents_of l image) (size_fields_of l image) n) n
    apart = settled_apart raw num n (agreed_apart raw num n agreed)

    limit_is : limit ≡ 2 + highest_complete (contents_of l image) (size_fields_of l image) n
    limit_is = limit-by ∙ judged_is raw num n ranks order₁ s.listed.rank_at twin.in_order.by_rank agreed

    listed : Listed (settled (contents_of l image) (size_fields_of l image) n) n b ranks₂ lows highs places₂
    listed = settled_listed raw num n b limit ranks lows highs places₁ ranks₂ places₂ s.listed limit_is v.cleared

    order_is : order ≡ ordered (settled (contents_of l image) (size_fields_of l image) n) (slot_numbers n)
    unfolding ordered
    order_is =
        v.in_order.by_rank
        ∙ sorted_alike (λ x. get_or ranks₂ x 0) (λ x. rank_of (f x)) (slot_numbers n)
        (λ x i. let t = slots-in n x i in listed.rank_at x t.0 t.1)

    place_is : (t : ℕ) → 0 < t → t ≤ n → get_or places t 0 ≡ live_place (settled (contents_of l image) (size_fields_of l image) n) n b t
    place_is t low high =
        ap (λ (p : List ℕ). get_or p t 0) done
        ∙ decided_live f n b ranks₂ lows highs places₂ order by_key listed (v.cleared.places_size ∙ size) apart order_is
        v.in_order.keyed t low high

    live_is : live-count ≡ live_count (settled (contents_of l image) (size_fields_of l image) n) n
    live_is =
        counted ∙ ap (λ (p : List ℕ). placed_count p n) done
        ∙ counted_live f n b ranks₂ lows highs places₂ order by_key listed (v.cleared.places_size ∙ size) apart order_is
        v.in_order.keyed

    void_are : filter (λ t. ltb limit (get_or ranks t 0)) (slot_numbers n) ≡ void_slots l (word image) n
    unfolding void_slots
    void_are =
        filter_alike (λ t. ltb limit (get_or ranks t 0)) (is_void raw num n) (slot_numbers n)
        (λ x i. above_void raw num n b limit ranks lows highs places₁ ranks₂ places₂ s.listed limit_is x (slots-in n x i))

    opened_is : opened ≡ invalidations_of (invalidating_stores (word image) (void_slots l (word image) n))
    opened_is = v.opened_is ∙ ap (λ (t : List ℕ). invalidations_of (invalidating_stores (word image) t)) void_are

    broken_is : broken ≡ broken_count (settled (contents_of l image) (size_fields_of l image) n) n
    unfolding invalidations_of void_slots
    broken_is =
        omega (
          arith,
          sum,
          s.classed.broken_is,
          ap (λ (o : Invalidations). o.count) opened_is,
          invalidations_length (word image) (filter (is_void raw num n) (slot_numbers n)),
          count-filter (is_void raw num n) n,
          broken_with_void raw num n,
        )

  -- 7, 25 and 8 by these tests and this live count
  abbrev late_by : (shared : Bool) → (broken live : ℕ) → ℕ
  late_by shared broken live = refuse_if shared 7 (refuse_if (ltb broken_limit broken) 25 (refuse_if (eqb live n) 8 0))

  late : late_by (sharers_fault (contents_of l image) (size_fields_of l image) n) broken live-count
      ≡ refuse_if (sharers_fault (contents_of l image) (size_fields_of l image) n) 7
      (settled_fault (settled (contents_of l image) (size_fields_of l image) n) n)
  unfolding settled_fault all_live many_broken
  late = go (split (sharers_fault raw num n))
    where
      go : (sharers_fault raw num n ≡ true) ⊎ (sharers_fault raw num n ≡ false)
          → late_by (sharers_fault raw num n) broken live-count ≡ late_by (sharers_fault raw num n) (broken_count f n) (live_count f n)
      go (inl e) = refuse_if-true (sharers_fault raw num n) 7 _ e ∙ sym (refuse_if-true (sharers_fault raw num n) 7 _ e)
      go (inr e) = ap₂ (late_by (sharers_fault raw num n)) (broken_is e) (live_is e)

  fault_is : found_fault all.mark all.fault shared broken live-count n ≡ slots_fault l (word image) n
  unfolding found_fault slots_fault
  fault_is =
      ap₂ (λ (x : Bool) (y : ℕ). refuse_if x 5 (or_else y (late_by shared broken live-count))) s.marks_are s.fault_is
      ∙ ap (λ (z : Bool). refuse_if (any_of (mark_fault (word image)) 1 n) 5 (or_else records (late_by z broken live-count))) shared_is
      ∙ ap (λ (k : ℕ). refuse_if (any_of (mark_fault (word image)) 1 n) 5 (or_else records k)) late
    where
      records : ℕ
      records = at_lowest (record_fault l (word image)) n

  slot_is : found_slot all.mark all.slot ≡ slots_named l (word image) n
  unfolding found_slot slots_named
  slot_is = ap₂ (λ (x : Bool) (y : ℕ). refuse_if x 0 y) s.marks_are s.slot_is

  none_shared : slots_fault l (word image) n ≡ 0 → sharers_fault (contents_of l image) (size_fields_of l image) n ≡ false
  none_shared e = (slots_clear l (word image) n e).sharers

  top_fits : all.top < 2 ^ 63
  top_fits =
      omega (
        arith,
        s.top_is,
        greatest_least (λ t. highest_whole_in (contents_of l image t)) n (2 ^ 63 - 1) (λ t i. let h = top_small l image t bytes in omega arith),
      )

  pub judged : (fault slot : ℕ) → fault ≡ found_fault all.mark all.fault shared broken live-count n → slot ≡ found_slot all.mark all.slot
      → Judgement l (word image) n b order places
      (record { fault = fault; slot = slot; live = live-count; top = all.top; classes = all.classes; invalidations = opened })
  unfolding next_version
  judged fault slot e d =
      record {
        fault_is = e ∙ fault_is;
        slot_is = d ∙ slot_is;
        arranged =
            λ z.
            let fine = none_shared (sym (e ∙ fault_is) ∙ z) in
            record {
              order_is = order_is fine;
              place_is = place_is fine;
              live_is = live_is fine;
              top_is = ap suc s.top_is ∙ sym (settled_next raw num n);
              top_fits = top_fits;
            };
        classed = s.classed;
        invalidations_are = λ z. opened_is (none_shared (sym (e ∙ fault_is) ∙ z));
      }

-- ---- what the functions that judge_slots calls ask for

module _ (ranks lows highs order by_key : List ℕ) (n : ℕ) (o : InOrder ranks lows highs n order by_key) where
  ranked : AllSlots n order
  ranked = whole_order (λ x. get_or ranks x 0) n order o.by_rank

  pub judge_numbered : (image : List ℕ) (l : ℕ) → Layout l → length image ≡ 128 * (n + 1) → n ≤ 65535 → OrderNumbered image l order n
  judge_numbered image l lay size few =
      record { layout = lay; image-size = size; order_size = ranked.size; within = whole_within order n ranked; few = few }

  pub decide_ready : (l : ℕ) (places : List ℕ) → n ≤ 65535 → length lows ≡ n + 1 → Layout l → length highs ≡ (l - 1) * (n + 1) → length places ≡ n + 1
      → (length by_key ≡ n) × (n ≤ 65535) × (length lows ≡ n + 1) × NoneOrAll highs n × (length places ≡ n + 1) × Within by_key n
  decide_ready l places few p lay q r =
      let w : AllSlots n by_key = rw o.keyed (whole_sorted (key_at lows highs) n order ranked) in
      (w.size, few, p, highs_all l n highs lay q, r, whole_within by_key n w)

-- broken and void slots can be counted together
pub broken_fits : (l : ℕ) (m : ℕ → ℕ) (n b : ℕ) (ranks lows highs places : List ℕ) (all : Scan) (limit : ℕ) (opened : Invalidations)
    → Scanned l m n b ranks lows highs places all → opened ≡ invalidations_of
    (invalidating_stores m (filter (λ s. ltb limit (get_or ranks s 0)) (slot_numbers n)))
    → all.classes.broken + opened.count ≤ n + n
unfolding broken_count invalidations_of
broken_fits l m n b ranks lows highs places all limit opened s e =
    omega (
      arith,
      s.classed.broken_is,
      count_most (λ t. is_broken (content l m t)) n,
      ap (λ (o : Invalidations). o.count) e,
      invalidations_length m (filter (λ t. ltb limit (get_or ranks t 0)) (slot_numbers n)),
      count-filter (λ t. ltb limit (get_or ranks t 0)) n,
      count_most (λ t. ltb limit (get_or ranks t 0)) n,
    )
