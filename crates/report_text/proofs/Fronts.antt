-- The first bytes of a buffer: what must be lent, what is reported of them and what is carried over. Assumes nothing.
use mathlib.Core.Path.{◌≡◌, refl, sym, ap, subst, ◌∙◌}
use mathlib.Core.Bool.{Bool, true, false, cond, not, ◌&&◌}
use mathlib.Core.List.{List, []}
use Rattle.std.specs.Prelude.{Option, Some, None}
use Prim.Native.Nat.{ℕ, ◌+◌, ◌-◌, ◌/◌, ◌≤◌, ◌<◌}
use native.Mathlib.Omega.{arith}
use lib.Dec.{eqb, ltb, leb}
use lib.ListN.{length, get_or, take, drop, length-drop}
use lib.Seq.{length-take-le, get_or-take, get_or-drop, take-add, drop_at, ext_get_or}
use borrow.Author.Tests.{le-ltb, ltb-false, leb-true, le-leb, lt-leb, eq-eqb, ne_eqb, not-true, not-false}
use Rattle.prelude.proofs.Choice.{pick_true, pick_false, true-false, false_left}
use Rattle.report_text.specs.Report.{image_size, report_from}
use Rattle.report_text.specs.Blocks.{Below, TotalsBounded, is_below, is_bounded, is_lent, BlockReported, ends_reading, FrontReported, FrontAnswered, last_text}
use Rattle.report_text.specs.inner.Images.{BlockLent, Buffers, IsReported}
use Rattle.report_text.specs.declared.SlotTotals.{SlotTotals}
use Rattle.report_text.specs.declared.ReportProgress.{ReportProgress}
use Rattle.report_text.specs.declared.Block.{Block}
use Rattle.report_text.specs.declared.FrontReport.{FrontReport}

-- ---- what is lent, by its tests

-- a test that may not hold is followed by others
past : (b x : Bool) → cond b false x ≡ true → (b ≡ false) × (x ≡ true)
past true x e = absurd (true-false e refl)
past false x e = (refl, e)

passes : (b x : Bool) → b ≡ false → x ≡ true → cond b false x ≡ true
passes b x e d = pick_false b false x e ∙ d

below_by : (t : SlotTotals) (bound : ℕ) → is_below t bound ≡ true → Below t bound
unfolding is_below
below_by t bound e =
    let a = past (ltb bound t.live) _ e in
    let b = past (ltb bound t.hidden) _ a.1 in
    let c = past (ltb bound t.removes) _ b.1 in
    let d = past (ltb bound t.void) _ c.1 in
    let f = past (ltb bound t.broken) _ d.1 in
    record {
      live_low = ltb-false bound t.live a.0;
      hidden_low = ltb-false bound t.hidden b.0;
      removes_low = ltb-false bound t.removes c.0;
      void_low = ltb-false bound t.void d.0;
      broken_low = ltb-false bound t.broken f.0;
      empty_low = leb-true t.empty bound f.1;
    }

below_is : (t : SlotTotals) (bound : ℕ) → Below t bound → is_below t bound ≡ true
unfolding is_below
below_is t bound g =
    passes _ _ (le-ltb bound t.live g.live_low)
    (passes _ _ (le-ltb bound t.hidden g.hidden_low)
    (passes _ _ (le-ltb bound t.removes g.removes_low)
    (passes _ _ (le-ltb bound t.void g.void_low)
    (passes _ _ (le-ltb bound t.broken g.broken_low) (le-leb t.empty bound g.empty_low)))))

-- what a report can go on with
record Lent (have size room : ℕ) (p : ReportProgress) : Type 0 where
  pub inside : have ≤ size
  pub roomy : size / 3 + 257 ≤ room
  pub held : TotalsBounded p

lent_by : (have size room : ℕ) (p : ReportProgress) → is_lent have size room p ≡ true → Lent have size room p
unfolding is_lent is_bounded
lent_by have size room p e =
    let a = past (ltb size have) _ e in
    let b = past (ltb room (size / 3 + 257)) _ a.1 in
    let c = past (ltb 1000000 p.left) _ b.1 in
    record {
      inside = ltb-false size have a.0;
      roomy = ltb-false room (size / 3 + 257) b.0;
      held = record { few = ltb-false 1000000 p.left c.0; low = below_by p.totals _ c.1 };
    }

lent_is : (have size room : ℕ) (p : ReportProgress) → Lent have size room p → is_lent have size room p ≡ true
unfolding is_lent is_bounded
lent_is have size room p g =
    passes _ _ (le-ltb size have g.inside)
    (passes _ _ (le-ltb room (size / 3 + 257) g.roomy)
    (passes _ _ (le-ltb 1000000 p.left g.held.few) (below_is p.totals _ g.held.low)))

-- ---- the end of the reading

module _ (rest : List ℕ) (left : ℕ) where
  pub ends_none : left ≡ 0 → true ≡ ends_reading left rest
  unfolding ends_reading
  ends_none e = sym (pick_true (eqb left 0) _ _ (eq-eqb left 0 e))

  module _ (some : left ≡ 0 → ⊥) where
    pub ends_short : length rest < 8 → false ≡ ends_reading left rest
    unfolding ends_reading
    ends_short h = sym (pick_false (eqb left 0) _ _ (ne_eqb left 0 some) ∙ false_left (leb 8 (length rest)) _ (lt-leb 8 (length rest) h))

    pub ends_size : 8 ≤ length rest → (size : ℕ) → size ≡ image_size rest → eqb size 0 ≡ ends_reading left rest
    unfolding ends_reading
    ends_size h size e =
        ap (λ (k : ℕ). eqb k 0) e
        ∙ sym (pick_false (eqb left 0) _ _ (ne_eqb left 0 some) ∙ ap (λ (b : Bool). b && eqb (image_size rest) 0) (le-leb 8 (length rest) h))

-- ---- a part in the middle

-- the bytes from position a up to b
between : (a b : ℕ) (l : List ℕ) → a ≤ b → b ≤ length l → drop a (take b l) ≡ take (b - a) (drop a l)
between a b l h fits =
    let e : b ≡ a + (b - a) = omega arith in
    ap (λ (k : ℕ). drop a (take k l)) e ∙ ap (drop a) (take-add a (b - a) l)
    ∙ drop_at (take a l) (take (b - a) (drop a l)) a (length-take-le a l (omega (arith, fits)))

-- ---- the first bytes of a buffer; b is the test's answer

module _ (old : List ℕ) (have : ℕ) (p : ReportProgress) (out : List ℕ) (b : Bool) (is : b ≡ is_lent have (length old) (length out) p) where
  pub front_refused : not b ≡ true → FrontAnswered old have p out old out None
  front_refused e = (sym is ∙ not-true b e, refl, refl)

  module _ (e : not b ≡ false) where
    lent : Lent have (length old) (length out) p
    lent = lent_by have (length old) (length out) p (sym is ∙ not-false b e)

    pub front_inside : have ≤ length old
    front_inside = lent.inside

    front_size : length (take have old) ≡ have
    front_size = length-take-le have old front_inside

    pub front_lent : BlockLent (take have old) p out
    front_lent = record { held = lent.held; room = omega (arith, front_size, front_inside, lent.roomy) }

    module _ (k : Block) (out' : List ℕ) (r : BlockReported (take have old) p out' k) (same : length out' ≡ length out) where
      pub used_inside : k.used ≤ have
      used_inside = omega (arith, r.inside, front_size)

      -- what is left is moved to the front
      pub front_reported : (ended : Bool) → ended ≡ ends_reading k.progress.left (take (have - k.used) (drop k.used old)) → (new : List ℕ)
          → length new ≡ length old → ((i : ℕ) → k.used + i < have → get_or new i 0 ≡ get_or old (k.used + i) 0)
          → FrontAnswered old have p out new out' (Some (record { block = k; carried = have - k.used; ended = ended }))
      front_reported ended d new kept moved = (
        sym is ∙ not-false b e,
        record {
          reported = r;
          printed = omega (arith, r.thirds, used_inside, front_inside, lent.roomy, same);
          carried_size = refl;
          carried_over = carried ∙ sym rest;
          ended_is = d ∙ ap (ends_reading k.progress.left) (sym rest);
        },
      )
        where
          rest : drop k.used (take have old) ≡ take (have - k.used) (drop k.used old)
          rest = between k.used have old used_inside front_inside

          few : length (take (have - k.used) new) ≡ have - k.used
          few = length-take-le (have - k.used) new (omega (arith, front_inside, kept))

          carried : take (have - k.used) new ≡ take (have - k.used) (drop k.used old)
          carried =
              ext_get_or 0 _ _
              (few
              ∙ sym (length-take-le (have - k.used) (drop k.used old) (omega (arith, front_inside, length-drop k.used old))))
              (λ i l.
              let h : i < have - k.used = omega (arith, l, few) in
              get_or-take (have - k.used) new i 0 h ∙ moved i (omega (arith, h)) ∙ sym (get_or-drop k.used old i 0)
              ∙ sym (get_or-take (have - k.used) (drop k.used old) i 0 h))

-- ---- the end of the input

module _ (input : List ℕ) (p : ReportProgress) (out : List ℕ) (b : Bool) (is : b ≡ is_lent (length input) (length input) (length out) p) where
  pub last_refused : not b ≡ true → [] ≡ last_text input (length out) p
  unfolding last_text
  last_refused e = sym (pick_false (is_lent (length input) (length input) (length out) p) _ _ (sym is ∙ not-true b e))

  module _ (e : not b ≡ false) where
    pub last_lent : BlockLent input p out
    last_lent =
        let g = lent_by (length input) (length input) (length out) p (sym is ∙ not-false b e) in
        record { held = g.held; room = omega (arith, g.roomy) }

    pub last_whole : (printed : List ℕ) → printed ≡ report_from p.left input p.totals → printed ≡ last_text input (length out) p
    unfolding last_text
    last_whole printed d = d ∙ sym (pick_true (is_lent (length input) (length input) (length out) p) _ _ (sym is ∙ not-false b e))

-- ---- what the program keeps

module _ (p : ReportProgress) (have : ℕ) (input out new out' : List ℕ) (a : Option FrontReport) (w : FrontAnswered input have p out new out' a)
    (inside : have ≤ length input)
    (roomy : length input / 3 + 257 ≤ length out) where
  -- nothing is refused
  pub unrefused : TotalsBounded p → IsReported a
  unrefused held = go a w
    where
      go : (x : Option FrontReport) → FrontAnswered input have p out new out' x → IsReported x
      go (Some r) v = tt
      go None v =
          true-false (lent_is have (length input) (length out) p (record { inside = inside; roomy = roomy; held = held })) v.0

  module _ (r : FrontReport) (e : a ≡ Some r) where
    front : FrontReported input have p new out' r
    front = (subst (FrontAnswered input have p out new out') e w).1

    pub front_printed : r.block.end ≤ length out'
    front_printed = front.printed

    pub buffers_next : length new ≡ length input → length out' ≡ length out → Buffers r.block.progress r.carried new out'
    buffers_next same same_out =
        record {
          held = front.reported.held;
          inside = omega (arith, front.carried_size, inside, same);
          room = omega (arith, roomy, same, same_out);
        }
