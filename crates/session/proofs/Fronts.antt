-- A step of a session works on the fronts of the lent image and index; what follows them stays. Assumes nothing.
use mathlib.Core.Path.{◌≡◌, sym, ap, ◌∙◌, subst}
use mathlib.Core.List.{List, ◌++◌}
use Prim.Native.Nat.{ℕ, ◌+◌, ◌*◌}
use native.Mathlib.Omega.{arith}
use lib.ListN.{length, take, drop}
use lib.Seq.{length-take-le, length_front, take_at}
use Rattle.interface.proofs.SetLaws.{layout_1, call_laws}
use Rattle.interface.specs.Laws.{SetLaws}
use Rattle.interface.specs.Set.{slots_of, slots_in, World, PlainMap, index_of}
use Rattle.prelude.proofs.Refusals.{or_else_zero, taken_leaves}
use Rattle.text.specs.Output.{Printed}
use Rattle.session.specs.Step.{StepResult, slots_for, size_fault, line_fault, line_step, followed_by, front_step, step_result}
use Rattle.session.specs.Stream.{step_after}
use Rattle.text.specs.declared.Line.{Line}
use Rattle.session.specs.Waiting.{Waiting}
use Rattle.session.specs.declared.Session.{Session}
use Rattle.session.proofs.Steps.{room}
use Rattle.session.specs.Lines.{world_of, session_of}
use Rattle.session.specs.Rule.{fault_at, map_by_line, map_after, FewWait, Leaves}
use Rattle.session.proofs.defs.Keeps.{SetKeeps, Keeps, kept}
use Rattle.session.proofs.Sizes.{OneHead}

-- ---- a step on an image and an index of the set's size

-- the set that it leaves
abbrev pub left_by : StepResult → World
left_by t = record { image = t.image; index = index_of t.heads t.next t.session.state }

-- it prints p and leaves set w of n slots with this cut waiting
pub record LeftBehind (n : ℕ) (p : Printed) (w : World) (waiting : Waiting) (t : StepResult) : Type 0 where
  pub answer : t.answer ≡ p
  pub session : t.session ≡ session_of n w waiting
  pub world : left_by t ≡ w

-- ---- on the fronts

-- the rest of the lent image and index, for n slots
abbrev pub whole_of : StepResult → (n : ℕ) → StepResult → StepResult
whole_of r n t = followed_by (drop (128 * (n + 1)) r.image) (drop 1 r.heads) (drop (n + 1) r.next) t

module _ (r : StepResult) (n : ℕ) (z : size_fault n (length r.image) (length r.heads) (length r.next) ≡ 0) where
  pub image_front : length (take (128 * (n + 1)) r.image) ≡ 128 * (n + 1)
  image_front = length-take-le _ r.image (room n (length r.image) (length r.heads) (length r.next) z).image_room

  pub heads_front : length (take 1 r.heads) ≡ 1
  heads_front = length-take-le _ r.heads (room n (length r.image) (length r.heads) (length r.next) z).heads_room

  pub next_front : length (take (n + 1) r.next) ≡ n + 1
  next_front = length-take-le _ r.next (room n (length r.image) (length r.heads) (length r.next) z).next_room

  pub slots_front : (Inv : World → PlainMap → Type 0) → SetLaws 1 Inv → slots_in (take (128 * (n + 1)) r.image) ≡ n
  slots_front Inv laws =
      let q = room n (length r.image) (length r.heads) (length r.next) z in
      ap slots_of image_front ∙ (call_laws 1 layout_1).slots-of n q.some (omega (arith, q.few))

  -- a step on the fronts that left a set of n slots
  module _ (t : StepResult) (e : t.session.n ≡ n) (o : OneHead n (left_by t)) where
    pub front_world : world_of (whole_of r n t) ≡ left_by t
    unfolding world_of followed_by
    front_world =
        ap
        (λ (k : ℕ). record {
          image = take (128 * (k + 1)) (t.image ++ drop (128 * (n + 1)) r.image);
          index = index_of (take 1 (t.heads ++ drop 1 r.heads)) (take (k + 1) (t.next ++ drop (n + 1) r.next)) t.session.state;
        }) e
        ∙ ap
        (λ (x : List ℕ). record {
          image = x;
          index = index_of (take 1 (t.heads ++ drop 1 r.heads)) (take (n + 1) (t.next ++ drop (n + 1) r.next)) t.session.state;
        }) (take_at t.image _ (128 * (n + 1)) o.image-size)
        ∙ ap
        (λ (x : List ℕ). record {
          image = t.image;
          index = index_of x (take (n + 1) (t.next ++ drop (n + 1) r.next)) t.session.state;
        }) (take_at t.heads _ 1 o.heads_size)
        ∙ ap (λ (x : List ℕ). record { image = t.image; index = index_of t.heads x t.session.state })
        (take_at t.next _ (n + 1) o.next_size)

    pub front_size :
        size_fault (whole_of r n t).session.n (length (whole_of r n t).image) (length (whole_of r n t).heads) (length (whole_of r n t).next) ≡ 0
    unfolding followed_by
    front_size =
        ap
        (λ (k : ℕ).
        size_fault k (length (t.image ++ drop (128 * (n + 1)) r.image)) (length (t.heads ++ drop 1 r.heads))
        (length (t.next ++ drop (n + 1) r.next))) e
        ∙ ap
        (λ (k : ℕ).
        size_fault n k (length (t.heads ++ drop 1 r.heads)) (length (t.next ++ drop (n + 1) r.next)))
        (length_front r.image t.image (128 * (n + 1)) (o.image-size ∙ sym image_front))
        ∙ ap (λ (k : ℕ). size_fault n (length r.image) k (length (t.next ++ drop (n + 1) r.next)))
        (length_front r.heads t.heads 1 (o.heads_size ∙ sym heads_front))
        ∙ ap (λ (k : ℕ). size_fault n (length r.image) (length r.heads) k)
        (length_front r.next t.next (n + 1) (o.next_size ∙ sym next_front))
        ∙ z

-- ---- a line that is not refused

module _ (r : StepResult) (m : PlainMap) (line : Line) (n : ℕ) (same : slots_for line r.session ≡ n) (z : fault_at r line ≡ 0) where
  pub line_size : size_fault n (length r.image) (length r.heads) (length r.next) ≡ 0
  unfolding line_fault
  line_size =
      ap (λ (k : ℕ). size_fault k (length r.image) (length r.heads) (length r.next)) (sym same)
      ∙ (or_else_zero _ _ (or_else_zero _ _ z).1).0

  abbrev carried : StepResult
  carried = line_step line r.session (take (128 * (n + 1)) r.image) (take 1 r.heads) (take (n + 1) r.next)

  step_taken : step_after r line ≡ whole_of r n carried
  unfolding step_after step_result front_step
  step_taken =
      taken_leaves _ _ (fault_at r line) z
      ∙ ap (λ (k : ℕ). front_step line r.session (k + 1) r.image r.heads r.next) same

  map_taken : map_after r m line ≡ map_by_line (world_of r) r.session.waiting m line
  unfolding map_after
  map_taken = taken_leaves _ _ (fault_at r line) z

  -- A LINE leaves what its step on the fronts leaves
  pub line_leaves : (Inv : World → PlainMap → Type 0) (p : Printed) (w : World) (waiting : Waiting) (m' : PlainMap) → LeftBehind n p w waiting carried
      → OneHead n w
      → FewWait waiting → Inv w m' → map_by_line (world_of r) r.session.waiting m line ≡ m'
      → Leaves r line p (session_of n w waiting) w × Keeps Inv (step_after r line) (map_after r m line)
  unfolding followed_by
  line_leaves Inv p w waiting m' l o few g e = (
    record {
      answer = ap (λ (x : StepResult). x.answer) step_taken ∙ l.answer;
      session = ap (λ (x : StepResult). x.session) step_taken ∙ l.session;
      world = ap world_of step_taken ∙ there;
    },
    kept
        (subst (SetKeeps Inv (step_after r line)) (sym (map_taken ∙ e))
        (subst (λ (x : StepResult). SetKeeps Inv x m') (sym step_taken)
        (record {
          size = front_size r n line_size carried slots sizes;
          waits = subst FewWait (sym (ap (λ (x : Session). x.waiting) l.session)) few;
          set = subst (λ (x : World). Inv x m') (sym there) g;
        }))),
  )
    where
      slots : carried.session.n ≡ n
      slots = ap (λ (x : Session). x.n) l.session

      sizes : OneHead n (left_by carried)
      sizes = subst (OneHead n) (sym l.world) o

      there : world_of (whole_of r n carried) ≡ w
      there = front_world r n line_size carried slots sizes ∙ l.world
