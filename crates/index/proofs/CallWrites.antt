-- Each raw write, and each call's writes, keep a well-formed index well-formed, and what the chains are after. Assumes nothing.
use mathlib.Core.Path.{◌≡◌, refl, sym, ap, ◌∙◌}
use mathlib.Core.Logic.{inl, inr}
use mathlib.Core.List.{List, [], ◌∷◌, ◌++◌, append-nil, append_assoc}
use mathlib.Core.Bool.{cond}
use Prim.Native.Nat.{ℕ, ◌<◌}
use native.Mathlib.Omega.{arith}
use lib.Dec.{eqb}
use lib.ListN.{length, get_or}
use borrow.Author.Tests.{eq-eqb, ne_eqb}
use Rattle.index.specs.Index.{Chain, reuse, head, Index, start, ahead, set_next, set_start, set_last, link}
use Rattle.index.specs.inner.Parts.{insert_new, replace_held, remove_held}
use Rattle.index.specs.Change.{take_first, append, link_new, insert_at, replace_at, remove_at}
use Rattle.prelude.specs.Members.{In}
use Rattle.index.specs.Linked.{Run, end_of, Owner, free, of, Entry, Disjoint, WellFormed}
use Rattle.index.proofs.defs.Linked.{give, with_chain, Room}
use Rattle.prelude.proofs.Paths.{end_snoc, mid_in, run_after}
use Rattle.index.proofs.Owners.{free_of, reuse_apart, give_same, give_other, give_twice, give_swap, give_idle, with_same, with_other, with_twice}
use Rattle.index.proofs.Owners.{with_swap}
use Rattle.index.proofs.Links.{set_here, set_else, set_heads, set-last, ahead-next, link_size, set_size, link-heads, link-last, slot_size, room_size}
use Rattle.index.proofs.Relinks.{disjoint_set, disjoint_last, disjoint_unlink, disjoint_insert, disjoint_replace}

-- the first slot of reuse
pub first_is : (i : Index) (owner : ℕ → Owner) (chains : Chain → List ℕ) (f : ℕ) (rest : List ℕ) → Disjoint i owner chains
    → chains reuse ≡ f ∷ rest → i.state.first ≡ f
unfolding ahead start
first_is i owner chains f rest w e =
    let r : Run (ahead i reuse) (ahead i reuse 0) (f ∷ rest) 0 = rw e at (w.runs reuse) in
    r.0

-- a slot in a chain
pub slot_of : (i : Index) (owner : ℕ → Owner) (chains : Chain → List ℕ) (c : Chain) (xs : List ℕ) (s : ℕ) (ys : List ℕ)
    → Disjoint i owner chains
    → chains c ≡ xs ++ s ∷ ys → Entry i s
slot_of i owner chains c xs s ys w e = w.slot c s (w.owned.mine c s (rw e (mid_in s s xs ys (inl refl))))

pub owner-of : (i : Index) (owner : ℕ → Owner) (chains : Chain → List ℕ) (c : Chain) (xs : List ℕ) (s : ℕ) (ys : List ℕ)
    → Disjoint i owner chains
    → chains c ≡ xs ++ s ∷ ys → owner s ≡ of c
owner-of i owner chains c xs s ys w e = w.owned.mine c s (rw e (mid_in s s xs ys (inl refl)))

take_ends : (a l f : ℕ) (g : ℕ → ℕ) (rest : List ℕ) → Run g a rest 0 → ((y : ℕ) → In y rest → 0 < y) → l ≡ end_of 0 (f ∷ rest)
    → cond (eqb a 0) 0 l ≡ end_of 0 rest
take_ends a l f g [] r p e = rw (eq-eqb a 0 r)
take_ends a l f g (y ∷ ys) r p e = rw (ne_eqb a 0 (λ z. omega (arith, p y (inl refl), r.0))) e

-- the last slot after the first was taken
pub first_ends : (i : Index) (owner : ℕ → Owner) (chains : Chain → List ℕ) (f : ℕ) (rest : List ℕ) → WellFormed i owner chains
    → chains reuse ≡ f ∷ rest
    → cond (eqb (get_or i.next i.state.first 0) 0) 0 i.state.last ≡ end_of 0 rest
first_ends i owner chains f rest g e =
    let w = g.disjoint in
    let d : i.state.first ≡ f = first_is _ _ _ _ _ w e in
    let s : Entry i f = slot_of _ _ _ reuse [] f rest w e in
    let n : ahead i reuse f ≡ get_or i.next i.state.first 0 = ahead-next i reuse f s.low ∙ ap (λ (x : ℕ). get_or i.next x 0) (sym d) in
    let r : Run (ahead i reuse) (ahead i reuse 0) (f ∷ rest) 0 = rw e at (w.runs reuse) in
    take_ends (get_or i.next i.state.first 0) i.state.last f (ahead i reuse) rest (rw n at r.1)
    (λ y m. (w.slot reuse y (w.owned.mine reuse y (rw e (inr m)))).low) (rw e at g.ends)

pub formed_take : (i : Index) (owner : ℕ → Owner) (chains : Chain → List ℕ) (f : ℕ) (rest : List ℕ) → WellFormed i owner chains
    → chains reuse ≡ f ∷ rest
    → WellFormed (take_first i) (give owner f free) (with_chain chains reuse rest)
unfolding take_first set_last link
formed_take i owner chains f rest g e =
    let w = g.disjoint in
    let d : i.state.first ≡ f = first_is _ _ _ _ _ w e in
    let s : Entry i f = slot_of _ _ _ reuse [] f rest w e in
    let n : ahead i reuse f ≡ get_or i.next i.state.first 0 = ahead-next i reuse f s.low ∙ ap (λ (x : ℕ). get_or i.next x 0) (sym d) in
    record {
      disjoint =
          disjoint_last _ _ _ _
          (rw n at (disjoint_unlink _ _ _ reuse [] f rest w e));
      ends = rw with_same (first_ends i owner chains f rest g e);
    }

-- a slot that nobody has, at the end of a chain
disjoint_end : (i : Index) (owner : ℕ → Owner) (chains : Chain → List ℕ) (c : Chain) (s prev : ℕ) → Disjoint i owner chains → Room i c
    → Entry i s → owner s ≡ free
    → prev ≡ end_of 0 (chains c) → Disjoint (link (set_next i s 0) c prev s) (give owner s (of c)) (with_chain chains c (chains c ++ s ∷ []))
disjoint_end i owner chains c s prev w a t f p =
    let v : Disjoint (set_next i s 0) owner chains = disjoint_set _ _ _ s 0 w t.low f in
    let e : chains c ≡ chains c ++ [] = sym (append-nil (chains c)) in
    let z : ahead (set_next i s 0) c (end_of 0 (chains c)) ≡ 0 =
    run_after (ahead (set_next i s 0) c) 0 (chains c) [] 0 (rw e at (v.runs c)) in
    rw p (disjoint_insert _ _ _ c (chains c) s [] v e (room_size i (set_next i s 0) c (set_heads i s 0) a)
    (slot_size i (set_next i s 0) s (set_size i s 0) t) f (set_here i s 0 c t ∙ sym z))

pub formed_append : (i : Index) (owner : ℕ → Owner) (chains : Chain → List ℕ) (s : ℕ) → WellFormed i owner chains → Entry i s → owner s ≡ free
    → WellFormed (append i s) (give owner s (of reuse)) (with_chain chains reuse (chains reuse ++ s ∷ []))
unfolding append set_last
formed_append i owner chains s g t f = record {
  disjoint =
      disjoint_last _ _ _ s
      (disjoint_end _ _ _ reuse s i.state.last g.disjoint tt t f g.ends);
  ends = rw with_same (sym (end_snoc 0 (chains reuse) s));
}

pub formed_link : (i : Index) (owner : ℕ → Owner) (chains : Chain → List ℕ) (h s prev : ℕ) → WellFormed i owner chains → h < length i.heads
    → Entry i s → owner s ≡ free
    → prev ≡ end_of 0 (chains (head h))
    → WellFormed (link_new i (head h) prev s 0) (give owner s (of (head h))) (with_chain chains (head h) (chains (head h) ++ s ∷ []))
unfolding link_new
formed_link i owner chains h s prev g a t f p = record {
  disjoint = disjoint_end _ _ _ (head h) s prev g.disjoint a t f p;
  ends =
      link-last _ _ _ _ ∙ set-last _ _ _ ∙ g.ends ∙ ap (end_of 0)
      (sym (with_other chains (head h) _ reuse (reuse_apart h)));
}

pub formed_replace : (i : Index) (owner : ℕ → Owner) (chains : Chain → List ℕ) (h : ℕ) (xs : List ℕ) (old s : ℕ) (ys : List ℕ) (prev : ℕ)
    → WellFormed i owner chains
    → chains (head h) ≡ xs ++ old ∷ ys → Entry i s → owner s ≡ free → prev ≡ end_of 0 xs
    → WellFormed (link_new i (head h) prev s (get_or i.next old 0)) (give (give owner old free) s (of (head h)))
    (with_chain chains (head h) (xs ++ s ∷ ys))
unfolding link_new
formed_replace i owner chains h xs old s ys prev g e t f p =
    let n = get_or i.next old 0 in
    let w = g.disjoint in
    let v : Disjoint (set_next i s n) owner chains = disjoint_set _ _ _ s n w t.low f in
    let o : Entry i old = slot_of _ _ _ (head h) xs old ys w e in
    let d : old ≡ s → ⊥ = λ d. free_of (head h) (sym f ∙ ap owner (sym d) ∙ owner-of _ _ _ (head h) xs old ys w e) in
    let q : ahead (set_next i s n) (head h) s ≡ ahead (set_next i s n) (head h) old =
    set_here i s n (head h) t ∙ sym (set_else i s n (head h) old d ∙ ahead-next i (head h) old o.low) in
    record {
      disjoint =
          rw p (disjoint_replace _ _ _ (head h) xs old s ys v e
          (slot_size _ _ s (set_size i s n) t) f q);
      ends =
          link-last _ _ _ _ ∙ set-last _ _ _ ∙ g.ends ∙ ap (end_of 0)
          (sym (with_other chains (head h) _ reuse (reuse_apart h)));
    }

pub formed_unlink : (i : Index) (owner : ℕ → Owner) (chains : Chain → List ℕ) (h : ℕ) (xs : List ℕ) (old : ℕ) (ys : List ℕ) (prev : ℕ)
    → WellFormed i owner chains
    → chains (head h) ≡ xs ++ old ∷ ys → prev ≡ end_of 0 xs
    → WellFormed (link i (head h) prev (get_or i.next old 0)) (give owner old free) (with_chain chains (head h) (xs ++ ys))
formed_unlink i owner chains h xs old ys prev g e p =
    let w = g.disjoint in
    let o : Entry i old = slot_of _ _ _ (head h) xs old ys w e in
    record {
      disjoint = rw (p, ← ahead-next i (head h) old o.low) (disjoint_unlink _ _ _ (head h) xs old ys w e);
      ends =
          link-last _ _ _ _ ∙ g.ends ∙ ap (end_of 0)
          (sym (with_other chains (head h) _ reuse (reuse_apart h)));
    }

-- ---- what a call writes

pub take_next : (i : Index) → length (take_first i).next ≡ length i.next
unfolding take_first set_last set_start
take_next i = refl

pub take_heads : (i : Index) → length (take_first i).heads ≡ length i.heads
unfolding take_first set_last set_start
take_heads i = refl

pub link_new-next : (i : Index) (c : Chain) (prev s n : ℕ) → length (link_new i c prev s n).next ≡ length i.next
unfolding link_new
link_new-next i c prev s n = link_size _ _ _ _ ∙ set_size _ _ _

pub append-next : (i : Index) (s : ℕ) → length (append i s).next ≡ length i.next
unfolding append set_last
append-next i s = link_size _ _ _ _ ∙ set_size _ _ _

pub link_new-heads : (i : Index) (c : Chain) (prev s n : ℕ) → length (link_new i c prev s n).heads ≡ length i.heads
unfolding link_new
link_new-heads i c prev s n = link-heads _ _ _ _ ∙ set_heads _ _ _

pub append-heads : (i : Index) (s : ℕ) → length (append i s).heads ≡ length i.heads
unfolding append set_last
append-heads i s = link-heads _ _ _ _ ∙ set_heads _ _ _

pub insert_at_next : (i : Index) (h prev s : ℕ) → length (insert_at i h prev s).next ≡ length i.next
unfolding insert_at
insert_at_next i h prev s = link_new-next _ _ _ _ _

pub insert_at_heads : (i : Index) (h prev s : ℕ) → length (insert_at i h prev s).heads ≡ length i.heads
unfolding insert_at
insert_at_heads i h prev s = link_new-heads _ _ _ _ _

pub replace_at_next : (i : Index) (h prev old s : ℕ) → length (replace_at i h prev old s).next ≡ length i.next
unfolding replace_at link_new
replace_at_next i h prev old s = simp (append-next, link_size, set_size)

pub replace_at_heads : (i : Index) (h prev old s : ℕ) → length (replace_at i h prev old s).heads ≡ length i.heads
unfolding replace_at link_new
replace_at_heads i h prev old s = simp (append-heads, link-heads, set_heads)

pub remove_at_next : (i : Index) (h prev old s : ℕ) → length (remove_at i h prev old s).next ≡ length i.next
unfolding remove_at
remove_at_next i h prev old s = simp (append-next, link_size)

pub remove_at_heads : (i : Index) (h prev old s : ℕ) → length (remove_at i h prev old s).heads ≡ length i.heads
unfolding remove_at
remove_at_heads i h prev old s = simp (append-heads, link-heads)

pub new_next : (i : Index) (h prev : ℕ) → length (insert_new i h prev).next ≡ length i.next
unfolding insert_new
new_next i h prev = insert_at_next _ _ _ _ ∙ take_next i

pub new_heads : (i : Index) (h prev : ℕ) → length (insert_new i h prev).heads ≡ length i.heads
unfolding insert_new
new_heads i h prev = insert_at_heads _ _ _ _ ∙ take_heads i

pub held_next : (i : Index) (h prev old : ℕ) → length (replace_held i h prev old).next ≡ length i.next
unfolding replace_held
held_next i h prev old = replace_at_next _ _ _ _ _ ∙ take_next i

pub held_heads : (i : Index) (h prev old : ℕ) → length (replace_held i h prev old).heads ≡ length i.heads
unfolding replace_held
held_heads i h prev old = replace_at_heads _ _ _ _ _ ∙ take_heads i

pub remove_next : (i : Index) (h prev old : ℕ) → length (remove_held i h prev old).next ≡ length i.next
unfolding remove_held
remove_next i h prev old = remove_at_next _ _ _ _ _ ∙ take_next i

pub remove_heads : (i : Index) (h prev old : ℕ) → length (remove_held i h prev old).heads ≡ length i.heads
unfolding remove_held
remove_heads i h prev old = remove_at_heads _ _ _ _ _ ∙ take_heads i

pub formed_at : (i j : Index) (o : ℕ → Owner) (c : Chain → List ℕ) → i ≡ j → WellFormed i o c → WellFormed j o c
formed_at i j o c e g = rw (← e) g

pub formed_alike : (i : Index) (o p : ℕ → Owner) (c d : Chain → List ℕ) → o ≡ p → c ≡ d → WellFormed i o c → WellFormed i p d
formed_alike i o p c d e f g = rw (← e, ← f) g

-- ---- the changes for a slot s that nobody has

module _
    (i : Index) (owner : ℕ → Owner) (chains : Chain → List ℕ) (h prev s : ℕ) (g : WellFormed i owner chains) (t : Entry i s)
    (f : owner s ≡ free) where
  pub formed_insert_at : h < length i.heads → prev ≡ end_of 0 (chains (head h))
      → WellFormed (insert_at i h prev s) (give owner s (of (head h))) (with_chain chains (head h) (chains (head h) ++ s ∷ []))
  unfolding insert_at
  formed_insert_at a p = formed_link _ _ _ h s prev g a t f p

  module _ (xs : List ℕ) (old : ℕ) (ys : List ℕ) (d : chains (head h) ≡ xs ++ old ∷ ys) (p : prev ≡ end_of 0 xs) where
    held : Entry i old
    held = slot_of _ _ _ (head h) xs old ys g.disjoint d

    apart : old ≡ s → ⊥
    apart n = free_of (head h) (sym f ∙ ap owner (sym n) ∙ owner-of _ _ _ (head h) xs old ys g.disjoint d)

    pub formed_replace_at : WellFormed (replace_at i h prev old s) (give (give owner s (of (head h))) old (of reuse))
        (with_chain (with_chain chains reuse (chains reuse ++ old ∷ [])) (head h) (xs ++ s ∷ ys))
    unfolding replace_at
    formed_replace_at =
        let o = give (give owner old free) s (of (head h)) in
        let c = with_chain chains (head h) (xs ++ s ∷ ys) in
        let k = link_new i (head h) prev s (get_or i.next old 0) in
        let g₂ : WellFormed k o c = formed_replace _ _ _ h xs old s ys prev g d t f p in
        let b : o old ≡ free = give_other (give owner old free) s (of (head h)) old apart ∙ give_same owner old free old refl in
        let r : c reuse ≡ chains reuse = with_other chains (head h) (xs ++ s ∷ ys) reuse (reuse_apart h) in
        formed_alike (append k old) _ _ _ _
        (ap (λ (z : ℕ → Owner). give z old (of reuse)) (give_swap owner old s free (of (head h)) apart)
        ∙ give_twice (give owner s (of (head h))) old free (of reuse))
        (ap (λ (l : List ℕ). with_chain c reuse (l ++ old ∷ [])) r
        ∙ with_swap chains (head h) reuse (xs ++ s ∷ ys) (chains reuse ++ old ∷ []) (λ n. reuse_apart h (sym n)))
        (formed_append _ _ _ old g₂ (slot_size i k old (link_new-next i (head h) prev s (get_or i.next old 0)) held) b)

    pub formed_remove_at : WellFormed (remove_at i h prev old s) (give (give owner s (of reuse)) old (of reuse))
        (with_chain (with_chain chains reuse (chains reuse ++ old ∷ s ∷ [])) (head h) (xs ++ ys))
    unfolding remove_at
    formed_remove_at =
        let o = give owner old free in
        let c = with_chain chains (head h) (xs ++ ys) in
        let k = link i (head h) prev (get_or i.next old 0) in
        let n : s ≡ old → ⊥ = λ q. apart (sym q) in
        let z : length k.next ≡ length i.next = link_size i (head h) prev (get_or i.next old 0) in
        let g₂ : WellFormed k o c = formed_unlink _ _ _ h xs old ys prev g d p in
        let r : c reuse ≡ chains reuse = with_other chains (head h) (xs ++ ys) reuse (reuse_apart h) in
        let g₃ : WellFormed (append k old) (give owner old (of reuse)) (with_chain c reuse (chains reuse ++ old ∷ [])) =
        formed_alike (append k old) _ _ _ _ (give_twice owner old free (of reuse))
        (ap (λ (l : List ℕ). with_chain c reuse (l ++ old ∷ [])) r)
        (formed_append _ _ _ old g₂ (slot_size i k old z held) (give_same owner old free old refl)) in
        let b : give owner old (of reuse) s ≡ free = give_other owner old (of reuse) s n ∙ f in
        formed_alike (append (append k old) s) _ _ _ _ (give_swap owner old s (of reuse) (of reuse) apart)
        (ap (λ (l : List ℕ). with_chain (with_chain c reuse (chains reuse ++ old ∷ [])) reuse (l ++ s ∷ []))
        (with_same c reuse (chains reuse ++ old ∷ []))
        ∙ with_twice c reuse (chains reuse ++ old ∷ []) ((chains reuse ++ old ∷ []) ++ s ∷ [])
        ∙ ap (λ (l : List ℕ). with_chain c reuse l) (append_assoc (chains reuse) (old ∷ []) (s ∷ []))
        ∙ with_swap chains (head h) reuse (xs ++ ys) (chains reuse ++ old ∷ s ∷ []) (λ q. reuse_apart h (sym q)))
        (formed_append (append k old) _ _ s g₃ (slot_size i (append k old) s (append-next k old ∙ z) t) b)

-- ---- the changes with the first reuse slot, f

module _
    (i : Index) (owner : ℕ → Owner) (chains : Chain → List ℕ) (h prev f : ℕ) (rest : List ℕ) (g : WellFormed i owner chains)
    (e : chains reuse ≡ f ∷ rest) where
  took : WellFormed (take_first i) (give owner f free) (with_chain chains reuse rest)
  took = formed_take _ _ _ _ _ g e

  first : i.state.first ≡ f
  first = first_is _ _ _ _ _ g.disjoint e

  spare : Entry (take_first i) f
  spare = slot_size i (take_first i) f (take_next i) (slot_of _ _ _ reuse [] f rest g.disjoint e)

  none : give owner f free f ≡ free
  none = give_same owner f free f refl

  kept : with_chain chains reuse rest (head h) ≡ chains (head h)
  kept = with_other chains reuse rest (head h) (λ d. reuse_apart h (sym d))

  -- what is appended to reuse comes after the rest
  rest_then : (new : List ℕ) (zs : List ℕ)
      → with_chain (with_chain (with_chain chains reuse rest) reuse (with_chain chains reuse rest reuse ++ new)) (head h) zs
      ≡ with_chain (with_chain chains reuse (rest ++ new)) (head h) zs
  rest_then new zs =
      ap (λ (l : List ℕ). with_chain (with_chain (with_chain chains reuse rest) reuse (l ++ new)) (head h) zs) (with_same chains reuse rest)
      ∙ ap (λ (c : Chain → List ℕ). with_chain c (head h) zs) (with_twice chains reuse rest (rest ++ new))

  -- an insert
  pub formed_new : h < length i.heads → prev ≡ end_of 0 (chains (head h))
      → WellFormed (insert_new i h prev) (give owner f (of (head h))) (with_chain (with_chain chains reuse rest) (head h) (chains (head h) ++ f ∷ []))
  unfolding insert_new
  formed_new a p =
      formed_at _ _ _ _ (ap (λ (x : ℕ). insert_at (take_first i) h prev x) (sym first))
      (formed_alike (insert_at (take_first i) h prev f) _ _ _ _ (give_twice owner f free (of (head h)))
      (ap (λ (l : List ℕ). with_chain (with_chain chains reuse rest) (head h) (l ++ f ∷ [])) kept)
      (formed_insert_at _ _ _ h prev f took spare none (rw take_heads a) (rw kept p)))

  module _ (xs : List ℕ) (old : ℕ) (ys : List ℕ) (d : chains (head h) ≡ xs ++ old ∷ ys) (p : prev ≡ end_of 0 xs) where
    -- a replace
    pub formed_held : WellFormed (replace_held i h prev old) (give (give owner f (of (head h))) old (of reuse))
        (with_chain (with_chain chains reuse (rest ++ old ∷ [])) (head h) (xs ++ f ∷ ys))
    unfolding replace_held
    formed_held =
        formed_at _ _ _ _ (ap (λ (x : ℕ). replace_at (take_first i) h prev old x) (sym first))
        (formed_alike (replace_at (take_first i) h prev old f) _ _ _ _
        (ap (λ (z : ℕ → Owner). give z old (of reuse)) (give_twice owner f free (of (head h))))
        (rest_then (old ∷ []) (xs ++ f ∷ ys))
        (formed_replace_at _ _ _ h prev f took spare none xs old ys (kept ∙ d) p))

    -- a remove
    pub formed_remove : WellFormed (remove_held i h prev old) (give owner old (of reuse))
        (with_chain (with_chain chains reuse (rest ++ old ∷ f ∷ [])) (head h) (xs ++ ys))
    unfolding remove_held
    formed_remove =
        formed_at _ _ _ _ (ap (λ (x : ℕ). remove_at (take_first i) h prev old x) (sym first))
        (formed_alike (remove_at (take_first i) h prev old f) _ _ _ _
        (ap (λ (z : ℕ → Owner). give z old (of reuse))
        (give_twice owner f free (of reuse) ∙ give_idle owner f (of reuse) (owner-of _ _ _ reuse [] f rest g.disjoint e)))
        (rest_then (old ∷ f ∷ []) (xs ++ ys))
        (formed_remove_at _ _ _ h prev f took spare none xs old ys (kept ∙ d) p))
