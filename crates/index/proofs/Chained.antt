-- A well-formed index is the index of its chains, and so is the one that recovery builds. Assumes nothing.
use mathlib.Core.Path.{◌≡◌, refl, sym, ap, ◌∙◌}
use mathlib.Core.Logic.{inl, inr}
use mathlib.Core.List.{List, [], ◌∷◌}
use Prim.Native.Nat.{ℕ, zero, suc, ◌+◌, ◌-◌, ◌≤◌, ◌<◌}
use native.Mathlib.Omega.{arith}
use lib.ListN.{length, get_or}
use lib.Seq.{get_or-set_other, ext_get_or}
use borrow.Author.Tests.{eq-eqb}
use Rattle.prelude.proofs.Choice.{pick_true, pick_false}
use Rattle.prelude.specs.Range.{tabulate}
use Rattle.prelude.proofs.Tabulate.{tabulate-length, tabulate_get}
use Rattle.index.specs.declared.State.{State}
use Rattle.index.specs.Index.{Index, index_of, no_state, with_ends, with_counts, Chain, reuse, head, start, ahead, set_next, set_start, set_last, link}
use Rattle.index.specs.Change.{link_new}
use Rattle.index.specs.Chained.{first_of, last_of, after, next_in, chained}
use Rattle.prelude.specs.Members.{In, Once}
use Rattle.index.specs.Linked.{Run, end_of, ChainsPartition}
use Rattle.index.proofs.defs.Linked.{Room, chains_by}
use Rattle.index.specs.inner.Build.{push, build, unbuilt}
use Rattle.index.proofs.Owners.{Told, is, isnt, told}
use Rattle.index.proofs.Links.{ahead-next}
use Rattle.index.proofs.Builds.{formed_empty}
use Rattle.index.proofs.Sits.{sits_has, sits_build}

-- ---- a run's list tells what follows each slot

pub end_last : (xs : List ℕ) → end_of 0 xs ≡ last_of xs
unfolding last_of
end_last [] = refl
end_last (x ∷ []) = refl
end_last (x ∷ y ∷ xs) = end_last (y ∷ xs)

last_get : (x : ℕ) (xs : List ℕ) → get_or (x ∷ xs) (length xs) 0 ≡ last_of (x ∷ xs)
unfolding last_of
last_get x [] = refl
last_get x (y ∷ xs) = last_get y xs

-- the last entry, by its number
pub last_at : (xs : List ℕ) → (length xs ≡ 0 → ⊥) → get_or xs (length xs - 1) 0 ≡ last_of xs
last_at [] h = absurd (h refl)
last_at (x ∷ xs) h = let e : length (x ∷ xs) - 1 ≡ length xs = omega arith in ap (λ (k : ℕ). get_or (x ∷ xs) k 0) e ∙ last_get x xs

pub last_none : (xs : List ℕ) → length xs ≡ 0 → 0 ≡ last_of xs
unfolding last_of
last_none [] h = refl
last_none (x ∷ xs) h = absurd (omega arith)

pub run_first : (f : ℕ → ℕ) (a : ℕ) (xs : List ℕ) → Run f a xs 0 → a ≡ first_of xs
unfolding first_of
run_first f a [] r = r
run_first f a (x ∷ xs) r = r.0

pub run_next : (f : ℕ → ℕ) (s a : ℕ) (xs : List ℕ) → Run f a xs 0 → In s xs → f s ≡ after s xs
unfolding after
run_next f s a [] r x'' = elim x'' [ ]
run_next f s a (x ∷ xs) r (inl e) =
    ap f e ∙ run_first f (f x) xs r.1 ∙ sym (pick_true _ (first_of xs) (after s xs) (eq-eqb x s (sym e)))
run_next f s a (x ∷ xs) r (inr m) = go (told x s) (run_next f s (f x) xs r.1 m)
  where
    go : Told x s → f s ≡ after s xs → f s ≡ after s (x ∷ xs)
    go (is t e) h = ap f (sym e) ∙ run_first f (f x) xs r.1 ∙ sym (pick_true _ (first_of xs) (after s xs) t)
    go (isnt t n) h = h ∙ sym (pick_false _ (first_of xs) (after s xs) t)

-- ---- an index whose slots stand in chains is the index of those chains

same_parts : (heads heads' next next' : List ℕ) (s : State) (first first' last last' : ℕ) → heads ≡ heads' → next ≡ next' → first ≡ first'
    → last ≡ last' → index_of heads next (with_ends s first last) ≡ index_of heads' next' (with_ends s first' last')
same_parts heads heads' next next' s first first' last last' a b c d = cc

module _ (n b : ℕ) (place : ℕ → Chain) (i : Index) (chains : Chain → List ℕ) (g : ChainsPartition n b place i chains) where
  starts : (c : Chain) → ahead i c 0 ≡ first_of (chains c)
  starts c = run_first (ahead i c) (ahead i c 0) (chains c) (g.formed.disjoint.runs c)

  head_starts : (h : ℕ) → get_or i.heads h 0 ≡ first_of (chains (head h))
  unfolding ahead start
  head_starts h = starts (head h)

  first_starts : i.state.first ≡ first_of (chains reuse)
  unfolding ahead start
  first_starts = starts reuse

  follows : get_or i.next 0 0 ≡ 0 → (s : ℕ) → s ≤ n → get_or i.next s 0 ≡ next_in chains place s
  unfolding next_in
  follows z zero h = z
  follows z (suc s) h =
      let low : 0 < suc s = omega arith in
      let c = place (suc s) in
      sym (ahead-next i c (suc s) low)
      ∙ run_next (ahead i c) (suc s) (ahead i c 0) (chains c) (g.formed.disjoint.runs c) (sits_has _ _ _ _ _ g (suc s) low h)

  sits_chained : get_or i.next 0 0 ≡ 0 → (live version newest : ℕ)
      → with_counts i live version newest ≡ chained n b chains place live version newest
  unfolding chained
  sits_chained z live version newest =
      same_parts i.heads _ i.next _ (with_counts i live version newest).state i.state.first _ i.state.last _
      (ext_get_or 0 i.heads (tabulate (λ h. first_of (chains (head h))) 0 b) (g.heads_size ∙ sym (tabulate-length _ 0 b))
      (λ h l.
      head_starts h ∙ ap (λ (k : ℕ). first_of (chains (head k))) (omega arith)
      ∙ sym (tabulate_get (λ h. first_of (chains (head h))) 0 b h (omega (arith, g.heads_size)))))
      (ext_get_or 0 i.next (tabulate (next_in chains place) 0 (n + 1)) (g.next_size ∙ sym (tabulate-length _ 0 (n + 1)))
      (λ s l.
      follows z s (omega (arith, g.next_size)) ∙ ap (next_in chains place) (omega arith)
      ∙ sym (tabulate_get (next_in chains place) 0 (n + 1) s (omega (arith, g.next_size)))))
      first_starts (g.formed.ends ∙ end_last (chains reuse))

-- ---- what recovery builds

-- a push writes next at its slot alone
push_else : (i : Index) (c : Chain) (s x : ℕ) → (x ≡ s → ⊥) → get_or (push i c s).next x 0 ≡ get_or i.next x 0
unfolding push link_new link set_next set_start set_last
push_else i reuse s x n = get_or-set_other i.next s x i.state.first 0 n
push_else i (head h) s x n = get_or-set_other i.next s x (get_or i.heads h 0) 0 n

build_zero : (place : ℕ → Chain) (i : Index) (order : List ℕ) → ((x : ℕ) → In x order → 0 < x)
    → get_or (build place i order).next 0 0 ≡ get_or i.next 0 0
unfolding build
build_zero place i [] h = refl
build_zero place i (s ∷ order) h =
    push_else (build place i order) (place s) s 0 (λ e. omega (arith, h s (inl refl)))
    ∙ build_zero place i order (λ x m. h x (inr m))

room : (i : Index) (c : Chain) → ((h : ℕ) → c ≡ head h → h < length i.heads) → Room i c
room i reuse h = tt
room i (head k) h = h k refl

pub built_sits : (n b : ℕ) (place : ℕ → Chain) (order heads next : List ℕ) → Once order
    → ((x : ℕ) → In x order → (0 < x) × (x ≤ n)) → ((x : ℕ) → 0 < x → x ≤ n → In x order)
    → ((s h : ℕ) → In s order → place s ≡ head h → h < b) → length heads ≡ b → length next ≡ n + 1
    → ((h : ℕ) → get_or heads h 0 ≡ 0) → ChainsPartition n b place (build place (unbuilt heads next) order) (chains_by place order)
unfolding no_state
built_sits n b place order heads next once inside all heads_in eb en zeros =
    let i = unbuilt heads next in
    sits_build n b place i order (formed_empty i zeros refl refl) en eb once inside all
    (λ x m. room i (place x) (λ h e. omega (arith, heads_in x h m e)))

pub built_chained : (n b : ℕ) (place : ℕ → Chain) (order heads next : List ℕ) (chains : Chain → List ℕ)
    → ((x : ℕ) → In x order → (0 < x) × (x ≤ n)) → get_or next 0 0 ≡ 0
    → ChainsPartition n b place (build place (unbuilt heads next) order) chains → (live version newest : ℕ)
    → with_counts (build place (unbuilt heads next) order) live version newest ≡ chained n b chains place live version newest
built_chained n b place order heads next chains inside z g =
    sits_chained n b place _ chains g (build_zero place (unbuilt heads next) order (λ x m. (inside x m).0) ∙ z)
