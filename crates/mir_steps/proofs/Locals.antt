-- A function's locals, for a walk of its MIR by hand: all are allocated at once, and all are freed at once. Local k
-- stands at place 2 × k of the context, and what frees it after it.
use mathlib.Core.Path.{refl}
use mathlib.Core.List.{List, [], ◌∷◌, ◌++◌}
use mathlib.Core.Option.{Option, none, some}
use Prim.Native.Nat.{ℕ, zero, suc}
use seplogic.Ra.Ura.{Ura}
use base.Fraction.{full_share}
use mir.Syntax.{Ty, Local, local}
use mir.Val.{Val}
use base.Logic.{ent, sep, id⊢, via, comm∗, assoc∗, assoc', mono_l, mono_r}
use base.Fml.{fat, froom, fdies}
use prog.Wp.{Heap, Env}
use types.Logic.{Logic}
use types.Kit.{Item, ‵, mean, ⋆, push, pop, sel⊢, ++⊢, ⊢++, Goal, allocs, frees, Seq, Step, step, ◌$◌}
use types.Run.{alloc1, alloc0, free1, free0, forget}

-- where each local lies
abbrev pub Blocks : List Local → Type 0
Blocks [] = Unit {0}
Blocks (l ∷ ls) = ℕ × Blocks ls

abbrev pub env_of : {M : Type 1} (𝓤 : Ura M) (H : Heap 𝓤) (ls : List Local) → Blocks ls → Env 𝓤 H
env_of 𝓤 H [] bs = []
env_of 𝓤 H (local τ h ∷ ls) bs = (τ, bs.0) ∷ env_of 𝓤 H ls bs.1

-- where local k lies
abbrev pub block : (ls : List Local) → Blocks ls → ℕ → ℕ
block [] bs k = 0
block (l ∷ ls) bs zero = bs.0
block (l ∷ ls) bs (suc k) = block ls bs.1 k

-- a local that holds a value, or room for one
abbrev pub cell : {M : Type 1} {𝓤 : Ura M} → Ty → ℕ → Option Val → Item 𝓤
cell τ b none = ‵ (froom τ b 0)
cell τ b (some v) = ‵ (fat full_share τ b 0 v)

-- what each local holds; those past the end of the list hold nothing
abbrev head_of : List (Option Val) → Option Val
head_of [] = none
head_of (m ∷ ms) = m

abbrev tail_of : List (Option Val) → List (Option Val)
tail_of [] = []
tail_of (m ∷ ms) = ms

abbrev pub Frame : {M : Type 1} (𝓤 : Ura M) (ls : List Local) → Blocks ls → List (Option Val) → List (Item 𝓤)
Frame 𝓤 [] bs ms = []
Frame 𝓤 (local τ h ∷ ls) bs ms = cell τ bs.0 (head_of ms) ∷ ‵ (fdies τ bs.0) ∷ Frame 𝓤 ls bs.1 (tail_of ms)

module _ {M : Type 1} {𝓤 : Ura M} (𝓛 : Logic 𝓤) where
  -- the first n entries behind the others
  abbrev pub rotated : ℕ → List (Item 𝓤) → List (Item 𝓤)
  rotated zero Γ = Γ
  rotated (suc n) [] = []
  rotated (suc n) (i ∷ Γ) = rotated n (Γ ++ (i ∷ []))

  rotated⊢ : (n : ℕ) (Γ : List (Item 𝓤)) → ent 𝓤 (⋆ 𝓛 Γ) (⋆ 𝓛 (rotated n Γ))
  rotated⊢ zero Γ = id⊢ 𝓤 (⋆ 𝓛 Γ)
  rotated⊢ (suc n) [] = id⊢ 𝓤 (⋆ 𝓛 [])
  rotated⊢ (suc n) (i ∷ Γ) =
      via 𝓤 (sep 𝓤 (mean 𝓛 i) (⋆ 𝓛 Γ)) (pop 𝓛 i Γ)
      (via 𝓤 (sep 𝓤 (⋆ 𝓛 Γ) (mean 𝓛 i)) (comm∗ 𝓤 (mean 𝓛 i) (⋆ 𝓛 Γ))
      (via 𝓤 (⋆ 𝓛 (Γ ++ (i ∷ []))) (++⊢ 𝓛 Γ (i ∷ [])) (rotated⊢ n (Γ ++ (i ∷ [])))))

  -- an entry at place n
  abbrev pub inserted : ℕ → Item 𝓤 → List (Item 𝓤) → List (Item 𝓤)
  inserted zero i Γ = i ∷ Γ
  inserted (suc n) i [] = i ∷ []
  inserted (suc n) i (j ∷ Γ) = j ∷ inserted n i Γ

  inserted⊢ : (n : ℕ) (i : Item 𝓤) (Γ : List (Item 𝓤)) → ent 𝓤 (⋆ 𝓛 (i ∷ Γ)) (⋆ 𝓛 (inserted n i Γ))
  inserted⊢ zero i Γ = id⊢ 𝓤 (⋆ 𝓛 (i ∷ Γ))
  inserted⊢ (suc n) i [] = id⊢ 𝓤 (mean 𝓛 i)
  inserted⊢ (suc n) i (j ∷ Γ) =
      via 𝓤 (⋆ 𝓛 (j ∷ i ∷ Γ)) (sel⊢ 𝓛 (1 ∷ []) (i ∷ j ∷ Γ))
      (via 𝓤 (sep 𝓤 (mean 𝓛 j) (⋆ 𝓛 (i ∷ Γ))) (pop 𝓛 j (i ∷ Γ))
      (via 𝓤 (sep 𝓤 (mean 𝓛 j) (⋆ 𝓛 (inserted n i Γ))) (mono_r 𝓤 (mean 𝓛 j) (inserted⊢ n i Γ)) (push 𝓛 j (inserted n i Γ))))

  -- an entry after Δ stands before it
  before : (i : Item 𝓤) (Δ Γ : List (Item 𝓤)) → ent 𝓤 (⋆ 𝓛 (Δ ++ (i ∷ Γ))) (⋆ 𝓛 (i ∷ (Δ ++ Γ)))
  before i Δ Γ =
      via 𝓤 (sep 𝓤 (⋆ 𝓛 Δ) (⋆ 𝓛 (i ∷ Γ))) (⊢++ 𝓛 Δ (i ∷ Γ))
      (via 𝓤 (sep 𝓤 (⋆ 𝓛 Δ) (sep 𝓤 (mean 𝓛 i) (⋆ 𝓛 Γ))) (mono_r 𝓤 (⋆ 𝓛 Δ) (pop 𝓛 i Γ))
      (via 𝓤 (sep 𝓤 (sep 𝓤 (⋆ 𝓛 Δ) (mean 𝓛 i)) (⋆ 𝓛 Γ)) (assoc' 𝓤 (⋆ 𝓛 Δ) (mean 𝓛 i) (⋆ 𝓛 Γ))
      (via 𝓤 (sep 𝓤 (sep 𝓤 (mean 𝓛 i) (⋆ 𝓛 Δ)) (⋆ 𝓛 Γ)) (mono_l 𝓤 (⋆ 𝓛 Γ) (comm∗ 𝓤 (⋆ 𝓛 Δ) (mean 𝓛 i)))
      (via 𝓤 (sep 𝓤 (mean 𝓛 i) (sep 𝓤 (⋆ 𝓛 Δ) (⋆ 𝓛 Γ))) (assoc∗ 𝓤 (mean 𝓛 i) (⋆ 𝓛 Δ) (⋆ 𝓛 Γ))
      (via 𝓤 (sep 𝓤 (mean 𝓛 i) (⋆ 𝓛 (Δ ++ Γ))) (mono_r 𝓤 (mean 𝓛 i) (++⊢ 𝓛 Δ Γ))
      (push 𝓛 i (Δ ++ Γ)))))))

  two_before : (i j : Item 𝓤) (Δ Γ : List (Item 𝓤)) → ent 𝓤 (⋆ 𝓛 (Δ ++ (i ∷ j ∷ Γ))) (⋆ 𝓛 (i ∷ j ∷ (Δ ++ Γ)))
  two_before i j Δ Γ =
      via 𝓤 (⋆ 𝓛 (i ∷ (Δ ++ (j ∷ Γ)))) (before i Δ (j ∷ Γ))
      (via 𝓤 (sep 𝓤 (mean 𝓛 i) (⋆ 𝓛 (Δ ++ (j ∷ Γ)))) (pop 𝓛 i (Δ ++ (j ∷ Γ)))
      (via 𝓤 (sep 𝓤 (mean 𝓛 i) (⋆ 𝓛 (j ∷ (Δ ++ Γ)))) (mono_r 𝓤 (mean 𝓛 i) (before j Δ Γ))
      (push 𝓛 i (j ∷ (Δ ++ Γ)))))

module _ {M : Type 1} {𝓤 : Ura M} {𝓛 : Logic 𝓤} {K : Type 0} where
  -- the first n entries go behind the others
  open 𝓛 use {H}

  pub behind : K → (n : ℕ) {Γ : List (Item 𝓤)} {G : Goal 𝓤 H} → Step K 𝓛 (rotated 𝓛 n Γ) G Γ G
  behind t n {Γ} = step (λ s. record { prf = via 𝓤 (⋆ 𝓛 (rotated 𝓛 n Γ)) (rotated⊢ 𝓛 n Γ) s.prf })

  -- the first entry goes to place n of the others
  pub sinks : K → (n : ℕ) {i : Item 𝓤} {Γ : List (Item 𝓤)} {G : Goal 𝓤 H} → Step K 𝓛 (inserted 𝓛 n i Γ) G (i ∷ Γ) G
  sinks t n {i} {Γ} = step (λ s. record { prf = via 𝓤 (⋆ 𝓛 (inserted 𝓛 n i Γ)) (inserted⊢ 𝓛 n i Γ) s.prf })

  -- all locals are allocated, and hold nothing
  pub allocates : K → (ls : List Local) {Γ : List (Item 𝓤)} {Kt : Env 𝓤 H → Goal 𝓤 H}
      → ((bs : Blocks ls) → Seq K 𝓛 (Frame 𝓤 ls bs [] ++ Γ) (Kt (env_of 𝓤 H ls bs))) → Seq K 𝓛 Γ (allocs ls Kt)
  allocates t [] k = alloc0 t $ k tt
  allocates t (local τ h ∷ ls) {Γ} {Kt} k = alloc1 t (λ b. allocates t ls {Γ = ‵ (froom τ b 0) ∷ ‵ (fdies τ b) ∷ Γ} {Kt = λ E. Kt ((τ, b) ∷ E)}
      (λ bs. record { prf = via 𝓤 _ (two_before 𝓛 (‵ (froom τ b 0)) (‵ (fdies τ b)) (Frame 𝓤 ls bs []) Γ) (k (b, bs)).prf }))

  -- all locals are freed, whatever they hold
  pub freed : K → (ls : List Local) (bs : Blocks ls) (ms : List (Option Val)) {Γ : List (Item 𝓤)} {g : Goal 𝓤 H}
      → Step K 𝓛 Γ g (Frame 𝓤 ls bs ms ++ Γ) (frees (env_of 𝓤 H ls bs) g)
  freed t [] bs ms = free0 t
  freed t (local τ h ∷ ls) bs [] = step (λ s. free1 t $ freed t ls bs.1 [] $ s)
  freed t (local τ h ∷ ls) bs (none ∷ ms) = step (λ s. free1 t $ freed t ls bs.1 ms $ s)
  freed t (local τ h ∷ ls) bs (some v ∷ ms) = step (λ s. forget t 0 refl $ free1 t $ freed t ls bs.1 ms $ s)
