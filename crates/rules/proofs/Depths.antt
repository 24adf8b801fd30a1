-- Where depths fall, descents end.
use Rattle.std.proofs.Common.{ℕ, zero, suc, ◌<◌, List, [], ◌∷◌, arith}
use Rattle.std.specs.List.{AllByRecursion}
use Rattle.rules.specs.Slots.{Ends}
use Rattle.rules.specs.Terms.{Term, below}

module _ (term : ℕ → Term) (depth : ℕ → ℕ) where
  lower_end : (k n : ℕ) (rs : List ℕ) → ((r : ℕ) → depth r < k → Ends term k r) → n < suc k → AllByRecursion (λ s. depth s < n) rs → AllByRecursion (Ends term k) rs
  lower_end k n [] ih w h = tt
  lower_end k n (r ∷ rs) ih w h = (ih r (let v : depth r < n = h.0 in omega arith), lower_end k n rs ih w h.1)

  pub falling_ends : ((r : ℕ) → AllByRecursion (λ s. depth s < depth r) (below (term r))) → (k r : ℕ) → depth r < k → Ends term k r
  unfolding Ends
  falling_ends falls zero r h = absurd (omega arith)
  falling_ends falls (suc k) r h = lower_end k (depth r) (below (term r)) (falling_ends falls k) h (falls r)
