-- A machine with replies, and its histories (document 02, wish 4).
use Rattle.std.specs.Prelude.{ℕ, ◌+◌, Bool, List, [], ◌∷◌}
use Rattle.base.specs.Choice.{pick}

-- a call finds a state, gets a reply, and leaves a state
pub record Machine (C S R : Type 0) : Type 0 where
  pub reply : C → S → R
  pub next : C → S → S

module _ {C S R : Type 0} (m : Machine C S R) where
  -- the state after a history: each call finds the one that the last has left
  unfoldable pub state_after : S → List C → S
  state_after s [] = s
  state_after s (c ∷ cs) = state_after (m.next c s) cs

  -- the replies of a history, one to each call
  unfoldable pub replies : S → List C → List R
  replies s [] = []
  replies s (c ∷ cs) = m.reply c s ∷ replies (m.next c s) cs

  -- what each call of a history gains by its reply, added up
  unfoldable pub gained : (C → R → ℕ) → S → List C → ℕ
  gained gain s [] = 0
  gained gain s (c ∷ cs) = gain c (m.reply c s) + gained gain (m.next c s) cs

-- ---- some of a history's calls

-- they themselves, in their order
unfoldable pub calls_of : {C : Type 0} → (C → Bool) → List C → List C
calls_of own [] = []
calls_of own (c ∷ cs) = pick (own c) (c ∷ calls_of own cs) (calls_of own cs)

-- of the replies to all calls those to them
unfoldable pub replies_of : {C R : Type 0} → (C → Bool) → List C → List R → List R
replies_of own [] rs = []
replies_of own (c ∷ cs) [] = []
replies_of own (c ∷ cs) (r ∷ rs) = pick (own c) (r ∷ replies_of own cs rs) (replies_of own cs rs)
