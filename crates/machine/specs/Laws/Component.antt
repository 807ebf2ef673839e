-- A component of a machine: some of its calls, the component's own, and a part of its state. `component_replies` and `component_part`, the laws of it,
-- stand in proofs/Laws/Component.
use Rattle.std.specs.Prelude.{◌≡◌, Bool, true, false}
use Rattle.machine.specs.Machine.{Machine}

-- What stands in its own part depends on its own calls and on that part alone.
pub record Component {C S R P : Type 0} (m : Machine C S R) (own : C → Bool) (part : S → P) : Type 0 where
  -- a call of others leaves the part
  pub others_leave : (c : C) (s : S) → own c ≡ false → part (m.next c s) ≡ part s
  -- an own call's reply goes by the part, and by nothing else of the state
  pub reply_by_part : (c : C) (s t : S) → own c ≡ true → part s ≡ part t → m.reply c s ≡ m.reply c t
  -- and so does the part that it leaves
  pub next_by_part : (c : C) (s t : S) → own c ≡ true → part s ≡ part t → part (m.next c s) ≡ part (m.next c t)
