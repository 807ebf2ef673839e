-- What stands in a call's lent words after `give`: what the proofs of the calls cite.
-- Assumes nothing.
use Rattle.std.specs.Prelude.{ℕ, ◌≡◌}
use Rattle.std.proofs.Common.{sym, ap, ap₂, ◌∙◌}
use Rattle.byte_reads.specs.declared.ByteRead.{ByteRead}
use Rattle.c_board.specs.Value.{value_after}

pub byte_given : (call r : ByteRead) → r ≡ call
    → (number left value before : ℕ) → number ≡ r.number → left ≡ r.count → value ≡ value_after r.number r.byte before
    → (number ≡ call.number) × ((left ≡ call.count) × (value ≡ value_after number call.byte before))
byte_given call r same number left value before n l v = (
  n ∙ ap (λ (t : ByteRead). t.number) same,
  (l ∙ ap (λ (t : ByteRead). t.count) same, v ∙ ap₂ (λ (m b : ℕ). value_after m b before) (sym n) (ap (λ (t : ByteRead). t.byte) same)),
)
